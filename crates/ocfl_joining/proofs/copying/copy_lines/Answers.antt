use Rattle.std.proofs.Common.{rules, true, None, refl, sym, subst, ap, ◌≡◌, ◌∙◌, ◌++◌, ◌∷◌, []}
use Rattle.std.specs.Option.{option_map}
use Rattle.ocfl_joining.specs.Reports.{with_made}
use Rattle.ocfl_joining.specs.Internal.Copying.{CopiesLine, IsFitLine, last_of}
use Rattle.ocfl_joining.proofs.Decoded.{next_fits}
use Rattle.ocfl_joining.proofs.Copies.{copied_more, given_more, none_given}
use Rattle.ocfl_joining.proofs.{Passing.{nothing_passes, two_same}, Stays.{reports_on, same_reports}}
use Rattle.ocfl_joining.proofs.copying.copy_lines.Goals as goal

pub loop-preserved : goal.loop-preserved
loop-preserved g c = record {
  copied = λ t.
      let seen = g.R.PartReports.seen in
      let from = option_map (λ p. p.now) c.args.from in
      let below = option_map (λ p. p.now) c.args.below in
      let text = c.read_line.new.text.items in
      let h = c.loop.invariant.copied t in
      let line = subst (λ b. CopiesLine from below b c.loop.copied c.in_ok-copied.copied) c.as_slice.ensures.value c.in_ok-copied.ensures.copied in
      let given = c.in_ok-give.ensures.given t ∙ ap (λ b. with_made b (seen c.read_line.new.self)) c.as_slice-in-loop.ensures.value in (
        h.0 ++ line.fit.line ∷ [],
        (
          given_more from below h.0 text c.loop.copied c.in_ok-copied.copied h.1.1 line (seen c.args.reports.now) (seen c.loop.reports) (seen c.read_line.new.self) (seen c.give.new.self) c.in_ok-read_line.field-0 h.1.0 (c.in_ok-read_line.ensures.read t) given,
          copied_more from below h.0 text c.loop.copied c.in_ok-copied.copied h.1.1 line,
        ),
      );
  unput = λ t. c.give.ensures.unput t ∙ c.read_line.ensures.unput t ∙ c.loop.invariant.unput t;
  reports = λ t. reports_on _ _ _ (c.loop.invariant.reports t) (reports_on _ _ _ (c.read_line.ensures.reports t) (c.give.ensures.reports t));
  crash = λ t.
      let R = g.R.PartReports in
      two_same R.may_leave R.moment R.left_since c.args.reports.now c.loop.reports c.give.new.self (c.loop.invariant.crash t)
      (two_same R.may_leave R.moment R.left_since c.loop.reports c.read_line.new.self c.give.new.self (c.read_line.ensures.crash t) (c.give.ensures.crash t));
}

pub loop-init : goal.loop-init
loop-init g c = record {
  copied = λ t. ([], (none_given (g.R.PartReports.seen c.args.reports.now), c.nothing-copied.ensures (option_map (λ p. p.now) c.args.from) (option_map (λ p. p.now) c.args.below)));
  unput = λ t. refl;
  reports = λ t. same_reports (g.R.PartReports.seen c.args.reports.now);
  crash = λ t. nothing_passes g.R.PartReports.may_leave g.R.PartReports.moment g.R.PartReports.left_since c.args.reports.now;
}

pub returns-in_err-copied-clause-bad : goal.returns-in_err-copied-clause-bad
returns-in_err-copied-clause-bad g c = λ t e r.
    let seen = g.R.PartReports.seen in
    let from = option_map (λ p. p.now) c.args.from in
    let below = option_map (λ p. p.now) c.args.below in
    let text = c.read_line.new.text.items in
    let h = c.loop.invariant.copied t in
    let read = c.in_ok-read_line.ensures.read t in
    let more : c.in_ok-read_line.field-0 ≡ true = search rules in
    let fits = next_fits from below h.0 (seen c.args.reports.now).left (seen c.loop.reports).left text h.1.1.are.texts h.1.0.read read.next (read.some more) r in
    let line = subst (λ p. IsFitLine from below p c.as_slice.result.now fits.0) (sym h.1.1.last) (subst (λ b. IsFitLine from below (last_of None h.0) b fits.0) (sym c.as_slice.ensures.value) fits.1) in
    c.in_err-copied.ensures.bad (search rules) fits.0 line
