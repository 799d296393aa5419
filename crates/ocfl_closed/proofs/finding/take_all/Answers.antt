use Rattle.std.proofs.Common.{ap, map, subst}
use Rattle.ocfl_report.specs.Line.{line_of}
use Rattle.ocfl_closed.specs.Unchanged.{IsWholeUnchanged}
use Rattle.ocfl_closed.proofs.{Findings.{all_found}, Passing.{still_then}}
use Rattle.ocfl_closed.proofs.finding.take_all.Goals as goal

pub returns-clause-taken : goal.returns-clause-taken
returns-clause-taken g c = λ told.
    let D = g.D.ClosedDisk in
    let contents = g.D.List.Write.contents in
    let second = c.in_ok-taking.taking in
    let third = c.in_ok-taking-2.taking in
    let since = c.end_since.new.self in
    let whole = c.end_whole.new.self in
    all_found (D.state c.args.disk.now).files (D.state c.take_since.new.disk).files (D.state c.take_since_whole.new.disk).files c.args.pair.now _ _ _ _ _ _
    since.noting.changes whole.noting.changes since.noting.lines whole.noting.lines since.since whole.whole
    (c.take_since.ensures.still told).calm.files (c.take_since_whole.ensures.still told).calm.files
    (λ i. record {
      list = contents second.list.out;
      known = c.end_since.ensures.known i;
      said = ap (map line_of) c.end_since.ensures.said i;
      kept = c.end_since.ensures.kept i;
      noting = since.noting.changes;
      lines = since.noting.lines;
      since = since.since;
      whole = c.end_since.ensures.whole i;
      is_grave = second.is_grave;
    })
    (λ i. record {
      list = contents third.list.out;
      known = c.end_whole.ensures.known i;
      said = ap (map line_of) c.end_whole.ensures.said i;
      kept = c.end_whole.ensures.kept i;
      noting = whole.noting.changes;
      lines = whole.noting.lines;
      since = c.end_whole.ensures.since i;
      whole = whole.whole;
      is_grave = third.is_grave;
    })
    (record { changes = c.in_ok-end_since.ensures.since; found = c.in_ok-end_since.ensures.found })
    (record { changes = c.in_ok-end_whole.ensures.whole; found = c.in_ok-end_whole.ensures.found })
    c.requires.kept c.requires.lines c.end_since.ensures.lines c.requires.noting c.end_since.ensures.noting c.end_whole.ensures.noting
    (c.in_ok-taking.ensures.taken told) (c.in_ok-taking-2.ensures.taken told) (c.in_ok-take_missing.ensures.taken told)

pub returns-clause-unchanged : goal.returns-clause-unchanged
returns-clause-unchanged g c = λ told. (
  c.in_ok-taking.ensures.unchanged told,
  subst (λ f. IsWholeUnchanged f c.args.pair.now.whole) (c.take_since.ensures.still told).calm.files (c.in_ok-taking-2.ensures.unchanged told),
)

pub returns-clause-still : goal.returns-clause-still
returns-clause-still g c = λ told. still_then _ _ _ (c.take_since.ensures.still told) (still_then _ _ _ (c.take_since_whole.ensures.still told) (c.take_missing.ensures.still told))

pub returns-in_err-take_missing-clause-still : goal.returns-in_err-take_missing-clause-still
returns-in_err-take_missing-clause-still g c = λ told. still_then _ _ _ (c.take_since.ensures.still told) (still_then _ _ _ (c.take_since_whole.ensures.still told) (c.take_missing.ensures.still told))
