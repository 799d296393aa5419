use Rattle.std.proofs.Common.{◌++◌, ◌∙◌, append-nil, refl, sym, subst}
use Rattle.ocfl_compare.specs.{Internal.Reading.{listed}, Internal.Summing.{Summarizes}, Seen.{line_seen, lines_seen}}
use Rattle.ocfl_compare.proofs.Summaries.{equal_at, at_equal}
use Rattle.ocfl_compare.proofs.reading.take_line.Goals as goal

pub returns-in_ok-with_line-in-Equal-clause-sums : goal.returns-in_ok-with_line-in-Equal-clause-sums
returns-in_ok-with_line-in-Equal-clause-sums g c = (
  equal_at c.args.place.now c.args.next.now c.in-Some.line c.in-Some.is (sym c.cmp.ensures ∙ c.in-Equal.is),
  λ own h. subst (λ o. Summarizes c.in_ok-with_line-in-Equal.field-0 (own ++ listed o)) (sym c.in-Some.is) (c.in_ok-with_line-in-Equal.ensures own h),
)

pub returns-in_default-cmp-clause-sums : goal.returns-in_default-cmp-clause-sums
returns-in_default-cmp-clause-sums g c = (λ a. c.in_default-cmp.not-Equal (c.cmp.ensures ∙ at_equal c.args.place.now c.args.next.now c.in-Some.line c.in-Some.is a), refl)

pub returns-in_ok-with_line-in-Equal-clause-seen : goal.returns-in_ok-with_line-in-Equal-clause-seen
returns-in_ok-with_line-in-Equal-clause-seen g c =
    subst (λ o. g.T.TakeChange.takes c.args.taker.now (lines_seen c.args.asked c.args.side (listed o)) c.show.new.taker) (sym c.in-Some.is)
    (subst (λ ss. g.T.TakeChange.takes c.args.taker.now ss c.show.new.taker) (sym (append-nil (line_seen c.args.asked c.args.side _))) c.in_ok-show-in-Equal.ensures)
