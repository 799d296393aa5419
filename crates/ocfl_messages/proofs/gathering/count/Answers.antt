use Rattle.std.proofs.Common.{ap, sym, subst, ◌∙◌}
use Rattle.ocfl_report.specs.Line.{line_of}
use Rattle.ocfl_messages.specs.{Finding.{lines_within}, Tally.{IsCount, IsPlaces, is_wrong, places_of, right_in}}
use Rattle.ocfl_messages.proofs.{Gathered.{within_more, within_same}, Tallies.{kept_one, places_more, right_more}}
use Rattle.ocfl_messages.proofs.gathering.count.Goals as goal

pub returns-then-not-are_above-clause-right : goal.returns-then-not-are_above-clause-right
returns-then-not-are_above-clause-right c = λ ls h.
    subst (λ ms. IsCount c.args.right.now (right_in ms)) (sym (within_same c.args.heads.now.last ls (line_of c.args.line.now) (sym c.are_above.ensures ∙ c.if-not-are_above.true))) h

pub returns-then-not-are_above-clause-wrong : goal.returns-then-not-are_above-clause-wrong
returns-then-not-are_above-clause-wrong c = λ ls h.
    subst (λ ms. IsPlaces c.args.wrong.now (places_of is_wrong ms)) (sym (within_same c.args.heads.now.last ls (line_of c.args.line.now) (sym c.are_above.ensures ∙ c.if-not-are_above.true))) h

pub returns-clause-right : goal.returns-clause-right
returns-clause-right c = λ ls h.
    let head = c.args.heads.now.last in
    let l = line_of c.args.line.now in
    let more = within_more head ls l (sym c.are_above.ensures ∙ c.if-not-are_above.false) in
    subst (IsCount c.add_count.result) (sym (ap right_in more ∙ right_more (lines_within head ls) l c.is_right.result c.is_right.ensures))
    (c.add_count.ensures (right_in (lines_within head ls)) _ h (c.one_if.ensures ∙ sym (kept_one c.is_right.result)))

pub returns-clause-wrong : goal.returns-clause-wrong
returns-clause-wrong c = λ ls h.
    let head = c.args.heads.now.last in
    let l = line_of c.args.line.now in
    let more = within_more head ls l (sym c.are_above.ensures ∙ c.if-not-are_above.false) in
    subst (IsPlaces c.add_if.new.self) (places_more is_wrong (lines_within head ls) l c.is_wrong.result c.is_wrong.ensures ∙ sym (ap (places_of is_wrong) more))
    (c.in_ok-add_if.ensures (places_of is_wrong (lines_within head ls)) h)
