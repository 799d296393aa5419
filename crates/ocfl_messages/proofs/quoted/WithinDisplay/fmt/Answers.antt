use Rattle.std.proofs.Common.{[], ◌∷◌, ◌++◌, refl, sym, ap, ◌∙◌, append_assoc, rules, arith}
use Rattle.std.proofs.{Output.{has_written_append, has_written_of_eq}, lemmas.Str.Pattern.{split_parts}}
use Rattle.std.proofs.lemmas.Option.{MatchOption-at_none, MatchOption-at_some}
use Rattle.std.specs.Prelude.{flat_map}
use Rattle.ocfl_messages.specs.Quoted.{quoted_byte}
use Rattle.ocfl_messages.proofs.Quotes.{quoted_on, unquoted}
use Rattle.ocfl_messages.proofs.quoted.WithinDisplay.fmt.Goals as goal

pub loop-part-preserved : goal.loop-part-preserved
loop-part-preserved g c = (
  search rules,
  λ plain.
      let so_far = c.loop-part.invariant.1 plain in
      let rest = c.loop-part.rest.now in
      let part = c.in-Some.part.now in
      let cut = MatchOption-at_some _ _ _ c.in-Some.is (split_parts 39 rest c.split_once.result c.split_once.ensures.cases (omega arith)) in
      let one = c.in_ok-write.ensures.writes so_far.1.plain refl in (
        so_far.0 ++ (part ++ 39 ∷ 92 ∷ 39 ∷ 39 ∷ []),
        has_written_append _ _ _ _ _ _ so_far.1 one,
        append_assoc so_far.0 (part ++ 39 ∷ 92 ∷ 39 ∷ 39 ∷ []) (flat_map quoted_byte c.in-Some.after.now)
            ∙ ap (λ t. so_far.0 ++ t) (sym (quoted_on rest part c.in-Some.after.now cut.0 cut.1)) ∙ so_far.2,
      ),
)

pub returns-clause-writes : goal.returns-clause-writes
returns-clause-writes g c = λ plain ok.
    let so_far = c.loop-part.invariant.1 plain in
    let rest = c.loop-part.rest.now in
    let none = MatchOption-at_none _ _ c.in_default.is (split_parts 39 rest c.split_once.result c.split_once.ensures.cases (omega arith)) in
    has_written_of_eq _ _ _ _ _ (ap (λ t. so_far.0 ++ t) (sym (unquoted rest none)) ∙ so_far.2)
    (has_written_append _ _ _ _ _ _ so_far.1 (c.write_str.ensures.writes so_far.1.plain ok))
