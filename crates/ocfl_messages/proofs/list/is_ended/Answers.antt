use Rattle.std.proofs.{Common.{[], ◌∷◌, inr, refl}, lemmas.Bool.Decides.{Decides-eqb}}
use Rattle.std.proofs.{lemmas.Option.{MatchOption-at_some}, lemmas.Slice.Eq.{strip_suffix_is}}
use Rattle.ocfl_messages.proofs.list.is_ended.Goals as goal

pub returns-in-Some : goal.returns-in-Some
returns-in-Some c = (
  λ _. inr (
    c.in-Some.field-0.now,
    MatchOption-at_some _ _ _ c.in-Some.is (strip_suffix_is Decides-eqb c.args.bytes.now (10 ∷ []) c.strip_suffix.result c.strip_suffix.ensures.cases),
  ),
  λ _. refl,
)
