use Rattle.std.proofs.{Common.{refl, sym, true≢false}, lemmas.Bool.Decides.{Decides-eqb}}
use Rattle.std.proofs.lemmas.Option.{MatchOption-at_none, MatchOption-at_some}
use Rattle.std.proofs.lemmas.Slice.Eq.{strip_prefix_is}
use Rattle.ocfl_messages.proofs.list.begins_with.Goals as goal

pub returns-in-Some : goal.returns-in-Some
returns-in-Some c = (
  λ _. (
    c.in-Some.field-0.now,
    MatchOption-at_some _ _ _ c.in-Some.is (strip_prefix_is Decides-eqb c.args.row.now c.args.word.now c.strip_prefix.result c.strip_prefix.ensures.cases),
  ),
  λ _. refl,
)

pub returns-in-None : goal.returns-in-None
returns-in-None c = (
  λ t. absurd (true≢false (sym t)),
  λ h. absurd (MatchOption-at_none _ _ c.in-None.is (strip_prefix_is Decides-eqb c.args.row.now c.args.word.now c.strip_prefix.result c.strip_prefix.ensures.cases) h.0 h.1),
)
