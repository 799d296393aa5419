use Rattle.std.proofs.Common.{◌≡◌, List, ℕ, subst, sym, false}
use Rattle.std.specs.Prelude.{option_map}
use Rattle.serde_json.specs.{Find.{get_member}, View.{view, members_view}}
use Rattle.ocfl_tree.specs.Place.{text_eq}
use Rattle.ocfl_digest.specs.Algorithm.{algorithm_name}
use Rattle.ocfl_inventory.proofs.reading.take_for.Goals as goal

pub returns-clause-value : goal.returns-clause-value
returns-clause-value c = subst (λ (name : List ℕ). option_map view c.take_member.result ≡ get_member name (members_view c.args.map.now.entries)) c.name.ensures c.take_member.ensures.value

pub returns-clause-others : goal.returns-clause-others
returns-clause-others c = λ a apart. c.take_member.ensures.others (algorithm_name a) (subst (λ (name : List ℕ). text_eq (algorithm_name a) name ≡ false) (sym c.name.ensures) apart)
