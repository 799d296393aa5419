use Rattle.std.proofs.{Common.{sym, ◌∙◌, ap, ◌++◌}, lemmas.List.{append-nil}}
use Rattle.ocfl_tree.specs.Place.{Text, text_eq}
use Rattle.std.specs.Prelude.{List}
use Rattle.ocfl_inventory.proofs.SeenRuns.{few_hits}
use Rattle.ocfl_inventory.proofs.keys.twins.Goals as goal

pub returns : goal.returns
returns c = sym (ap (λ (ks : List Text). c.loop-i.found.items ++ ks) (few_hits text_eq c.args.keys.now c.loop-i.i c.loop-i-test.false) ∙ append-nil c.loop-i.found.items) ∙ c.loop-i.invariant
