use Rattle.std.proofs.{Common.{rules, not}, lemmas.Fn.{filter_same}}
use Rattle.ocfl_tree.specs.Place.{begins}
use Rattle.ocfl_memory.proofs.nodes.remove.Goals as goal

pub returns : goal.returns
returns c = filter_same _ (λ e. not (begins c.args.place.now e.0)) _ (λ x b f t. search rules) _ _ c.retain.ensures.filtered
