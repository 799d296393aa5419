use Rattle.std.proofs.Common.{◌∙◌, ap}
use Rattle.ocfl_tree.specs.Place.{text_eq}
use Rattle.ocfl_inventory.specs.Internal.Beside.{hits}
use Rattle.ocfl_inventory.proofs.TextOrder.{keys_repeated}
use Rattle.ocfl_inventory.proofs.keys.repeated.Goals as goal

pub returns : goal.returns
returns c = keys_repeated c.args.keys.items c.sort_unstable.new.self.items c.in_ok-found.found.items c.dedup.new.self.items c.sort_unstable.ensures.permutation
    c.sort_unstable.ensures.sorted (c.in_ok-found.ensures ∙ ap (hits text_eq) c.deref.ensures.value) c.dedup.ensures.filtered
