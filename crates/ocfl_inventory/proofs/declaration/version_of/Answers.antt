use Rattle.std.proofs.Common.{◌≡◌, ◌≤◌, length, ap, ◌∙◌, arith}
use Rattle.ocfl_inventory.specs.Declaration.{prefix}
use Rattle.ocfl_inventory.proofs.Declarations.{counted_fits}
use Rattle.ocfl_inventory.proofs.declaration.version_of.Goals as goal

pub behind_prefix-requires : goal.behind_prefix-requires
behind_prefix-requires c =
    let h : length (prefix c.args.level) ≤ length c.args.entry.now.name = counted_fits c.args.level c.args.entry.now c.requires in
    let e : length c.as_bytes.result.now ≡ length c.args.entry.now.name = ap length (c.as_bytes.ensures.value ∙ c.as_str.ensures.value) in
    omega (arith, h, e)
