use Rattle.std.proofs.Common.{◌≡◌, ◌++◌, map, take, string_bytes}
use Rattle.ocfl_inventory.specs.{Note.{note}, Remark.{remark_view}}
use Rattle.ocfl_report.specs.declared.code.Code.TheVariants.{S07}
use Rattle.ocfl_inventory.proofs.notes.add_unsupported.Given as goal

abbrev pub invariant-loop-key : goal.invariant-loop-key
invariant-loop-key l = map remark_view l.out.items ≡ map remark_view l.initial.out.items ++ map (note S07) (map string_bytes (take l.key-index l.keys))
