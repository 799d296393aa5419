use Rattle.std.proofs.Common.{◌≡◌, ◌++◌, drop, map, option_map, None}
use Rattle.std.specs.Option.{option_copied}
use Rattle.ocfl_inventory.specs.{Remark.{remark_view}, TripleView.{named_view}}
use Rattle.ocfl_item.proofs.MissingLaws.{notes_behind}
use Rattle.ocfl_item.proofs.missing.add_missing.Given as goal

abbrev pub invariant-loop-entry : goal.invariant-loop-entry
invariant-loop-entry l =
    (l.lines.place ≡ l.initial.lines.place)
    × (map remark_view l.lines.remarks.items ++ notes_behind (option_map named_view (option_copied l.before)) (map named_view (drop l.entry-index l.named))
    ≡ map remark_view l.initial.lines.remarks.items ++ notes_behind None (map named_view l.named))
