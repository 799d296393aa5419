use Rattle.std.proofs.Common.{◌≡◌, [], ◌++◌, map, take, drop}
use Rattle.ocfl_messages.specs.{Finding.{finding_of}, Grouped.{each_text, member_text}}
use Rattle.ocfl_messages.proofs.grouped.put_members.Given as goal

-- with the rest of the list it has all of them
abbrev pub invariant-loop-index : goal.invariant-loop-index
invariant-loop-index l =
    l.text.items ++ each_text (member_text (finding_of l.first) (map finding_of l.all)) (take l.index (map finding_of l.all)) (drop l.index (map finding_of l.all))
    ≡ l.fn.text.items ++ each_text (member_text (finding_of l.first) (map finding_of l.all)) [] (map finding_of l.all)
