use Rattle.std.proofs.Common.{◌≡◌, [], ◌++◌, map, take, drop}
use Rattle.ocfl_messages.specs.{Finding.{finding_of}, Grouped.{fit_text, sorted_of}}
use Rattle.ocfl_messages.proofs.grouped.put_all_groups.Given as goal

-- with the groups of the rest it has all of them
abbrev pub invariant-loop-index : goal.invariant-loop-index
invariant-loop-index l =
    l.text.items ++ fit_text l.root (sorted_of l.sorted) l.left (take l.index (map finding_of l.leads)) (drop l.index (map finding_of l.leads))
    ≡ l.fn.text.items ++ fit_text l.root (sorted_of l.sorted) l.room [] (map finding_of l.leads)
