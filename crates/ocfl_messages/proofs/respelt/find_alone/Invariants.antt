use Rattle.std.proofs.Common.{◌≡◌, [], ◌++◌, map, take, drop}
use Rattle.ocfl_messages.specs.{Finding.{finding_of}, Grouped.{is_alone, picked}}
use Rattle.ocfl_messages.proofs.respelt.find_alone.Given as goal

-- with those of the rest it has all of them
abbrev pub invariant-loop-index : goal.invariant-loop-index
invariant-loop-index l =
    map finding_of l.alone.items ++ picked (is_alone (map finding_of l.all)) (take l.index (map finding_of l.all)) (drop l.index (map finding_of l.all))
    ≡ picked (is_alone (map finding_of l.all)) [] (map finding_of l.all)
