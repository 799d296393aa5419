use Rattle.std.proofs.Common.{◌≡◌, [], ◌++◌, true, map, take, drop}
use Rattle.ocfl_messages.specs.{Finding.{finding_of}, Grouped.{is_paired, picked}}
use Rattle.ocfl_messages.proofs.respelt.find_respelt.Given as goal

-- with those of the rest it has all of them
abbrev pub invariant-loop-index : goal.invariant-loop-index
invariant-loop-index l =
    map finding_of l.respelt.items ++ picked (is_paired true (map finding_of l.all)) (take l.index (map finding_of l.all)) (drop l.index (map finding_of l.all))
    ≡ picked (is_paired true (map finding_of l.all)) [] (map finding_of l.all)
