-- What a system in memory tells.
use Rattle.std.specs.Prelude.{Option}
use Rattle.ocfl_tree.specs.{Place.{Place}, StorageRoot.{StorageRoot}, Store.{Store}}
use Rattle.ocfl_folder.specs.System.{Standing}

-- a tree, and else what was noted
abbrev pub of_tree : StorageRoot → Store → Store
of_tree root noted = record noted { tree = root }

-- this tree, what was noted of the calls, and the directory that it is in
abbrev pub standing : StorageRoot → Store → Option Place → Standing
standing root noted here = record { store = of_tree root noted; here = here }
