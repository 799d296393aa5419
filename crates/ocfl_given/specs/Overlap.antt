-- Folders that lie one in the other, by their paths.
use Rattle.std.specs.Prelude.{◌≡◌, ℕ, Bool, true, false, List, ◌⊎◌, Result, Ok, Err, codes}
use Rattle.std.specs.Path.{PathStartsWith}
use Rattle.std.specs.declared.io.Error.{Error}
use Rattle.ocfl_files.specs.declared.failing.Failure.{Failure}
use Rattle.ocfl_given.specs.Refusing.{Refuses, out_of_memory}

-- one of two folders is the other, or lies in it
abbrev pub Overlap : List ℕ → List ℕ → Type 0
Overlap one other = PathStartsWith one other ⊎ PathStartsWith other one

-- folders are refused that do not lie apart, or of which that is not known, as memory was refused
abbrev pub IsApart : Result Bool Error → Result (Unit {0}) Failure → Type 0
IsApart (Ok true) (Ok u) = Unit {0}
IsApart (Ok true) (Err f) = ⊥
IsApart (Ok false) (Ok u) = ⊥
IsApart (Ok false) (Err f) = Refuses (codes "the state folder must not be inside the storage root, or contain it: nothing is written into a storage root\n") f
IsApart (Err e) (Ok u) = ⊥
IsApart (Err e) (Err f) = f ≡ out_of_memory
