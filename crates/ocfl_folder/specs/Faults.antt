-- Which trouble is answered for an error, and when what is asked for is not there.
use Rattle.std.specs.{Prelude.{◌≡◌, ◌↔◌, Option, Some, None}, IoError.{error_kind}}
use Rattle.std.specs.declared.io.Error.{Error}
use Rattle.std.specs.declared.io.ErrorKind.TheVariants.{NotFound, OutOfMemory}
use Rattle.ocfl_tree.specs.declared.store.Trouble.{Trouble}
use Rattle.ocfl_tree.specs.declared.store.Trouble.TheVariants.{Absent, Memory}

-- only what the system did not find is absent, and memory that ran out is told apart
pub record IsTroubleOf (error : Error) (trouble : Trouble) : Type 0 where
  pub absent : trouble ≡ Absent → error_kind error ≡ NotFound
  pub memory : (trouble ≡ Memory) ↔ (error_kind error ≡ OutOfMemory)

-- the error of this trouble is kept
abbrev pub IsKept : Option Error → Trouble → Type 0
IsKept None trouble = ⊥
IsKept (Some error) trouble = IsTroubleOf error trouble
