-- What is answered if a call of the system failed, and the reason that is kept of it.
use Rattle.std.specs.{Prelude.{◌≡◌, ◌≢◌, ◌⊎◌, ◌↔◌, Option, Some, None}, IoError.{error_kind}}
use Rattle.std.specs.declared.io.ErrorKind.TheVariants.{StorageFull, QuotaExceeded, OutOfMemory}
use Rattle.ocfl_state.specs.declared.folder.FolderTrouble.{FolderTrouble}
use Rattle.ocfl_state.specs.declared.folder.FolderTrouble.TheVariants.{Full, Memory, Taken}
use Rattle.ocfl_disk.specs.declared.state_file.Reason.{Reason}

-- a full device or quota is distinguished, and so is memory that ran out
pub record IsTroubleOf (reason : Reason) (trouble : FolderTrouble) : Type 0 where
  pub full : (trouble ≡ Full) ↔ ((error_kind reason.error ≡ StorageFull) ⊎ (error_kind reason.error ≡ QuotaExceeded))
  pub memory : (trouble ≡ Memory) ↔ (error_kind reason.error ≡ OutOfMemory)
  pub not_taken : trouble ≢ Taken

-- the reason of this trouble is kept
abbrev pub IsKept : Option Reason → FolderTrouble → Type 0
IsKept None trouble = ⊥
IsKept (Some reason) trouble = IsTroubleOf reason trouble
