-- What the calls of a state folder answer.
use Rattle.std.specs.Prelude.{◌≡◌, ◌≢◌, ◌⊎◌, ℕ, ◌<◌, ◌≤◌, IsTrue, [], Option, Some, None, Result, Err, IsErr, IsErrOf, length, take, drop, Vec}
use Rattle.std.specs.declared.alloc.Global.{Global}
use Rattle.ocfl_state.specs.{Content.{Bytes, Content, is_closed}, declared.folder.FolderTrouble.{FolderTrouble}}
use Rattle.ocfl_state.specs.declared.folder.FolderTrouble.TheVariants.{Failed, Full, Taken}

abbrev pub bytes_of : Vec ℕ Global → Bytes
bytes_of v = v.items

-- `Failed` and `Full` are answered only if the disk has failed in the call, `Taken` never
pub record HasCause {T : Type 0} (before now : ℕ) (result : Result T FolderTrouble) : Type 0 where
  pub later : before ≤ now
  pub failed : IsErrOf result Failed → before < now
  pub full : IsErrOf result Full → before < now
  pub not_taken : result ≢ Err Taken

-- the same if there is one more reason for `Failed`
pub record HasCauseOr {T : Type 0} (Reason : Type 0) (before now : ℕ) (result : Result T FolderTrouble) : Type 0 where
  pub later : before ≤ now
  pub failed : IsErrOf result Failed → (before < now) ⊎ Reason
  pub full : IsErrOf result Full → before < now
  pub not_taken : result ≢ Err Taken

-- how many bytes a checkpoint has at most: 1 MiB
abbrev pub most_checkpoint : ℕ
most_checkpoint = 1048576

-- these are more
abbrev pub IsLong : Bytes → Type 0
IsLong bytes = most_checkpoint < length bytes

-- what is there as a checkpoint is longer
abbrev pub HasLong : Option Bytes → Type 0
HasLong None = ⊥
HasLong (Some bytes) = IsLong bytes

-- the same of closing, which is refused if a report of that cycle is closed
pub record ClosesRightly {T : Type 0} (content : Content) (cycle before now : ℕ) (result : Result T FolderTrouble) : Type 0 where
  pub later : before ≤ now
  pub failed : IsErrOf result Failed → before < now
  pub full : IsErrOf result Full → before < now
  pub taken : result ≡ Err Taken → IsTrue (is_closed content.closed cycle)
  pub refused : IsTrue (is_closed content.closed cycle) → IsErr result

-- a read from there gives these bytes into a buffer of `room`: none only at the end
pub record IsReadOf (report : Bytes) (start : ℕ) (bytes : Bytes) (room : ℕ) : Type 0 where
  pub within : length bytes ≤ room
  pub are : bytes ≡ take (length bytes) (drop start report)
  pub end : bytes ≡ [] → 0 < room → drop start report ≡ []
