-- The statuses that a task can end with.
use Rattle.std.proofs.Common.{ℕ, ◌≤◌, ◌≡◌, arith, inl, inr, Bool, true, false, Some, Result, Ok, Err}
use Rattle.std.specs.declared.io.Error.{Error}
use Rattle.ocfl_scope.specs.Stop.{stop_status}
use Rattle.ocfl_scope.specs.declared.stop.ScopeStop.{ScopeStop}
use Rattle.ocfl_scope.specs.declared.stop.ScopeStop.TheVariants as stop
use Rattle.ocfl_separators.specs.declared.reading.PartsStop.TheVariants as parts
use Rattle.ocfl_scrub.specs.Noting.{IsStatus}
use Rattle.ocfl_scrub.specs.declared.note.Note.{Note}
use Rattle.ocfl_scrub.specs.declared.note.Note.TheVariants as note
use Rattle.ocfl_tasks.specs.Calls.{inside_status}

-- no note comes with a status above 4
pub status_within : (s : ℕ) (n : Note) → IsStatus s n → s ≤ 4
status_within s note.Nothing (inl e) = omega arith
status_within s note.Nothing (inr e) = omega arith
status_within s note.NoItem e = omega arith
status_within s note.EmptyBranch e = omega arith
status_within s note.BadPath e = omega arith
status_within s (note.StoppedAt p) e = omega arith
status_within s note.OutOfMemory e = omega arith
status_within s note.OutputFailed e = omega arith
status_within s (note.RunMade cycle runs cost ended) (inl e) = omega arith
status_within s (note.RunMade cycle runs cost ended) (inr e) = omega arith
status_within s (note.CycleMade runs cost ended) (inl e) = omega arith
status_within s (note.CycleMade runs cost ended) (inr e) = omega arith
status_within s note.CursorWorn e = omega arith
status_within s note.CursorFileFailed e = omega arith
status_within s (note.CursorRefused why) (e, not) = omega arith
status_within s (note.PartCursorRefused why) (e, not) = omega arith
status_within s (note.OtherAudit further) e = omega arith

-- nor does a scope that is not found
pub stop_within : (why : ScopeStop) → stop_status why ≤ 4
stop_within stop.BadPath = omega arith
stop_within stop.NoSuchPart = omega arith
stop_within (stop.Parts (parts.Line n)) = omega arith
stop_within (stop.Parts parts.Long) = omega arith
stop_within (stop.Parts parts.Read) = omega arith
stop_within (stop.Parts parts.Memory) = omega arith
stop_within stop.Memory = omega arith

-- nor does a cursor's file in the storage root
pub inside_within : (lies : Result Bool Error) (s : ℕ) → Some s ≡ inside_status lies → s ≤ 4
inside_within (Ok false) s is = absurd (cc)
inside_within (Ok true) s is = let two : s ≡ 2 = cc in omega arith
inside_within (Err why) s is = let three : s ≡ 3 = cc in omega arith
