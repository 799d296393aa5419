-- What the steps of a night do to a state folder.
use Rattle.std.specs.Prelude.{◌≡◌, ◌≢◌, ◌⊎◌, ◌↔◌, ℕ, ◌-◌, ◌≤◌, min, [], ◌∷◌, ◌++◌, ◌&&◌, Bool, IsTrue, true, false, if◌then◌else◌, Option, Some, None, length, take, drop, ⊤}
use Rattle.ocfl_tree.specs.{Place.{Text, Place}, StorageRoot.{StorageRoot}}
use Rattle.ocfl_rules.specs.{Lines.{is_empty}, Parts.{Part}, Trail.{unread_of}}
use Rattle.ocfl_cursor.specs.Cursor.{Cursor}
use Rattle.ocfl_scrub.specs.{Running.{place_in}, Joining.{PartRun, Ran}}
use Rattle.ocfl_scrub.specs.{Keeping.{IsReady as IsWalkReady}, declared.kept.KeptWalk.{KeptWalk}}
use Rattle.ocfl_scrub.specs.declared.running.RunEnd.{RunEnd}
use Rattle.ocfl_scrub.specs.declared.running.RunStatus.TheVariants as status
use Rattle.ocfl_state.specs.Checkpoint.{Checkpoint, IsCheckpointText}
use Rattle.ocfl_state.specs.Content.{Bytes, Content, with_checkpoint, with_report, moved, is_closed}
use Rattle.ocfl_state.specs.Crash.{Step, Same, Begins, Passes}
use Rattle.ocfl_state.specs.{Pieces.{HasTail, summary_of}, declared.checkpoint_parts.Left.{Left}}
use Rattle.ocfl_state.specs.declared.checkpoint_parts.ReportMark.{ReportMark}
use Rattle.ocfl_state.specs.declared.folder.StateFolder as state
use Rattle.ocfl_state.specs.declared.checkpoint_parts.{Phase.{Phase}, Phase.TheVariants.{Open, Closing}}
use Rattle.ocfl_identity.specs.declared.identity.Identity.{Identity}
use Rattle.ocfl_night.specs.{Chain.{part_after}, Looks.{Look, IsNoMore}, Site.{first_checkpoint, no_report, with_root}}
use Rattle.ocfl_night.specs.{declared.opening.Opened.{Opened}, declared.site.Site.{Site}}
use Rattle.ocfl_terms.specs.declared.plan.Halt.{Halt}
use Rattle.ocfl_terms.specs.declared.plan.Halt.TheVariants as halt

-- ---- what is made of a checkpoint

-- all of its report is said
abbrev pub with_all_said : Checkpoint → Checkpoint
with_all_said k = record k { said = k.report.bytes }

-- that of the next cycle, of whose report there is nothing yet
abbrev pub begun_anew : Checkpoint → Checkpoint
begun_anew k = record k { phase = Open; whole = true; report = no_report; said = 0; left = [] }

-- a branch is left out where the cursor is
abbrev pub left_at : Place → Checkpoint → Left
left_at branch k = record { place = branch; after = place_in k.cursor.state }

abbrev pub with_left : Place → Checkpoint → Checkpoint
with_left branch k = record k { left = k.left ++ left_at branch k ∷ [] }

-- a cycle is closed as whole if nothing of its report was lost and no branch was left out
abbrev pub closes_whole : Checkpoint → Bool
closes_whole k = k.whole && is_empty k.left

-- that after a run, of which it keeps the report so
pub record IsNext (k : Checkpoint) (ran : RunEnd) (report : ReportMark) (next : Checkpoint) : Type 0 where
  pub ended : ran.end ≡ status.Ended → next.phase ≡ Closing
  pub goes_on : ran.end ≢ status.Ended → next.phase ≡ Open
  pub report_is : next.report ≡ report
  pub cursor_is : next.cursor ≡ ran.cursor
  pub rest_is : next ≡ record k { phase = next.phase; report = next.report; cursor = next.cursor }

-- that of a report of which this is left: as much of it counts as said as did, but no more than
-- there is
abbrev pub shortened : ReportMark → Checkpoint → Checkpoint
shortened there k = record k { whole = false; report = there; said = min k.said there.bytes }

-- that with what is left of its report, if bytes of it were lost or changed
abbrev pub fitted : Option ReportMark → Checkpoint → Checkpoint
fitted None k = k
fitted (Some there) k = shortened there k

-- what is taken up of it: the same, with what the root has now
abbrev pub IsTakenUp : Identity → Checkpoint → Checkpoint → Type 0
IsTakenUp id k next = (there : Option ReportMark) × (next ≡ with_root id (fitted there k))

-- ---- whether a report is as a checkpoint says

-- it begins with a text that has this mark
pub record BeginsAs (mark : ReportMark) (report : Bytes) : Type 0 where
  pub text : Bytes
  pub is : mark ≡ summary_of text
  pub begins : Begins text report

-- it is not closed yet, and is shorter than the checkpoint says, or has another tail: bytes of it were
-- lost or changed
pub record IsLost (k : Checkpoint) (c : Content) : Type 0 where
  pub there : k.phase ≡ Closing → is_closed c.closed k.cursor.cycle ≡ false
  pub changed : HasTail k.report c.report → ⊥

-- what there is of what a checkpoint speaks of
abbrev pub what_is_left : Checkpoint → Content → ReportMark
what_is_left k c = summary_of (take k.report.bytes c.report)

-- What is opened of a checkpoint. It says that the report was lost exactly if bytes of it were lost or
-- changed, and then the checkpoint has what is left of it; else it stays but for the root.
pub record IsOpened (id : Identity) (k : Checkpoint) (c : Content) (opened : Opened) : Type 0 where
  pub lost : IsTrue opened.lost ↔ IsLost k c
  pub checkpoint : opened.checkpoint ≡ with_root id (fitted (if opened.lost then Some (what_is_left k c) else None) k)

-- where there is no checkpoint
abbrev pub first_opened : Site → Identity → Opened
first_opened site id = record { checkpoint = first_checkpoint site id; lost = false }

-- what was not said of the report
abbrev pub unsaid : Checkpoint → Content → Text
unsaid k c = take (k.report.bytes - k.said) (drop k.said c.report)

-- ---- what is done to a folder

-- of an open report what the checkpoint does not speak of is cut away
abbrev pub settled_in : Phase → ℕ → Content → Content
settled_in Open most c = with_report (take most c.report) c
settled_in Closing most c = c

abbrev pub settled : Checkpoint → Content → Content
settled k c = settled_in k.phase k.report.bytes c

-- The report alone may differ, and of its first n bytes those that were there stay.
pub record KeepsFront (n : ℕ) (old new : Content) : Type 0 where
  pub checkpoint : new.checkpoint ≡ old.checkpoint
  pub closed : new.closed ≡ old.closed
  pub front : (text : Bytes) → length text ≤ n → Begins text old.report → Begins text new.report

-- the checkpoint as before, or this one
abbrev pub MayCheckpoint : Checkpoint → Step
MayCheckpoint k old new = (new ≡ old) ⊎ ((bytes : Bytes) × (IsCheckpointText bytes k × (new ≡ with_checkpoint bytes old)))

-- the checkpoint is this one, and nothing else is changed
pub record IsCheckpointPut (k : Checkpoint) (old new : Content) : Type 0 where
  pub bytes : Bytes
  pub text : IsCheckpointText bytes k
  pub put : new ≡ with_checkpoint bytes old

-- the report of that cycle is closed: it was already, or has become it now
abbrev pub IsMoveDone : ℕ → Bool → Content → Content → Type 0
IsMoveDone cycle whole old new = (IsTrue (is_closed old.closed cycle) × (new ≡ old)) ⊎ ((is_closed old.closed cycle ≡ false) × (new ≡ moved cycle whole old))

-- all of a cycle's report is there: nothing of it was lost, no branch was left out, and it is as the
-- checkpoint says
pub record IsComplete (k : Checkpoint) (c : Content) : Type 0 where
  pub whole : IsTrue (closes_whole k)
  pub report : k.report ≡ summary_of c.report

-- the report of a checkpoint's cycle is closed, as whole exactly if all of it is there
pub record IsClosedExactly (k : Checkpoint) (old new : Content) : Type 0 where
  pub whole : Bool
  pub exactly : IsTrue whole ↔ IsComplete k old
  pub moved : IsMoveDone k.cursor.cycle whole old new

-- and the next cycle is begun
pub record IsFinished (k : Checkpoint) (old new : Content) : Type 0 where
  pub between : Content
  pub closed : IsClosedExactly k old between
  pub next : IsCheckpointPut (begun_anew k) between new

-- as before, or moved, but not if one of that cycle was shown to be closed
abbrev pub MayMoveAt : ℕ → Bool → Content → Step
MayMoveAt cycle whole shown old new = (new ≡ old) ⊎ ((is_closed shown.closed cycle ≡ false) × (new ≡ moved cycle whole old))

-- a run was made from a cursor, of what that checks, within a look at a root, and wrote these lines
pub record IsRun (part : Part) (c : Cursor) (look : Look) (lines : Text) (ran : RunEnd) : Type 0 where
  pub run : PartRun
  pub ran_is : run.ran ≡ ran
  pub made : Ran c.further look.root part c run
  pub looked : IsNoMore (unread_of c.further look.root run.opened) look.unread
  pub lines_are : lines ≡ run.report

-- the walk that is kept goes on where the run from a checkpoint's cursor begins, and checks the same
abbrev pub IsWalkAt : StorageRoot → Part → Checkpoint → KeptWalk → Type 0
IsWalkAt root part k kept = IsWalkReady k.cursor.further root (part_after part k.left) (place_in k.cursor.state) kept

-- a folder stays as it was, whenever a crash comes
pub record IsUntouched {F : Type 0} (S : state.Ghosts F) (old new : F) : Type 0 where
  pub same : S.seen new ≡ S.seen old
  pub crash : Passes S.may_leave S.moment S.left_since Same old new

-- a night was refused, or something failed
abbrev pub IsNotBegun : Halt → Type 0
IsNotBegun (halt.Refused why) = ⊤
IsNotBegun (halt.Troubled why) = ⊤
IsNotBegun _ = ⊥
