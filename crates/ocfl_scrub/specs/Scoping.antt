-- What a command does within a scope: in the whole storage root, in a branch of it, or in a part.
use Rattle.std.specs.Prelude.{◌≡◌, ◌≢◌, ◌⊎◌, ℕ, Bool, Option, None, Vec, IfSome, ⊤}
use Rattle.std.specs.declared.alloc.Global.{Global}
use Rattle.ocfl_tree.specs.Place.{Text, Place}
use Rattle.ocfl_report.specs.declared.further.Further.{Further}
use Rattle.ocfl_rules.specs.{Parts.{Part, branch, whole}, Runs.{Limits}}
use Rattle.ocfl_cursor.specs.{Cursor.{Cursor, new_cursor}, Part.{part_text, IsPartText}}
use Rattle.ocfl_cursor.specs.{Stop.{PartStopsRightly}, declared.ends.PartEnds.{PartEnds}}
use Rattle.ocfl_cursor.specs.declared.part_reading.PartCursorStop.{PartCursorStop}
use Rattle.ocfl_cursor.specs.declared.part_reading.PartCursorStop.TheVariants as stop
use Rattle.ocfl_deed.specs.declared.deed.Deed.{Deed}
use Rattle.ocfl_deed.specs.declared.deed.Deed.TheVariants as deed
use Rattle.ocfl_scope.specs.{Numbered.{part_between}, declared.scope.Scope.{Scope}}
use Rattle.ocfl_scope.specs.declared.scope.Scope.TheVariants as scope
use Rattle.ocfl_scrub.specs.{Call.{Call}, Types.{AuditStatus, Note}}
use Rattle.ocfl_scrub.specs.Noting.{IsAuditSaid, IsRunSaid, IsAuditNote, IsOtherNote, IsPartRefusedNote}
use Rattle.ocfl_scrub.specs.Performing.{IfRead, IsSaid, RefusesRightly, AuditPerformed, HandedBack, HandsBack, PartAudited, OutOfMemoryFirst, RunMade, RunUnmade, RunUnread, RunWorn, Performs}
use Rattle.ocfl_scrub.specs.Running.{limits_of}
use Rattle.ocfl_scrub.specs.declared.checking.AuditStatus.TheVariants as end
use Rattle.ocfl_scrub.specs.declared.note.Note.TheVariants as note

-- the part of the storage root that a scope has
abbrev pub part_of_scope : Scope → Part
part_of_scope scope.Whole = whole
part_of_scope (scope.Branch p) = branch p
part_of_scope (scope.Part e) = part_between e

-- ---- what is said

-- of a branch
abbrev pub IsBranchSaid : Note → Type 0
IsBranchSaid note.EmptyBranch = ⊤
IsBranchSaid n = IsAuditSaid n

-- of the audit of a scope
abbrev pub IsAuditSaidIn : Scope → Note → Type 0
IsAuditSaidIn (scope.Branch p) n = IsBranchSaid n
IsAuditSaidIn w n = IsAuditSaid n

-- of a run of a part, which refuses another kind of cursor
abbrev pub IsPartRunSaid : Note → Type 0
IsPartRunSaid (note.PartCursorRefused why) = ⊤
IsPartRunSaid (note.CursorRefused why) = ⊥
IsPartRunSaid n = IsRunSaid n

-- what each command can say
abbrev pub IsSaidIn : Deed → Scope → Note → Type 0
IsSaidIn (deed.Audit further) w n = IsAuditSaidIn w n
IsSaidIn (deed.Run further limits) (scope.Part e) n = IsPartRunSaid n
IsSaidIn d w n = IsSaid d n

-- what the audit of a branch ended with: a branch in which no item went out, and which did not
-- stop, is said to be empty
abbrev pub IsBranchNote : Bool → AuditStatus → Option Place → ℕ → Note → Type 0
IsBranchNote finding end.Ended None status n = (status ≡ 2) × (n ≡ note.EmptyBranch)
IsBranchNote finding how last status n = IsAuditNote finding how status n

-- of what a scope has: only a branch may not be empty
abbrev pub IsAuditNoteIn : Scope → Bool → AuditStatus → Option Place → ℕ → Note → Type 0
IsAuditNoteIn (scope.Branch p) finding how last status n = IsBranchNote finding how last status n
IsAuditNoteIn w finding how last status n = IsAuditNote finding how status n

-- what it is ended with if no cursor of a part was read
abbrev pub IsPartUnreadNote : PartCursorStop → ℕ → Note → Type 0
IsPartUnreadNote stop.Read status n = (status ≡ 3) × (n ≡ note.CursorFileFailed)
IsPartUnreadNote (stop.Refused why) status n = IsPartRefusedNote why status n

-- ---- the cursor of a part that is read

-- the cursor that is stored, and without a reader the first of an audit with this option
abbrev pub IsPartFirst : Further → PartEnds → Option (Option Text) → Cursor → Type 0
IsPartFirst further e known c = IfRead (c ≡ new_cursor further) (λ bytes. IsPartText e bytes c) known

-- a run begins with it if it is of an audit with this option
abbrev pub BeginsPartWith : Further → PartEnds → Option (Option Text) → Cursor → Type 0
BeginsPartWith further e known c = (c.further ≡ further) × IsPartFirst further e known c

-- and with none if the cursor that is stored is of an audit with the other. It is one of this part:
-- that of another part is refused as such, whatever its audit is
abbrev pub IsPartOfOther : Further → PartEnds → Option (Option Text) → Further → Type 0
IsPartOfOther further e known other = (other ≢ further) × IfRead ⊥ (λ bytes. (c : Cursor) × (IsPartText e bytes c × (c.further ≡ other))) known

-- no cursor was read, and if the bytes are known they are rightly refused to this part; only a
-- reader can be refused
abbrev pub PartStopsWith : PartEnds → Option (Option Text) → PartCursorStop → Type 0
PartStopsWith e known why = IfRead ⊥ (λ bytes. PartStopsRightly e bytes why) known

-- what is said to be refused is rightly refused
abbrev pub PartRefusesRightly : Further → PartEnds → Option (Option Text) → Note → Type 0
PartRefusesRightly further e known (note.PartCursorRefused why) = PartStopsWith e known (stop.Refused why)
PartRefusesRightly further e known (note.OtherAudit other) = IsPartOfOther further e known other
PartRefusesRightly further e known n = ⊤

abbrev pub RefusesRightlyIn : Deed → Scope → Option (Option Text) → Note → Type 0
RefusesRightlyIn (deed.Run further limits) (scope.Part e) known n = PartRefusesRightly further e known n
RefusesRightlyIn d w known n = RefusesRightly d known n

-- ---- the cursor that is handed back

abbrev pub HandsBackIn : Deed → Scope → Option (Option Text) → ℕ → Note → Option (Vec ℕ Global) → Type 0
HandsBackIn (deed.Run further limits) (scope.Part e) known status n stored = IfSome stored (λ handed. HandedBack (BeginsPartWith further e known) (part_text e) (limits_of limits) status n handed.items)
HandsBackIn d w known status n stored = HandsBack known d status n stored

-- ---- of a store that tells its tree

-- of a branch, which is said to be empty if it has no item
abbrev pub BranchAudited : Call → Place → ℕ → Note → Type 0
BranchAudited call p status n = PartAudited (λ ran. IsBranchNote ran.found ran.end ran.last status n) call (branch p) status n

abbrev pub BranchPerformed : Call → Place → ℕ → Note → Type 0
BranchPerformed call p status n = BranchAudited call p status n ⊎ OutOfMemoryFirst call status n

abbrev pub PartPerformed : Call → Part → ℕ → Note → Type 0
PartPerformed call part status n = PartAudited (λ ran. IsAuditNote ran.found ran.end status n) call part status n ⊎ OutOfMemoryFirst call status n

abbrev pub AuditPerformedIn : Call → Scope → ℕ → Note → Type 0
AuditPerformedIn call scope.Whole status n = AuditPerformed call status n
AuditPerformedIn call (scope.Branch p) status n = BranchPerformed call p status n
AuditPerformedIn call (scope.Part e) status n = PartPerformed call (part_between e) status n

-- memory ran out before the run
abbrev pub IsUnbegun : ℕ → Note → Type 0
IsUnbegun status n = (status ≡ 3) × (n ≡ note.OutOfMemory)

-- why no run of a part was made: no cursor of the part was read, or one of another audit, or a worn
-- one, or memory ran out
abbrev pub WhyNoPartRun : Further → PartEnds → Option (Option Text) → ℕ → Note → Type 0
WhyNoPartRun further e known status n =
    RunUnread (PartStopsWith e known) IsPartUnreadNote status n ⊎ (RunUnread (IsPartOfOther further e known) IsOtherNote status n
    ⊎ (RunWorn (BeginsPartWith further e known) status n ⊎ IsUnbegun status n))

abbrev pub PartRunPerformed : Call → PartEnds → Option (Option Text) → Limits → ℕ → Note → Option (Vec ℕ Global) → Type 0
PartRunPerformed call e known limits status n stored =
    RunMade (BeginsPartWith call.further e known) (part_text e) call (part_between e) limits status n stored ⊎ RunUnmade (WhyNoPartRun call.further e known status n) call stored

-- the deed was done within the scope: the call has its option
abbrev pub PerformsIn : Call → Deed → Scope → Option (Option Text) → ℕ → Note → Option (Vec ℕ Global) → Type 0
PerformsIn call (deed.Audit further) w known status n stored = AuditPerformedIn call w status n
PerformsIn call (deed.Run further limits) (scope.Part e) known status n stored = PartRunPerformed call e known (limits_of limits) status n stored
PerformsIn call d w known status n stored = Performs call known d status n stored
