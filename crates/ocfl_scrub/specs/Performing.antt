-- What the function of the program does, by what is asked for.
use Rattle.std.specs.Prelude.{◌≡◌, ◌≢◌, ◌↔◌, ◌⊎◌, ◌<◌, ℕ, List, [], Option, Some, None, Vec, IfSome, IsNone, IsSome, map, replicate, take, length, string_bytes, ⊤}
use Rattle.std.specs.{declared.alloc.Global.{Global}, Borrow.{MutBor}, Io.KnownBytes.{Appends}}
use Rattle.ocfl_tree.specs.{Place.{Text, Place}, Name.{IsPlace}}
use Rattle.ocfl_report.specs.{Line.{found}, Text.{place_text, text}}
use Rattle.ocfl_report.specs.declared.further.Further.{Further}
use Rattle.ocfl_report.specs.declared.further.Further.TheVariants.{Nothing}
use Rattle.ocfl_rules.specs.{Audit.{audit}, Parts.{Part, whole, within}, Runs.{Limits}}
use Rattle.ocfl_cursor.specs.{Cursor.{Cursor, IsCursor, new_cursor, cursor_text}, Moves.{after_run}}
use Rattle.ocfl_cursor.specs.{Refusal.{IsTextOf}, Shown.{IsShownFrom, UnshownRightly}}
use Rattle.ocfl_cursor.specs.{Stop.{StopsRightly}, declared.limits.Limits.{Limits as MadeLimits}}
use Rattle.ocfl_cursor.specs.declared.reading.CursorStop.{CursorStop}
use Rattle.ocfl_cursor.specs.declared.showing.ShowStop.{ShowStop}
use Rattle.ocfl_cursor.specs.declared.reading.CursorStop.TheVariants as stop
use Rattle.ocfl_cursor.specs.declared.refused.PartRefused.TheVariants as part
use Rattle.ocfl_cursor.specs.declared.showing.ShowStop.TheVariants as show
use Rattle.ocfl_deed.specs.declared.deed.Deed.{Deed}
use Rattle.ocfl_deed.specs.declared.deed.Deed.TheVariants as deed
use Rattle.ocfl_scope.specs.Finding.{IsNoPath}
use Rattle.ocfl_scrub.specs.Call.{Call, Writes, IsUnfailing}
use Rattle.ocfl_scrub.specs.Noting.{IsStatus, status_of, IsAuditSaid, IsCheckSaid, IsRunSaid, IsCycleSaid, IsFileSaid, IsShowSaid, IsRefused, IsAuditNote, IsRunNote, IsUnreadNote, IsOtherNote, WritesWhole, WritesWithStatus, AuditsWithNote, ChecksWithNote, RunsWithNote, CyclesWithNote}
use Rattle.ocfl_scrub.specs.Running.{IsPaid, IsWorn, begun, limits_of, state_after}
use Rattle.ocfl_scrub.specs.Types.{AuditEnd, Note, Performed, RunEnd}
use Rattle.ocfl_scrub.specs.declared.note.Note.TheVariants as note

-- ---- the cursor that is read

-- the bytes of a reader, if there is one and they are known
abbrev pub bytes_of : {R : Type 0} → (R → Option (List ℕ)) → Option (MutBor R) → Option (Option Text)
bytes_of remaining None = None
bytes_of remaining (Some reader) = Some (remaining reader.now)

-- the lines are those that are shown of a text, which is the bytes, if they are known
abbrev pub AreStored : Option (Option Text) → Text → Type 0
AreStored None lines = ⊥
AreStored (Some known) lines = IsShownFrom known lines

-- what holds without a reader, and what of the bytes of a reader, where they are known
abbrev pub IfRead : Type 0 → (Text → Type 0) → Option (Option Text) → Type 0
IfRead unread OfBytes None = unread
IfRead unread OfBytes (Some known) = IfSome known OfBytes

-- the cursor that is stored, and without a reader the first of an audit with this option
abbrev pub IsFirst : Further → Option (Option Text) → Cursor → Type 0
IsFirst further known c = IfRead (c ≡ new_cursor further) (λ bytes. IsTextOf bytes c) known

-- a run begins with it if it is of an audit with this option
abbrev pub BeginsWith : Further → Option (Option Text) → Cursor → Type 0
BeginsWith further known c = (c.further ≡ further) × IsFirst further known c

-- and with none if the cursor that is stored is of an audit with the other
abbrev pub IsOfOther : Further → Option (Option Text) → Further → Type 0
IsOfOther further known other = (other ≢ further) × IfRead ⊥ (λ bytes. (c : Cursor) × (IsTextOf bytes c × (c.further ≡ other))) known

-- no cursor was read, and if the bytes are known they are rightly refused; only a reader can be
-- refused
abbrev pub StopsWith : Option (Option Text) → CursorStop → Type 0
StopsWith known why = IfRead ⊥ (λ bytes. StopsRightly bytes why) known

-- so too if nothing is shown
abbrev pub UnshownWith : Option (Option Text) → ShowStop → Type 0
UnshownWith known why = IfRead ⊥ (λ bytes. UnshownRightly bytes why) known

-- what is said to be refused is rightly refused, as the cursor of a part if that is to be shown, and
-- as that of another audit if a run was asked for
abbrev pub RefusesRightly : Deed → Option (Option Text) → Note → Type 0
RefusesRightly d known (note.CursorRefused why) = StopsWith known (stop.Refused why)
RefusesRightly d known (note.PartCursorRefused (part.Text why)) = UnshownWith known (show.Part why)
RefusesRightly d known (note.PartCursorRefused part.OtherPart) = ⊥
RefusesRightly (deed.Run further limits) known (note.OtherAudit other) = IsOfOther further known other
RefusesRightly d known (note.OtherAudit other) = ⊥
RefusesRightly d known n = ⊤

-- a cursor that is to be shown is refused by the kind that its first line names
abbrev pub UnshownSaid : Deed → Option (Option Text) → Note → Type 0
UnshownSaid deed.Show known (note.CursorRefused why) = UnshownWith known (show.Whole (stop.Refused why))
UnshownSaid d known n = ⊤

-- ---- of every store

-- what a deed checks beside what every audit checks
abbrev pub further_of : Deed → Further
further_of (deed.Audit further) = further
further_of (deed.Check further path) = further
further_of (deed.Run further limits) = further
further_of (deed.Cycle further limits count) = further
further_of deed.Show = Nothing

-- what each command can say
abbrev pub IsSaid : Deed → Note → Type 0
IsSaid (deed.Audit further) n = IsAuditSaid n
IsSaid (deed.Check further path) n = IsCheckSaid n
IsSaid (deed.Run further limits) n = IsRunSaid n
IsSaid (deed.Cycle further limits count) n = IsCycleSaid n
IsSaid deed.Show n = IsShowSaid n

-- with these texts no call of the store was made, and nothing was written
abbrev pub IsSilent : Note → Type 0
IsSilent note.BadPath = ⊤
IsSilent note.CursorWorn = ⊤
IsSilent (note.OtherAudit further) = ⊤
IsSilent n = IsFileSaid n

-- with these texts all lines went out
abbrev pub IsWhole : Note → Type 0
IsWhole note.Nothing = ⊤
IsWhole (note.RunMade cycle runs cost ended) = ⊤
IsWhole (note.CycleMade runs cost ended) = ⊤
IsWhole n = ⊥

-- whether a run hands a cursor back: after memory ran out it depends on which
abbrev pub IsKept : Note → Option (Vec ℕ Global) → Type 0
IsKept (note.RunMade cycle runs cost ended) stored = IsSome stored
IsKept (note.StoppedAt p) stored = IsSome stored
IsKept note.OutputFailed stored = IsSome stored
IsKept note.OutOfMemory stored = ⊤
IsKept n stored = IsNone stored

abbrev pub IsKeptBy : Deed → Note → Option (Vec ℕ Global) → Type 0
IsKeptBy (deed.Run further limits) n stored = IsKept n stored
IsKeptBy deed n stored = IsNone stored

-- the text that is handed back is that of the cursor to which a run led from one with which it may
-- begin, and the status and what is said are those of that run
pub record HandedBack (Begins : Cursor → Type 0) (text_of : Cursor → Text) (limits : Limits) (status : ℕ) (n : Note) (handed : Text) : Type 0 where
  pub from : Cursor
  pub begins : Begins from
  pub ran : RunEnd
  pub paid : IsPaid limits ran.spent ran.files
  pub last : Option Place
  pub cursor_is : ran.cursor ≡ after_run (begun from) ran.spent ran.files (state_after ran.end last)
  pub keeps : IsCursor ran.cursor
  pub handed_is : handed ≡ text_of ran.cursor
  pub says : IsRunNote ran.cursor ran.spent ran.found ran.end status n

abbrev pub HandsBack : Option (Option Text) → Deed → ℕ → Note → Option (Vec ℕ Global) → Type 0
HandsBack known (deed.Run further limits) status n stored = IfSome stored (λ handed. HandedBack (BeginsWith further known) cursor_text (limits_of limits) status n handed.items)
HandsBack known deed status n stored = ⊤

-- without a reader a run has a new cursor, and there is none to show
abbrev pub IsWithoutFile : Option (Option Text) → Deed → Note → Type 0
IsWithoutFile None (deed.Run further limits) n = n ≢ note.CursorFileFailed
IsWithoutFile None deed.Show n = n ≡ note.CursorFileFailed
IsWithoutFile known deed n = ⊤

-- the path that is to be checked names no place
abbrev pub HasBadPath : Deed → Type 0
HasBadPath (deed.Check further path) = IsNoPath (string_bytes path)
HasBadPath d = ⊥

-- a path is refused exactly if no place has it, unless there was no memory to read it
abbrev pub RefusesPath : Deed → ℕ → Note → Type 0
RefusesPath (deed.Check further path) status n = (IsNoPath (string_bytes path) → IsRefused status n) × (n ≡ note.BadPath → IsNoPath (string_bytes path))
RefusesPath deed status n = ⊤

-- the lines of the stored cursor went out
pub record Shows (known : Option (Option Text)) (old new : Option (List ℕ)) : Type 0 where
  pub lines : Text
  pub stored : AreStored known lines
  pub wrote : Appends old new lines

-- a proper beginning of them did
pub record ShowsPart (known : Option (Option Text)) (old new : Option (List ℕ)) : Type 0 where
  pub lines : Text
  pub stored : AreStored known lines
  pub gone : ℕ
  pub proper : gone < length lines
  pub wrote : Appends old new (take gone lines)

-- what is shown, by what is said
abbrev pub ShowsWith : Option (Option Text) → Note → Option (List ℕ) → Option (List ℕ) → Type 0
ShowsWith known note.Nothing old new = Shows known old new
ShowsWith known note.OutputFailed old new = ShowsPart known old new
ShowsWith known n old new = new ≡ old

-- what went out of a report: some lines, each whole unless the output failed. If all went out,
-- the status says whether one of them is a finding
pub record WritesReport (status : ℕ) (n : Note) (old new : Option (List ℕ)) : Type 0 where
  pub uncut : n ≢ note.OutputFailed → WritesWhole old new
  pub whole : IsWhole n → WritesWithStatus old new status

-- the same of a run. Without memory for its cursor's text it says that memory ran out and hands none
-- back, even if the output failed before
pub record WritesRun (status : ℕ) (n : Note) (stored : Option (Vec ℕ Global)) (old new : Option (List ℕ)) : Type 0 where
  pub uncut : n ≢ note.OutputFailed → (n ≢ note.OutOfMemory) ⊎ IsSome stored → WritesWhole old new
  pub whole : IsWhole n → WritesWithStatus old new status

-- what went out of a check: nothing, unless all its lines did or the output failed
pub record WritesCheck (status : ℕ) (n : Note) (old new : Option (List ℕ)) : Type 0 where
  pub none : n ≢ note.Nothing → n ≢ note.OutputFailed → new ≡ old
  pub whole : IsWhole n → WritesWithStatus old new status

-- what went out, by what was asked for and what is said
abbrev pub WritesBy : Option (Option Text) → Deed → Performed → Option (List ℕ) → Option (List ℕ) → Type 0
WritesBy known deed.Show said old new = ShowsWith known said.note old new
WritesBy known (deed.Check further path) said old new = WritesCheck said.status said.note old new
WritesBy known (deed.Run further limits) said old new = WritesRun said.status said.note said.cursor old new
WritesBy known d said old new = WritesReport said.status said.note old new

-- what a command ends with on any store, by what the store and the output are before it and after
-- it, and by the bytes of the cursor that it reads
pub record AnswersOnAnyStore {S O : Type 0} (contents : O → Option (List ℕ)) (before after : S) (old new : O) (known : Option (Option Text)) (d : Deed) (said : Performed) : Type 0 where
  pub status : IsStatus said.status said.note
  pub silent : IsSilent said.note → (after ≡ before) × (new ≡ old)
  pub show_calls : d ≡ deed.Show → after ≡ before
  pub show_ends : d ≡ deed.Show → (said.status ≡ 0) ↔ (said.note ≡ note.Nothing)
  pub unshown : UnshownSaid d known said.note
  pub kept : IsKeptBy d said.note said.cursor
  pub without_file : IsWithoutFile known d said.note
  pub bad_path : RefusesPath d said.status said.note
  pub bad_path_silent : HasBadPath d → (after ≡ before) × (new ≡ old)
  pub lines : WritesBy known d said (contents old) (contents new)

-- ---- of a store that tells its tree

-- a part was audited; if no failure was counted and nothing is said, its items went out
pub record PartAudited (Says : AuditEnd → Type 0) (call : Call) (part : Part) (status : ℕ) (n : Note) : Type 0 where
  pub audits : AuditsWithNote Says call part
  pub clean : n ≡ note.Nothing → IsUnfailing call →
      Writes call (text (within part (audit call.further call.root []))) × (status ≡ status_of (found (within part (audit call.further call.root []))))

abbrev pub AuditPerformed : Call → ℕ → Note → Type 0
AuditPerformed call status n = PartAudited (λ ran. IsAuditNote ran.found ran.end status n) call whole status n

-- nothing was done because memory ran out
pub record OutOfMemoryFirst (call : Call) (status : ℕ) (n : Note) : Type 0 where
  pub status_is : status ≡ 3
  pub says : n ≡ note.OutOfMemory
  pub uncalled : call.after ≡ call.before
  pub unwritten : call.new ≡ call.old

abbrev pub CheckPerformed : Call → Text → ℕ → Note → Type 0
CheckPerformed call path status n = (p : Place) → IsPlace p → path ≡ place_text p →
    ChecksWithNote call p status n ⊎ OutOfMemoryFirst call status n

-- the run had no cursor to begin with, for a reason that is said
pub record RunUnread {Why : Type 0} (Stops : Why → Type 0) (Says : Why → ℕ → Note → Type 0) (status : ℕ) (n : Note) : Type 0 where
  pub why : Why
  pub stops : Stops why
  pub says : Says why status n

-- the cursor with which the run was to begin is worn
pub record RunWorn (Begins : Cursor → Type 0) (status : ℕ) (n : Note) : Type 0 where
  pub from : Cursor
  pub begins : Begins from
  pub worn : IsWorn from
  pub status_is : status ≡ 3
  pub says : n ≡ note.CursorWorn

-- for this reason no run was made, no call of the store, and nothing was written or handed back
pub record RunUnmade (Why : Type 0) (call : Call) (stored : Option (Vec ℕ Global)) : Type 0 where
  pub why : Why
  pub uncalled : call.after ≡ call.before
  pub unwritten : call.new ≡ call.old
  pub unkept : IsNone stored

-- a run of a part was made from a cursor with which it may begin
pub record RunMade (Begins : Cursor → Type 0) (text_of : Cursor → Text) (call : Call) (part : Part) (limits : Limits) (status : ℕ) (n : Note) (stored : Option (Vec ℕ Global)) : Type 0 where
  pub from : Cursor
  pub begins : Begins from
  pub runs : RunsWithNote call part text_of from limits status n stored

-- why no run of the whole was made: no cursor was read, or one of another audit, or a worn one
abbrev pub WhyNoRun : Further → Option (Option Text) → ℕ → Note → Type 0
WhyNoRun further known status n =
    RunUnread (StopsWith known) IsUnreadNote status n ⊎ (RunUnread (IsOfOther further known) IsOtherNote status n ⊎ RunWorn (BeginsWith further known) status n)

abbrev pub RunPerformed : Call → Option (Option Text) → Limits → ℕ → Note → Option (Vec ℕ Global) → Type 0
RunPerformed call known limits status n stored =
    RunMade (BeginsWith call.further known) cursor_text call whole limits status n stored ⊎ RunUnmade (WhyNoRun call.further known status n) call stored

-- n runs, each within the same limits
abbrev pub equal_limits : MadeLimits → ℕ → List Limits
equal_limits limits count = map limits_of (replicate count limits)

abbrev pub CyclePerformed : Call → List Limits → ℕ → Note → Type 0
CyclePerformed call limits status n = CyclesWithNote call limits status n ⊎ OutOfMemoryFirst call status n

-- the deed was done: the call has its option
abbrev pub Performs : Call → Option (Option Text) → Deed → ℕ → Note → Option (Vec ℕ Global) → Type 0
Performs call known (deed.Audit further) status n stored = AuditPerformed call status n
Performs call known (deed.Check further path) status n stored = CheckPerformed call (string_bytes path) status n
Performs call known (deed.Run further limits) status n stored = RunPerformed call known (limits_of limits) status n stored
Performs call known (deed.Cycle further limits count) status n stored = CyclePerformed call (equal_limits limits count) status n
Performs call known deed.Show status n stored = call.after ≡ call.before
