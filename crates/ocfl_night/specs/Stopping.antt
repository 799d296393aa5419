-- Why the steps of a night stop: for each stop its reason.
use Rattle.std.specs.Prelude.{◌≡◌, ◌≢◌, ◌⊎◌, ℕ, ◌+◌, ◌^◌, ◌<◌, ◌≤◌, List, [], ◌∷◌, Bool, IsTrue, false, Result, Ok, Err, length, ⊤}
use Rattle.ocfl_tree.specs.{Listing.{entries_in}, Place.{Place, Text}, Store.{Store, IfTold}}
use Rattle.ocfl_item.specs.Judging.{HasShortFiles}
use Rattle.ocfl_identity.specs.Identity.{IsUnread, declarations_among}
use Rattle.ocfl_identity.specs.declared.identity.Identity.{Identity}
use Rattle.ocfl_report.specs.declared.further.Further.{Further}
use Rattle.ocfl_cursor.specs.declared.limits.Limits.{Limits}
use Rattle.ocfl_scrub.specs.{Running.{IsWorn}, declared.running.RunEnd.{RunEnd}}
use Rattle.ocfl_state.specs.{Calls.{HasLong, IsLong}, Checkpoint.{Checkpoint, IsCheckpointText}, Content.{Content, is_closed}}
use Rattle.ocfl_state.specs.{Pieces.{summary_of}, declared.checkpoint_parts.Left.{Left}}
use Rattle.ocfl_state.specs.declared.checkpoint_parts.ReportMark.{ReportMark}
use Rattle.ocfl_state.specs.declared.folder.StateFolder as state
use Rattle.ocfl_state.specs.declared.folder.FolderTrouble.TheVariants.{Failed, Full, Taken, Memory}
use Rattle.ocfl_night.specs.{Beginning.{BeginsAt}, Ending.{IsNextBy, KeepsTo, cycle_of, place_or_pause}, Leaving.{branch_at, has_end}}
use Rattle.ocfl_night.specs.{Looks.{Rounds}, Site.{IsAlike, IsOfSite, first_checkpoint}, Sound.{IsKept}, Steps.{begun_anew, with_all_said, with_left}}
use Rattle.ocfl_terms.specs.Output.{HasFailed, Said}
use Rattle.ocfl_night.specs.{declared.looking.NotKept.{NotKept}, declared.not_opened.NotOpened.{NotOpened}, declared.site.Site.{Site}}
use Rattle.ocfl_terms.specs.{declared.made.Made.{Made}, declared.stop.Stop.{Stop}}
use Rattle.ocfl_night.specs.declared.looking.NotKept.TheVariants as unkept
use Rattle.ocfl_night.specs.declared.not_opened.NotOpened.TheVariants as unopened
use Rattle.ocfl_terms.specs.declared.stop.Stop.TheVariants.{Folder, TooLong, Unread, Worn, Endless, Unsaid, Oversaid, Short, Output}

-- ---- of any step

-- the text is that of one of these checkpoints, and longer than a folder takes
pub record IsTooLong (OneOf : Checkpoint → Type 0) (text : Text) : Type 0 where
  pub checkpoint : Checkpoint
  pub one : OneOf checkpoint
  pub is : IsCheckpointText text checkpoint
  pub long : IsLong text

-- The reason of a stop, in a step before which the folder had failed so often, and so often after it.
-- It says that the folder failed only if it did, or in one more case; that it is full, only if it
-- failed; and never that a report is closed already. That is so where the folder is as `Told`. That
-- memory was refused has no reason that could be told. For what else it stops, `Other` says.
abbrev pub IsReason : Type 0 → (Type 0 → Stop → Type 0) → ℕ → ℕ → Stop → Type 0
IsReason Told Other old new (Folder Failed) = Told → (old < new) ⊎ Other Told (Folder Failed)
IsReason Told Other old new (Folder Full) = Told → old < new
IsReason Told Other old new (Folder Taken) = Told → ⊥
IsReason Told Other old new (Folder Memory) = ⊤
IsReason Told Other old new why = Other Told why

-- a step stops for its reason; if it does not, the folder has not failed less often
abbrev pub StopsFor : {T : Type 0} → Type 0 → (Type 0 → Stop → Type 0) → ℕ → ℕ → Result T Stop → Type 0
StopsFor Told Other old new (Ok x) = Told → old ≤ new
StopsFor Told Other old new (Err why) = IsReason Told Other old new why

-- the same of a step that may be refused
abbrev pub OpensFor : {T : Type 0} → Type 0 → (Type 0 → Stop → Type 0) → ℕ → ℕ → Result T NotOpened → Type 0
OpensFor Told Other old new (Ok x) = Told → old ≤ new
OpensFor Told Other old new (Err (unopened.Refused why)) = ⊤
OpensFor Told Other old new (Err (unopened.Troubled why)) = IsReason Told Other old new why

-- ---- of each step

-- for nothing else
abbrev pub ForNoOther : Type 0 → Stop → Type 0
ForNoOther Told why = ⊥

-- bytes are not read as a checkpoint: if that is no refusal, memory was refused
abbrev pub IsReadStop : NotOpened → Type 0
IsReadStop (unopened.Refused why) = ⊤
IsReadStop (unopened.Troubled (Folder Memory)) = ⊤
IsReadStop (unopened.Troubled why) = ⊥

-- a checkpoint has no text: it tells more than its report has, or memory was refused
abbrev pub IsTextStop : Checkpoint → Stop → Type 0
IsTextStop k Oversaid = k.report.bytes < k.said
IsTextStop k (Folder Memory) = ⊤
IsTextStop k why = ⊥

-- one of these checkpoints is not put: it tells more than its report has, or its text is too long
abbrev pub ForPut : (Checkpoint → Type 0) → Type 0 → Stop → Type 0
ForPut OneOf Told Oversaid = (k : Checkpoint) × (OneOf k × (k.report.bytes < k.said))
ForPut OneOf Told (TooLong text) = IsTooLong OneOf text.items
ForPut OneOf Told why = ⊥

-- a checkpoint is not read: what is there is too long
abbrev pub ForLook : Content → Type 0 → Stop → Type 0
ForLook c Told (Folder why) = HasLong c.checkpoint
ForLook c Told why = ⊥

-- the first checkpoint of nights in a folder, with no report open or closed
pub record IsFirst (Told : Type 0) (site : Site) (id : Identity) (c : Content) (k : Checkpoint) : Type 0 where
  pub is : k ≡ first_checkpoint site id
  pub empty : Told → length c.report ≡ 0
  pub unclosed : Told → is_closed c.closed 1 ≡ false

-- it is not put: its text is too long
abbrev pub ForFirst : Site → Identity → Content → Type 0 → Stop → Type 0
ForFirst site id c Told (TooLong text) = IsTooLong (IsFirst Told site id c) text.items
ForFirst site id c Told why = ⊥

-- the checkpoint with which a night is to begin in a folder of this content
pub record IsToOpen (Told : Type 0) (site : Site) (id : Identity) (create : Bool) (c : Content) (k : Checkpoint) : Type 0 where
  pub own : IsOfSite site id k
  pub begins : Told → BeginsAt site.further create c k

-- a night is not opened, with one of these checkpoints
abbrev pub ForOpen : (Checkpoint → Type 0) → Content → Type 0 → Stop → Type 0
ForOpen OneOf c Told Oversaid = Told → ⊥
ForOpen OneOf c Told (TooLong text) = IsTooLong OneOf text.items
ForOpen OneOf c Told why = ForLook c Told why

-- a report is not closed: not all of it was said, or the checkpoint of the next cycle is too long
abbrev pub ForClose : Checkpoint → Type 0 → Stop → Type 0
ForClose k Told Unsaid = k.said ≢ k.report.bytes
ForClose k Told (TooLong text) = IsTooLong (λ next. next ≡ begun_anew k) text.items
ForClose k Told why = ⊥

-- the bytes of a report up to an offset are not said: it ends before that, or the output has failed
abbrev pub ForSay : Content → ℕ → Said → Said → Type 0 → Stop → Type 0
ForSay c end old new Told Short = Told → length c.report < end
ForSay c end old new Told Output = HasFailed old.failures new.failures
ForSay c end old new Told why = ⊥

-- what a checkpoint did not say is not said
abbrev pub ForSpeak : Checkpoint → Content → Said → Said → Type 0 → Stop → Type 0
ForSpeak k c old new Told Oversaid = k.report.bytes < k.said
ForSpeak k c old new Told Short = Told → (k.said < k.report.bytes) × (length c.report < k.report.bytes)
ForSpeak k c old new Told Output = HasFailed old.failures new.failures
ForSpeak k c old new Told (TooLong text) = IsTooLong (λ next. next ≡ with_all_said k) text.items
ForSpeak k c old new Told why = ⊥

-- no place comes after all that the last of some branches has
abbrev pub IsEndless : List Left → Type 0
IsEndless [] = ⊥
IsEndless (l ∷ []) = has_end l.place ≡ false
IsEndless (l ∷ m ∷ left) = IsEndless (m ∷ left)

-- no run is made past branches that were left out: the last has no end, or memory was refused
abbrev pub IsPastStop : List Left → Stop → Type 0
IsPastStop left Endless = IsEndless left
IsPastStop left (Folder Memory) = ⊤
IsPastStop left why = ⊥

-- nothing of a run is kept: it could not be counted, if that may be, or memory was refused; or the root
-- is not as it was
abbrev pub IsRunStop : Type 0 → NotKept → Type 0
IsRunStop Uncounted (unkept.Troubled Worn) = Uncounted
IsRunStop Uncounted (unkept.Troubled (Folder Memory)) = ⊤
IsRunStop Uncounted (unkept.Troubled why) = ⊥
IsRunStop Uncounted why = ⊤

-- lines are not appended to a report: it is not as its mark says
abbrev pub ForExtend : ReportMark → Content → Type 0 → Stop → Type 0
ForExtend mark c Told (Folder why) = mark ≢ summary_of c.report
ForExtend mark c Told why = ⊥

-- the lines of a run are not kept: the report is not as the checkpoint says, or that tells more than
-- its report has, or one of these checkpoints after the run is too long
abbrev pub ForKeep : (Checkpoint → Type 0) → Checkpoint → Content → Type 0 → Stop → Type 0
ForKeep OneOf k c Told (Folder why) = k.report ≢ summary_of c.report
ForKeep OneOf k c Told Oversaid = Told → k.report ≡ summary_of c.report → k.report.bytes < k.said
ForKeep OneOf k c Told (TooLong text) = IsTooLong OneOf text.items
ForKeep OneOf k c Told why = ⊥

-- the checkpoint after a run within these limits
abbrev pub IsRunBy : Checkpoint → Limits → Checkpoint → Type 0
IsRunBy k limits next = (ran : RunEnd) × (KeepsTo k.cursor limits ran × IsNextBy k ran next)

-- a slice is not made: for one of these, or the run cannot be counted, or be made past what was left out
abbrev pub ForSlice : Limits → Checkpoint → Content → Type 0 → Stop → Type 0
ForSlice limits k c Told Worn = IsWorn k.cursor
ForSlice limits k c Told Endless = IsEndless k.left
ForSlice limits k c Told why = ForKeep (IsRunBy k limits) k c Told why

-- that which leaves out the branch of the place at which a slice stopped
abbrev pub IsPassedBy : Made → Checkpoint → Type 0
IsPassedBy made next = (p : Place) × ((place_or_pause made.end ≡ Ok p) × (next ≡ with_left (branch_at p) made.checkpoint))

-- ---- of a night

-- a folder tells, this is so of it, and a store tells, of a root with no file of 2^62 bytes or more
pub record IsGiven (tells told : Bool) (s : Store) (Holds : Type 0) : Type 0 where
  pub folder : IsTrue tells
  pub store : IsTrue told
  pub short : HasShortFiles s.tree
  pub holds : Holds

-- a folder tells, and a crash now leaves what is sound, of nights that check this
abbrev pub TellsKept : {F : Type 0} → state.Ghosts F → Further → F → Type 0
TellsKept S further folder = IsTrue S.told × ((rounds : Rounds) × ((rounds.further ≡ further) × IsKept S rounds folder))

-- a run cannot be counted that is made by a night from this checkpoint, after so many runs: its cycle
-- has no number, or the runs of its cycle have none
abbrev pub IsWornAfter : Checkpoint → ℕ → Type 0
IsWornAfter start runs = (cycle_of start ≡ 2 ^ 64) ⊎ (2 ^ 64 ≤ start.cursor.runs + runs + 1)

-- a checkpoint is put by a night from this one: it is of the same root, part and audit, with the same
-- names, and of the same cycle or the next one
pub record IsPutFrom (start k : Checkpoint) : Type 0 where
  pub alike : IsAlike start k
  pub cycle : (cycle_of k ≡ cycle_of start) ⊎ (cycle_of k ≡ cycle_of start + 1)

-- no run is made any more by a night from this checkpoint that has begun so many runs, or what runs
-- wrote is not said: the output has failed, if that may be
abbrev pub ForRuns : Type 0 → Checkpoint → ℕ → Type 0 → Stop → Type 0
ForRuns Silenced start runs Told Worn = IsWornAfter start runs
ForRuns Silenced start runs Told Endless = IsEndless start.left
ForRuns Silenced start runs Told Oversaid = Told → ⊥
ForRuns Silenced start runs Told Short = Told → ⊥
ForRuns Silenced start runs Told Output = Silenced
ForRuns Silenced start runs Told (TooLong text) = IsTooLong (IsPutFrom start) text.items
ForRuns Silenced start runs Told why = ⊥

-- what a night checks, what it began with, how many runs it began, and its output before it and now
pub record Course : Type 0 where
  pub further : Further
  pub create : Bool
  pub content : Content
  pub runs : ℕ
  pub old : Said
  pub new : Said

abbrev pub course : Further → Bool → Content → ℕ → Said → Said → Course
course further create c runs old new = record { further = further; create = create; content = c; runs = runs; old = old; new = new }

-- this holds of where it began
abbrev pub FromStart : Course → (Checkpoint → Type 0) → Type 0
FromStart n Holds = (start : Checkpoint) × (BeginsAt n.further n.create n.content start × Holds start)

-- if a store tells, its root could not be looked at: the top folder, or a file that declares it
abbrev pub IsUnlooked : Bool → Store → Store → Place → Type 0
IsUnlooked told s t p = IfTold told s (λ root. IsUnread root s t (declarations_among (entries_in root [])) ([] ∷ []) p)

-- the checkpoint is one that such a night puts, of which this holds
abbrev pub IsPutIn : (Checkpoint → Type 0) → Course → Type 0 → Checkpoint → Type 0
IsPutIn IsOf n Told k = IsOf k × (Told → FromStart n (λ start. IsPutFrom start k))

-- A night is troubled: what is there as a checkpoint is too long, or one that it puts; the root could
-- not be looked at; a run could not be counted or made; or the output has failed.
abbrev pub ForNight : (Place → Type 0) → (Checkpoint → Type 0) → Course → Type 0 → Stop → Type 0
ForNight IsUnreadAt IsOf n Told (Folder why) = HasLong n.content.checkpoint
ForNight IsUnreadAt IsOf n Told (TooLong text) = IsTooLong (IsPutIn IsOf n Told) text.items
ForNight IsUnreadAt IsOf n Told (Unread p) = IsUnreadAt p
ForNight IsUnreadAt IsOf n Told Worn = Told → FromStart n (λ start. IsWornAfter start n.runs)
ForNight IsUnreadAt IsOf n Told Endless = Told → FromStart n (λ start. IsEndless start.left)
ForNight IsUnreadAt IsOf n Told Oversaid = Told → ⊥
ForNight IsUnreadAt IsOf n Told Short = Told → ⊥
ForNight IsUnreadAt IsOf n Told Output = HasFailed n.old.failures n.new.failures
ForNight IsUnreadAt IsOf n Told why = ⊥
