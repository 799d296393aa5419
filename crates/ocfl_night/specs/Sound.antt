-- What nights keep true of a state folder's bytes, at every moment.
use Rattle.std.specs.Prelude.{ℕ, ◌≡◌, ◌≢◌, ◌⊎◌, ◌+◌, ◌≤◌, List, [], ◌∷◌, ◌++◌, length, take, true, IsTrue, Some, MatchOption, flat_map}
use Rattle.std.specs.Io.KnownBytes.{Appends}
use Rattle.ocfl_tree.specs.Place.{Text}
use Rattle.ocfl_report.specs.declared.further.Further.{Further}
use Rattle.ocfl_cursor.specs.Cursor.{ended}
use Rattle.ocfl_scrub.specs.Running.{begun}
use Rattle.ocfl_state.specs.{Checkpoint.{Checkpoint, IsCheckpointText}, Content.{Content, Closed, is_closed}}
use Rattle.ocfl_state.specs.{Crash.{Outcomes, Begins, LeavesOnly, Only}, Pieces.{summary_of}}
use Rattle.ocfl_state.specs.declared.folder.StateFolder as state
use Rattle.ocfl_state.specs.declared.checkpoint_parts.{Phase.TheVariants.{Open, Closing}}
use Rattle.ocfl_rules.specs.Parts.{Part}
use Rattle.ocfl_night.specs.{Looks.{IfGiven, Look, Rounds, WithLook}, Chain.{EndAt, HasClosed, HasRuns, LeadTo, joined}}
use Rattle.ocfl_terms.specs.Output.{HasTaken, Said}

-- the closed reports, joined
abbrev pub closed_text : List Closed → Text
closed_text closed = flat_map (λ d. d.report) closed

-- The cycle goes on: its runs lead to the checkpoint's cursor. The report begins with the text of
-- which the checkpoint has the length, the lines and the digests, and if nothing was lost that is
-- what the runs wrote. Of all the reports t was said.
pub record IsOpen (rounds : Rounds) (t : Text) (k : Checkpoint) (c : Content) : Type 0 where
  pub phase : k.phase ≡ Open
  pub led : HasRuns LeadTo rounds k.left k.cursor
  pub text : Text
  pub report : k.report ≡ summary_of text
  pub begins : Begins text c.report
  pub is_whole : k.whole ≡ true → text ≡ joined led.runs
  pub lossless : IfGiven rounds.known (k.whole ≡ true)
  pub said : k.said ≤ k.report.bytes
  pub earlier : HasClosed rounds (begun k.cursor).cycle c.closed
  pub said_is : t ≡ closed_text earlier.all ++ take k.said text

-- the cycle has ended, and its report is to be closed
pub record IsClosing (rounds : Rounds) (t : Text) (k : Checkpoint) (c : Content) : Type 0 where
  pub phase : k.phase ≡ Closing
  pub led : HasRuns EndAt rounds k.left k.cursor
  pub ends : k.cursor.state ≡ ended
  pub report : k.report ≡ summary_of c.report
  pub is_whole : k.whole ≡ true → c.report ≡ joined led.runs
  pub lossless : IfGiven rounds.known (k.whole ≡ true)
  pub said : k.said ≤ k.report.bytes
  pub earlier : HasClosed rounds k.cursor.cycle c.closed
  pub said_is : t ≡ closed_text earlier.all ++ take k.said c.report

-- it is closed, which is seen by its closed report, and all of it was said
pub record IsMoved (rounds : Rounds) (t : Text) (k : Checkpoint) (c : Content) : Type 0 where
  pub phase : k.phase ≡ Closing
  pub ends : k.cursor.state ≡ ended
  pub checks : k.cursor.further ≡ rounds.further
  pub empty : c.report ≡ []
  pub there : IsTrue (is_closed c.closed k.cursor.cycle)
  pub said : k.said ≡ k.report.bytes
  pub earlier : HasClosed rounds (k.cursor.cycle + 1) c.closed
  pub said_is : t ≡ closed_text earlier.all

abbrev pub Stands : Rounds → Text → Checkpoint → Content → Type 0
Stands rounds t k c = IsOpen rounds t k c ⊎ (IsClosing rounds t k c ⊎ IsMoved rounds t k c)

-- no night was there
pub record IsNew (t : Text) (c : Content) : Type 0 where
  pub report : c.report ≡ []
  pub closed : c.closed ≡ []
  pub said_is : t ≡ []

-- these are the text of a checkpoint, and the report and the closed ones are as it says
pub record IsMarked (rounds : Rounds) (t : Text) (bytes : List ℕ) (c : Content) : Type 0 where
  pub checkpoint : Checkpoint
  pub is : IsCheckpointText bytes checkpoint
  pub stands : Stands rounds t checkpoint c

-- a content is as these rounds of nights leave it, which have said this text
abbrev pub IsSoundAt : Rounds → Text → Content → Type 0
IsSoundAt rounds t c = MatchOption c.checkpoint (IsNew t c) (λ bytes. IsMarked rounds t bytes c)

abbrev pub IsSound : Rounds → Content → Type 0
IsSound rounds c = (t : Text) × IsSoundAt rounds t c

-- each of these outcomes is sound
abbrev pub AreSound : Rounds → Outcomes → Type 0
AreSound rounds outcomes = (c : Content) → outcomes c → IsSound rounds c

-- a crash now leaves a sound content
abbrev pub IsKept : {F : Type 0} → state.Ghosts F → Rounds → F → Type 0
IsKept S rounds folder = AreSound rounds (S.may_leave folder)

-- the checkpoint is this one
pub record IsAt (k : Checkpoint) (c : Content) : Type 0 where
  pub bytes : List ℕ
  pub is : c.checkpoint ≡ Some bytes
  pub text : IsCheckpointText bytes k

-- the folder is at this checkpoint, and all that is read is on the disk
pub record IsSettled {F : Type 0} (S : state.Ghosts F) (rounds : Rounds) (t : Text) (k : Checkpoint) (folder : F) : Type 0 where
  pub at : IsAt k (S.seen folder)
  pub stands : Stands rounds t k (S.seen folder)
  pub only : Only (S.seen folder) (S.may_leave folder)

-- the same, and the report of a cycle that goes on has no more than the checkpoint says
pub record IsReady {F : Type 0} (S : state.Ghosts F) (rounds : Rounds) (t : Text) (k : Checkpoint) (folder : F) : Type 0 where
  pub at : IsAt k (S.seen folder)
  pub stands : Stands rounds t k (S.seen folder)
  pub exact : k.phase ≡ Open → length (S.seen folder).report ≡ k.report.bytes
  pub only : Only (S.seen folder) (S.may_leave folder)

-- all of its report is said
pub record IsAllSaid (c : Content) : Type 0 where
  pub checkpoint : Checkpoint
  pub at : IsAt checkpoint c
  pub all : checkpoint.said ≡ checkpoint.report.bytes

-- ---- what an output heard

-- what was said is t and more, and if there is more, an output has taken that since then
pub record IsHeard (rounds : Rounds) (t : Text) (old new : Said) (c : Content) : Type 0 where
  pub more : Text
  pub sound : IsSoundAt rounds (t ++ more) c
  pub took : more ≢ [] → HasTaken more old new

-- a folder is ready, with t and more said: the more was given to an output since then, and if there is
-- more, it has committed that
pub record IsHeardReady {F : Type 0} (S : state.Ghosts F) (rounds : Rounds) (t : Text) (old new : Said) (k : Checkpoint) (folder : F) : Type 0 where
  pub more : Text
  pub ready : IsReady S rounds (t ++ more) k folder
  pub given : Appends old.given new.given more
  pub all : more ≢ [] → new.committed ≡ new.given

-- what one of these outcomes said, each of which is sound, is said still
pub record IsFound (rounds : Rounds) (outcomes : Outcomes) (sound : AreSound rounds outcomes) (c : Content) : Type 0 where
  pub from : Content
  pub was : outcomes from
  pub now : IsSoundAt rounds (sound from was).0 c

-- a folder is ready, with what one of them said
pub record IsFoundReady {F : Type 0} (S : state.Ghosts F) (rounds : Rounds) (outcomes : Outcomes) (sound : AreSound rounds outcomes) (k : Checkpoint) (folder : F) : Type 0 where
  pub from : Content
  pub was : outcomes from
  pub ready : IsReady S rounds (sound from was).0 k folder

-- what one of them said is said still, and more than that only if an output took it
pub record IsHeardSince (rounds : Rounds) (outcomes : Outcomes) (sound : AreSound rounds outcomes) (old new : Said) (c : Content) : Type 0 where
  pub from : Content
  pub was : outcomes from
  pub heard : IsHeard rounds (sound from was).0 old new c

-- a folder is ready, with what one of them said and what an output took since then
pub record IsReadySince {F : Type 0} (S : state.Ghosts F) (rounds : Rounds) (outcomes : Outcomes) (sound : AreSound rounds outcomes) (old new : Said) (k : Checkpoint) (folder : F) : Type 0 where
  pub from : Content
  pub was : outcomes from
  pub heard : IsHeardReady S rounds (sound from was).0 old new k folder

-- ---- the closed reports

-- the report of a cycle is closed, and the checkpoint still says that it is to be
pub record IsShut (cycle : ℕ) (c : Content) : Type 0 where
  pub checkpoint : Checkpoint
  pub at : IsAt checkpoint c
  pub phase : checkpoint.phase ≡ Closing
  pub is : checkpoint.cursor.cycle ≡ cycle
  pub closed : IsTrue (is_closed c.closed cycle)

-- They are what is left of those of the cycles up to this one, which is there. Before there was one
-- less; or as many, where a crash had come right after the last one was closed.
pub record IsOneMore (rounds : Rounds) (cycle : ℕ) (old new : Content) : Type 0 where
  pub now : HasClosed rounds (cycle + 1) new.closed
  pub there : IsTrue (is_closed new.closed cycle)
  pub before : ((d : Closed) × (new.closed ≡ old.closed ++ d ∷ [])) ⊎ ((new.closed ≡ old.closed) × IsShut cycle old)

-- What a night promises: if each crash before it leaves a sound content, so does each since then, and
-- more than was said is said only if the output has committed it. That holds whatever looks the runs are
-- within, if that of this night is within one of them.
abbrev pub IsSafeNight : {F : Type 0} → state.Ghosts F → Further → Part → Look → F → F → Said → Said → Type 0
IsSafeNight S further part look from to old new =
    WithLook further part look (λ rounds. (kept : IsKept S rounds from) → LeavesOnly S.moment S.left_since from to (IsHeardSince rounds (S.may_leave from) kept old new))
