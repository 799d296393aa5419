-- What a power cut may leave of a state folder, and how each call of the system changes that.
--
-- A byte is certainly there once its file was synced, and a name once its folder was. Of what was
-- written since, all may be there, nothing or a part, and in its place any bytes. A change of names
-- is there as a whole or not at all, and only where those before it of the same names are. A
-- process that is killed loses nothing.
use Rattle.std.specs.Prelude.{◌≡◌, ◌≢◌, ◌⊎◌, ℕ, ◌≤◌, Bool, true, IsTrue, List, [], ◌∷◌, Some, None, length, max, ⊤}
use Rattle.ocfl_state.specs.{Content.{Bytes}, Crash.{Begins}}
use Rattle.ocfl_disk.specs.Names.{ClosedName, Names, Stored, named, with_named, IsApart, IsNameless, without_beside, put_over, close_over}
use Rattle.ocfl_disk.specs.declared.state_file.StateFile.{StateFile}
use Rattle.ocfl_disk.specs.declared.state_file.StateFile.TheVariants.{Folder, Reports}

-- What a disk tells of a state folder at one moment.
pub record DiskState : Type 1 where
  -- what reads show
  pub seen : Stored
  -- what a power cut, or a kill, at this moment may leave
  pub may_leave : Stored → Type 0
  -- the moment, as a number that does not fall
  pub moment : ℕ
  -- what a cut at some moment from that one on might have left
  pub left_since : ℕ → Stored → Type 0
  -- whether all bytes of a file are on the disk
  pub is_synced : ℕ → Bool
  -- whether all names of a folder are
  pub has_names : StateFile → Bool
  -- how often a call has failed
  pub faults : ℕ

-- a relation of what a cut may have left before a call and what it may leave in the call or after it
abbrev pub Change : Type 1
Change = Stored → Stored → Type 0

abbrev pub Same : Change
Same old new = new ≡ old

-- The bytes of one file alone may differ: of the first n those that were there stay, and they are no
-- more than they were, or than `most`.
pub record MayTear (file n most : ℕ) (old new : Stored) : Type 0 where
  pub names : new.names ≡ old.names
  pub others : (other : ℕ) → other ≢ file → new.bytes other ≡ old.bytes other
  pub front : (text : Bytes) → length text ≤ n → Begins text (old.bytes file) → Begins text (new.bytes file)
  pub no_longer : length (new.bytes file) ≤ max (length (old.bytes file)) most

-- An empty file may have been made under a name. Before that it had none, and nothing had that name
-- where the name is there: what had it before is away, as reads showed it.
pub record MayMake (name : StateFile) (file : ℕ) (shown : Names) (old new : Stored) : Type 0 where
  pub nameless : IsNameless file old.names
  pub names : (new.names ≡ old.names) ⊎ ((named name old.names ≡ named name shown) × (new.names ≡ with_named name file old.names))
  pub empty : new.bytes file ≡ []
  pub others : (other : ℕ) → other ≢ file → new.bytes other ≡ old.bytes other

-- the name of what is written beside may be away
abbrev pub MayDrop : Change
MayDrop old new = (new ≡ old) ⊎ (new ≡ without_beside old)

-- what is written beside may be the checkpoint, if it is what reads showed there
abbrev pub MayPutOver : Names → Change
MayPutOver shown old new = (new ≡ old) ⊎ ((old.names.beside ≡ shown.beside) × (new ≡ put_over old))

-- the report may be the closed one of that cycle, if it is what reads showed there
abbrev pub MayCloseOver : ℕ → Bool → Names → Change
MayCloseOver cycle whole shown old new = (new ≡ old) ⊎ ((old.names.report ≡ shown.report) × (new ≡ close_over cycle whole old))

-- one of these after a change
abbrev pub After : Change → (Stored → Type 0) → Stored → Type 0
After change outcomes c = (d : Stored) × outcomes d × change d c

-- One call passes: what a cut may leave after it, or might have left in it, is what it might have
-- left before, or that after a change. What it might have left before stays so.
pub record Passes (change : Change) (old new : DiskState) : Type 0 where
  pub later : old.moment ≤ new.moment
  pub now : (c : Stored) → new.may_leave c → After change old.may_leave c
  pub meanwhile : (t : ℕ) (c : Stored) → t ≤ old.moment → new.left_since t c → old.left_since t c ⊎ After change old.may_leave c
  pub keeps : (t : ℕ) (c : Stored) → t ≤ old.moment → old.left_since t c → new.left_since t c
  pub faults : old.faults ≤ new.faults

-- each of these files is on the disk
abbrev pub AreSynced : DiskState → List ClosedName → Type 0
AreSynced d [] = ⊤
AreSynced d (name ∷ names) = IsTrue (d.is_synced name.file) × AreSynced d names

-- What is so at each moment. The last four say that only calls as these have changed the folder, this
-- process's and those of the processes before it: the checkpoint and the closed reports were synced
-- before they got their names, and the report and what is written beside have had no other name.
pub record IsDisk (d : DiskState) : Type 0 where
  -- a kill leaves what reads show
  pub stays : d.may_leave d.seen
  -- this moment is one of those since an earlier one, and since this one there is no other
  pub counts_now : (t : ℕ) (c : Stored) → t ≤ d.moment → d.may_leave c → d.left_since t c
  pub only_now : (c : Stored) → d.left_since d.moment c → d.may_leave c
  pub bytes : (file : ℕ) (c : Stored) → IsTrue (d.is_synced file) → d.may_leave c → c.bytes file ≡ d.seen.bytes file
  -- of a rename both folders are to be synced
  pub names : (c : Stored) → IsTrue (d.has_names Folder) → IsTrue (d.has_names Reports) → d.may_leave c → c.names ≡ d.seen.names
  pub checkpoint : (file : ℕ) → d.seen.names.checkpoint ≡ Some file → IsTrue (d.is_synced file)
  pub closed : AreSynced d d.seen.names.closed
  pub report : (file : ℕ) (c : Stored) → d.seen.names.report ≡ Some file → d.may_leave c → IsApart file c.names
  pub beside : (file : ℕ) (c : Stored) → d.seen.names.beside ≡ Some file → d.may_leave c → IsApart file c.names × (c.names.report ≢ Some file)

-- an empty folder, to which nothing happens
abbrev pub untold : DiskState
untold = record {
  seen = record { names = record { checkpoint = None; beside = None; report = None; closed = [] }; bytes = λ _. [] };
  may_leave = λ _. ⊤;
  moment = 0;
  left_since = λ _ _. ⊤;
  is_synced = λ _. true;
  has_names = λ _. true;
  faults = 0;
}
