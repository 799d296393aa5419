-- What a power cut may leave of the lists of what is gone, and how each call of the system changes
-- that.
--
-- A list gets its name as a whole: its bytes are on the disk before that, and its name once its
-- folder was synced. A process that is killed loses nothing.
use Rattle.std.specs.Prelude.{◌≡◌, ◌⊎◌, ℕ, ◌≤◌, Bool, true, [], ⊤}
use Rattle.ocfl_tree.specs.Place.{Text}
use Rattle.ocfl_accounts.specs.{Kept.{Kept, Account, account_with, with_list}, Crash.{Step, Same, MayPut, Outcomes, After, Follows}}
use Rattle.ocfl_closed.specs.Files.{Files, AreRead, kept_of, no_files}

-- What a disk tells of closed cycles at one moment.
pub record ClosedState : Type 1 where
  -- what reads show
  pub files : Files
  -- the bytes of the list that was made last, which has no name that counts yet
  pub beside : Text
  -- whether all of these are on the disk
  pub is_synced : Bool
  -- what a power cut, or a kill, at this moment may leave
  pub may_leave : Outcomes
  -- the moment, as a number that does not fall
  pub moment : ℕ
  -- what a cut at some moment from that one on might have left
  pub left_since : ℕ → Outcomes

-- One call passes: what a cut may leave after it, or might have left in it, is what it might have
-- left before, or that after a step. What it might have left before stays so.
pub record Passes (step : Step) (old new : ClosedState) : Type 0 where
  pub later : old.moment ≤ new.moment
  pub now : Follows step old.may_leave new.may_leave
  pub meanwhile : (t : ℕ) (k : Kept) → t ≤ old.moment → new.left_since t k → old.left_since t k ⊎ After step old.may_leave k
  pub keeps : (t : ℕ) (k : Kept) → t ≤ old.moment → old.left_since t k → new.left_since t k

-- nothing that counts is changed
pub record Calm (old new : ClosedState) : Type 0 where
  pub passes : Passes Same old new
  pub files : new.files ≡ old.files

-- nothing is changed, nor what is written beside
pub record Still (old new : ClosedState) : Type 0 where
  pub calm : Calm old new
  pub beside : new.beside ≡ old.beside

-- these files with one list more, or another one in its place
abbrev pub with_listed : Account → Files → Files
with_listed a f = record {
  whole = f.whole;
  incomplete = f.incomplete;
  packed = f.packed;
  kept = f.kept;
  checkpoint = f.checkpoint;
  listed = f.listed;
  lists = with_list a f.lists;
}

-- what is written beside becomes the list of a cycle
pub record Names (cycle : ℕ) (old new : ClosedState) : Type 0 where
  pub passes : Passes (MayPut (account_with cycle old.beside)) old new
  pub files : new.files ≡ with_listed (account_with cycle old.beside) old.files

-- all names of lists are on the disk
abbrev pub AreNamed : ClosedState → Type 0
AreNamed d = (k : Kept) → d.may_leave k → k.lists ≡ d.files.lists

-- What is so at each moment.
pub record IsClosedDisk (d : ClosedState) : Type 0 where
  pub read : AreRead d.files
  -- a kill leaves what reads show
  pub stays : d.may_leave (kept_of d.files)
  -- this moment is one of those since an earlier one, and since this one there is no other
  pub counts_now : (t : ℕ) (k : Kept) → t ≤ d.moment → d.may_leave k → d.left_since t k
  pub only_now : (k : Kept) → d.left_since d.moment k → d.may_leave k

-- no file, to which nothing happens
abbrev pub untold : ClosedState
untold = record {
  files = no_files;
  beside = [];
  is_synced = true;
  may_leave = λ _. ⊤;
  moment = 0;
  left_since = λ _ _. ⊤;
}
