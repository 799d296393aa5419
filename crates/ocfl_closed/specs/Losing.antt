-- The disk that loses the most that the calls allow: after each call a cut may leave all that was
-- possible before, changed by the call or not, and a sync takes away only what it has to.
use Rattle.std.specs.Prelude.{◌≡◌, ◌⊎◌, ℕ, ◌+◌, ◌≤◌, Bool, true, false, IsTrue, List, [], ◌∷◌}
use Rattle.ocfl_tree.specs.Place.{Text}
use Rattle.ocfl_accounts.specs.{Kept.{account_with}, Crash.{Outcomes, After, MayPut}}
use Rattle.ocfl_closed.specs.Files.{Files, kept_of}
use Rattle.ocfl_closed.specs.Cut.{ClosedState, Calm, Still, Names, AreNamed, with_listed}

-- the next moment
abbrev pub next : Files → Text → Bool → Outcomes → ClosedState → ClosedState
next files beside is_synced may_leave d = record {
  files = files;
  beside = beside;
  is_synced = is_synced;
  may_leave = may_leave;
  moment = d.moment + 1;
  left_since = λ t k. ((t ≤ d.moment) × d.left_since t k) ⊎ may_leave k;
}

-- a list is made, or ended with these bytes, of which nothing is on the disk
abbrev pub after_list : Text → ClosedState → ClosedState
after_list list d = next d.files list false d.may_leave d

abbrev pub after_sync : ClosedState → ClosedState
after_sync d = next d.files d.beside true d.may_leave d

abbrev pub after_rename : ℕ → ClosedState → ClosedState
after_rename cycle d = next (with_listed (account_with cycle d.beside) d.files) d.beside d.is_synced (After (MayPut (account_with cycle d.beside)) d.may_leave) d

abbrev pub after_sync_folder : ClosedState → ClosedState
after_sync_folder d = next d.files d.beside d.is_synced (λ k. d.may_leave k × (k.lists ≡ d.files.lists)) d

pub data ListCall : Type 0 where
  list : Text → ListCall
  sync : ListCall
  rename : ℕ → ListCall
  sync_folder : ListCall

abbrev pub after_call : ListCall → ClosedState → ClosedState
after_call (list bytes) d = after_list bytes d
after_call sync d = after_sync d
after_call (rename cycle) d = after_rename cycle d
after_call sync_folder d = after_sync_folder d

-- these files, which are on the disk
abbrev pub begun : Files → ClosedState
begun files = record {
  files = files;
  beside = [];
  is_synced = true;
  may_leave = λ k. k ≡ kept_of files;
  moment = 0;
  left_since = λ t k. k ≡ kept_of files;
}

-- from these files on, the last call first
abbrev pub after_calls : Files → List ListCall → ClosedState
after_calls files [] = begun files
after_calls files (call ∷ calls) = after_call call (after_calls files calls)

-- what that disk does at each call
pub record Loses (d : ClosedState) : Type 0 where
  pub writes : (bytes : Text) → Calm d (after_list bytes d) × ((after_list bytes d).beside ≡ bytes)
  pub syncs : Still d (after_sync d) × IsTrue (after_sync d).is_synced
  pub renames : (cycle : ℕ) → Names cycle d (after_rename cycle d)
  pub names : Calm d (after_sync_folder d) × AreNamed (after_sync_folder d)
