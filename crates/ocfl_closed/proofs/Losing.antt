-- The disk that loses the most is one.
use Rattle.std.proofs.Common.{◌≡◌, ◌⊎◌, inl, inr, ℕ, ◌+◌, ◌≤◌, Bool, true, false, List, [], ◌∷◌, refl, arith}
use Rattle.ocfl_tree.specs.Place.{Text}
use Rattle.ocfl_accounts.specs.{Kept.{Kept, account_with}, Crash.{Step, Same, MayPut, Outcomes, After, Follows}}
use Rattle.ocfl_closed.specs.{Files.{Files, AreRead, kept_of}, Cut.{ClosedState, Passes, IsClosedDisk, with_listed}}
use Rattle.ocfl_closed.specs.Losing.{next, ListCall, list, sync, rename, sync_folder, after_call, after_calls, Loses}

-- the next moment is one of a disk if a kill leaves there what reads show
next_is_disk : (files : Files) (beside : Text) (is_synced : Bool) (may : Outcomes) (d : ClosedState) → AreRead files → may (kept_of files) → IsClosedDisk (next files beside is_synced may d)
next_is_disk files beside is_synced may d read stays = record {
  read = read;
  stays = stays;
  counts_now = λ t k le m. inr m;
  only_now = λ k h. by k h;
}
  where
    by : (k : Kept) → ((d.moment + 1 ≤ d.moment) × d.left_since (d.moment + 1) k) ⊎ may k → may k
    by k (inl h) = let le = h.0 in absurd (omega (arith, le))
    by k (inr m) = m

-- a call passes after which a cut may leave what it might have left, after a step
next_passes : (step : Step) (files : Files) (beside : Text) (is_synced : Bool) (may : Outcomes) (d : ClosedState) → Follows step d.may_leave may → Passes step d (next files beside is_synced may d)
next_passes step files beside is_synced may d follows = record {
  later = omega arith;
  now = follows;
  meanwhile = λ t k le m. by t k m;
  keeps = λ t k le m. inl (le, m);
}
  where
    by : (t : ℕ) (k : Kept) → ((t ≤ d.moment) × d.left_since t k) ⊎ may k → d.left_since t k ⊎ After step d.may_leave k
    by t k (inl h) = inl h.1
    by t k (inr m) = inr (follows k m)

pub loses : (d : ClosedState) → Loses d
loses d = record {
  writes = λ bytes. (record { passes = next_passes Same d.files bytes false d.may_leave d (λ k m. (k, m, refl)); files = refl }, refl);
  syncs = (record { calm = record { passes = next_passes Same d.files d.beside true d.may_leave d (λ k m. (k, m, refl)); files = refl }; beside = refl }, refl);
  renames = λ cycle. record { passes = next_passes (MayPut (account_with cycle d.beside)) (with_listed (account_with cycle d.beside) d.files) d.beside d.is_synced (After (MayPut (account_with cycle d.beside)) d.may_leave) d (λ k m. m); files = refl };
  names = (
    record { passes = next_passes Same d.files d.beside d.is_synced (λ k. d.may_leave k × (k.lists ≡ d.files.lists)) d (λ k m. (k, m.0, refl)); files = refl },
    λ k m. m.1,
  );
}

call_is_disk : (call : ListCall) (d : ClosedState) → IsClosedDisk d → IsClosedDisk (after_call call d)
call_is_disk (list bytes) d is = next_is_disk d.files bytes false d.may_leave d is.read is.stays
call_is_disk sync d is = next_is_disk d.files d.beside true d.may_leave d is.read is.stays
call_is_disk (rename cycle) d is =
    next_is_disk (with_listed (account_with cycle d.beside) d.files) d.beside d.is_synced (After (MayPut (account_with cycle d.beside)) d.may_leave) d is.read (kept_of d.files, is.stays, inr refl)
call_is_disk sync_folder d is = next_is_disk d.files d.beside d.is_synced (λ k. d.may_leave k × (k.lists ≡ d.files.lists)) d is.read (is.stays, refl)

pub is_disk : (files : Files) → AreRead files → (calls : List ListCall) → IsClosedDisk (after_calls files calls)
is_disk files read [] = record { read = read; stays = refl; counts_now = λ t k le m. m; only_now = λ k m. m }
is_disk files read (call ∷ calls) = call_is_disk call (after_calls files calls) (is_disk files read calls)
