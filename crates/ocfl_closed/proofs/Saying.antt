-- What is said of a cycle, by what it is made with.
use Rattle.std.proofs.Common.{◌≡◌, ◌⊎◌, ℕ, inl, inr, Bool, List, Option}
use Rattle.ocfl_tree.specs.Place.{Text, Place}
use Rattle.ocfl_state.specs.Checkpoint.{Checkpoint}
use Rattle.ocfl_accounts.specs.{Changes.{Finds}, Kept.{Account}, declared.pair.Pair.{Pair}}
use Rattle.ocfl_closed.specs.{Back.{AreBack}, Cut.{with_listed}, Files.{Files, kept_of}}
use Rattle.ocfl_closed.specs.Words.{Means, beside_by, runs_in, said_beside, said_by}

pub found_by : (m : Means) (f : Files) (pair : Pair) (back : List Place) (text : Text) (is_grave : Bool) (list : Text) → AreBack (kept_of f) pair back
    → Finds (kept_of f) pair (said_beside (beside_by m (runs_in f pair) back)) text is_grave list → Finds (kept_of f) pair (said_by m f.checkpoint) text is_grave list
found_by m f pair back text is_grave list are_back h = record {
  changes = h.changes;
  are = h.are;
  said = record { lists = f.lists; back = back; are_back = are_back; said = h.said };
  listed = h.listed;
}

-- no call changes a checkpoint, nor what texts are made with
pub with_same : (m n : Means) (f g : Files) → n ≡ m → g ≡ f → ◌≡◌ {A = Means × (ℕ → Option Checkpoint)} (n, g.checkpoint) (m, f.checkpoint)
with_same m n f g same files = λ i. (same i, (files i).checkpoint)

pub with_put : (a : Account) (m n : Means) (f g : Files) → n ≡ m → (g ≡ f) ⊎ (g ≡ with_listed a f) → ◌≡◌ {A = Means × (ℕ → Option Checkpoint)} (n, g.checkpoint) (m, f.checkpoint)
with_put a m n f g same (inl files) = λ i. (same i, (files i).checkpoint)
with_put a m n f g same (inr files) = λ i. (same i, (files i).checkpoint)
