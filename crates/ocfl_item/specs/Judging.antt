-- What judging an item does: a content file that is hashed is opened once.
use Rattle.std.specs.Prelude.{◌≡◌, ◌<◌, ◌≤◌, ◌^◌, ◌+◌, if◌then◌else◌, ℕ, List, [], ◌∷◌, Bool, true, false, length, Some, None}
use Rattle.ocfl_tree.specs.{Place.{Text, Place}, StorageRoot.{StorageRoot, file, at}, Store.{Store}}
use Rattle.ocfl_tree.specs.declared.store.Opening.{Opening}
use Rattle.ocfl_report.specs.Line.{Line}
use Rattle.ocfl_report.specs.declared.further.Further.{Further}
use Rattle.ocfl_rules.specs.{Trail.{places_of}, Due.{items_at, hashed_among}}
use Rattle.ocfl_item.specs.Auditing.{Audits, Fails}

-- each file has fewer than 2^62 bytes
abbrev pub HasShortFiles : StorageRoot → Type 0
HasShortFiles root = (p : Place) (bytes : Text) → at root p ≡ Some (file bytes) → length bytes < 2 ^ 62

-- from s to t the item at p was judged: its file was opened if it is hashed, and else nothing;
-- nothing was listed
pub record Judges (further : Further) (root : StorageRoot) (s t : Store) (p : Place) (lines : List Line) (cost : ℕ) : Type 0 where
  pub trail : List Opening
  pub audits : Audits further root s t (p ∷ []) [] [] trail
  pub alone : places_of trail ≡ hashed_among further root (p ∷ [])
  pub item : items_at further root trail (p ∷ []) ≡ record { place = p; lines = lines; cost = cost } ∷ []

-- from s to t the item at p was not judged: its file was opened once, or not at all
pub record JudgeFails (further : Further) (root : StorageRoot) (s t : Store) (p : Place) : Type 0 where
  pub trail : List Opening
  pub part : Bool
  pub fails : Fails further root s t (if part then p ∷ [] else []) [] [] trail None
  pub alone : places_of trail ≡ (if part then hashed_among further root (p ∷ []) else [])

-- what an item may cost on every store
abbrev pub CostFits : Bool → ℕ → Type 0
CostFits true cost = (1 ≤ cost) × (cost ≤ 2 ^ 62 + 1)
CostFits false cost = cost ≡ 0
