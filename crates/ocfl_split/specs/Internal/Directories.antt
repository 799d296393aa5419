-- Directories as they are collected from listings.
use Rattle.std.specs.Prelude.{◌≡◌, ℕ, ◌<◌, ◌&&◌, ◌≤◌, not, length, All, List, [], ◌∷◌, ◌++◌, Bool, true, false, Some, filter, map}
use Rattle.ocfl_tree.specs.{Place.{Text, Place, place_cmp}, Ascending.{IsAscending, IsAmong}}
use Rattle.ocfl_tree.specs.{StorageRoot.{StorageRoot}, declared.store.Entry.{Entry}}
use Rattle.ocfl_item.specs.Ways.{is_dir_kind, is_extensions_name, is_listable}
use Rattle.ocfl_split.specs.{Levels.{directories_below}, Splitting.{max_held}}

-- an entry of a directory of the hierarchy that is a directory of it too
abbrev pub is_directory_entry : Place → Entry → Bool
is_directory_entry d e = is_dir_kind (Some e.kind) && not (is_extensions_name d e.name)

abbrev pub directories_among : Place → List Entry → List Place
directories_among d es = map (λ e. d ++ e.name ∷ []) (filter (is_directory_entry d) es)

-- places in order, each right below one of ds
pub record IsBelow (ds ps : List Place) : Type 0 where
  pub ascend : IsAscending place_cmp ps
  pub under : (z : Place) → IsAmong ps z → (d : Place) × IsAmong ds d × ((n : Text) × (z ≡ d ++ n ∷ []))

-- what was appended are places in order right below d, and they fit
pub record AddsBelow (d : Place) (room : ℕ) (old new : List Place) : Type 0 where
  pub few : length old ≤ room → length new ≤ room
  pub places : List Place
  pub added : new ≡ old ++ places
  pub below : IsBelow (d ∷ []) places

-- the directories of the hierarchy right below d were appended, or there was no room for them
pub record AddsAll (root : StorageRoot) (d : Place) (room : ℕ) (old new : List Place) (fits : Bool) : Type 0 where
  pub added : fits ≡ true → new ≡ old ++ directories_below root d
  pub many : fits ≡ false → room < length (old ++ directories_below root d)

-- places with `depth` names, in order
pub record IsLevel (depth : ℕ) (ps : List Place) : Type 0 where
  pub ascend : IsAscending place_cmp ps
  pub deep : All (λ p. length p ≡ depth) ps
  pub few : length ps ≤ max_held

abbrev pub AreListable : StorageRoot → List Place → Type 0
AreListable root ds = All (λ d. is_listable root d ≡ true) ds
