-- What calls above the store did to a store that tells its tree: one record if they succeed, and
-- one for a fault.
use Rattle.std.specs.Prelude.{◌≡◌, ◌⊎◌, ◌&&◌, ℕ, ◌+◌, List, [], ◌∷◌, ◌++◌, true, false, filter, length, Option, Some, is_some}
use Rattle.ocfl_tree.specs.{Place.{Text, Place}, Ascending.{IsAmong}, StorageRoot.{StorageRoot}}
use Rattle.ocfl_tree.specs.{Store.{Store, Did}, Calls.{opening}, declared.store.Opening.{Opening}}
use Rattle.ocfl_report.specs.declared.further.Further.{Further}
use Rattle.ocfl_report.specs.declared.further.Further.TheVariants.{Nothing, Inventories}
use Rattle.ocfl_rules.specs.Inventories.{version_inventory, is_hashed}
use Rattle.ocfl_rules.specs.Trail.{is_meta, content_trail, unread_of, heads_of}
use Rattle.ocfl_rules.specs.Due.{hashed_among}
use Rattle.ocfl_item.specs.Looking.{failures_at}

-- of the declarations, inventories and sidecars that were opened none failed
abbrev pub IsMetadataRead : Further → StorageRoot → List Opening → Type 0
IsMetadataRead further root trail = filter (λ o. o.failed && is_meta further root o.place) trail ≡ []

-- a place is right in one of these directories
abbrev pub LiesIn : List Place → Place → Type 0
LiesIn dirs p = (d : Place) × ((n : Text) × (IsAmong dirs d × (p ≡ d ++ n ∷ [])))

-- a place is right in the directory of an inventory of a version that is seen
abbrev pub LiesBeside : StorageRoot → Place → Place → Type 0
LiesBeside root inventory p =
    (is_some (version_inventory root inventory) ≡ true) × ((d : Place) × ((m : Text) × ((n : Text) × ((inventory ≡ d ++ m ∷ []) × (p ≡ d ++ n ∷ [])))))

-- a place is right in one of these directories, or beside such an inventory if these are checked: all
-- above what is seen was listed before
abbrev pub LiesNear : Further → StorageRoot → List Place → Place → Type 0
LiesNear Nothing root dirs p = LiesIn dirs p
LiesNear Inventories root dirs p = LiesIn dirs p ⊎ ((inventory : Place) × LiesBeside root inventory p)

-- so is each declaration, inventory and sidecar that was opened
abbrev pub LieIn : Further → StorageRoot → List Place → List Opening → Type 0
LieIn further root dirs trail = (o : Opening) → IsAmong trail o → is_meta further root o.place ≡ true → LiesNear further root dirs o.place

-- from s to t these places were audited: the content files of those that are hashed were opened, in
-- order, and nothing failed but these openings; these directories were listed, and the inventories
-- of these objects opened, in order; of metadata only files near these directories were opened
pub record Audits (further : Further) (root : StorageRoot) (s t : Store) (places listed heads : List Place) (trail : List Opening) : Type 0 where
  pub over : s.tree ≡ root
  pub did : Did s t trail listed (length (unread_of further root trail))
  pub read : IsMetadataRead further root trail
  pub opened : content_trail further root trail ≡ hashed_among further root places
  pub heads_are : heads_of root trail ≡ heads
  pub near : LieIn further root listed trail

-- the call that failed was the last listing, which alone of listings failed, and no metadata did; or
-- it was the last opening, which failed, and no listing did
pub data FailedAt (further : Further) (root : StorageRoot) (s t : Store) (listed : List Place) (trail : List Opening) (q : Place) : Type 0 where
  in_listing : (before : List Place) → listed ≡ before ++ q ∷ [] → t.failed_listings ≡ s.failed_listings ++ q ∷ [] → IsMetadataRead further root trail
      → FailedAt further root s t listed trail q
  in_opening : (before : List Opening) (given : ℕ) → trail ≡ before ++ opening q given true ∷ [] → t.failed_listings ≡ s.failed_listings → FailedAt further root s t listed trail q

-- the same, and then the store failed at a place, which is no hashed file's, or nothing of it did
pub record Fails (further : Further) (root : StorageRoot) (s t : Store) (places listed heads : List Place) (trail : List Opening) (failed : Option Place) : Type 0 where
  pub over : s.tree ≡ root
  pub did : Did s t trail listed (length (unread_of further root trail) + failures_at failed)
  pub opened : content_trail further root trail ≡ hashed_among further root places
  pub heads_are : heads_of root trail ≡ heads
  pub near : LieIn further root listed trail
  pub store : (q : Place) → failed ≡ Some q → (is_hashed further root q ≡ false) × FailedAt further root s t listed trail q
