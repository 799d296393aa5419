-- Worked cases: where opened files lie, and what runs of a part and of the whole are.
use Rattle.std.proofs.Common.{◌≡◌, ◌⊎◌, ◌∙◌, refl, ap, subst, inl, inr, ℕ, List, [], ◌∷◌, ◌++◌, codes, true, false, Bool, Some, None}
use Rattle.ocfl_tree.specs.{Place.{Text, Place}, StorageRoot.{StorageRoot}, Store.{Store, empty_store}, Calls.{opening}}
use Rattle.ocfl_tree.specs.{Ascending.{IsAmong}, declared.store.Opening.{Opening}}
use Rattle.ocfl_report.specs.declared.further.Further.{Further}
use Rattle.ocfl_report.specs.declared.further.Further.TheVariants.{Nothing, Inventories}
use Rattle.ocfl_rules.specs.{Parts.{Part, lies_in, whole}, Runs.{of_budget}}
use Rattle.ocfl_rules.proofs.Cases.Run.{items_of_three_files}
use Rattle.ocfl_rules.proofs.Cases.Trees.{place, text_at, three_files, three_files_listing, three_files_content, sha256_object}
use Rattle.ocfl_item.specs.Auditing.{LiesIn}
use Rattle.ocfl_cursor.specs.Cursor.{new_cursor, behind}
use Rattle.ocfl_scrub.specs.{Call.{Call, call_of}, Joining.{PartRun}, Starting.{entry}}
use Rattle.ocfl_scrub.specs.declared.running.RunStatus.TheVariants as run
use Rattle.ocfl_laws.specs.{Joined.{IsPartCycle}, Openings.{OpensNear, OpensWithin}, Whole.{RunsCleanly}}

-- ---- runs of a part

-- a cycle of a part begins with its first item, and not after the storage root's
no_cycle_begins_behind_the_root : (runs : List PartRun) → IsPartCycle Nothing three_files (record { part = whole; first = record (new_cursor Nothing) { state = behind [] }; runs = runs }) → ⊥
no_cycle_begins_behind_the_root runs h = let m : Some [] ≡ None = h.begins in cc

-- ---- runs of the whole

abbrev over : StorageRoot → Store
over root = record empty_store { tree = root }

abbrev calm_call : Call
calm_call = call_of Nothing three_files (over three_files) (over three_files) None None

-- a budget of nine leaves nothing of three files, which cost 4, 1 and 4
nine_are_enough_for_the_whole : (spent files : ℕ) (finding : Bool) → RunsCleanly calm_call (new_cursor Nothing) (of_budget 9) spent files finding run.Spent → ⊥
nine_are_enough_for_the_whole spent files finding h = h.1 (rw items_of_three_files refl)

-- ---- where opened files lie

-- a call that listed these directories and opened these files
abbrev looking_call : Further → StorageRoot → List Place → List Opening → Call
looking_call further root listed trail = call_of further root (over root) (record (over root) { listings = listed; openings = trail }) None None

abbrev opened : Place → List Opening
opened p = opening p 3 false ∷ []

-- what is two names deep or more is not right in the storage root
below_the_root : (a b : Text) (rest : Place) → LiesIn ([] ∷ []) (a ∷ b ∷ rest) → ⊥
below_the_root a b rest h = by h.0 h.1.0 h.1.1.0 h.1.1.1
  where
    by : (d : Place) (n : Text) → IsAmong ([] ∷ []) d → a ∷ b ∷ rest ≡ d ++ n ∷ [] → ⊥
    by d n (inl e) is = let m : a ∷ b ∷ rest ≡ n ∷ [] = is ∙ ap (λ q. q ++ n ∷ []) e in cc
    by d n (inr k) is = k

-- an object's inventory is not opened if only the storage root was listed
no_inventory_below_what_was_listed : OpensNear (looking_call Nothing three_files ([] ∷ []) (opened (place "o/inventory.json"))) ([] ∷ []) → ⊥
no_inventory_below_what_was_listed h =
    let o : Opening = opening (place "o/inventory.json") 3 false in
    let e : o ∷ [] ≡ h.trail = h.openings_are in
    below_the_root (codes "o") (codes "inventory.json") [] (h.near o (subst (λ os. IsAmong os o) e (inl refl)))

-- with an inventory in its version directory
abbrev version_with_inventory : StorageRoot
version_with_inventory = sha256_object three_files_listing (three_files_content ++ text_at "o/v1/inventory.json" "{}" ∷ [])

-- only its sidecar may lie beside it in a directory that was not listed, and no other file
no_content_beside_an_inventory : OpensNear (looking_call Inventories version_with_inventory ([] ∷ []) (opened (place "o/v1/f"))) ([] ∷ []) → ⊥
no_content_beside_an_inventory h =
    let o : Opening = opening (place "o/v1/f") 3 false in
    let e : o ∷ [] ≡ h.trail = h.openings_are in
    below_the_root (codes "o") (codes "v1") (codes "f" ∷ []) (h.content o (subst (λ os. IsAmong os o) e (inl refl)) refl)

-- from `o2` on
abbrev second_part : Part
second_part = record { under = []; from = Some (place "o2"); below = None }

-- a call on it lists nothing of `o1`
no_directory_of_another_part : OpensWithin second_part None (looking_call Nothing three_files (place "o1" ∷ []) []) → ⊥
no_directory_of_another_part h =
    let e : place "o1" ∷ [] ≡ h.listed = h.opens.listings_are in
    by (h.there (place "o1") (subst (λ ds. IsAmong ds (place "o1")) e (inl refl)))
  where
    by : (lies_in second_part (place "o1") ≡ true) ⊎ ((q : Place) × (entry second_part None ≡ Some (place "o1" ++ q))) → ⊥
    by (inl m) = let two : false ≡ true = m in cc
    by (inr m) = let two : Some [] ≡ Some (codes "o1" ∷ m.0) = m.1 in cc
