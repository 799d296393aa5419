-- Worked cases: what is metadata, and what openings show of it.
use Rattle.std.proofs.Common.{◌≡◌, List, [], ◌∷◌, ◌++◌, refl, true, false, map, filter}
use Rattle.ocfl_tree.specs.{Place.{Place}, StorageRoot.{StorageRoot}}
use Rattle.ocfl_tree.specs.declared.store.Opening.{Opening}
use Rattle.ocfl_report.specs.declared.further.Further.TheVariants.{Nothing}
use Rattle.ocfl_rules.specs.Trail.{is_meta, content_trail, unread_of, heads_of}
use Rattle.ocfl_rules.proofs.Cases.OnLiterals.{audit_on_literals}
use Rattle.ocfl_rules.proofs.Cases.Trees.{place, text_at, folder, storage_root, object_in, listing, lists_f}

-- an object `o` and one of unknown version `u`; a directory `h` that is no object; and files named
-- as metadata if there is none
abbrev named_alike : StorageRoot
named_alike = storage_root (
    text_at "notes" "" ∷ text_at "inventory.json" "{}" ∷ text_at "0=ocfl_object_1.1" "ocfl_object_1.1\n" ∷ text_at "0=ocfl_layout" "" ∷
    folder "extensions" ∷ object_in "extensions/e" (listing lists_f) (
    folder "h" ∷ text_at "h/readme" "" ∷ text_at "h/inventory.json" "{}" ∷ text_at "h/inventory.json.sha512" "" ∷ text_at "h/0=ocfl_1.1" "ocfl_1.1\n" ∷
    object_in "o" (listing lists_f) (text_at "o/readme" "" ∷ text_at "o/inventory.json.md5" "" ∷ text_at "o/inventory.json.sha512" "" ∷ text_at "o/0=ocfl_1.1" "" ∷ text_at "o/0=ocfl_object_1.0" "" ∷
    folder "o/v1" ∷ text_at "o/v1/inventory.json" "{}" ∷ text_at "o/v1/inventory.json.sha256" "" ∷ text_at "o/v1/0=ocfl_object_1.1" "" ∷ folder "o/v1/content"
    ∷ text_at "o/v1/content/f" "abc" ∷ text_at "o/v1/content/inventory.json" "" ∷
    object_in "o/v1/content/p" (listing lists_f) (
    folder "u" ∷ text_at "u/0=ocfl_object_2.0" "" ∷ text_at "u/inventory.json" "{}" ∷ []))))

metadata_of_a_tree : filter (is_meta Nothing named_alike) (map (λ e. e.0) named_alike)
    ≡ place "0=ocfl_1.1" ∷ place "o/0=ocfl_object_1.1" ∷ place "o/inventory.json" ∷ place "o/inventory.json.sha256" ∷ place "o/inventory.json.sha512" ∷ place
    "o/0=ocfl_object_1.0" ∷ place "u/0=ocfl_object_2.0" ∷ place "u/inventory.json" ∷ []
unfolding audit_on_literals
metadata_of_a_tree = refl

-- neither the storage root nor an object's root is; and what is not there is by its name
metadata_by_name : map (is_meta Nothing named_alike) ([] ∷ place "o" ∷ place "0=ocfl_1.0" ∷ place "u/inventory.json.sha256" ∷ place "h/inventory.json.sha256" ∷ []) ≡ false ∷ false ∷ true ∷ true ∷ false ∷ []
unfolding audit_on_literals
metadata_by_name = refl

-- nor anything of an object below a storage root of unknown version, but the storage root's own
-- declaration
metadata_of_an_unknown_root : filter (is_meta Nothing (text_at "0=ocfl_2.0" "" ∷ object_in "o" (listing lists_f) []))
    (place "0=ocfl_2.0" ∷ place "o/0=ocfl_object_1.1" ∷ place "o/inventory.json" ∷ []) ≡ place "0=ocfl_2.0" ∷ []
unfolding audit_on_literals
metadata_of_an_unknown_root = refl

-- ---- openings of all that is in it

-- each failed, with two bytes
abbrev failed : Place → Opening
failed p = record { place = p; given = 2; failed = true }

abbrev some_openings : List Opening
some_openings = map failed (place "o/inventory.json" ∷ place "h/readme" ∷ place "notes" ∷ place "o/v1/inventory.json" ∷ place "o/readme" ∷ place "h/inventory.json" ∷ place "u/inventory.json" ∷ [])

-- each that is no metadata counts
openings_beside_metadata : content_trail Nothing named_alike some_openings ≡ place "h/readme" ∷ place "notes" ∷ place "o/v1/inventory.json" ∷ place "o/readme" ∷ place "h/inventory.json" ∷ []
unfolding audit_on_literals
openings_beside_metadata = refl

failures_beside_metadata : unread_of Nothing named_alike some_openings ≡ (place "h/readme", 2) ∷ (place "notes", 2) ∷ (place "o/v1/inventory.json", 2)
    ∷ (place "o/readme", 2) ∷ (place "h/inventory.json", 2) ∷ []
unfolding audit_on_literals
failures_beside_metadata = refl

-- and an inventory opened twice counts twice
opened_inventories : heads_of named_alike (some_openings ++ failed (place "o/inventory.json") ∷ []) ≡ place "o" ∷ place "u" ∷ place "o" ∷ []
unfolding audit_on_literals
opened_inventories = refl
