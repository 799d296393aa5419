-- Worked cases: single rules, each on as little as shows it.
use Rattle.std.proofs.Common.{◌≡◌, [], ◌∷◌, codes, refl, map, true, false, Some, None}
use Rattle.ocfl_tree.specs.StorageRoot.{file}
use Rattle.ocfl_report.specs.Text.{text}
use Rattle.ocfl_report.specs.declared.code.Code.TheVariants.{Clean, E072, E092, E093, S08}
use Rattle.ocfl_report.specs.declared.further.Further.TheVariants.{Nothing}
use Rattle.ocfl_inventory.specs.Note.{plain}
use Rattle.ocfl_digest.specs.declared.algorithm.Algorithm.TheVariants.{Md5, Sha1, Sha256, Sha512}
use Rattle.ocfl_rules.specs.{Head.{digest_of}, Lines.{is_empty, hierarchy_notes, is_inventory_or_sidecar, object_notes}}
use Rattle.ocfl_rules.specs.{Zone.{hierarchy, zone}, Audit.{item_of, named_places, candidates, has_lines, audit}}
use Rattle.ocfl_rules.proofs.Cases.OnLiterals.{audit_on_literals}
use Rattle.ocfl_rules.proofs.Cases.Trees.{abc, place, text_at, folder, storage_root, object, listing, lists_f, f_is_abc, three_files, missing_and_right, item}

-- of the bytes `abc`
digests_of_three_bytes : map (λ a. digest_of a (codes "abc")) (Md5 ∷ Sha1 ∷ Sha256 ∷ Sha512 ∷ []) ≡ codes (abc Md5) ∷ codes (abc Sha1) ∷ codes (abc Sha256) ∷ codes (abc Sha512) ∷ []
unfolding audit_on_literals
digests_of_three_bytes = refl

file_of_the_hierarchy : hierarchy_notes [] (place "y/z") (Some (file [])) ≡ plain E072 ∷ []
file_of_the_hierarchy = refl

-- only the directory `extensions` is left alone
logs_of_the_storage_root : zone (storage_root (folder "logs" ∷ [])) (place "logs/x") ≡ hierarchy
logs_of_the_storage_root = refl

names_beside_an_inventory : map is_inventory_or_sidecar (codes "inventory.json" ∷ codes "inventory.json.sha256" ∷ codes "inventory.json.sha512" ∷ codes
    "inventory.json.sha1" ∷ []) ≡ true ∷ true ∷ true ∷ false ∷ []
names_beside_an_inventory = refl

file_where_the_head_stops : object_notes (folder "o" ∷ text_at "o/x" "" ∷ []) (place "o/x") None None (place "x") ≡ []
file_where_the_head_stops = refl

-- ---- places and their items

-- the storage root is no place of the tree
places_that_may_have_lines : candidates (storage_root (folder "x" ∷ [])) ≡ [] ∷ place "0=ocfl_1.1" ∷ place "x" ∷ []
places_that_may_have_lines = refl

-- `a` as often as it has digests
places_that_a_table_names : named_places missing_and_right (place "o") ≡ place "o/v1/content/a" ∷ place "o/v1/content/a" ∷ place "o/v1/content/b" ∷ []
unfolding audit_on_literals
places_that_a_table_names = refl

one_line : is_empty (plain Clean ∷ []) ≡ false
one_line = refl

-- a missing file costs nothing
lines_of_a_missing_file : (has_lines (item "o/v1/content/a" 0 (plain E092 ∷ plain E093 ∷ [])) ≡ true) × (has_lines (item "o/v1/content/a" 4 []) ≡ false)
lines_of_a_missing_file = (refl, refl)

-- two of its three bytes were read
item_of_an_unread_file : item_of Nothing three_files ((place "o/v1/content/a", 2) ∷ []) (place "o/v1/content/a") ≡ item "o/v1/content/a" 3 (plain S08 ∷ [])
unfolding audit_on_literals
item_of_an_unread_file = refl

-- of an object without a sidecar
audit_with_an_unread_file : text (audit Nothing (object (listing lists_f) (folder "o/v1" ∷ folder "o/v1/content" ∷ f_is_abc)) ((place "o/v1/content/f", 2) ∷ []))
    ≡ codes "ok\t.\t-\nE058\to\t-\nS08\to/v1/content/f\t-\n"
unfolding audit_on_literals
audit_with_an_unread_file = refl
