-- Worked cases: the storage root, the hierarchy, and the text of places.
use Rattle.std.proofs.Common.{◌≡◌, ◌<◌, arith, ℕ, [], ◌∷◌, ◌++◌, codes, refl, Bool, true, false, ◌&&◌, nat_le, if◌then◌else◌, length, replicate, Some, None}
use Rattle.std.specs.declared.cmp.Ordering.TheVariants.{Less}
use Rattle.ocfl_tree.specs.Place.{Text, Place, place_cmp, text_cmp}
use Rattle.ocfl_tree.specs.{StorageRoot.{StorageRoot, file, dir, other, is_dir}, Name.{IsPlace}}
use Rattle.ocfl_report.specs.{Line.{found}, Text.{escape, place_text}}
use Rattle.ocfl_report.specs.declared.code.Code.TheVariants.{E001, E024, E072, E073, S04, S05}
use Rattle.ocfl_report.specs.declared.further.Further.TheVariants.{Nothing}
use Rattle.ocfl_inventory.specs.{Note.{plain}, Declaration.{undeclared, declared}}
use Rattle.ocfl_inventory.specs.{declared.declaration.Level.TheVariants.{Object}, Table.{Table}}
use Rattle.ocfl_digest.specs.declared.algorithm.Algorithm.TheVariants.{Sha256}
use Rattle.ocfl_rules.specs.Zone.{hierarchy, is_entered, is_listed_zone, zone, object_declared, seen, files_in}
use Rattle.ocfl_rules.specs.Inventories.{notes}
use Rattle.ocfl_rules.specs.Lines.{hierarchy_notes, object_entry_notes, version_entry_notes, content_notes}
use Rattle.ocfl_rules.specs.Audit.{audit}
use Rattle.ocfl_rules.proofs.Cases.OnLiterals.{audit_on_literals}
use Rattle.ocfl_rules.proofs.Cases.Trees.{AllAre, reports, place, text_at, bytes_at, folder, link, storage_root}

-- ---- the declaration of the storage root

declared_root_is_no_finding : found (audit Nothing (storage_root []) []) ≡ false
unfolding audit_on_literals
declared_root_is_no_finding = refl

empty_root_is_finding : found (audit Nothing [] []) ≡ true
unfolding audit_on_literals
empty_root_is_finding = refl

root_declarations : AllAre (
    -- Seen to refuse: files in the storage root are reported.
    reports "declared_root" (storage_root []) "ok\t.\t-\n" ∷
    reports "root_of_the_older_version" (text_at "0=ocfl_1.0" "ocfl_1.0\n" ∷ []) "ok\t.\t-\n" ∷
    reports "empty_root" [] "E069\t.\t-\n" ∷
    -- the root is then the only item
    reports "undeclared_root_stops" (folder "x" ∷ folder "y" ∷ text_at "y/readme" "" ∷ link "z" ∷ []) "E069\t.\t-\n" ∷
    -- the audit goes on
    reports "root_declaration_without_line_feed" (text_at "0=ocfl_1.1" "ocfl_1.1" ∷ folder "x" ∷ []) "E080\t.\t-\nE073\tx\t-\n" ∷
    reports "root_declaration_of_another_version" (text_at "0=ocfl_1.0" "ocfl_1.1\n" ∷ []) "E080\t.\t-\n" ∷
    -- its right bytes, and 4,088 more
    reports "long_root_declaration" (bytes_at "0=ocfl_1.1" (codes "ocfl_1.1\n" ++ replicate 4088 10) ∷ []) "E080\t.\t-\n" ∷
    reports "two_root_declarations" (text_at "0=ocfl_1.0" "ocfl_1.0\n" ∷ storage_root (folder "x" ∷ [])) "E076\t.\t-\n" ∷
    reports "known_and_unknown_declaration" (text_at "0=ocfl_2.0" "ocfl_2.0\n" ∷ storage_root []) "E076\t.\t-\n" ∷
    reports "unknown_root_version" (text_at "0=ocfl_2.0" "ocfl_2.0\n" ∷ folder "x" ∷ text_at "y/readme" "" ∷ []) "S01\t.\t2.0\n" ∷
    reports "longer_root_version" (text_at "0=ocfl_1.1.1" "ocfl_1.1\n" ∷ []) "S01\t.\t1.1.1\n" ∷
    -- a name counts if a digit follows
    reports "declaration_without_digit" (text_at "0=ocfl_layout" "" ∷ text_at "0=ocfl_" "" ∷ []) "E069\t.\t-\n" ∷
    -- only files count
    -- Seen to refuse: directories declare.
    reports "directory_and_link_declare_nothing" (folder "0=ocfl_1.0" ∷ link "0=ocfl_1.1" ∷ []) "E069\t.\t-\n" ∷
    -- files that are not understood; the storage root is no object
    reports "object_declarations_in_the_base" (storage_root (text_at "0=ocfl_object_1.0" "" ∷ text_at "0=ocfl_object_1.1" "ocfl_object_1.1\n" ∷ [])) "ok\t.\t-\n" ∷
    [])
unfolding audit_on_literals
root_declarations = refl

-- ---- the base and the hierarchy

base_and_hierarchies : AllAre (
    reports "base_and_hierarchy" (storage_root
    (link "z" ∷ folder "y" ∷ text_at "y/readme" "" ∷ folder "x" ∷ folder "extensions" ∷ folder "extensions/k" ∷ text_at "notes" "n" ∷ [])) "ok\t.\t-\nE073\tx\t-\nE072\ty/readme\t-\nS04\tz\t-\n" ∷
    reports "extensions_as_file" (storage_root (text_at "extensions" "" ∷ [])) "ok\t.\t-\n" ∷
    reports "extensions_as_link" (storage_root (link "extensions" ∷ [])) "ok\t.\t-\nS04\textensions\t-\n" ∷
    -- nothing in them is looked at
    -- Seen to refuse: `extensions` is entered.
    reports "inside_extensions" (storage_root
    (folder "extensions" ∷ text_at "extensions/f" "" ∷ link "extensions/l" ∷ folder "extensions/o" ∷ text_at "extensions/o/0=ocfl_object_1.1" "" ∷ [])) "ok\t.\t-\n" ∷
    -- nor whether they are empty
    reports "empty_extensions" (storage_root (folder "extensions" ∷ [])) "ok\t.\t-\n" ∷
    -- only those of the base are kept apart
    reports "extensions_below_the_base" (storage_root (folder "y" ∷ folder "y/extensions" ∷ [])) "ok\t.\t-\nE073\ty/extensions\t-\n" ∷
    reports "nested_directories" (storage_root (folder "a" ∷ folder "a/b" ∷ folder "a/b/c" ∷ text_at "a/b/f" "" ∷ link "a/l" ∷ [])) "ok\t.\t-\nE073\ta/b/c\t-\nE072\ta/b/f\t-\nS04\ta/l\t-\n" ∷
    -- a place below no directory, or below a file, is not there
    reports "place_without_directory" (storage_root (folder "a/b" ∷ text_at "a/b/0=ocfl_object_1.1" "ocfl_object_1.1\n" ∷ text_at "f" "" ∷ text_at "f/g" "" ∷ [])) "ok\t.\t-\n" ∷
    -- a directory is no object by a directory of that name
    reports "directory_named_as_object_declaration" (storage_root (folder "x" ∷ folder "x/0=ocfl_object_1.1" ∷ [])) "ok\t.\t-\nE073\tx/0=ocfl_object_1.1\t-\n" ∷
    -- as places, not as texts
    reports "order_of_items" (storage_root (folder "a-b" ∷ folder "b" ∷ folder "a" ∷ folder "a/c" ∷ folder "a/b" ∷ [])) "ok\t.\t-\nE073\ta/b\t-\nE073\ta/c\t-\nE073\ta-b\t-\nE073\tb\t-\n" ∷
    [])
unfolding audit_on_literals
base_and_hierarchies = refl

-- a directory that is skipped is not entered, and so nothing in it is seen
skipped_and_not_seen : let root : StorageRoot = storage_root (folder "extensions" ∷ folder "extensions/k" ∷ folder "x" ∷ folder "x/k" ∷ []) in
    (seen root (place "extensions") ≡ Some dir) × (seen root (place "extensions/k") ≡ None) × (seen root (place "x/k") ≡ Some dir)
unfolding audit_on_literals
skipped_and_not_seen = (refl, refl, refl)

-- nor anything in a storage root of unknown version
unknown_root_not_seen : (seen (text_at "0=ocfl_2.0" "" ∷ folder "x" ∷ []) [] ≡ Some dir) × (seen (text_at "0=ocfl_2.0" "" ∷ folder "x" ∷ []) (place "x") ≡ None)
unfolding audit_on_literals
unknown_root_not_seen = (refl, refl)

-- ---- the order of places

beginning_before_extension : place_cmp (place "a") (place "a/b") ≡ Less
beginning_before_extension = refl

slash_before_dash : place_cmp (place "a/b") (place "a-b") ≡ Less
slash_before_dash = refl

root_before_all : place_cmp [] (place "a") ≡ Less
root_before_all = refl

-- names go by their bytes
capitals_before_small_letters : place_cmp (place "B") (place "a") ≡ Less
capitals_before_small_letters = refl

ascii_before_others : text_cmp (codes "z") (0xC3 ∷ 0xA9 ∷ []) ≡ Less
ascii_before_others = refl

ten_before_two : text_cmp (codes "v10") (codes "v2") ≡ Less
ten_before_two = refl

-- ---- the text of a place

text_of_the_root : place_text [] ≡ codes "."
text_of_the_root = refl

percent_in_a_name : place_text (codes "a%" ∷ codes "b" ∷ []) ≡ codes "a%25/b"
percent_in_a_name = refl

escaped_bytes : escape (0 ∷ 10 ∷ 31 ∷ 37 ∷ 127 ∷ 128 ∷ 255 ∷ []) ≡ codes "%00%0A%1F%25%7F%80%FF"
escaped_bytes = refl

plain_bytes : escape (codes " !\"#$&'()*+,-./09:;<=>?@AZ[\\]^_`az{|}~") ≡ codes " !\"#$&'()*+,-./09:;<=>?@AZ[\\]^_`az{|}~"
plain_bytes = refl

-- as `o//f` would have
no_place_has_an_empty_name : IsPlace (codes "o" ∷ [] ∷ codes "f" ∷ []) → ⊥
no_place_has_an_empty_name p = let h : 1 < 3 = omega arith in (p 1 [] h).fits.not_empty refl

-- ---- depths: at most 127 names are listed

-- n names `d`
abbrev deep : ℕ → Place
deep n = replicate n (codes "d")

deepest_entered : (root : StorageRoot) → is_entered root (deep 127) ≡ is_dir root (deep 127) && is_listed_zone root (zone root (deep 127))
deepest_entered root = refl

-- Seen to refuse: directories at depth 128 are listed.
too_deep_to_be_entered : (root : StorageRoot) → is_entered root (deep 128) ≡ false
too_deep_to_be_entered root = refl

object_too_deep : (root : StorageRoot) → object_declared root (deep 128) ≡ undeclared
object_too_deep root = never (is_dir root (deep 128))
  where
    never : (b : Bool) → (if b && nat_le (length (deep 128)) 127 then declared Object (files_in root (deep 128)) else undeclared) ≡ undeclared
    never true = refl
    never false = refl

deepest_object : (root : StorageRoot) → object_declared root (deep 127) ≡ (if is_dir root (deep 127) then declared Object (files_in root (deep 127)) else undeclared)
deepest_object root = by_directory (is_dir root (deep 127))
  where
    by_directory : (b : Bool) → (if b && nat_le (length (deep 127)) 127 then declared Object (files_in root (deep 127)) else undeclared)
        ≡ (if b then declared Object (files_in root (deep 127)) else undeclared)
    by_directory true = refl
    by_directory false = refl

deepest_empty_directory : hierarchy_notes [] (deep 127) (Some dir) ≡ plain E073 ∷ []
deepest_empty_directory = refl

-- Seen to refuse: directories at depth 128 are listed.
directory_too_deep : (root : StorageRoot) → hierarchy_notes root (deep 128) (Some dir) ≡ plain S05 ∷ []
directory_too_deep root = refl

-- also in the audit, wherever one is seen in the hierarchy
-- Seen to refuse: empty before too deep.
seen_directory_too_deep : (root : StorageRoot) → zone root (deep 128) ≡ hierarchy → seen root (deep 128) ≡ Some dir → notes Nothing root None (deep 128) ≡ plain S05 ∷ []
seen_directory_too_deep root where_it_lies is_seen = rw (where_it_lies, is_seen)

-- files and links there have their lines
deepest_file_and_link : (root : StorageRoot) (bytes : Text) → (hierarchy_notes root (deep 128) (Some (file bytes)) ≡ plain E072 ∷ []) × (hierarchy_notes root (deep 128) (Some other) ≡ plain S04 ∷ [])
deepest_file_and_link root bytes = (refl, refl)

-- Seen to refuse: empty before too deep.
version_too_deep : (root : StorageRoot) → object_entry_notes root (deep 128) (codes "v1") (Some dir) ≡ plain S05 ∷ []
version_too_deep root = refl

-- what would not be listed is not too deep
-- Seen to refuse: S05 before E001 at a stray directory.
stray_directory_at_the_depth : (root : StorageRoot) → (object_entry_notes root (deep 128) (codes "junk") (Some dir) ≡ plain E001 ∷ [])
    × (object_entry_notes root (deep 128) (codes "logs") (Some dir) ≡ [])
stray_directory_at_the_depth root = (refl, refl)

abbrev bare_table : Table
bare_table = record { algorithm = Sha256; content = codes "content"; triples = [] }

content_directory_too_deep : (root : StorageRoot) → (version_entry_notes root bare_table (deep 128) (codes "content") (Some dir) ≡ plain S05 ∷ [])
    × (version_entry_notes root bare_table (deep 128) (codes "other") (Some dir) ≡ [])
content_directory_too_deep root = (refl, refl)

-- in place of the line for an empty one
directory_in_content_too_deep : (root : StorageRoot) → (content_notes root (deep 128) [] (Some 0) (Some dir) ≡ plain S05 ∷ []) × (content_notes [] (deep 127) [] (Some 0) (Some dir) ≡ plain E024 ∷ [])
directory_in_content_too_deep root = (refl, refl)
