-- Worked cases: what the names of files declare, and what the texts, keys and paths of inventories
-- say.
use Rattle.std.proofs.Common.{◌≡◌, ℕ, [], ◌∷◌, ◌++◌, codes, refl, arith, true, false, Some, None, replicate}
use Rattle.std.specs.{Prelude.{Ok, Err}, Str.{chars, is_utf8}}
use Rattle.hex.proofs.OnLiterals.{hex_on_literals}
use Rattle.serde_json.specs.Data.{no_members}
use Rattle.ocfl_tree.specs.{Place.{Text, Place}, Path.{elements, slashed}}
use Rattle.ocfl_report.specs.declared.code.Code.TheVariants.{E017, E025, E033, E036, E096, E097, E099, E100, E101, S06, S07}
use Rattle.ocfl_digest.specs.declared.algorithm.Algorithm.{Algorithm}
use Rattle.ocfl_digest.specs.declared.algorithm.Algorithm.TheVariants.{Md5, Sha1, Sha256, Sha512}
use Rattle.ocfl_inventory.specs.Declaration.{undeclared, known, several, is_declaration, declared}
use Rattle.ocfl_inventory.specs.declared.declaration.Level.TheVariants.{Root, Object}
use Rattle.ocfl_inventory.specs.declared.declaration.Version.TheVariants.{V1_1}
use Rattle.ocfl_inventory.specs.ListedPath.{path_fault, is_kept}
use Rattle.ocfl_inventory.specs.{Note.{note, plain}, Notes.{repeated_digests, fault_notes, kept_paths, conflicts, inventory_notes, reading_notes}}
use Rattle.ocfl_inventory.specs.Reading.{Inventory, object_of, digest_algorithm, algorithm_in}
use Rattle.ocfl_inventory.specs.Sidecar.{decoded, leading, is_blank, sidecar_of}
use Rattle.ocfl_inventory.specs.Table.{Named, Triple, Table, table_from, paths_of, IsFit}

-- ---- declarations

-- the prefix, and then a digit
names_that_declare : (is_declaration Root (codes "0=ocfl_1.1") ≡ true)
    × (is_declaration Root (codes "0=ocfl_object_1.1") ≡ false)
    × (is_declaration Object (codes "0=ocfl_object_1.1") ≡ true)
    × (is_declaration Object (codes "0=ocfl_object_x") ≡ false)
names_that_declare = (refl, refl, refl, refl)

-- other files declare nothing
declaration_among_files : (declared Root (codes "README" ∷ []) ≡ undeclared)
    × (declared Root (codes "README" ∷ codes "0=ocfl_1.1" ∷ codes "ocfl_layout.json" ∷ []) ≡ known V1_1)
declaration_among_files = (refl, refl)

two_declarations : declared Root (codes "0=ocfl_1.0" ∷ codes "0=ocfl_1.1" ∷ []) ≡ several
two_declarations = refl

-- ---- the paths that an inventory lists

abbrev content : Text
content = codes "content"

-- a version, the content directory, a name, and so many names more
abbrev deep : ℕ → Text
deep more = slashed (codes "v1" ∷ content ∷ codes "a" ∷ replicate more (codes "a"))

-- with a name of so many bytes
abbrev long : ℕ → Text
long n = codes "v1/content/" ++ replicate n 97

paths_with_an_empty_element : (path_fault content (codes "v1/content//f") ≡ Some E099) × (path_fault content (codes "v1/content/./f") ≡ Some E099)
paths_with_an_empty_element = (refl, refl)

paths_by_the_length_of_a_name : (path_fault content (long 255) ≡ None) × (path_fault content (long 256) ≡ Some S06)
paths_by_the_length_of_a_name = (refl, refl)

path_with_a_nul : path_fault content (codes "v1/content/f" ++ 0 ∷ []) ≡ Some S06
path_with_a_nul = refl

-- 128 elements, and one more
paths_by_the_number_of_elements : (path_fault content (deep 125) ≡ None) × (path_fault content (deep 126) ≡ Some S06)
paths_by_the_number_of_elements = (refl, refl)

paths_that_are_kept : (is_kept content (codes "v1/content/f") ≡ true) × (is_kept content (codes "v1/content/../f") ≡ false) × (is_kept content (long 256) ≡ false)
paths_that_are_kept = (refl, refl, refl)

-- ---- the lines of an inventory

-- in either case of letters
digests_that_repeat : repeated_digests ((codes "AB", []) ∷ (codes "c", []) ∷ (codes "ab", []) ∷ []) ≡ codes "ab" ∷ []
digests_that_repeat = refl

bad_paths_once_and_as_written : fault_notes content (codes "B/" ∷ codes "v1/content/f" ∷ codes "/A" ∷ codes "B/" ∷ []) ≡ note E100 (codes "/A") ∷ note E100 (codes "B/") ∷ []
bad_paths_once_and_as_written = refl

abbrev f_and_below : Place × Place
f_and_below = (elements (codes "v1/content/f"), elements (codes "v1/content/f/g"))

bad_paths_are_not_kept : kept_paths content ((codes "x", codes "v1/content/../f" ∷ codes "v1/content/f" ∷ codes "v1/content/../f" ∷ []) ∷ []) ≡ f_and_below.0 ∷ []
bad_paths_are_not_kept = refl

path_listed_twice : conflicts (kept_paths content ((codes "x", codes "v1/content/f" ∷ []) ∷ (codes "y", codes "v1/content/f" ∷ []) ∷ [])) ≡ f_and_below.0 ∷ []
path_listed_twice = refl

-- a path cannot be that of a file and of a directory
path_below_another : conflicts (f_and_below.1 ∷ f_and_below.0 ∷ []) ≡ f_and_below.0 ∷ []
path_below_another = refl

-- each line is there
abbrev faulty : Inventory
faulty = record {
  algorithm = Sha512;
  content = content;
  manifest = (codes "a", codes "v1/content/f" ∷ codes "/m" ∷ []) ∷ (codes "A", codes "v1/content/f" ∷ []) ∷ [];
  fixity = (Md5, (codes "b", []) ∷ (codes "B", codes "/f" ∷ []) ∷ []) ∷ [];
  unsupported = codes "blake2b-512" ∷ [];
}

lines_of_an_inventory : inventory_notes faulty
    ≡ note E096 (codes "a") ∷ note E097 (codes "md5 b") ∷ note E100 (codes "/m") ∷ note E100 (codes "/f") ∷ note E101 (codes "v1/content/f") ∷ note S07 (codes "blake2b-512") ∷ []
lines_of_an_inventory = refl

line_that_stops : reading_notes (Err (note E017 (codes "a/b"))) ≡ note E017 (codes "a/b") ∷ []
line_that_stops = refl

-- ---- keys

no_bytes_of_json : object_of (255 ∷ []) ≡ Err (plain E033)
unfolding chars is_utf8
no_bytes_of_json = refl

algorithms_of_inventories : (digest_algorithm (codes "sha512") ≡ Ok Sha512) × (digest_algorithm (codes "sha256") ≡ Ok Sha256) × (digest_algorithm (codes "sha-256") ≡ Err (note E025 (codes "sha-256")))
algorithms_of_inventories = (refl, refl, refl)

-- the line of a key names it
no_algorithm : algorithm_in no_members ≡ Err (note E036 (codes "digestAlgorithm"))
no_algorithm = refl

-- ---- sidecars

digits_of_digests : (decoded (codes "0aFf") ≡ Some (10 ∷ 255 ∷ [])) × (decoded (codes "0g") ≡ None) × (decoded (codes "0aF") ≡ None)
unfolding hex_on_literals
digits_of_digests = (refl, refl, refl)

blanks_in_front : leading is_blank (codes " \tx y") ≡ codes " \t"
blanks_in_front = refl

-- 128 digits
sidecar_of_sha512 : sidecar_of Sha512 (replicate 128 48 ++ codes " inventory.json\n") ≡ Some (replicate 64 0)
unfolding hex_on_literals
sidecar_of_sha512 = refl

-- ---- tables

-- a digest of the manifest, and one of fixity
abbrev of_manifest : Algorithm → Text → Named
of_manifest a digest = record { fixity = false; algorithm = a; digest = digest }

abbrev of_fixity : Algorithm → Text → Named
of_fixity a digest = record { fixity = true; algorithm = a; digest = digest }

abbrev at : Text → Named → Triple
at path n = record { path = elements path; named = n }

-- `f` and `g` in the manifest, the bad path `/f` too; by fixity `e`, and `f` by two algorithms
abbrev inventory : Inventory
inventory = record {
  algorithm = Sha512;
  content = content;
  manifest = (codes "Dd", codes "v1/content/f" ∷ codes "/f" ∷ []) ∷ (codes "aa", codes "v1/content/g" ∷ []) ∷ [];
  fixity = (Md5, (codes "cc", codes "v1/content/f" ∷ codes "v1/content/e" ∷ []) ∷ []) ∷ (Sha1, (codes "bb", codes "v1/content/f" ∷ []) ∷ []) ∷ [];
  unsupported = [];
}

-- by path, the manifest before fixity, and then by algorithm; digests in small letters
digests_of_a_table : (table_from inventory).triples
    ≡ at (codes "v1/content/e") (of_fixity Md5 (codes "cc"))
    ∷ at (codes "v1/content/f") (of_manifest Sha512 (codes "dd"))
    ∷ at (codes "v1/content/f") (of_fixity Md5 (codes "cc"))
    ∷ at (codes "v1/content/f") (of_fixity Sha1 (codes "bb"))
    ∷ at (codes "v1/content/g") (of_manifest Sha512 (codes "aa"))
    ∷ []
digests_of_a_table = refl

-- as often as a path has digests
paths_of_a_table : paths_of (table_from inventory)
    ≡ elements (codes "v1/content/e")
    ∷ elements (codes "v1/content/f")
    ∷ elements (codes "v1/content/f")
    ∷ elements (codes "v1/content/f")
    ∷ elements (codes "v1/content/g")
    ∷ []
paths_of_a_table = refl

-- with one path of so many names
abbrev with_path : ℕ → Table
with_path n = record { algorithm = Sha512; content = content; triples = record { path = replicate n (codes "a"); named = of_manifest Sha512 [] } ∷ [] }

record AreByDepth : Type 0 where
  deepest : IsFit (with_path 128)
  too_deep : IsFit (with_path 129) → ⊥

tables_by_depth : AreByDepth
tables_by_depth = search arith
