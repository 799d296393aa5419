-- The lines of each place, and what auditing it costs.
use Rattle.std.specs.Prelude.{ℕ, ◌+◌, ◌||◌, nat_lt, List, [], ◌∷◌, ◌++◌, Bool, true, false, not, length, if◌then◌else◌, Option, Some, None, map, flat_map, codes, decimal}
use Rattle.std.specs.{List.{list_any}, Ordering.{bool_cmp, ordering_then}}
use Rattle.std.specs.declared.cmp.Ordering.{Ordering}
use Rattle.ocfl_tree.specs.{Place.{Text, Place, text_eq}, Ascending.{ascending}}
use Rattle.ocfl_tree.specs.StorageRoot.{StorageRoot, Leaf, file, dir, other, names_in}
use Rattle.ocfl_inventory.specs.{Note.{note, Note, plain}, Declaration.{is_declaration}}
use Rattle.ocfl_inventory.specs.{ListedPath.{is_version_name}, Table.{Named, Table, named}}
use Rattle.ocfl_inventory.specs.declared.declaration.Level.TheVariants.{Object}
use Rattle.ocfl_report.specs.declared.code.Code.{Code}
use Rattle.ocfl_report.specs.declared.code.Code.TheVariants.{Clean, E001, E015, E023, E024, E072, E073, E092, E093, S04, S05, S08}
use Rattle.ocfl_digest.specs.Algorithm.{algorithm_name, algorithm_cmp}
use Rattle.ocfl_digest.specs.declared.algorithm.Algorithm.TheVariants.{Sha256, Sha512}
use Rattle.ocfl_rules.specs.Zone.{Zone, skipped, hierarchy, inside, zone, seen, table_at, inventory_name, max_listed_depth, root_declared, object_declared}
use Rattle.ocfl_rules.specs.Head.{on, mismatch, sidecar_name, root_notes_by, head_notes_by, digest_of}

abbrev pub is_empty : {A : Type 0} → List A → Bool
is_empty [] = true
is_empty (x ∷ xs) = false

-- ---- the entries of listed directories

-- a directory that would be listed: too deep, or with no entries, if if_empty says what that is
abbrev pub listed_dir_notes : StorageRoot → Place → List Note → List Note
listed_dir_notes root p if_empty =
    if nat_lt max_listed_depth (length p) then plain S05 ∷ []
    else (if is_empty (names_in root p) then if_empty else [])

-- OCFL 1.1, 4.3 Storage Hierarchies; files in the storage root itself have no lines
abbrev pub hierarchy_notes : StorageRoot → Place → Option Leaf → List Note
hierarchy_notes root p None = []
hierarchy_notes root p (Some (file bytes)) = on (nat_lt 1 (length p)) (plain E072)
hierarchy_notes root p (Some dir) = listed_dir_notes root p (plain E073 ∷ [])
hierarchy_notes root p (Some other) = plain S04 ∷ []

abbrev pub is_inventory_or_sidecar : Text → Bool
is_inventory_or_sidecar n = text_eq n inventory_name || text_eq n (sidecar_name Sha256) || text_eq n (sidecar_name Sha512)

-- an entry n of an object root (OCFL 1.1, 3.1 Object Structure, 3.8 Logs Directory and 3.9 Object
-- Extensions)
abbrev pub object_entry_notes : StorageRoot → Place → Text → Option Leaf → List Note
object_entry_notes root p n None = []
object_entry_notes root p n (Some (file bytes)) = on (not (is_declaration Object n || is_inventory_or_sidecar n)) (plain E001)
object_entry_notes root p n (Some dir) =
    if is_version_name n then listed_dir_notes root p [] else on (not (text_eq n (codes "extensions") || text_eq n (codes "logs"))) (plain E001)
object_entry_notes root p n (Some other) = plain S04 ∷ []

-- an entry n of a version directory (OCFL 1.1, 3.3 Version Directories)
abbrev pub version_entry_notes : StorageRoot → Table → Place → Text → Option Leaf → List Note
version_entry_notes root t p n None = []
version_entry_notes root t p n (Some (file bytes)) = on (not (is_inventory_or_sidecar n)) (plain E015)
version_entry_notes root t p n (Some dir) = if text_eq n t.content then listed_dir_notes root p [] else []
version_entry_notes root t p n (Some other) = plain S04 ∷ []

-- ---- content

-- a manifest's digest, or one of the fixity block
abbrev pub block_code : Named → Code
block_code n = if n.fixity then E093 else E092

abbrev pub is_in_manifest : List Named → Bool
is_in_manifest ns = list_any (λ n. not n.fixity) ns

-- two digests of one block and algorithm are alike
abbrev pub block_cmp : Named → Named → Ordering
block_cmp a b = ordering_then (bool_cmp a.fixity b.fixity) (algorithm_cmp a.algorithm b.algorithm)

-- a path at which no file is seen: a line for each block and algorithm that names it
abbrev pub missing_notes : List Named → List Note
missing_notes ns = map (λ n. note (block_code n) (algorithm_name n.algorithm ++ codes " missing")) (ascending block_cmp ns)

-- a line for each named digest that is not the file's
abbrev pub wrong_notes : Text → List Named → List Note
wrong_notes bytes ns = flat_map (λ n. let got = digest_of n.algorithm bytes in on (not (text_eq n.digest got)) (mismatch (block_code n) n.algorithm n.digest got)) ns

abbrev pub bytes_note : Text → Note
bytes_note bytes = note Clean (decimal (length bytes))

abbrev pub or_bytes : Text → List Note → List Note
or_bytes bytes [] = bytes_note bytes ∷ []
or_bytes bytes (n ∷ ns) = n ∷ ns

abbrev pub unnamed_notes : List Named → List Note
unnamed_notes ns = on (not (is_in_manifest ns)) (plain E023)

-- a content file; u is what it gave before it could not be read on. A file that nothing names is
-- never opened
abbrev pub file_notes : Text → List Named → Option ℕ → List Note
file_notes bytes [] u = plain E023 ∷ []
file_notes bytes (n ∷ ns) None = or_bytes bytes (unnamed_notes (n ∷ ns) ++ wrong_notes bytes (n ∷ ns))
file_notes bytes (n ∷ ns) (Some given) = unnamed_notes (n ∷ ns) ++ plain S08 ∷ []

-- a place within a content directory (OCFL 1.1, 3.3.1 Content Directory)
abbrev pub content_notes : StorageRoot → Place → List Named → Option ℕ → Option Leaf → List Note
content_notes root p ns u None = missing_notes ns
content_notes root p ns u (Some (file bytes)) = file_notes bytes ns u
content_notes root p ns u (Some dir) = listed_dir_notes root p (plain E024 ∷ []) ++ missing_notes ns
content_notes root p ns u (Some other) = plain S04 ∷ missing_notes ns

-- ---- each place

abbrev pub within_notes : StorageRoot → Place → Option ℕ → Option Leaf → Table → Place → List Note
within_notes root p u leaf t [] = []
within_notes root p u leaf t (n ∷ []) = object_entry_notes root p n leaf
within_notes root p u leaf t (v ∷ n ∷ []) = version_entry_notes root t p n leaf
within_notes root p u leaf t (v ∷ c ∷ n ∷ q) = content_notes root p (named t (v ∷ c ∷ n ∷ q)) u leaf

-- if the head stops, nothing below it has lines
abbrev pub object_notes : StorageRoot → Place → Option ℕ → Option Table → Place → List Note
object_notes root p u None q = []
object_notes root p u (Some t) q = within_notes root p u (seen root p) t q

abbrev pub notes_in : StorageRoot → Place → Option ℕ → Zone → List Note
notes_in root p u skipped = []
notes_in root p u hierarchy = hierarchy_notes root p (seen root p)
notes_in root p u (inside o []) = head_notes_by root o (object_declared root o)
notes_in root p u (inside o (n ∷ q)) = object_notes root p u (table_at root o) (n ∷ q)

-- the lines of a place that each audit has
abbrev pub common_notes : StorageRoot → Option ℕ → Place → List Note
common_notes root u [] = root_notes_by root (root_declared root)
common_notes root u (n ∷ p) = notes_in root (n ∷ p) u (zone root (n ∷ p))

-- ---- what is hashed

abbrev pub named_in : StorageRoot → Zone → List Named
named_in root skipped = []
named_in root hierarchy = []
named_in root (inside o q) = named_by (table_at root o)
  where
    named_by : Option Table → List Named
    named_by None = []
    named_by (Some t) = named t q

-- the digests that are named for a place
abbrev pub named_at : StorageRoot → Place → List Named
named_at root p = named_in root (zone root p)

abbrev pub cost_of : List Named → Option ℕ → Option Leaf → ℕ
cost_of [] u leaf = 0
cost_of (n ∷ ns) u None = 0
cost_of (n ∷ ns) None (Some (file bytes)) = length bytes + 1
cost_of (n ∷ ns) (Some given) (Some (file bytes)) = given + 1
cost_of (n ∷ ns) u (Some dir) = 0
cost_of (n ∷ ns) u (Some other) = 0

-- what auditing a place costs in each audit: one more than the bytes that were delivered, if a
-- digest is named for its file, and else nothing
abbrev pub common_cost : StorageRoot → Option ℕ → Place → ℕ
common_cost root u p = cost_of (named_at root p) u (seen root p)

-- a file is seen there, and some digest is named for it
abbrev pub is_named : StorageRoot → Place → Bool
is_named root p = nat_lt 0 (common_cost root None p)
