-- An audit that checks more of an object than its root inventory: the inventories of its version
-- directories, by their sidecars, and that of the version which the root inventory's head names by
-- the root inventory (OCFL 1.1, 3.3 Version Directories, 3.5.1 Basic Structure and 3.6 Inventory
-- Digest). It adds lines to those of an audit, and changes none.
use Rattle.std.specs.Prelude.{ℕ, ◌+◌, ◌&&◌, ◌||◌, nat_lt, List, [], ◌∷◌, ◌++◌, Bool, false, not, length, if◌then◌else◌, Option, Some, None, is_some, option_and_then, option_map, flat_map}
use Rattle.hex.specs.Hex.{encode_lower}
use Rattle.ocfl_tree.specs.Place.{Text, Place, text_eq}
use Rattle.ocfl_tree.specs.StorageRoot.{StorageRoot, Leaf, file, dir, other}
use Rattle.ocfl_report.specs.declared.code.Code.{Code}
use Rattle.ocfl_report.specs.declared.code.Code.TheVariants.{E058, E060, E061, E064, S08, S09}
use Rattle.ocfl_report.specs.declared.further.Further.{Further}
use Rattle.ocfl_report.specs.declared.further.Further.TheVariants.{Nothing, Inventories}
use Rattle.ocfl_inventory.specs.{Note.{note, Note, plain}, Reading.{head_of}}
use Rattle.ocfl_inventory.specs.{ListedPath.{is_version_name}, Sidecar.{sidecar_of}, Table.{Table}}
use Rattle.ocfl_digest.specs.{Algorithm.{algorithm_name}, declared.algorithm.Algorithm.{Algorithm}}
use Rattle.ocfl_digest.specs.declared.algorithm.Algorithm.TheVariants.{Sha256, Sha512}
use Rattle.ocfl_rules.specs.Zone.{Zone, skipped, hierarchy, inside, zone, seen, table_at, inventory_at, inventory_name}
use Rattle.ocfl_rules.specs.Head.{on, digest_of, mismatch, sidecar_name, sidecar_at, are_sidecars_missing}
use Rattle.ocfl_rules.specs.Lines.{or_bytes, common_notes, common_cost}

-- ---- the root inventory

-- what an object's root inventory is, if the object's head does not stop at it: its digest by its
-- own algorithm, and the version that it names as the newest, if that is a text
pub record RootInventory : Type 0 where
  pub algorithm : Algorithm
  pub digest : Text
  pub head : Option Text

abbrev pub root_inventory_of : Text → Table → RootInventory
root_inventory_of bytes t = record {
  algorithm = t.algorithm;
  digest = digest_of t.algorithm bytes;
  head = head_of bytes;
}

abbrev pub root_inventory : StorageRoot → Place → Option RootInventory
root_inventory root o = option_and_then (λ bytes. option_map (root_inventory_of bytes) (table_at root o)) (inventory_at root o)

abbrev pub after_blank : Option Text → Text
after_blank None = []
after_blank (Some t) = 32 ∷ t

abbrev pub is_now_note : RootInventory → Note
is_now_note r = note S09 (algorithm_name r.algorithm ++ 32 ∷ r.digest ++ after_blank r.head)

abbrev pub root_inventory_notes : Option RootInventory → List Note
root_inventory_notes None = []
root_inventory_notes (Some r) = is_now_note r ∷ []

-- ---- the inventory of a version directory, by what is beside it and by the root inventory

-- a digest that is expected of a file, and the code of the line if the file has another one
pub record Expected : Type 0 where
  pub code : Code
  pub algorithm : Algorithm
  pub digest : Text

abbrev pub expected_digest : Algorithm → Option (List ℕ) → List Expected
expected_digest a None = []
expected_digest a (Some d) = record { code = E060; algorithm = a; digest = encode_lower d } ∷ []

-- that of a sidecar of the form
abbrev pub expected_beside : Algorithm → Option Text → List Expected
expected_beside a None = []
expected_beside a (Some s) = expected_digest a (sidecar_of a s)

abbrev pub is_text : Text → Option Text → Bool
is_text v None = false
is_text v (Some t) = text_eq v t

-- that of the root inventory, whose head names the version v
abbrev pub expected_by_root : Text → Option RootInventory → List Expected
expected_by_root v None = []
expected_by_root v (Some r) = on (is_text v r.head) (record { code = E064; algorithm = r.algorithm; digest = r.digest })

-- the digests that are expected of the inventory in the directory of a version of o
abbrev pub expected_of : StorageRoot → Place → Text → List Expected
expected_of root o v =
    expected_beside Sha256 (sidecar_at root (o ++ v ∷ []) Sha256)
    ++ expected_beside Sha512 (sidecar_at root (o ++ v ∷ []) Sha512)
    ++ expected_by_root v (root_inventory root o)

-- a sidecar that is not of the form
abbrev pub form_notes : Algorithm → Option Text → List Note
form_notes a None = []
form_notes a (Some s) = on (not (is_some (sidecar_of a s))) (note E061 (algorithm_name a))

-- the lines of the sidecars in d for themselves
abbrev pub beside_notes : StorageRoot → Place → List Note
beside_notes root d =
    on (are_sidecars_missing root d) (plain E058)
    ++ form_notes Sha256 (sidecar_at root d Sha256) ++ form_notes Sha512 (sidecar_at root d Sha512)

-- a line for each expected digest that is not the file's
abbrev pub unexpected_notes : Text → List Expected → List Note
unexpected_notes bytes es = flat_map (λ e. let got = digest_of e.algorithm bytes in on (not (text_eq e.digest got)) (mismatch e.code e.algorithm e.digest got)) es

-- an inventory with these lines of its sidecars; u is what it gave before it could not be read on.
-- One of which no digest is expected is not opened
abbrev pub inventory_notes : List Note → Text → List Expected → Option ℕ → List Note
inventory_notes beside bytes [] u = beside
inventory_notes beside bytes (e ∷ es) None = or_bytes bytes (beside ++ unexpected_notes bytes (e ∷ es))
inventory_notes beside bytes (e ∷ es) (Some given) = beside ++ plain S08 ∷ []

abbrev pub inventory_cost : Text → List Expected → Option ℕ → ℕ
inventory_cost bytes [] u = 0
inventory_cost bytes (e ∷ es) None = length bytes + 1
inventory_cost bytes (e ∷ es) (Some given) = given + 1

-- the bytes of an inventory, if the entry n of a version directory is one
abbrev pub inventory_bytes : Text → Option Leaf → Option Text
inventory_bytes n None = None
inventory_bytes n (Some (file bytes)) = if text_eq n inventory_name then Some bytes else None
inventory_bytes n (Some dir) = None
inventory_bytes n (Some other) = None

-- an inventory in a version directory: its version, and its bytes
abbrev pub VersionInventory : Type 0
VersionInventory = Place × Text × Text

abbrev pub version_inventory_in : Zone → Option Leaf → Option VersionInventory
version_inventory_in skipped leaf = None
version_inventory_in hierarchy leaf = None
version_inventory_in (inside o []) leaf = None
version_inventory_in (inside o (n ∷ [])) leaf = None
version_inventory_in (inside o (v ∷ n ∷ [])) leaf = option_map (λ bytes. (o, v, bytes)) (inventory_bytes n leaf)
version_inventory_in (inside o (v ∷ c ∷ n ∷ q)) leaf = None

-- the object and the version whose inventory is at a place that is seen, and the inventory's bytes
abbrev pub version_inventory : StorageRoot → Place → Option VersionInventory
version_inventory root p = version_inventory_in (zone root p) (seen root p)

-- ---- what such an audit adds

abbrev pub version_notes : StorageRoot → Option ℕ → Option VersionInventory → List Note
version_notes root u None = []
version_notes root u (Some x) = inventory_notes (beside_notes root (x.0 ++ x.1 ∷ [])) x.2 (expected_of root x.0 x.1) u

abbrev pub head_notes : StorageRoot → Zone → List Note
head_notes root skipped = []
head_notes root hierarchy = []
head_notes root (inside o []) = root_inventory_notes (root_inventory root o)
head_notes root (inside o (n ∷ q)) = []

-- the lines: at an object's head, and at the inventory of a version directory
abbrev pub further_notes : StorageRoot → Option ℕ → Place → List Note
further_notes root u p = head_notes root (zone root p) ++ version_notes root u (version_inventory root p)

abbrev pub version_cost : StorageRoot → Option ℕ → Option VersionInventory → ℕ
version_cost root u None = 0
version_cost root u (Some x) = inventory_cost x.2 (expected_of root x.0 x.1) u

-- what these cost
abbrev pub further_cost : StorageRoot → Option ℕ → Place → ℕ
further_cost root u p = version_cost root u (version_inventory root p)

-- the sidecars in version directories, by name and zone
abbrev pub is_version_sidecar : Zone → Bool
is_version_sidecar skipped = false
is_version_sidecar hierarchy = false
is_version_sidecar (inside o []) = false
is_version_sidecar (inside o (n ∷ [])) = false
is_version_sidecar (inside o (v ∷ n ∷ [])) = is_version_name v && (text_eq n (sidecar_name Sha256) || text_eq n (sidecar_name Sha512))
is_version_sidecar (inside o (v ∷ c ∷ n ∷ q)) = false

-- ---- the lines and the cost of each place

-- the lines of a place
abbrev pub notes : Further → StorageRoot → Option ℕ → Place → List Note
notes Nothing root u p = common_notes root u p
notes Inventories root u p = common_notes root u p ++ further_notes root u p

-- what auditing a place costs: one more than the bytes that were delivered, if its file is hashed,
-- and else nothing
abbrev pub cost : Further → StorageRoot → Option ℕ → Place → ℕ
cost Nothing root u p = common_cost root u p
cost Inventories root u p = common_cost root u p + further_cost root u p

-- a file is seen there, and some digest is named for it or expected of it
abbrev pub is_hashed : Further → StorageRoot → Place → Bool
is_hashed further root p = nat_lt 0 (cost further root None p)
