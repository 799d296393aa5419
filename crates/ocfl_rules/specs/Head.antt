-- The lines of the storage root, and of an object: its head (OCFL 1.1, 3 OCFL Object and 4 OCFL
-- Storage Root).
use Rattle.std.specs.Prelude.{ℕ, ◌&&◌, nat_le, List, [], ◌∷◌, ◌++◌, Bool, false, not, length, if◌then◌else◌, Option, Some, None, is_some, Ok, Err}
use Rattle.hex.specs.Hex.{encode_lower}
use Rattle.ocfl_tree.specs.{Place.{Text, Place, text_eq}, StorageRoot.{StorageRoot, file_at}}
use Rattle.ocfl_inventory.specs.Note.{note, Note, plain}
use Rattle.ocfl_inventory.specs.Declaration.{Declared, undeclared, known, unknown, several, declaration_name, declaration_bytes}
use Rattle.ocfl_inventory.specs.{Sidecar.{sidecar_of}, Reading.{Reading, algorithm_of}}
use Rattle.ocfl_inventory.specs.{Notes.{notes_of}, declared.declaration.Level.{Level}}
use Rattle.ocfl_inventory.specs.declared.declaration.Level.TheVariants.{Root, Object}
use Rattle.ocfl_inventory.specs.declared.declaration.Version.{Version}
use Rattle.ocfl_report.specs.declared.code.Code.{Code}
use Rattle.ocfl_report.specs.declared.code.Code.TheVariants.{Clean, E003, E007, E058, E060, E061, E063, E069, E076, E080, S01, S02}
use Rattle.ocfl_digest.specs.{Algorithm.{algorithm_name}, Digest.{digest_bytes_of}}
use Rattle.ocfl_digest.specs.declared.algorithm.Algorithm.{Algorithm}
use Rattle.ocfl_digest.specs.declared.algorithm.Algorithm.TheVariants.{Sha256, Sha512}
use Rattle.ocfl_rules.specs.Zone.{inventory_name, inventory_limit}

-- a file's digest, as lower-case hexadecimal
abbrev pub digest_of : Algorithm → Text → Text
digest_of a m = encode_lower (digest_bytes_of a m)

-- x if the test holds, and else nothing
abbrev pub on : {A : Type 0} → Bool → A → List A
on b x = if b then x ∷ [] else []

abbrev pub or_clean : List Note → List Note
or_clean [] = plain Clean ∷ []
or_clean (n ∷ ns) = n ∷ ns

abbrev pub is_exact_declaration : StorageRoot → Place → Level → Version → Bool
is_exact_declaration root d level v = is_bytes (file_at root (d ++ declaration_name level v ∷ []))
  where
    is_bytes : Option Text → Bool
    is_bytes None = false
    is_bytes (Some bytes) = text_eq bytes (declaration_bytes level v)

-- ---- the storage root

abbrev pub root_notes_by : StorageRoot → Declared → List Note
root_notes_by root undeclared = plain E069 ∷ []
root_notes_by root several = plain E076 ∷ []
root_notes_by root (unknown t) = note S01 t ∷ []
root_notes_by root (known v) = or_clean (on (not (is_exact_declaration root [] Root v)) (plain E080))

-- ---- the sidecars of an inventory (OCFL 1.1, 3.6 Inventory Digest)

abbrev pub sidecar_name : Algorithm → Text
sidecar_name a = inventory_name ++ 46 ∷ algorithm_name a

abbrev pub sidecar_at : StorageRoot → Place → Algorithm → Option Text
sidecar_at root o a = file_at root (o ++ sidecar_name a ∷ [])

abbrev pub is_sidecar_missing : StorageRoot → Place → Algorithm → Bool
is_sidecar_missing root o a = not (is_some (sidecar_at root o a))

abbrev pub are_sidecars_missing : StorageRoot → Place → Bool
are_sidecars_missing root o = is_sidecar_missing root o Sha256 && is_sidecar_missing root o Sha512

-- a digest that was wanted, and the one that was found
abbrev pub mismatch : Code → Algorithm → Text → Text → Note
mismatch c a wanted got = note c (algorithm_name a ++ 32 ∷ wanted ++ 32 ∷ got)

-- a sidecar that is there: its form, or else its digest
abbrev pub sidecar_notes : Algorithm → Text → Option Text → List Note
sidecar_notes a bytes None = []
sidecar_notes a bytes (Some s) = against (sidecar_of a s)
  where
    against : Option (List ℕ) → List Note
    against None = note E061 (algorithm_name a) ∷ []
    against (Some d) = on (not (text_eq d (digest_bytes_of a bytes))) (mismatch E060 a (encode_lower d) (digest_of a bytes))

abbrev pub sidecars_notes : StorageRoot → Place → Text → List Note
sidecars_notes root o bytes =
    on (are_sidecars_missing root o) (plain E058)
    ++ sidecar_notes Sha256 bytes (sidecar_at root o Sha256) ++ sidecar_notes Sha512 bytes (sidecar_at root o Sha512)

-- the sidecar of the inventory's algorithm is missing while the other is there
abbrev pub other_sidecar_notes : StorageRoot → Place → Algorithm → List Note
other_sidecar_notes root o a = on (is_sidecar_missing root o a && not (are_sidecars_missing root o)) (note E058 (algorithm_name a))

-- ---- the head

-- the missing sidecar is before all lines but those that leave no algorithm
abbrev pub inventory_part : StorageRoot → Place → Text → Reading Algorithm → List Note
inventory_part root o bytes (Err n) = n ∷ []
inventory_part root o bytes (Ok a) = other_sidecar_notes root o a ++ notes_of bytes

abbrev pub inventory_file_notes : StorageRoot → Place → Option Text → List Note
inventory_file_notes root o None = plain E063 ∷ []
inventory_file_notes root o (Some bytes) =
    if nat_le (length bytes) inventory_limit then sidecars_notes root o bytes ++ inventory_part root o bytes (algorithm_of bytes)
    else plain S02 ∷ []

abbrev pub head_notes_by : StorageRoot → Place → Declared → List Note
head_notes_by root o undeclared = []
head_notes_by root o several = plain E003 ∷ []
head_notes_by root o (unknown t) = note S01 t ∷ []
head_notes_by root o (known v) = or_clean (on (not (is_exact_declaration root o Object v)) (plain E007) ++ inventory_file_notes root o (file_at root (o ++ inventory_name ∷ [])))
