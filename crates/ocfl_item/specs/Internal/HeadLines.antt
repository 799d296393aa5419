-- The lines of an object's head, beside the definition.
use Rattle.std.specs.Prelude.{◌≡◌, ◌&&◌, true, is_some, List, [], ◌∷◌, ◌++◌, Bool, not, Option, Some, None}
use Rattle.ocfl_tree.specs.{Place.{Text, Place}, StorageRoot.{StorageRoot}}
use Rattle.ocfl_inventory.specs.{Note.{Note}, Declaration.{Declared}, Sidecar.{side_limit}}
use Rattle.ocfl_inventory.specs.declared.declaration.Level.{Level}
use Rattle.ocfl_inventory.specs.declared.declaration.Level.TheVariants.{Root, Object}
use Rattle.ocfl_digest.specs.{Digest.{digest_bytes_of}, Digests.{digest_in}}
use Rattle.ocfl_digest.specs.declared.algorithm.Algorithm.{Algorithm}
use Rattle.ocfl_digest.specs.declared.algorithm.Algorithm.TheVariants.{Sha256, Sha512}
use Rattle.ocfl_digest.specs.declared.bounded.Bounded.{Bounded}
use Rattle.ocfl_digest.specs.declared.digests.Digests.{Digests}
use Rattle.ocfl_item.specs.{Internal.HeadFiles.{IsFileAt}, declared.head_lines.Sidecars.{Sidecars}}
use Rattle.ocfl_rules.specs.Head.{root_notes_by, head_notes_by, sidecar_name, is_sidecar_missing, are_sidecars_missing, other_sidecar_notes}

-- the lines of the storage root, or of an object at d, by what is declared there
abbrev pub declared_notes : StorageRoot → Place → Level → Declared → List Note
declared_notes root d Root declared = root_notes_by root declared
declared_notes root d Object declared = head_notes_by root d declared

-- these were read of the sidecars of o
abbrev pub AreSidecars : StorageRoot → Place → Sidecars → Type 0
AreSidecars root o s = IsFileAt root (o ++ sidecar_name Sha256 ∷ []) side_limit s.short × IsFileAt root (o ++ sidecar_name Sha512 ∷ []) side_limit s.long

-- if the sidecar of a is there, its inventory's digest is among these
abbrev pub HasDigestFor : Option Bounded → Algorithm → Text → Digests → Type 0
HasDigestFor file a bytes digests = is_some file ≡ true → digest_in digests a ≡ Some (digest_bytes_of a bytes)

-- whether the sidecar of an algorithm is missing while there is one
abbrev pub is_other_there : StorageRoot → Place → Algorithm → Bool
is_other_there root o a = is_sidecar_missing root o a && not (are_sidecars_missing root o)

-- the line of the missing sidecar of an algorithm, if one is named
abbrev pub named_notes : StorageRoot → Place → Option Algorithm → List Note
named_notes root o None = []
named_notes root o (Some a) = other_sidecar_notes root o a
