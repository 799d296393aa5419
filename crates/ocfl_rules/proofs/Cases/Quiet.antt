-- Worked cases of objects with a right sidecar, whose digest is not computed: it has no lines,
-- whatever it is.
use Rattle.std.proofs.Common.{◌≡◌, List, [], ◌∷◌, ◌++◌, codes, refl, ◌∙◌, ap, Bool, true, false, append-nil}
use Rattle.std.specs.Prelude.{◌&&◌}
use Prim.Native.String.{String}
use Rattle.ocfl_tree.specs.{Place.{Text, Place}, StorageRoot.{StorageRoot}}
use Rattle.ocfl_report.specs.{Line.{Item}, Text.{text}, declared.code.Code.TheVariants.{E058}}
use Rattle.ocfl_report.specs.declared.further.Further.TheVariants.{Nothing}
use Rattle.ocfl_inventory.specs.Note.{Note, plain}
use Rattle.ocfl_digest.specs.declared.algorithm.Algorithm.TheVariants.{Sha256, Sha512}
use Rattle.ocfl_rules.specs.Head.{on, sidecar_at, sidecar_notes, sidecars_notes, is_sidecar_missing}
use Rattle.ocfl_rules.specs.Audit.{Unread, audit}
use Rattle.ocfl_rules.proofs.Cases.RightSidecars.{right_256_is_quiet, right_512_is_quiet}
use Rattle.ocfl_rules.proofs.Cases.QuietHeads.{audit_beside, audit_is}
use Rattle.ocfl_rules.proofs.Cases.Trees.{Case, sha256_object, sha512_object}

-- the place of the object
abbrev o : Place
o = codes "o" ∷ []

-- the lines of the other sidecar
abbrev beside_256 : Text → StorageRoot → List Note
beside_256 inventory root = sidecar_notes Sha512 inventory (sidecar_at root o Sha512)

abbrev beside_512 : Text → StorageRoot → List Note
beside_512 inventory root = sidecar_notes Sha256 inventory (sidecar_at root o Sha256)

-- the items of such objects
abbrev pub quick_256 : Text → StorageRoot → Unread → List Item
quick_256 inventory more unread = let root = sha256_object inventory more in audit_beside (beside_256 inventory root) root unread o inventory

abbrev pub quick_512 : Text → StorageRoot → Unread → List Item
quick_512 inventory more unread = let root = sha512_object inventory more in audit_beside (beside_512 inventory root) root unread o inventory

pub audit_256 : (inventory : Text) (more : StorageRoot) (unread : Unread) → audit Nothing (sha256_object inventory more) unread ≡ quick_256 inventory more unread
audit_256 inventory more unread = audit_is root (codes "o") [] inventory (beside_256 inventory root) refl those unread
  where
    root : StorageRoot
    root = sha256_object inventory more

    those : sidecars_notes root o inventory ≡ beside_256 inventory root
    those = ap (λ ns. ns ++ beside_256 inventory root) (right_256_is_quiet inventory)

pub audit_512 : (inventory : Text) (more : StorageRoot) (unread : Unread) → audit Nothing (sha512_object inventory more) unread ≡ quick_512 inventory more unread
audit_512 inventory more unread = audit_is root (codes "o") [] inventory (beside_512 inventory root) refl those unread
  where
    root : StorageRoot
    root = sha512_object inventory more

    one_is_there : (b : Bool) → on (b && false) (plain E058) ≡ []
    one_is_there true = refl
    one_is_there false = refl

    those : sidecars_notes root o inventory ≡ beside_512 inventory root
    those =
        ap (λ ns. (ns ++ beside_512 inventory root) ++ sidecar_notes Sha512 inventory (sidecar_at root o Sha512)) (one_is_there (is_sidecar_missing root o Sha256))
        ∙ ap (λ ns. beside_512 inventory root ++ ns) (right_512_is_quiet inventory)
        ∙ append-nil (beside_512 inventory root)

-- the text of items that can be had with less
abbrev pub told : String → (items quick : List Item) → items ≡ quick → Text → Case
told name items quick is_quick wanted = record {
  name = name;
  shown = text items;
  quick = text quick;
  is_quick = ap text is_quick;
  wanted = wanted;
}

-- the text of the audit of such an object
abbrev pub told_256 : String → Text → StorageRoot → Text → Case
told_256 name inventory more wanted = told name (audit Nothing (sha256_object inventory more) []) (quick_256 inventory more []) (audit_256 inventory more []) wanted

abbrev pub reports_256 : String → Text → StorageRoot → String → Case
reports_256 name inventory more t = told_256 name inventory more (codes t)

abbrev pub reports_512 : String → Text → StorageRoot → String → Case
reports_512 name inventory more t = told name (audit Nothing (sha512_object inventory more) []) (quick_512 inventory more []) (audit_512 inventory more []) (codes t)
