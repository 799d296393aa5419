-- What a listing declares.
use Rattle.std.proofs.Common.{◌≡◌, List, [], ◌∷◌, sym, ◌∙◌, ap, true, Bool, length, refl, arith}
use Rattle.std.specs.Prelude.{not}
use Rattle.ocfl_tree.specs.{Place.{Place}, StorageRoot.{StorageRoot}}
use Rattle.ocfl_tree.specs.{Listing.{IsListing, IsOrdinary}, declared.store.Entry.{Entry}}
use Rattle.ocfl_inventory.specs.{Declaration.{Declared, declared}, Entries.{file_names}}
use Rattle.ocfl_rules.specs.Zone.{is_known, is_declared}
use Rattle.ocfl_inventory.specs.declared.declaration.Level.TheVariants as level
use Rattle.ocfl_item.specs.{Ways.{IsHead, is_listable}, declared.folder.Head.{Head}}
use Rattle.ocfl_item.specs.declared.folder.Head.TheVariants as head
use Rattle.ocfl_item.proofs.LooksZones.{declared_root, declared_object}
use Rattle.ocfl_split.specs.Levels.{leads_on}

pub head_declared : (d : Declared) (h : Head) → IsHead d h → (h ≡ head.Undeclared → ⊥) → is_declared d ≡ true
head_declared d head.Undeclared k some = absurd (some refl)
head_declared d head.Known k some = k.0
head_declared d head.Stops k some = k.0

pub root_leads : (root : StorageRoot) (d : Place) (es : List Entry) (b : Bool) → length d ≡ 0 → IsOrdinary es → IsListing root d es
    → is_known (declared level.Root (file_names es)) ≡ b → b ≡ leads_on root d
root_leads root [] es b top ordinary h k = sym k ∙ sym (ap is_known (declared_root root es ordinary h))
root_leads root (n ∷ d) es b top ordinary h k = absurd (omega (arith, top))

pub lower_leads : (root : StorageRoot) (d : Place) (es : List Entry) (b : Bool) → (length d ≡ 0 → ⊥) → is_listable root d ≡ true → IsOrdinary es
    → IsListing root d es → is_declared (declared level.Object (file_names es)) ≡ b → not b ≡ leads_on root d
lower_leads root [] es b below l ordinary h k = absurd (below refl)
lower_leads root (n ∷ d) es b below l ordinary h k = ap not (sym k ∙ sym (ap is_declared (declared_object root (n ∷ d) es l ordinary h)))
