-- Which places have lines does not depend on what could be read.
use Rattle.std.proofs.Common.{◌≡◌, List, [], ◌∷◌, ◌++◌, refl, sym, ◌∙◌, ap, true, false, Bool, Option, Some, None, ℕ}
use Rattle.ocfl_tree.specs.{Place.{Place, Text}, StorageRoot.{StorageRoot, Leaf, file, dir, other}}
use Rattle.ocfl_inventory.specs.{Note.{Note}, Table.{Table, Named, named}}
use Rattle.ocfl_rules.specs.Zone.{Zone, skipped, hierarchy, inside, zone, seen, table_at}
use Rattle.ocfl_rules.specs.Lines.{is_empty, or_bytes, file_notes, content_notes, within_notes, object_notes, notes_in, common_notes}
use Rattle.ocfl_rules.specs.Head.{on}
use Rattle.ocfl_tree.proofs.Orders.{true_not_false}

pub or_bytes_some : (bytes : Text) (ns : List Note) → is_empty (or_bytes bytes ns) ≡ false
or_bytes_some bytes [] = refl
or_bytes_some bytes (n ∷ ns) = refl

unread_some : (b : Bool) (n m : Note) → is_empty (on b n ++ m ∷ []) ≡ false
unread_some true n m = refl
unread_some false n m = refl

pub file_some : (bytes : Text) (ns : List Named) (u : Option ℕ) → is_empty (file_notes bytes ns u) ≡ false
file_some bytes [] u = refl
file_some bytes (n ∷ ns) None = or_bytes_some bytes _
file_some bytes (n ∷ ns) (Some given) = unread_some _ _ _

content_alike : (root : StorageRoot) (p : Place) (ns : List Named) (u v : Option ℕ) (leaf : Option Leaf) → is_empty (content_notes root p ns u leaf) ≡ is_empty (content_notes root p ns v leaf)
content_alike root p ns u v None = refl
content_alike root p ns u v (Some (file bytes)) = file_some bytes ns u ∙ sym (file_some bytes ns v)
content_alike root p ns u v (Some dir) = refl
content_alike root p ns u v (Some other) = refl

within_alike : (root : StorageRoot) (p : Place) (u v : Option ℕ) (leaf : Option Leaf) (t : Table) (q : Place) → is_empty (within_notes root p u leaf t q) ≡ is_empty (within_notes root p v leaf t q)
within_alike root p u v leaf t [] = refl
within_alike root p u v leaf t (n ∷ []) = refl
within_alike root p u v leaf t (m ∷ n ∷ []) = refl
within_alike root p u v leaf t (m ∷ c ∷ n ∷ q) = content_alike root p (named t (m ∷ c ∷ n ∷ q)) u v leaf

object_alike : (root : StorageRoot) (p : Place) (u v : Option ℕ) (t : Option Table) (q : Place) → is_empty (object_notes root p u t q) ≡ is_empty (object_notes root p v t q)
object_alike root p u v None q = refl
object_alike root p u v (Some t) q = within_alike root p u v (seen root p) t q

zone_alike : (root : StorageRoot) (p : Place) (u v : Option ℕ) (z : Zone) → is_empty (notes_in root p u z) ≡ is_empty (notes_in root p v z)
zone_alike root p u v skipped = refl
zone_alike root p u v hierarchy = refl
zone_alike root p u v (inside o []) = refl
zone_alike root p u v (inside o (n ∷ q)) = object_alike root p u v (table_at root o) (n ∷ q)

pub common_alike : (root : StorageRoot) (u v : Option ℕ) (p : Place) → is_empty (common_notes root u p) ≡ is_empty (common_notes root v p)
common_alike root u v [] = refl
common_alike root u v (n ∷ p) = zone_alike root (n ∷ p) u v (zone root (n ∷ p))

pub no_notes : (xs ys : List Note) → is_empty xs ≡ is_empty ys → xs ≡ [] → ys ≡ []
no_notes xs [] e h = refl
no_notes xs (y ∷ ys) e h = absurd (true_not_false (sym (ap is_empty h) ∙ e))
