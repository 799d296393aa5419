-- The inventories of version directories: which they are, what is hashed of them, and that their lines
-- are only added.
use Rattle.std.proofs.Common.{◌≡◌, ◌≢◌, ◌⊎◌, inl, inr, ℕ, List, [], ◌∷◌, ◌++◌, refl, sym, ◌∙◌, ap, subst, true, false, Bool, Option, Some, None, nat_lt, codes, ◌↔◌, append-nil, arith, ltb-false}
use Rattle.std.specs.Prelude.{◌+◌, ◌&&◌, ◌||◌}
use Rattle.ocfl_tree.specs.{Place.{Place, Text, text_eq}, Ascending.{IsAmong}}
use Rattle.ocfl_tree.specs.StorageRoot.{StorageRoot, file}
use Rattle.ocfl_tree.proofs.Orders.{true_not_false}
use Rattle.ocfl_report.specs.declared.further.Further.{Further}
use Rattle.ocfl_report.specs.declared.further.Further.TheVariants.{Nothing, Inventories}
use Rattle.ocfl_inventory.specs.{Note.{Note}, ListedPath.{is_version_name}, Table.{Table, paths_of}}
use Rattle.ocfl_rules.specs.Zone.{Zone, skipped, hierarchy, inside, zone, table_at, inventory_name}
use Rattle.ocfl_rules.specs.Lines.{common_notes, common_cost, is_named}
use Rattle.ocfl_rules.specs.Trail.{is_head, is_root_meta, is_meta_zone, is_common_meta, is_meta}
use Rattle.ocfl_rules.specs.Inventories.{VersionInventory, version_inventory_in, version_inventory, head_notes, version_notes, further_notes, version_cost, further_cost, is_version_sidecar, notes, is_hashed}
use Rattle.ocfl_rules.specs.Objects.{IsVersionInventory}
use Rattle.ocfl_rules.proofs.AuditExists.{zone_is}
use Rattle.ocfl_rules.proofs.FurtherLaws.{IsFound, known_inventory, version_some, common_lines}
use Rattle.ocfl_rules.proofs.PathLaws.{named_has_path, named_no_meta, named_lines, common_path_lines}
use Rattle.ocfl_rules.proofs.{BelowLaws.{text_from_test}, MetaLaws.{object_around}, ObjectLaws.{object_by_zone}}
use Rattle.ocfl_rules.proofs.{WayLaws.{is_closed}, NextLaws.{zone_longer}}

-- ---- which inventories are those of versions

pub version_inventory_is : (root : StorageRoot) (p o : Place) (v bytes : Text) → (version_inventory root p ≡ Some (o, v, bytes)) ↔ IsVersionInventory root p o v bytes
version_inventory_is root p o v bytes = (to, back)
  where
    to : version_inventory root p ≡ Some (o, v, bytes) → IsVersionInventory root p o v bytes
    to h =
        let k = known_inventory root p (o, v, bytes) h in
        record {
          is_object = object_around root p o (v ∷ k.name ∷ []) k.lies;
          is_seen = k.is_seen;
          whole = (zone_is root p o (v ∷ k.name ∷ []) k.lies).whole ∙ ap (λ m. o ++ v ∷ m ∷ []) (text_from_test k.name inventory_name k.named);
        }

    back : IsVersionInventory root p o v bytes → version_inventory root p ≡ Some (o, v, bytes)
    back k =
        (λ i. version_inventory_in (zone root (k.whole i)) (k.is_seen i))
        ∙ ap (λ z. version_inventory_in z (Some (file bytes))) (zone_longer root (is_closed root) o o [] (v ∷ codes "inventory.json" ∷ []) ((object_by_zone root o).0 k.is_object))

-- ---- lines are only added

pub lines_added : (further : Further) (root : StorageRoot) (u : Option ℕ) (p : Place) → (more : List Note) × (notes further root u p ≡ common_notes root u p ++ more)
lines_added Nothing root u p = ([], sym (append-nil (common_notes root u p)))
lines_added Inventories root u p = (further_notes root u p, refl)

no_head_notes : (root : StorageRoot) (z : Zone) → is_head z ≡ false → head_notes root z ≡ []
no_head_notes root skipped e = refl
no_head_notes root hierarchy e = refl
no_head_notes root (inside o []) e = absurd (true_not_false e)
no_head_notes root (inside o (n ∷ q)) e = refl

pub lines_elsewhere : (root : StorageRoot) (u : Option ℕ) (p : Place) → is_head (zone root p) ≡ false → version_inventory root p ≡ None → notes Inventories root u p ≡ common_notes root u p
lines_elsewhere root u p no_head no_version =
    let none : further_notes root u p ≡ [] = λ i. no_head_notes root (zone root p) no_head i ++ version_notes root u (no_version i) in
    ap (λ ns. common_notes root u p ++ ns) none ∙ append-nil (common_notes root u p)

behind_some : {A : Type 0} (xs ys : List A) → ys ≢ [] → xs ++ ys ≢ []
behind_some [] ys h e = h e
behind_some (x ∷ xs) ys h e = cc

pub inventories_have_lines : (root : StorageRoot) (u : Option ℕ) (p o : Place) (v bytes : Text) → IsVersionInventory root p o v bytes → notes Inventories root u p ≢ []
inventories_have_lines root u p o v bytes is =
    behind_some (common_notes root u p) (further_notes root u p) (behind_some (head_notes root (zone root p)) (version_notes root u (version_inventory root p))
    (subst (λ x. version_notes root u x ≢ []) (sym ((version_inventory_is root p o v bytes).1 is)) (version_some root u (o, v, bytes))))

-- ---- no hashed file is metadata

costs_something : (a b : ℕ) → nat_lt 0 (a + b) ≡ true → (nat_lt 0 a ≡ true) ⊎ (nat_lt 0 b ≡ true)
costs_something a b h = by (nat_lt 0 a) refl
  where
    by : (t : Bool) → nat_lt 0 a ≡ t → (nat_lt 0 a ≡ true) ⊎ (nat_lt 0 b ≡ true)
    by true e = inl e
    by false e = inr (let none : a ≡ 0 = grind (arith, ltb-false) in subst (λ n. nat_lt 0 n ≡ true) (ap (λ x. x + b) none ∙ omega arith) h)

content_no_sidecar : (root : StorageRoot) (p : Place) → is_named root p ≡ true → is_version_sidecar (zone root p) ≡ false
content_no_sidecar root p h = ap is_version_sidecar (named_has_path root p h).lies

inventory_no_sidecar : (v n : Text) → text_eq n inventory_name ≡ true → (o : Place) → is_version_sidecar (inside o (v ∷ n ∷ [])) ≡ false
inventory_no_sidecar v n h o = ap (λ m. is_version_sidecar (inside o (v ∷ m ∷ []))) (text_from_test n inventory_name h) ∙ none (is_version_name v)
  where
    none : (b : Bool) → b && false ≡ false
    none true = refl
    none false = refl

no_meta_two_down : (o : Place) (v n : Text) → o ≢ [] → is_root_meta (o ++ v ∷ n ∷ []) ≡ false
no_meta_two_down [] v n some = absurd (some refl)
no_meta_two_down (a ∷ o) v n some = by o
  where
    by : (o : Place) → is_root_meta (a ∷ o ++ v ∷ n ∷ []) ≡ false
    by [] = refl
    by (b ∷ o) = refl

inventory_no_meta : (root : StorageRoot) (p : Place) (x : VersionInventory) → IsFound root p x → is_common_meta root p || is_version_sidecar (zone root p) ≡ false
inventory_no_meta root p x k =
    let is = zone_is root p x.0 (x.1 ∷ k.name ∷ []) k.lies in
    (λ i. (is_root_meta (is.whole i) || is_meta_zone (k.lies i)) || is_version_sidecar (k.lies i))
    ∙ ap (λ b. (b || false) || is_version_sidecar (inside x.0 (x.1 ∷ k.name ∷ []))) (no_meta_two_down x.0 x.1 k.name is.below)
    ∙ inventory_no_sidecar x.1 k.name k.named x.0

pub hashed_no_meta : (further : Further) (root : StorageRoot) (p : Place) → is_hashed further root p ≡ true → is_meta further root p ≡ false
hashed_no_meta Nothing root p h = named_no_meta root p h
hashed_no_meta Inventories root p h = by (costs_something (common_cost root None p) (further_cost root None p) h)
  where
    of_version : (x : Option VersionInventory) → version_inventory root p ≡ x → nat_lt 0 (version_cost root None x) ≡ true → is_meta Inventories root p ≡ false
    of_version None e g = absurd (true_not_false (sym g))
    of_version (Some x) e g = inventory_no_meta root p x (known_inventory root p x e)

    by : (is_named root p ≡ true) ⊎ (nat_lt 0 (further_cost root None p) ≡ true) → is_meta Inventories root p ≡ false
    by (inl g) = ap (λ b. b || is_version_sidecar (zone root p)) (named_no_meta root p g) ∙ content_no_sidecar root p g
    by (inr g) = of_version (version_inventory root p) refl g

-- ---- what is hashed has lines

version_filled : (root : StorageRoot) (u : Option ℕ) (p : Place) → nat_lt 0 (further_cost root None p) ≡ true → further_notes root u p ≢ []
version_filled root u p h = by (version_inventory root p) refl h
  where
    by : (x : Option VersionInventory) → version_inventory root p ≡ x → nat_lt 0 (version_cost root None x) ≡ true → further_notes root u p ≢ []
    by None e g = absurd (true_not_false (sym g))
    by (Some x) e g = behind_some (head_notes root (zone root p)) _ (subst (λ y. version_notes root u y ≢ []) (sym e) (version_some root u x))

pub hashed_lines : (further : Further) (root : StorageRoot) (u : Option ℕ) (p : Place) → is_hashed further root p ≡ true → notes further root u p ≢ []
hashed_lines Nothing root u p h = named_lines root u p h
hashed_lines Inventories root u p h = by (costs_something (common_cost root None p) (further_cost root None p) h)
  where
    by : (is_named root p ≡ true) ⊎ (nat_lt 0 (further_cost root None p) ≡ true) → notes Inventories root u p ≢ []
    by (inl g) = common_lines Inventories root u p (named_lines root u p g)
    by (inr g) = behind_some (common_notes root u p) _ (version_filled root u p g)

-- and so has a path of a table
pub path_lines : (further : Further) (root : StorageRoot) (u : Option ℕ) (p o q : Place) (t : Table) → zone root p ≡ inside o q → table_at root o ≡ Some t → IsAmong (paths_of t) q
    → notes further root u p ≢ []
path_lines further root u p o q t z h i = common_lines further root u p (common_path_lines root u p o q t z h i)
