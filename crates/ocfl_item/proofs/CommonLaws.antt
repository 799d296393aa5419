-- Where nothing further has lines, a place has the lines that it has in each audit.
use Rattle.std.proofs.Common.{◌≡◌, ℕ, ◌+◌, [], ◌∷◌, refl, ◌∙◌, ap, false, Option, None, add-zero}
use Rattle.std.specs.Prelude.{nat_lt, ⊤}
use Rattle.ocfl_tree.specs.{Place.{Place}, StorageRoot.{StorageRoot}}
use Rattle.ocfl_report.specs.declared.further.Further.{Further}
use Rattle.ocfl_report.specs.declared.further.Further.TheVariants.{Nothing, Inventories}
use Rattle.ocfl_rules.specs.Zone.{Zone, skipped, hierarchy, inside, zone, seen}
use Rattle.ocfl_rules.specs.Inventories.{version_inventory_in, version_inventory, version_cost, notes, is_hashed}
use Rattle.ocfl_rules.specs.{Lines.{common_cost, cost_of, named_at}, Trail.{is_head}}
use Rattle.ocfl_rules.proofs.InventoryLaws.{lines_elsewhere}

-- no inventory of a version is at a place, by its zone
pub no_version : (root : StorageRoot) (p : Place) (z : Zone) → zone root p ≡ z → version_inventory_in z (seen root p) ≡ None → version_inventory root p ≡ None
no_version root p z e h = ap (λ x. version_inventory_in x (seen root p)) e ∙ h

-- or if nothing is seen
pub unseen_version : (root : StorageRoot) (p : Place) → seen root p ≡ None → version_inventory root p ≡ None
unseen_version root p h = ap (version_inventory_in (zone root p)) h ∙ by (zone root p)
  where
    by : (z : Zone) → version_inventory_in z None ≡ None
    by skipped = refl
    by hierarchy = refl
    by (inside o []) = refl
    by (inside o (n ∷ [])) = refl
    by (inside o (v ∷ n ∷ [])) = refl
    by (inside o (v ∷ c ∷ n ∷ q)) = refl

module _ (root : StorageRoot) (p : Place) (version : version_inventory root p ≡ None) where
  pub lines_alone : (further : Further) → is_head (zone root p) ≡ false → (u : Option ℕ) → notes further root u p ≡ notes Nothing root u p
  lines_alone Nothing head u = refl
  lines_alone Inventories head u = lines_elsewhere root u p head version

  pub hashed_alone : (further : Further) → is_hashed further root p ≡ is_hashed Nothing root p
  hashed_alone Nothing = refl
  hashed_alone Inventories = ap (nat_lt 0) ((λ i. common_cost root None p + version_cost root None (version i)) ∙ add-zero (common_cost root None p))

  pub unnamed_unhashed : (further : Further) → named_at root p ≡ [] → is_hashed further root p ≡ false
  unnamed_unhashed further unnamed = hashed_alone further ∙ ap (λ ns. nat_lt 0 (cost_of ns None (seen root p))) unnamed

-- an inventory of a version that is checked is at a place at most if these are not checked
abbrev pub IsFree : Further → StorageRoot → Place → Type 0
IsFree Nothing root p = ⊤
IsFree Inventories root p = version_inventory root p ≡ None

pub lines_free : (further : Further) (root : StorageRoot) (p : Place) → IsFree further root p → is_head (zone root p) ≡ false → (u : Option ℕ) → notes further root u p ≡ notes Nothing root u p
lines_free Nothing root p h head u = refl
lines_free Inventories root p h head u = lines_alone root p h Inventories head u

pub unnamed_free : (further : Further) (root : StorageRoot) (p : Place) → IsFree further root p → named_at root p ≡ [] → is_hashed further root p ≡ false
unnamed_free Nothing root p h unnamed = ap (λ ns. nat_lt 0 (cost_of ns None (seen root p))) unnamed
unnamed_free Inventories root p h unnamed = unnamed_unhashed root p h Inventories unnamed
