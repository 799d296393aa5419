-- What a file that is hashed costs: a content file, or the inventory of a version directory.
use Rattle.std.proofs.Common.{◌≡◌, ◌⊎◌, inl, inr, ℕ, ◌+◌, ◌≤◌, List, [], ◌∷◌, length, refl, sym, ◌∙◌, ap, subst, true, false, Bool, Option, Some, None, arith, ltb-false, add-zero}
use Rattle.std.specs.Prelude.{nat_lt}
use Rattle.ocfl_tree.specs.{Place.{Place, Text}, StorageRoot.{StorageRoot, file, at}}
use Rattle.ocfl_tree.proofs.Orders.{true_not_false}
use Rattle.ocfl_report.specs.declared.further.Further.{Further}
use Rattle.ocfl_report.specs.declared.further.Further.TheVariants.{Nothing, Inventories}
use Rattle.ocfl_rules.specs.Zone.{zone, seen}
use Rattle.ocfl_rules.specs.Inventories.{Expected, VersionInventory, version_inventory_in, version_inventory, expected_of, inventory_cost, version_cost, further_cost, cost, is_hashed}
use Rattle.ocfl_rules.specs.Lines.{cost_of, common_cost, is_named}
use Rattle.ocfl_rules.specs.Trail.{inventory_of}
use Rattle.ocfl_rules.proofs.{PathLaws.{named_has_path}, FurtherLaws.{known_inventory}}
use Rattle.ocfl_item.proofs.ContentLaws.{hashed_file, named_short, there}

pub record IsCounted (further : Further) (root : StorageRoot) (p : Place) : Type 0 where
  pub bytes : Text
  pub is_file : at root p ≡ Some (file bytes)
  pub heads : inventory_of (zone root p) ≡ []
  pub whole : cost further root None p ≡ length bytes + 1
  pub part : (given : ℕ) → cost further root (Some given) p ≡ given + 1

costs_something : (a b : ℕ) → nat_lt 0 (a + b) ≡ true → (nat_lt 0 a ≡ true) ⊎ (nat_lt 0 b ≡ true)
costs_something a b h = by (nat_lt 0 a) refl
  where
    by : (t : Bool) → nat_lt 0 a ≡ t → (nat_lt 0 a ≡ true) ⊎ (nat_lt 0 b ≡ true)
    by true e = inl e
    by false e = inr (let none : a ≡ 0 = grind (arith, ltb-false) in subst (λ n. nat_lt 0 n ≡ true) (ap (λ x. x + b) none ∙ omega arith) h)

-- a content file costs nothing further
counted_content : (root : StorageRoot) (p : Place) → is_named root p ≡ true → IsCounted Inventories root p
counted_content root p h =
    let f = hashed_file root p h in
    let lies = (named_has_path root p h).lies in
    let free : (u : Option ℕ) → further_cost root u p ≡ 0 = λ u. ap (λ z. version_cost root u (version_inventory_in z (seen root p))) lies in
    record {
      bytes = f.bytes;
      is_file = f.is_file;
      heads = ap inventory_of lies;
      whole = (λ i. f.whole i + free None i) ∙ add-zero (length f.bytes + 1);
      part = λ given. (λ i. f.part given i + free (Some given) i) ∙ add-zero (given + 1);
    }

-- nor does an inventory cost what content costs
module _ (root : StorageRoot) (p : Place) (x : VersionInventory) (is : version_inventory root p ≡ Some x) where
  uncommon : (u : Option ℕ) → common_cost root u p ≡ 0
  uncommon u = ap (λ ns. cost_of ns u (seen root p)) (let f = known_inventory root p x is in named_short root p x.0 (x.1 ∷ f.name ∷ []) f.lies (omega arith))

  costs_alone : (u : Option ℕ) → cost Inventories root u p ≡ inventory_cost x.2 (expected_of root x.0 x.1) u
  costs_alone u =
      let alone : 0 + inventory_cost x.2 (expected_of root x.0 x.1) u ≡ inventory_cost x.2 (expected_of root x.0 x.1) u = omega arith in
      (λ i. uncommon u i + version_cost root u (is i)) ∙ alone

  whole_cost : (es : List Expected) → nat_lt 0 (inventory_cost x.2 es None) ≡ true → inventory_cost x.2 es None ≡ length x.2 + 1
  whole_cost [] h = absurd (true_not_false (sym h))
  whole_cost (e ∷ es) h = refl

  part_cost : (es : List Expected) (given : ℕ) → nat_lt 0 (inventory_cost x.2 es None) ≡ true → inventory_cost x.2 es (Some given) ≡ given + 1
  part_cost [] given h = absurd (true_not_false (sym h))
  part_cost (e ∷ es) given h = refl

  counted_inventory : nat_lt 0 (inventory_cost x.2 (expected_of root x.0 x.1) None) ≡ true → IsCounted Inventories root p
  counted_inventory h =
      let f = known_inventory root p x is in
      record {
        bytes = x.2;
        is_file = there root p (file x.2) f.is_seen;
        heads = ap inventory_of f.lies;
        whole = costs_alone None ∙ whole_cost (expected_of root x.0 x.1) h;
        part = λ given. costs_alone (Some given) ∙ part_cost (expected_of root x.0 x.1) given h;
      }

pub counted : (further : Further) (root : StorageRoot) (p : Place) → is_hashed further root p ≡ true → IsCounted further root p
counted Nothing root p h = let f = hashed_file root p h in record { bytes = f.bytes; is_file = f.is_file; heads = ap inventory_of (named_has_path root p h).lies; whole = f.whole; part = f.part }
counted Inventories root p h = by (costs_something (common_cost root None p) (further_cost root None p) h)
  where
    of_version : (x : Option VersionInventory) → version_inventory root p ≡ x → nat_lt 0 (version_cost root None x) ≡ true → IsCounted Inventories root p
    of_version None e g = absurd (true_not_false (sym g))
    of_version (Some x) e g = counted_inventory root p x e g

    by : (is_named root p ≡ true) ⊎ (nat_lt 0 (further_cost root None p) ≡ true) → IsCounted Inventories root p
    by (inl g) = counted_content root p g
    by (inr g) = of_version (version_inventory root p) refl g

pub unhashed_cost : (further : Further) (root : StorageRoot) (p : Place) → is_hashed further root p ≡ false → cost further root None p ≡ 0
unhashed_cost further root p h = by (cost further root None p) h
  where
    by : (n : ℕ) → nat_lt 0 n ≡ false → n ≡ 0
    by n e = let small : n ≤ 0 = ltb-false 0 n e in omega (arith, small)
