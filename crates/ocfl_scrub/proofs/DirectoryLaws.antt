-- The directory of a hashed file is looked into.
use Rattle.std.proofs.Common.{◌≡◌, ◌≢◌, ◌⊎◌, inl, inr, ℕ, zero, suc, ◌+◌, arith, subst, List, [], ◌∷◌, ◌++◌, refl, sym, ◌∙◌, ap, Bool, true, false, Option, Some, None}
use Rattle.std.proofs.lemmas.Bool.{lt-ltb}
use Rattle.std.specs.{Prelude.{cond, nat_lt}, List.{list_all}}
use Rattle.ocfl_tree.specs.{Place.{Text, Place}, StorageRoot.{StorageRoot, Leaf, at, file}}
use Rattle.ocfl_tree.proofs.Orders.{true_not_false}
use Rattle.ocfl_inventory.specs.Table.{Named}
use Rattle.ocfl_report.specs.declared.further.Further.{Further}
use Rattle.ocfl_report.specs.declared.further.Further.TheVariants.{Nothing, Inventories}
use Rattle.ocfl_rules.specs.Between.{is_looked_into}
use Rattle.ocfl_rules.specs.Lines.{common_cost, cost_of, is_named, named_at}
use Rattle.ocfl_rules.specs.Inventories.{VersionInventory, further_cost, is_hashed, version_cost, version_inventory}
use Rattle.ocfl_rules.specs.Walk.{is_reached}
use Rattle.ocfl_rules.specs.Zone.{beginnings, is_entered, seen}
use Rattle.ocfl_rules.proofs.{AuditExists.{zone_is}, FurtherLaws.{known_inventory}}
use Rattle.ocfl_rules.proofs.PathLaws.{named_has_path}
use Rattle.ocfl_rules.proofs.StepLaws.{all_beginnings_step}
use Rattle.ocfl_walk.proofs.ReachLaws.{reached_looked}

-- ---- what is hashed is in such a directory

in_sight : (ns : List Named) (leaf : Option Leaf) → nat_lt 0 (cost_of ns None leaf) ≡ true → leaf ≢ None
in_sight [] None h e = true_not_false (sym h)
in_sight (n ∷ ns) None h e = true_not_false (sym h)
in_sight ns (Some l) h e = absurd cc

all_entered : (root : StorageRoot) (p : Place) → seen root p ≢ None → list_all (is_entered root) (beginnings p) ≡ true
all_entered root p h = by (list_all (is_entered root) (beginnings p)) refl
  where
    by : (b : Bool) → list_all (is_entered root) (beginnings p) ≡ b → list_all (is_entered root) (beginnings p) ≡ true
    by true e = e
    by false e = absurd (h (ap (λ b. cond b (at root p) None) e))

pub has_directory : (p : Place) → p ≢ [] → (d : Place) × ((n : Text) × (p ≡ d ++ n ∷ []))
has_directory [] h = absurd (h refl)
has_directory (n ∷ []) h = ([], (n, refl))
has_directory (n ∷ m ∷ p) h = let k = has_directory (m ∷ p) (λ e. cc) in (n ∷ k.0, (k.1.0, ap (λ x. n ∷ x) k.1.1))

not_root : (p o q : Place) (n : Text) → p ≡ o ++ n ∷ q → p ≢ []
not_root p o q n e f = by o (sym e ∙ f)
  where
    by : (o : Place) → o ++ n ∷ q ≡ [] → ⊥
    by [] g = cc
    by (m ∷ o) g = cc

-- of a file that a table names
named_seen : (root : StorageRoot) (p : Place) → is_named root p ≡ true → (seen root p ≢ None) × (p ≢ [])
named_seen root p h =
    let k = named_has_path root p h in
    let whole = (zone_is root p k.object (k.version ∷ k.content ∷ k.name ∷ k.rest) k.lies).whole in
    (in_sight (named_at root p) (seen root p) h, not_root p k.object (k.content ∷ k.name ∷ k.rest) k.version whole)

costs_something : (a b : ℕ) → nat_lt 0 (a + b) ≡ true → (nat_lt 0 a ≡ true) ⊎ (nat_lt 0 b ≡ true)
costs_something zero b h = inr (subst (λ n. nat_lt 0 n ≡ true) (let none : zero + b ≡ b = omega arith in none) h)
costs_something (suc a) b h = inl (lt-ltb 0 (suc a) (omega arith))

-- a hashed file is seen, and it is not the storage root
hashed_seen : (further : Further) (root : StorageRoot) (p : Place) → is_hashed further root p ≡ true → (seen root p ≢ None) × (p ≢ [])
hashed_seen Nothing root p h = named_seen root p h
hashed_seen Inventories root p h = by (costs_something (common_cost root None p) (further_cost root None p) h)
  where
    of_version : (x : Option VersionInventory) → version_inventory root p ≡ x → nat_lt 0 (version_cost root None x) ≡ true → (seen root p ≢ None) × (p ≢ [])
    of_version None e g = absurd (true_not_false (sym g))
    of_version (Some x) e g =
        let k = known_inventory root p x e in (
          λ none. let two : Some (file x.2) ≡ None = sym k.is_seen ∙ none in cc,
          not_root p x.0 (k.name ∷ []) x.1 (zone_is root p x.0 (x.1 ∷ k.name ∷ []) k.lies).whole,
        )

    by : (is_named root p ≡ true) ⊎ (nat_lt 0 (further_cost root None p) ≡ true) → (seen root p ≢ None) × (p ≢ [])
    by (inl g) = named_seen root p g
    by (inr g) = of_version (version_inventory root p) refl g

pub hashed_within : (further : Further) (root : StorageRoot) (p : Place) → is_hashed further root p ≡ true → (d : Place) × ((n : Text) × (((is_reached root d ≡ true) × (is_looked_into root d ≡ true)) × (p ≡ d ++ n ∷ [])))
hashed_within further root p h =
    let is = hashed_seen further root p h in
    let s = has_directory p is.1 in
    let above = all_entered root p is.0 in
    let reached : is_reached root s.0 ≡ true = sym (all_beginnings_step (is_entered root) s.0 s.1.0) ∙ ap (λ x. list_all (is_entered root) (beginnings x)) (sym s.1.1) ∙ above in
    (s.0, (s.1.0, ((reached, reached_looked root s.0 reached), s.1.1)))
