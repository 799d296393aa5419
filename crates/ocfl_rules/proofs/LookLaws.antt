-- Which directories are looked into, said by what is seen.
use Rattle.std.proofs.Common.{◌≡◌, ◌≢◌, ◌↔◌, ◌⊎◌, inl, inr, [], ◌∷◌, refl, sym, ◌∙◌, ap, true, false, Bool, Option, Some, None, leb-true}
use Rattle.std.proofs.lemmas.Bool.{le-leb}
use Rattle.std.specs.{Prelude.{cond, ◌&&◌, nat_le, length}, List.{list_all}}
use Rattle.ocfl_tree.specs.Place.{Place, Text}
use Rattle.ocfl_tree.specs.StorageRoot.{StorageRoot, dir, at, is_dir, is_dir_leaf}
use Rattle.ocfl_tree.proofs.{Orders.{true_not_false}, Trees.{dir_from_leaf}}
use Rattle.ocfl_inventory.specs.Table.{Table}
use Rattle.ocfl_rules.specs.Zone.{Zone, skipped, hierarchy, inside, zone, seen, table_at, is_entered, is_listed_in_object, beginnings}
use Rattle.ocfl_rules.specs.Between.{shows_entries, is_looked_into}
use Rattle.ocfl_rules.specs.Objects.{ShowsEntries, of_hierarchy, object_root, listed_in_object, IsLookedInto}
use Rattle.ocfl_rules.proofs.AuditExists.{some_not_none, append_nothing, zone_is}
use Rattle.ocfl_rules.proofs.ObjectLaws.{object_by_zone}

module _ (root : StorageRoot) where
  shows : (p : Place) → shows_entries root (zone root p) ≡ true → ShowsEntries root p
  shows p h = by (zone root p) refl h
    where
      listed : (o q : Place) (n : Text) → zone root p ≡ inside o (n ∷ q) → is_listed_in_object (table_at root o) (n ∷ q) ≡ true → ShowsEntries root p
      listed o q n z g = by (table_at root o) refl g
        where
          by : (t : Option Table) → table_at root o ≡ t → is_listed_in_object t (n ∷ q) ≡ true → ShowsEntries root p
          by None e k = absurd (true_not_false (sym k))
          by (Some t) e k = listed_in_object o q n t z e k

      by : (z : Zone) → zone root p ≡ z → shows_entries root z ≡ true → ShowsEntries root p
      by skipped z g = absurd (true_not_false (sym g))
      by hierarchy z g = of_hierarchy z
      by (inside o []) z g =
          let same : p ≡ o = (zone_is root p o [] z).whole ∙ append_nothing o in
          object_root ((object_by_zone root p).1 (z ∙ ap (λ x. inside x []) (sym same)))
      by (inside o (n ∷ q)) z g = listed o q n z g

  shown : (p : Place) → ShowsEntries root p → shows_entries root (zone root p) ≡ true
  shown p (of_hierarchy z) = ap (shows_entries root) z
  shown p (object_root h) = ap (shows_entries root) ((object_by_zone root p).0 h)
  shown p (listed_in_object o q n t z e l) = ap (shows_entries root) z ∙ ap (λ x. is_listed_in_object x (n ∷ q)) e ∙ l

  -- what is seen lies where all above it is entered
  seen_there : (p : Place) → seen root p ≡ Some dir → (list_all (is_entered root) (beginnings p) ≡ true) × (is_dir root p ≡ true)
  seen_there p h = by (list_all (is_entered root) (beginnings p)) refl h
    where
      by : (b : Bool) → list_all (is_entered root) (beginnings p) ≡ b → cond b (at root p) None ≡ Some dir → (list_all (is_entered root) (beginnings p) ≡ true) × (is_dir root p ≡ true)
      by true e g = (e, ap is_dir_leaf g)
      by false e g = absurd (some_not_none dir g)

  looked : (p : Place) → p ≢ [] → is_looked_into root p ≡ true → IsLookedInto root p
  looked [] some h = absurd (some refl)
  looked (n ∷ d) some h = by (list_all (is_entered root) (beginnings (n ∷ d))) (nat_le (length (n ∷ d)) 127) (is_dir root (n ∷ d)) (shows_entries root (zone root (n ∷ d))) refl refl refl refl h
    where
      by : (a b c e : Bool) → list_all (is_entered root) (beginnings (n ∷ d)) ≡ a → nat_le (length (n ∷ d)) 127 ≡ b → is_dir root (n ∷ d) ≡ c
          → shows_entries root (zone root (n ∷ d)) ≡ e → (a && (b && (c && e))) ≡ true → IsLookedInto root (n ∷ d)
      by true true true true f g k l m = record {
        is_seen = ap (λ x. cond x (at root (n ∷ d)) None) f ∙ dir_from_leaf (at root (n ∷ d)) k;
        depth = leb-true _ _ g;
        shows = shows (n ∷ d) l;
      }
      by true true true false f g k l m = absurd (true_not_false (sym m))
      by true true false e f g k l m = absurd (true_not_false (sym m))
      by true false c e f g k l m = absurd (true_not_false (sym m))
      by false b c e f g k l m = absurd (true_not_false (sym m))

  looked_there : (p : Place) → IsLookedInto root p → is_looked_into root p ≡ true
  looked_there [] h = refl
  looked_there (n ∷ d) h =
      let k = seen_there (n ∷ d) h.is_seen in
      let few = le-leb _ _ h.depth in
      let l = shown (n ∷ d) h.shows in
      λ i. k.0 i && (few i && (k.1 i && l i))

  pub looked_is : (p : Place) → (is_looked_into root p ≡ true) ↔ ((p ≡ []) ⊎ IsLookedInto root p)
  looked_is [] = (λ h. inl refl, λ h. refl)
  looked_is (n ∷ d) = (λ h. inr (looked (n ∷ d) (λ e. cc) h), back)
    where
      back : (n ∷ d ≡ []) ⊎ IsLookedInto root (n ∷ d) → is_looked_into root (n ∷ d) ≡ true
      back (inl e) = absurd cc
      back (inr h) = looked_there (n ∷ d) h
