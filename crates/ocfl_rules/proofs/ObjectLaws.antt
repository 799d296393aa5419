-- Which objects' inventories an audit reads, and which directories it looks into.
use Rattle.std.proofs.Common.{◌≡◌, ◌≢◌, ◌↔◌, inl, inr, List, [], ◌∷◌, ◌++◌, refl, sym, ◌∙◌, ap, subst, true, false, Bool, map, filter, Option, Some, None}
use Rattle.std.proofs.lemmas.{Bool.{false_from_ne_true}, List.{same_from_push}}
use Rattle.std.specs.Prelude.{cond, ◌&&◌, ◌||◌, not, nat_le, length, is_some}
use Rattle.std.specs.{Ordering.{ordering_then}, declared.cmp.Ordering.{Ordering}}
use Rattle.std.specs.declared.cmp.Ordering.TheVariants.{Less, Equal, Greater}
use Rattle.ocfl_tree.specs.Place.{Place, Text, place_cmp, text_cmp}
use Rattle.ocfl_tree.specs.Ascending.{IsAmong, IsAscending, IsBeforeAll}
use Rattle.ocfl_tree.specs.StorageRoot.{StorageRoot, dir, file_at, is_dir}
use Rattle.ocfl_tree.proofs.Orders.{true_not_false, among_map}
use Rattle.ocfl_inventory.specs.Declaration.{Declared, undeclared, known, unknown, several, is_declaration, declared_by}
use Rattle.ocfl_inventory.specs.declared.declaration.Level.TheVariants.{Object}
use Rattle.ocfl_inventory.specs.declared.declaration.Version.{Version}
use Rattle.ocfl_rules.specs.Zone.{skipped, hierarchy, inside, zone, object_zone, seen, root_declared, object_declared, is_in_extensions, inventory_name, max_listed_depth, files_in, is_known, is_declared}
use Rattle.ocfl_rules.specs.Trail.{is_head, reads_inventory, inventories}
use Rattle.ocfl_rules.specs.Between.{IsBeyond, IsWithin, is_looked_into, looked_between, read_between}
use Rattle.ocfl_rules.specs.Objects.{IsObjectRoot, HasInventory}
use Rattle.ocfl_rules.proofs.AuditExists.{some_not_none, append_one, append_nothing, not_empty, zone_is}
use Rattle.ocfl_rules.proofs.BelowLaws.{text_cmp_exact}
use Rattle.ocfl_rules.proofs.BetweenLaws.{among_between, from_between, directories, objects, directories_ascend, objects_ascend, head_zone, is_directory, from_directory, is_object, from_object, read_seen}

-- ---- places with more below them

longer : (s : Place) (n : Text) (q : Place) → s ++ n ∷ q ≢ []
longer [] n q e = cc
longer (m ∷ s) n q e = cc

-- of two places of which the first does not begin the second, the order stays
still_less : (a b s t : Place) → place_cmp a b ≡ Less → ((n : Text) (r : Place) → b ≡ a ++ n ∷ r → ⊥) → place_cmp (a ++ s) (b ++ t) ≡ Less
still_less [] [] s t h apart = absurd cc
still_less [] (m ∷ b) s t h apart = absurd (apart m b refl)
still_less (n ∷ a) [] s t h apart = absurd cc
still_less (n ∷ a) (m ∷ b) s t h apart = by (text_cmp n m) refl h (still_less a b s t)
  where
    by : (r : Ordering) → text_cmp n m ≡ r → ordering_then r (place_cmp a b) ≡ Less → (place_cmp a b ≡ Less → ((x : Text) (y : Place) → b ≡ a ++ x ∷ y → ⊥) → place_cmp (a ++ s) (b ++ t) ≡ Less)
        → ordering_then r (place_cmp (a ++ s) (b ++ t)) ≡ Less
    by Less e g k = refl
    by Equal e g k = k g (λ x y f. apart x y (λ i. sym (text_cmp_exact n m e) i ∷ f i))
    by Greater e g k = absurd cc

-- ---- an object's root

module _ (root : StorageRoot) where
  zone_parts : (p o q : Place) → zone root p ≡ inside o q → (is_known (root_declared root) ≡ true) × ((is_in_extensions root p ≡ false) × (object_zone root [] p ≡ inside o q))
  zone_parts p o q h = by (is_known (root_declared root)) (is_in_extensions root p) refl refl h
    where
      by : (a b : Bool) → is_known (root_declared root) ≡ a → is_in_extensions root p ≡ b → cond (not a || b) skipped (object_zone root [] p) ≡ inside o q
          → (is_known (root_declared root) ≡ true) × ((is_in_extensions root p ≡ false) × (object_zone root [] p ≡ inside o q))
      by true false e f g = (e, (f, g))
      by true true e f g = absurd cc
      by false b e f g = absurd cc

  -- below an object there is no other
  no_inner : (front s : Place) (n : Text) (q x : Place) → s ≢ [] → is_declared (object_declared root (front ++ s)) ≡ true → object_zone root front (s ++ n ∷ q) ≡ inside x [] → ⊥
  no_inner front [] n q x some d h = some refl
  no_inner front (m ∷ s) n q x some d h = by (is_declared (object_declared root (front ++ m ∷ []))) refl h (no_inner (front ++ m ∷ []) s n q x)
    where
      further : (s : Place) → is_declared (object_declared root (front ++ m ∷ s)) ≡ true → is_declared (object_declared root (front ++ m ∷ [])) ≡ false
          → (s ≢ [] → is_declared (object_declared root ((front ++ m ∷ []) ++ s)) ≡ true → ⊥) → ⊥
      further [] d e k = true_not_false (sym d ∙ e)
      further (a ∷ s) d e k = k (λ f. cc) (ap (λ p. is_declared (object_declared root p)) (append_one front (a ∷ s) m) ∙ d)

      by : (b : Bool) → is_declared (object_declared root (front ++ m ∷ [])) ≡ b → cond b (inside (front ++ m ∷ []) (s ++ n ∷ q)) (object_zone root (front ++ m ∷ []) (s ++ n ∷ q)) ≡ inside x []
          → (s ≢ [] → is_declared (object_declared root ((front ++ m ∷ []) ++ s)) ≡ true → object_zone root (front ++ m ∷ []) (s ++ n ∷ q) ≡ inside x [] → ⊥) → ⊥
      by true e g k = let f : s ++ n ∷ q ≡ [] = cc in longer s n q f
      by false e g k = further s d e (λ a c. k a c g)

  -- with no object above it, an object's zone begins at itself
  outermost_zone : (front rest : Place) → rest ≢ [] → is_declared (object_declared root (front ++ rest)) ≡ true
      → ((b : Place) (n : Text) (q : Place) → front ++ rest ≡ b ++ n ∷ q → b ≢ [] → is_declared (object_declared root b) ≡ false) → object_zone root front rest ≡ inside (front ++ rest) []
  outermost_zone front [] some d none = absurd (some refl)
  outermost_zone front (n ∷ []) some d none = ap (λ b. cond b (inside (front ++ n ∷ []) []) hierarchy) d
  outermost_zone front (n ∷ m ∷ r) some d none =
      let whole = append_one front (m ∷ r) n in
      ap (λ b. cond b (inside (front ++ n ∷ []) (m ∷ r)) (object_zone root (front ++ n ∷ []) (m ∷ r))) (none (front ++ n ∷ []) m r (sym whole) (not_empty front n))
      ∙ outermost_zone (front ++ n ∷ []) (m ∷ r) (λ f. cc) (ap (λ p. is_declared (object_declared root p)) whole ∙ d) (λ b k q g. none b k q (sym whole ∙ g))
      ∙ ap (λ p. inside p []) whole

  pub object_by_zone : (o : Place) → IsObjectRoot root o ↔ (zone root o ≡ inside o [])
  object_by_zone o = (to, back)
    where
      to : IsObjectRoot root o → zone root o ≡ inside o []
      to h =
          let known_root = h.in_root in
          let elsewhere = h.not_in_extensions in
          let own = outermost_zone [] o h.below_root h.declares h.outermost in
          λ i. cond (not (known_root i) || elsewhere i) skipped (own i)

      back : zone root o ≡ inside o [] → IsObjectRoot root o
      back h =
          let is = zone_is root o o [] h in
          let parts = zone_parts o o [] h in
          record {
            in_root = parts.0;
            below_root = is.below;
            not_in_extensions = parts.1.0;
            declares = is.declares;
            outermost = λ b n q e some. false_from_ne_true (is_declared (object_declared root b)) (λ d. no_inner [] b n q o some d (ap (object_zone root []) (sym e) ∙ parts.1.1));
          }

  -- ---- objects with inventories

  known_version : (d : Declared) → is_known d ≡ true → (v : Version) × (d ≡ known v)
  known_version undeclared h = absurd (true_not_false (sym h))
  known_version (known v) h = (v, refl)
  known_version (unknown t) h = absurd (true_not_false (sym h))
  known_version several h = absurd (true_not_false (sym h))

  some_bytes : (b : Option Text) → is_some b ≡ true → (bytes : Text) × (b ≡ Some bytes)
  some_bytes None h = absurd (true_not_false (sym h))
  some_bytes (Some bytes) h = (bytes, refl)

  has_inventory : (o : Place) → reads_inventory root o ≡ true → HasInventory root o
  has_inventory o h = by (is_head (zone root o)) (is_known (object_declared root o)) (is_some (file_at root (o ++ inventory_name ∷ []))) refl refl refl
      (ap (λ b. is_head (zone root o) && b) (sym (of_cond (is_known (object_declared root o)) (file_at root (o ++ inventory_name ∷ [])))) ∙ h)
    where
      of_cond : (b : Bool) (f : Option Text) → is_some (cond b f None) ≡ b && is_some f
      of_cond true f = refl
      of_cond false f = refl

      object : is_head (zone root o) ≡ true → IsObjectRoot root o
      object e =
          let w = head_zone root o (zone root o) refl e in
          let same : o ≡ w.0 = (zone_is root o w.0 [] w.1).whole ∙ append_nothing w.0 in
          (object_by_zone o).1 (w.1 ∙ ap (λ x. inside x []) (sym same))

      by : (a b c : Bool) → is_head (zone root o) ≡ a → is_known (object_declared root o) ≡ b → is_some (file_at root (o ++ inventory_name ∷ [])) ≡ c → a && (b && c) ≡ true → HasInventory root o
      by true true true e f g k = record { object = object e; version = known_version (object_declared root o) f; inventory = some_bytes (file_at root (o ++ inventory_name ∷ [])) g }
      by true true false e f g k = absurd (true_not_false (sym k))
      by true false c e f g k = absurd (true_not_false (sym k))
      by false b c e f g k = absurd (true_not_false (sym k))

  reads_there : (o : Place) → HasInventory root o → reads_inventory root o ≡ true
  reads_there o h =
      let z = (object_by_zone o).0 h.object in
      let d = h.version.1 in
      let f = h.inventory.1 in
      λ i. is_head (z i) && is_some (cond (is_known (d i)) (f i) None)

  pub read_ascends : IsAscending place_cmp (read_between root None None)
  unfolding read_between
  read_ascends = objects_ascend root

  pub read_part : (from to : Option Place) (o : Place) → IsAmong (read_between root from to) o ↔ (IsBeyond from o × (IsWithin to o × HasInventory root o))
  unfolding read_between
  read_part from to o = (
    λ i. let k = from_between (objects root) from to o i in (k.1, (k.2, has_inventory o (from_object root o k.0))),
    λ h. among_between (objects root) from to o (is_object root o (reads_there o h.1.1)) h.0 h.1.0,
  )

  pub looked_which : (from to : Option Place) (d : Place) → IsAmong (looked_between root from to) d ↔ (IsBeyond from d × (IsWithin to d × (is_looked_into root d ≡ true)))
  unfolding looked_between
  looked_which from to d = (
    λ i. let k = from_between (directories root) from to d i in (k.1, (k.2, from_directory root d k.0)),
    λ h. among_between (directories root) from to d (is_directory root d h.1.1) h.0 h.1.0,
  )

  pub looked_ascends : IsAscending place_cmp (looked_between root None None)
  unfolding looked_between
  looked_ascends = directories_ascend root

  -- an object's root is seen by the audit
  pub object_seen : (o : Place) → HasInventory root o → seen root o ≡ Some dir
  object_seen o h = (read_seen root o (reads_there o h)).0

  -- ---- their inventories

  pub inventories_read : inventories root ≡ map (λ o. o ++ inventory_name ∷ []) (read_between root None None)
  unfolding read_between
  inventories_read = refl

  from_map : (os : List Place) (p : Place) → IsAmong (map (λ o. o ++ inventory_name ∷ []) os) p → (o : Place) × ((p ≡ o ++ inventory_name ∷ []) × IsAmong os o)
  from_map [] p i = absurd i
  from_map (o ∷ os) p (inl e) = (o, (e, inl refl))
  from_map (o ∷ os) p (inr i) = let k = from_map os p i in (k.0, (k.1.0, inr k.1.1))

  from_inventories : (p : Place) → IsAmong (inventories root) p → (o : Place) × ((p ≡ o ++ inventory_name ∷ []) × HasInventory root o)
  from_inventories p i = let k = from_map (objects root) p i in (k.0, (k.1.0, has_inventory k.0 (from_object root k.0 k.1.1)))

  pub inventories_which : (p : Place) → IsAmong (inventories root) p ↔ ((o : Place) × ((p ≡ o ++ inventory_name ∷ []) × HasInventory root o))
  inventories_which p = (
    from_inventories p,
    λ k. subst (IsAmong (inventories root)) (sym k.1.0) (among_map (λ o. o ++ inventory_name ∷ []) (objects root) k.0 (is_object root k.0 (reads_there k.0 k.1.1))),
  )

  pub inventory_counts : (o : Place) → IsAmong (inventories root) (o ++ inventory_name ∷ []) → HasInventory root o
  inventory_counts o i =
      let k = from_inventories (o ++ inventory_name ∷ []) i in
      subst (HasInventory root) (sym (same_from_push o k.0 inventory_name inventory_name k.1.0).0) k.1.1

  -- no object begins another
  no_nest : (a b : Place) → HasInventory root a → HasInventory root b → (n : Text) (r : Place) → b ≡ a ++ n ∷ r → ⊥
  no_nest a b h k n r e = true_not_false (sym h.object.declares ∙ k.object.outermost a n r e h.object.below_root)

  inventories_before : (o : Place) (os : List Place) → HasInventory root o → ((b : Place) → IsAmong os b → HasInventory root b) → IsBeforeAll place_cmp o os
      → IsBeforeAll place_cmp (o ++ inventory_name ∷ []) (map (λ b. b ++ inventory_name ∷ []) os)
  inventories_before o [] h all k = tt
  inventories_before o (b ∷ os) h all k =
      (still_less o b (inventory_name ∷ []) (inventory_name ∷ []) k.0 (no_nest o b h (all b (inl refl))), inventories_before o os h (λ c i. all c (inr i)) k.1)

  inventories_in_order : (os : List Place) → ((b : Place) → IsAmong os b → HasInventory root b) → IsAscending place_cmp os → IsAscending place_cmp (map (λ b. b ++ inventory_name ∷ []) os)
  inventories_in_order [] all k = tt
  inventories_in_order (o ∷ os) all k = (inventories_before o os (all o (inl refl)) (λ c i. all c (inr i)) k.0, inventories_in_order os (λ c i. all c (inr i)) k.1)

  pub inventories_ascend : IsAscending place_cmp (inventories root)
  inventories_ascend = inventories_in_order (objects root) (λ b i. has_inventory b (from_object root b i)) (objects_ascend root)

  -- ---- what does not count

  pub none_without_file : (o : Place) → file_at root (o ++ inventory_name ∷ []) ≡ None → IsAmong (inventories root) (o ++ inventory_name ∷ []) → ⊥
  none_without_file o e i = let k = (inventory_counts o i).inventory in some_not_none k.0 (sym e ∙ k.1)

  -- what a directory of these declarations declares
  declared_once : (o : Place) (v : Version) → object_declared root o ≡ known v → (n : Text) × (filter (is_declaration Object) (files_in root o) ≡ n ∷ [])
  declared_once o v h = by (is_dir root o && nat_le (length o) max_listed_depth) (filter (is_declaration Object) (files_in root o)) refl h
    where
      by : (b : Bool) (ns : List Text) → filter (is_declaration Object) (files_in root o) ≡ ns → cond b (declared_by Object ns) undeclared ≡ known v
          → (n : Text) × (filter (is_declaration Object) (files_in root o) ≡ n ∷ [])
      by true [] e g = absurd cc
      by true (n ∷ []) e g = (n, e)
      by true (n ∷ m ∷ ns) e g = absurd cc
      by false ns e g = absurd cc

  pub one_declaration : (o : Place) → IsAmong (inventories root) (o ++ inventory_name ∷ []) → (n : Text) × (filter (is_declaration Object) (files_in root o) ≡ n ∷ [])
  one_declaration o i = let k = (inventory_counts o i).version in declared_once o k.0 k.1

  pub none_of_several : (o : Place) (n m : Text) (ns : List Text) → filter (is_declaration Object) (files_in root o) ≡ n ∷ m ∷ ns → IsAmong (inventories root) (o ++ inventory_name ∷ []) → ⊥
  none_of_several o n m ns e i = let k = (one_declaration o i).1 in cc

  pub none_of_unknown : (o : Place) → is_known (object_declared root o) ≡ false → IsAmong (inventories root) (o ++ inventory_name ∷ []) → ⊥
  none_of_unknown o e i = let k = (inventory_counts o i).version in true_not_false (sym (ap is_known k.1) ∙ e)

  pub none_in_extensions : (o : Place) → is_in_extensions root o ≡ true → IsAmong (inventories root) (o ++ inventory_name ∷ []) → ⊥
  none_in_extensions o e i = true_not_false (sym e ∙ (inventory_counts o i).object.not_in_extensions)

  pub none_inside : (o : Place) (n : Text) (q : Place) → o ≢ [] → is_declared (object_declared root o) ≡ true → IsAmong (inventories root) ((o ++ n ∷ q) ++ inventory_name ∷ []) → ⊥
  none_inside o n q below d i = true_not_false (sym d ∙ (inventory_counts (o ++ n ∷ q) i).object.outermost o n q refl below)

  pub none_in_unknown_root : (p : Place) → is_known (root_declared root) ≡ false → IsAmong (inventories root) p → ⊥
  none_in_unknown_root p e i = true_not_false (sym (from_inventories p i).1.1.object.in_root ∙ e)
