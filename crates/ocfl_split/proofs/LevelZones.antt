-- The levels are the storage hierarchy.
use Rattle.std.proofs.Common.{◌≡◌, ◌⊎◌, ◌↔◌, inl, inr, ℕ, zero, suc, ◌+◌, [], ◌∷◌, ◌++◌, refl, sym, ◌∙◌, ap, subst, true, false, Bool, length, filter, arith}
use Rattle.std.proofs.{lemmas.Bool.{false_from_ne_true, not-true}, lemmas.List.{length-append}}
use Rattle.std.specs.Prelude.{cond, ◌&&◌, ◌||◌, not, codes}
use Rattle.ocfl_tree.specs.{Place.{Text, Place, text_eq}, Ascending.{IsAmong}}
use Rattle.ocfl_tree.specs.StorageRoot.{StorageRoot, dir, at, is_dir, is_dir_leaf, names_in}
use Rattle.ocfl_tree.proofs.Bools.{and_both, and_first, and_second}
use Rattle.ocfl_tree.proofs.Orders.{true_not_false, among_filter, among_from_filter, among_map, among_flat_map}
use Rattle.ocfl_rules.specs.Objects.{IsObjectRoot}
use Rattle.ocfl_rules.specs.Zone.{Zone, skipped, hierarchy, inside, zone, root_declared, object_declared, is_known, is_declared}
use Rattle.ocfl_rules.specs.Walk.{step_zone, is_extensions}
use Rattle.ocfl_rules.proofs.{BelowLaws.{from_flat_map}, ObjectLaws.{object_by_zone}}
use Rattle.ocfl_rules.proofs.{StepLaws.{zone_step}, WayLaws.{is_closed, way_dir, entry_named}}
use Rattle.ocfl_item.specs.Ways.{is_extensions_name}
use Rattle.ocfl_item.proofs.LooksZones.{dir_from_leaf, root_hierarchy}
use Rattle.ocfl_split.specs.Levels.{leads_on, directories_in, directories_below, level, LiesInHierarchy}
use Rattle.ocfl_split.proofs.{Entries.{among_from_map}, Below.{never_empty}}

-- a place of some names, and the last of them
last_name : (p : Place) (n : ℕ) → length p ≡ suc n → (d : Place) × (x : Text) × (p ≡ d ++ x ∷ []) × (length d ≡ n)
last_name [] n h = absurd (omega (arith, h))
last_name (y ∷ []) n h = ([], y, refl, omega (arith, h))
last_name (y ∷ z ∷ p) zero h = absurd (omega (arith, h))
last_name (y ∷ z ∷ p) (suc n) h =
    let k = last_name (z ∷ p) n (omega (arith, h)) in
    (y ∷ k.0, k.1, ap (λ q. y ∷ q) k.2, omega (arith, k.3))

module _ (root : StorageRoot) where
  abbrev IsPart : Place → Type 0
  IsPart p = (zone root p ≡ hierarchy) ⊎ IsObjectRoot root p

  -- ---- down

  -- if what is in a directory belongs to the hierarchy, it does
  led : (d : Place) → leads_on root d ≡ true → (d ≡ [] → ⊥) ⊎ (d ≡ []) → ((d ≡ [] → ⊥) → IsPart d) → zone root d ≡ hierarchy
  led [] h e k = root_hierarchy root h
  led (m ∷ d) h e k = by (k (λ f. cc))
    where
      by : IsPart (m ∷ d) → zone root (m ∷ d) ≡ hierarchy
      by (inl z) = z
      by (inr o) = absurd (true_not_false (sym o.declares ∙ not-true (is_declared (object_declared root (m ∷ d))) h))

  passed : (d : Place) (x : Text) → is_extensions_name d x ≡ false → is_extensions root d x ≡ false
  passed [] x h = ap (λ b. b && is_dir root (x ∷ [])) h
  passed (m ∷ d) x h = refl

  step_on : (d : Place) (x : Text) → is_extensions root d x ≡ false → zone root d ≡ hierarchy
      → zone root (d ++ x ∷ []) ≡ cond (is_declared (object_declared root (d ++ x ∷ []))) (inside (d ++ x ∷ []) []) hierarchy
  step_on d x out z = zone_step root d x ∙ ap (λ b. cond b skipped (step_zone root d x (zone root d))) out ∙ ap (step_zone root d x) z

  step_down : (d : Place) (x : Text) → zone root d ≡ hierarchy → is_extensions_name d x ≡ false → IsPart (d ++ x ∷ [])
  step_down d x z h = by (is_declared (object_declared root (d ++ x ∷ []))) (step_on d x (passed d x h) z)
    where
      by : (b : Bool) → zone root (d ++ x ∷ []) ≡ cond b (inside (d ++ x ∷ []) []) hierarchy → IsPart (d ++ x ∷ [])
      by true e = inr ((object_by_zone root (d ++ x ∷ [])).1 e)
      by false e = inl e

  below : (d p : Place) (b : Bool) → leads_on root d ≡ b → IsAmong (cond b (directories_in root d) []) p → ((d ≡ [] → ⊥) → IsPart d) → (length p ≡ suc (length d)) × (is_dir root p ≡ true) × IsPart p
  below d p false h i k = absurd i
  below d p true h i k =
      let test = λ (n : Text). is_dir root (d ++ n ∷ []) && not (is_extensions_name d n) in
      let m = among_from_map (λ n. d ++ n ∷ []) (filter test (names_in root d)) p i in
      let f = among_from_filter test (names_in root d) m.0 m.1 in
      let there = and_first (is_dir root (d ++ m.0 ∷ [])) (not (is_extensions_name d m.0)) f.1 in
      let out = not-true (is_extensions_name d m.0) (and_second (is_dir root (d ++ m.0 ∷ [])) (not (is_extensions_name d m.0)) f.1) in (
        ap length m.2 ∙ omega (arith, length-append d (m.0 ∷ [])),
        ap (is_dir root) m.2 ∙ there,
        subst IsPart (sym m.2) (step_down d m.0 (led d h (inl_or d) k) out),
      )
    where
      inl_or : (q : Place) → (q ≡ [] → ⊥) ⊎ (q ≡ [])
      inl_or [] = inr refl
      inl_or (y ∷ q) = inl (λ e. cc)

  down : (n : ℕ) (p : Place) → IsAmong (level root (suc n)) p → (length p ≡ suc n) × (is_dir root p ≡ true) × IsPart p
  down zero p i =
      let k = from_flat_map (directories_below root) ([] ∷ []) p i in
      at_top k.0 k.1.0 k.1.1
    where
      at_top : (d : Place) → IsAmong ([] ∷ []) d → IsAmong (directories_below root d) p → (length p ≡ 1) × (is_dir root p ≡ true) × IsPart p
      at_top d (inl e) j =
          let r = below d p (leads_on root d) refl j (λ f. absurd (f e)) in
          (omega (arith, r.0, ap length e), r.1, r.2)
      at_top d (inr m) j = absurd m
  down (suc n) p i =
      let k = from_flat_map (directories_below root) (level root (suc n)) p i in
      let above = down n k.0 k.1.0 in
      let r = below k.0 p (leads_on root k.0) refl k.1.1 (λ f. above.2) in
      (omega (arith, r.0, above.0), r.1, r.2)

  -- ---- up

  as_inside : (p : Place) → IsPart p → (zone root p ≡ hierarchy) ⊎ (zone root p ≡ inside p [])
  as_inside p (inl z) = inl z
  as_inside p (inr o) = inr ((object_by_zone root p).0 o)

  step_up : (d : Place) (x : Text) → (zone root (d ++ x ∷ []) ≡ hierarchy) ⊎ (zone root (d ++ x ∷ []) ≡ inside (d ++ x ∷ []) []) → (is_extensions root d x ≡ false) × (zone root d ≡ hierarchy)
  step_up d x h = by (is_extensions root d x) (zone root d) refl refl (as_step h)
    where
      as_step : (zone root (d ++ x ∷ []) ≡ hierarchy) ⊎ (zone root (d ++ x ∷ []) ≡ inside (d ++ x ∷ []) [])
          → (cond (is_extensions root d x) skipped (step_zone root d x (zone root d)) ≡ hierarchy)
          ⊎ (cond (is_extensions root d x) skipped (step_zone root d x (zone root d)) ≡ inside (d ++ x ∷ []) [])
      as_step (inl z) = inl (sym (zone_step root d x) ∙ z)
      as_step (inr z) = inr (sym (zone_step root d x) ∙ z)

      by : (e : Bool) (z : Zone) → is_extensions root d x ≡ e → zone root d ≡ z → (cond e skipped (step_zone root d x z) ≡ hierarchy)
          ⊎ (cond e skipped (step_zone root d x z) ≡ inside (d ++ x ∷ []) [])
          → (is_extensions root d x ≡ false) × (zone root d ≡ hierarchy)
      by true z f g (inl k) = absurd cc
      by true z f g (inr k) = absurd cc
      by false skipped f g (inl k) = absurd cc
      by false skipped f g (inr k) = absurd cc
      by false hierarchy f g k = (f, g)
      by false (inside o q) f g (inl k) = absurd cc
      by false (inside o q) f g (inr k) = absurd (never_empty q x (sym (ends o q (d ++ x ∷ []) k)))
        where
          ends : (a b c : Place) → inside a (b ++ x ∷ []) ≡ inside c [] → b ++ x ∷ [] ≡ []
          ends a b c w = cc

  undeclared : (d : Place) (x : Text) → zone root (d ++ x ∷ []) ≡ hierarchy → is_declared (object_declared root (d ++ x ∷ [])) ≡ false
  undeclared d x z =
      let up = step_up d x (inl z) in
      false_from_ne_true (is_declared (object_declared root (d ++ x ∷ [])))
      (λ e. let two : hierarchy ≡ inside (d ++ x ∷ []) [] = sym z ∙ step_on d x up.0 up.1 ∙ ap (λ b. cond b (inside (d ++ x ∷ []) []) hierarchy) e in cc)

  known : zone root [] ≡ hierarchy → is_known (root_declared root) ≡ true
  known z = by (is_known (root_declared root)) refl z
    where
      by : (b : Bool) → is_known (root_declared root) ≡ b → cond (not b || false) skipped hierarchy ≡ hierarchy → is_known (root_declared root) ≡ true
      by true e k = e
      by false e k = absurd cc

  leads : (d : Place) (n : ℕ) → length d ≡ n → zone root d ≡ hierarchy → leads_on root d ≡ true
  leads [] n l z = known z
  leads (m ∷ d) zero l z = absurd (omega (arith, l))
  leads (m ∷ d) (suc n) l z =
      let k = last_name (m ∷ d) n l in
      ap (λ q. not (is_declared (object_declared root q))) k.2 ∙ ap not (undeclared k.0 k.1 (ap (zone root) (sym k.2) ∙ z))

  no_extensions : (d : Place) (x : Text) → is_dir root (d ++ x ∷ []) ≡ true → is_extensions root d x ≡ false → is_extensions_name d x ≡ false
  no_extensions [] x t h = by (text_eq x (codes "extensions")) (is_dir root (x ∷ [])) t h
    where
      by : (a b : Bool) → b ≡ true → a && b ≡ false → a ≡ false
      by true true e f = f
      by true false e f = absurd (true_not_false (sym e))
      by false b e f = refl
  no_extensions (m ∷ d) x t h = refl

  among_here : (d : Place) (x : Text) (n : ℕ) → length d ≡ n → is_dir root (d ++ x ∷ []) ≡ true → is_extensions root d x ≡ false → zone root d ≡ hierarchy
      → IsAmong (directories_below root d) (d ++ x ∷ [])
  among_here d x n l t e z =
      let test = λ (m : Text). is_dir root (d ++ m ∷ []) && not (is_extensions_name d m) in
      let named = entry_named root d x dir (dir_from_leaf (at root (d ++ x ∷ [])) t) in
      let kept = among_filter test (names_in root d) x named (and_both (is_dir root (d ++ x ∷ [])) (not (is_extensions_name d x)) t (ap not (no_extensions d x t e))) in
      subst (λ b. IsAmong (cond b (directories_in root d) []) (d ++ x ∷ [])) (sym (leads d n l z)) (among_map (λ m. d ++ m ∷ []) (filter test (names_in root d)) x kept)

  lift : (n : ℕ) (p : Place) → length p ≡ suc n → is_dir root p ≡ true → IsPart p
      → ((d : Place) (x : Text) → length d ≡ n → is_dir root (d ++ x ∷ []) ≡ true → zone root d ≡ hierarchy → IsAmong (level root n) d) → IsAmong (level root (suc n)) p
  lift n p l t k above =
      let s = last_name p n l in
      let there = ap (is_dir root) (sym s.2) ∙ t in
      let z = step_up s.0 s.1 (as_inside (s.0 ++ s.1 ∷ []) (subst IsPart s.2 k)) in
      subst (IsAmong (level root (suc n))) (sym s.2)
      (among_flat_map (directories_below root) (level root n) s.0 (s.0 ++ s.1 ∷ []) (above s.0 s.1 s.3 there z.1) (among_here s.0 s.1 n s.3 there z.0 z.1))

  up : (n : ℕ) (p : Place) → length p ≡ suc n → is_dir root p ≡ true → IsPart p → IsAmong (level root (suc n)) p
  up zero p l t k = lift zero p l t k top
    where
      top : (d : Place) (x : Text) → length d ≡ 0 → is_dir root (d ++ x ∷ []) ≡ true → zone root d ≡ hierarchy → IsAmong ([] ∷ []) d
      top [] x m u z = inl refl
      top (y ∷ d) x m u z = absurd (omega (arith, m))
  up (suc n) p l t k = lift (suc n) p l t k (λ d x m u z. up n d m (ap is_dir_leaf (way_dir root (is_closed root) d x [] dir (dir_from_leaf (at root (d ++ x ∷ [])) u))) (inl z))

  pub level_is : (n : ℕ) (p : Place) → IsAmong (level root (n + 1)) p ↔ ((length p ≡ n + 1) × LiesInHierarchy root p)
  level_is n p = (
    λ i. let k = down n p (subst (λ j. IsAmong (level root j) p) (sym same) i) in (k.0 ∙ same, record { directory = dir_from_leaf (at root p) k.1; part = k.2 }),
    λ h. subst (λ j. IsAmong (level root j) p) same (up n p (h.0 ∙ sym same) (ap is_dir_leaf h.1.directory) h.1.part),
  )
    where
      same : suc n ≡ n + 1
      same = omega arith
