-- The next item: of what is seen on the stack, and of what the table names.
use Rattle.std.proofs.Common.{◌≡◌, ◌≢◌, ◌⊎◌, inl, inr, ℕ, List, [], ◌∷◌, ◌++◌, refl, sym, ◌∙◌, ap, subst, true, false, Bool, map, filter, Option, Some, None, append_assoc, append-nil}
use Rattle.std.specs.Prelude.{cond, flat_map, filter_map, is_some, ◌&&◌}
use Rattle.std.specs.{Ordering.{is_lt, is_eq, ordering_then}, declared.cmp.Ordering.{Ordering}}
use Rattle.std.specs.declared.cmp.Ordering.TheVariants.{Less, Equal, Greater}
use Rattle.ocfl_tree.specs.Place.{Place, Text, text_cmp, place_cmp, place_eq, child_name, begins}
use Rattle.ocfl_tree.specs.Ascending.{ascending, IsAscending, IsBeforeAll, IsAmong}
use Rattle.ocfl_tree.specs.StorageRoot.{StorageRoot, Leaf, dir, names_in}
use Rattle.ocfl_inventory.specs.Table.{Table, paths_of}
use Rattle.ocfl_rules.specs.Inventories.{notes}
use Rattle.ocfl_rules.specs.Zone.{skipped, inside, zone, table_at, seen}
use Rattle.ocfl_rules.specs.Audit.{Unread, given_by, item_of, has_lines, candidates, audit, after}
use Rattle.ocfl_rules.specs.Head.{on}
use Rattle.ocfl_rules.specs.Walk.{is_reached, seen_names, IsClosed, item_at, step_zone, is_extensions}
use Rattle.ocfl_rules.specs.Stack.{Frame, seen_places, seen_in, seen_left, listed_at, NoneSeenBetween, NoPathBetween, NoneSeenAbove, NoPathAbove, Ahead, in_sight, in_table, in_later}
use Rattle.ocfl_rules.proofs.StepLaws.{zone_step}
use Rattle.ocfl_rules.proofs.AuditExists.{append_one, append_nothing, zone_is, seen_candidate, place_from_test}
use Rattle.ocfl_rules.proofs.BelowLaws.{text_cmp_total, text_cmp_exact, on_ascends, place_eq-same, under, above, less_from, above_self, begins_rest, text_eq-same, equal_itself, split_names, split_self, split_after}
use Rattle.ocfl_rules.proofs.WayLaws.{seen_way, Reason, by_sight, by_table, head_seen, zone_part}
use Rattle.ocfl_rules.proofs.FurtherLaws.{reason}
use Rattle.ocfl_rules.proofs.WalkLaws.{item_places, places_ascend, audit_places, filter_items, place_has, has_place, none_among}
use Rattle.ocfl_tree.proofs.Orders.{place_cmp_total, place_cmp_exact, true_not_false, below_from_greater, ascending_unique, among_ascending, among_filter, among_from_filter, ascends_filter, ascends_ascending}
use Rattle.ocfl_report.specs.declared.further.Further.{Further}

-- ---- what is above a place, by order alone

module _ (ps : List Place) (ascends : IsAscending place_cmp ps) where
  -- the least above p comes first
  pub least_above : (p x : Place) → IsAmong ps x → place_cmp p x ≡ Less → ((y : Place) → IsAmong ps y → place_cmp p y ≡ Less → place_cmp y x ≡ Less → ⊥)
      → filter (above p) ps ≡ x ∷ filter (above x) ps
  least_above p x i l least = ascending_unique place_cmp_total place_cmp_exact _ _ (ascends_filter place_cmp (above p) ps ascends)
      (before, ascends_filter place_cmp (above x) ps ascends) (λ z. (to z, from z))
    where
      all_above : (ys : List Place) → IsBeforeAll place_cmp x (filter (above x) ys)
      all_above [] = tt
      all_above (y ∷ ys) = by (above x y) refl (all_above ys)
        where
          by : (b : Bool) → above x y ≡ b → IsBeforeAll place_cmp x (filter (above x) ys) → IsBeforeAll place_cmp x (cond b (y ∷ filter (above x) ys) (filter (above x) ys))
          by true e k = (less_from _ e, k)
          by false e k = k

      before : IsBeforeAll place_cmp x (filter (above x) ps)
      before = all_above ps

      to : (z : Place) → IsAmong (filter (above p) ps) z → IsAmong (x ∷ filter (above x) ps) z
      to z j = let k = among_from_filter (above p) ps z j in by k.0 (less_from _ k.1) (place_cmp x z) refl
        where
          by : IsAmong ps z → place_cmp p z ≡ Less → (o : Ordering) → place_cmp x z ≡ o → IsAmong (x ∷ filter (above x) ps) z
          by k m Less e = inr (among_filter (above x) ps z k (ap is_lt e))
          by k m Equal e = inl (sym (place_cmp_exact x z e))
          by k m Greater e = absurd (least z k m (below_from_greater place_cmp_total x z e))

      from : (z : Place) → IsAmong (x ∷ filter (above x) ps) z → IsAmong (filter (above p) ps) z
      from z (inl e) = among_filter (above p) ps z (subst (IsAmong ps) (sym e) i) (ap is_lt (ap (place_cmp p) e ∙ l))
      from z (inr j) = let k = among_from_filter (above x) ps z j in among_filter (above p) ps z k.0 (ap is_lt (place_cmp_total.trans p x z l (less_from _ k.1)))

  -- with nothing between, what is above stays the same
  pub same_above : (p x : Place) → ((y : Place) → IsAmong ps y → place_cmp p y ≡ Less → place_cmp x y ≡ Less) → ((y : Place) → IsAmong ps y → place_cmp x y ≡ Less → place_cmp p y ≡ Less)
      → filter (above p) ps ≡ filter (above x) ps
  same_above p x to from = ascending_unique place_cmp_total place_cmp_exact _ _ (ascends_filter place_cmp (above p) ps ascends) (ascends_filter place_cmp (above x) ps ascends)
      (λ z. (
        (λ j. let k = among_from_filter (above p) ps z j in among_filter (above x) ps z k.0 (ap is_lt (to z k.0 (less_from _ k.1)))),
        (λ j. let k = among_from_filter (above x) ps z j in among_filter (above p) ps z k.0 (ap is_lt (from z k.0 (less_from _ k.1)))),
      ))

  none_above : (p : Place) → ((y : Place) → IsAmong ps y → place_cmp p y ≡ Less → ⊥) → filter (above p) ps ≡ []
  none_above p h = none_among (filter (above p) ps) (λ y i. let k = among_from_filter (above p) ps y i in h y k.0 (less_from _ k.1))

-- ---- the same of items

module _ (further : Further) (root : StorageRoot) (unread : Unread) where
  after_kept : (p : Place) → after (audit further root unread) (Some p) ≡ map (item_of further root unread) (filter (above p) (item_places further root unread))
  after_kept p = ap (λ xs. after xs (Some p)) (audit_places further root unread) ∙ filter_items further root unread (above p) (item_places further root unread)

  -- the least place with lines above p is the next item
  pub next_is : (p x : Place) → has_lines (item_of further root unread x) ≡ true → place_cmp p x ≡ Less
      → ((y : Place) → has_lines (item_of further root unread y) ≡ true → place_cmp p y ≡ Less → place_cmp y x ≡ Less → ⊥)
      → after (audit further root unread) (Some p) ≡ item_of further root unread x ∷ after (audit further root unread) (Some x)
  next_is p x h l least =
      after_kept p ∙ ap (map (item_of further root unread)) (least_above (item_places further root unread) (places_ascend further root unread) p x (has_place further root unread x h) l (λ y i. least y (lined y i)))
      ∙ ap (λ xs. item_of further root unread x ∷ xs) (sym (after_kept x))
    where
      lined : (y : Place) → IsAmong (item_places further root unread) y → has_lines (item_of further root unread y) ≡ true
      lined y i = (among_from_filter (λ z. has_lines (item_of further root unread z)) (ascending place_cmp (candidates root)) y i).1

  pub nothing_next : (p : Place) → ((y : Place) → has_lines (item_of further root unread y) ≡ true → place_cmp p y ≡ Less → ⊥) → after (audit further root unread) (Some p) ≡ []
  nothing_next p h = after_kept p
      ∙ ap (map (item_of further root unread))
      (none_above (item_places further root unread) (places_ascend further root unread) p (λ y i. h y (among_from_filter (λ z. has_lines (item_of further root unread z)) (ascending place_cmp (candidates root)) y i).1))

-- ---- what is seen, in the order of a stack of listings

-- ---- what is seen, in the order of a stack of listings

is_some_from : (o : Option Leaf) → is_some o ≡ true → (l : Leaf) × (o ≡ Some l)
is_some_from None h = absurd (true_not_false (sym h))
is_some_from (Some l) h = (l, refl)

module _ (root : StorageRoot) where
  pub seen_ascend : IsAscending place_cmp (seen_places root)
  seen_ascend = ascends_filter place_cmp (λ p. is_some (seen root p)) _ (ascends_ascending place_cmp_total (candidates root))

  pub seen_from : (p : Place) → IsAmong (seen_places root) p → (l : Leaf) × (seen root p ≡ Some l)
  seen_from p i = is_some_from (seen root p) (among_from_filter (λ x. is_some (seen root x)) (ascending place_cmp (candidates root)) p i).1

  pub seen_to : (p : Place) (l : Leaf) → seen root p ≡ Some l → IsAmong (seen_places root) p
  seen_to p l h = among_filter (λ x. is_some (seen root x)) (ascending place_cmp (candidates root)) p
      ((among_ascending place_cmp_exact (candidates root) p).0 (seen_candidate root p l h)) (ap is_some h)

  seen_names_ascend : (d : Place) → IsAscending text_cmp (seen_names root d)
  seen_names_ascend d = by (is_reached root d)
    where
      by : (b : Bool) → IsAscending text_cmp (cond b (names_in root d) [])
      by true = ascends_ascending text_cmp_total (filter_map (λ e. child_name d e.0) root)
      by false = tt

  seen_here : (d : Place) → filter (place_eq d) (seen_places root) ≡ on (is_some (seen root d)) d
  seen_here d = ascending_unique place_cmp_total place_cmp_exact _ _ (ascends_filter place_cmp (place_eq d) (seen_places root) seen_ascend)
      (on_ascends (is_some (seen root d)) d) (λ z. (to z, from z (seen root d) refl))
    where
      to : (z : Place) → IsAmong (filter (place_eq d) (seen_places root)) z → IsAmong (on (is_some (seen root d)) d) z
      to z i =
          let k = among_from_filter (place_eq d) (seen_places root) z i in
          let e : d ≡ z = place_from_test d z k.1 in
          let l = seen_from z k.0 in
          subst (λ o. IsAmong (on (is_some o) d) z) (sym (ap (seen root) e ∙ l.1)) (inl (sym e))

      from : (z : Place) (o : Option Leaf) → seen root d ≡ o → IsAmong (on (is_some o) d) z → IsAmong (filter (place_eq d) (seen_places root)) z
      from z (Some l) h (inl e) = subst (IsAmong (filter (place_eq d) (seen_places root))) (sym e) (among_filter (place_eq d) (seen_places root) d (seen_to d l h) (place_eq-same d))
      from z (Some l) h (inr i) = absurd i
      from z None h i = absurd i

module _ (root : StorageRoot) (closed : IsClosed root) where
  cover_seen : (d : Place) (n : Text) (r : Place) → IsAmong (seen_places root) (d ++ n ∷ r) → IsAmong (seen_names root d) n
  cover_seen d n r i = let l = seen_from root (d ++ n ∷ r) i in seen_way root closed d n r l.0 l.1

  pub seen_by_name : (d : Place) → under (seen_places root) d ≡ on (is_some (seen root d)) d ++ flat_map (λ n. under (seen_places root) (d ++ n ∷ [])) (seen_names root d)
  seen_by_name d = split_names (seen_places root) (seen_ascend root) d (seen_names root d) (seen_names_ascend root d) (cover_seen d)
      ∙ ap (λ l. l ++ flat_map (λ n. under (seen_places root) (d ++ n ∷ [])) (seen_names root d)) (seen_here root d)

  pub listed_left : (d q : Place) (fs : List Frame) → seen_left (seen_places root) (listed_at root d q fs) ≡ filter (above (d ++ q)) (under (seen_places root) d) ++ seen_left (seen_places root) fs
  listed_left d [] fs =
      ap (λ l. l ++ seen_left (seen_places root) fs)
      (sym (split_self (seen_places root) (seen_ascend root) d (seen_names root d) (seen_names_ascend root d) (cover_seen d))
      ∙ ap (λ p. filter (above p) (under (seen_places root) d)) (sym (append_nothing d)))
  listed_left d (n ∷ q) fs =
      listed_left (d ++ n ∷ []) q ((d, filter (λ m. is_lt (text_cmp n m)) (seen_names root d)) ∷ fs)
      ∙ ap (λ p. filter (above p) (under (seen_places root) (d ++ n ∷ []))
      ++ (flat_map (λ m. under (seen_places root) (d ++ m ∷ [])) (filter (λ m. is_lt (text_cmp n m)) (seen_names root d)) ++ seen_left (seen_places root) fs)) (append_one d q n)
      ∙ sym (append_assoc (filter (above (d ++ n ∷ q)) (under (seen_places root) (d ++ n ∷ [])))
      (flat_map (λ m. under (seen_places root) (d ++ m ∷ [])) (filter (λ m. is_lt (text_cmp n m)) (seen_names root d))) (seen_left (seen_places root) fs))
      ∙ ap (λ l. l ++ seen_left (seen_places root) fs) (sym (split_after (seen_places root) (seen_ascend root) d (seen_names root d) (seen_names_ascend root d) (cover_seen d) n q))

  pub listed_is : (q : Place) → seen_left (seen_places root) (listed_at root [] q []) ≡ filter (above q) (seen_places root)
  listed_is q = listed_left [] q [] ∙ append-nil (filter (above q) (under (seen_places root) [])) ∙ ap (filter (above q)) (all (seen_places root))
    where
      all : (xs : List Place) → filter (begins []) xs ≡ xs
      all [] = refl
      all (x ∷ xs) = ap (λ l. x ∷ l) (all xs)

  -- an entry of a listing is the next place that is seen, and what is below comes then
  pub listing_step : (d : Place) (n : Text) (ns : List Text) (fs : List Frame) (leaf : Leaf) → seen root (d ++ n ∷ []) ≡ Some leaf
      → seen_left (seen_places root) ((d, n ∷ ns) ∷ fs) ≡ (d ++ n ∷ []) ∷ seen_left (seen_places root) ((d ++ n ∷ [], seen_names root (d ++ n ∷ [])) ∷ (d, ns) ∷ fs)
  listing_step d n ns fs leaf h =
      ap (λ l. (l ++ seen_in (seen_places root) (d, ns)) ++ seen_left (seen_places root) fs)
      (seen_by_name (d ++ n ∷ []) ∙ ap (λ o. on (is_some o) (d ++ n ∷ []) ++ flat_map (λ m. under (seen_places root) ((d ++ n ∷ []) ++ m ∷ [])) (seen_names root (d ++ n ∷ []))) h)
      ∙ regroup (d ++ n ∷ []) (seen_in (seen_places root) (d ++ n ∷ [], seen_names root (d ++ n ∷ []))) (seen_in (seen_places root) (d, ns)) (seen_left (seen_places root) fs)
    where
      regroup : (x : Place) (b c e : List Place) → (x ∷ b ++ c) ++ e ≡ x ∷ (b ++ (c ++ e))
      regroup x b c e = ap (λ l. x ∷ l) (append_assoc b c e)

  -- ---- what may come next

  no_extensions : (o : Place) (q : Place) (n : Text) → o ≢ [] → is_extensions root (o ++ q) n ≡ false
  no_extensions [] q n some = absurd (some refl)
  no_extensions (m ∷ o) q n some = refl

  -- further down, an object stays
  pub zone_longer : (p o q s : Place) → zone root p ≡ inside o q → zone root (p ++ s) ≡ inside o (q ++ s)
  zone_longer p o q [] h = ap (zone root) (append_nothing p) ∙ h ∙ ap (inside o) (sym (append_nothing q))
  zone_longer p o q (n ∷ s) h =
      let is = zone_is root p o q h in
      let plain : is_extensions root p n ≡ false = ap (λ x. is_extensions root x n) is.whole ∙ no_extensions o q n is.below in
      let one : zone root (p ++ n ∷ []) ≡ inside o (q ++ n ∷ []) = zone_step root p n ∙ ap (λ b. cond b skipped (step_zone root p n (zone root p))) plain ∙ ap (step_zone root p n) h in
      ap (zone root) (sym (append_one p s n)) ∙ zone_longer (p ++ n ∷ []) o (q ++ n ∷ []) s one ∙ ap (inside o) (append_one q s n)

  -- what is between last and a place below o: last is within o, or below it
  between : (o q last : Place) → place_cmp last (o ++ q) ≡ Less → (begins o last ≡ true) ⊎ (place_cmp last o ≡ Less)
  between [] q last h = inl refl
  between (a ∷ o) q [] h = inr refl
  between (a ∷ o) q (b ∷ l) h = by (text_cmp b a) refl h (between o q l)
    where
      alike : b ≡ a → (begins o l ≡ true) ⊎ (place_cmp l o ≡ Less) → (begins (a ∷ o) (b ∷ l) ≡ true) ⊎ (place_cmp (b ∷ l) (a ∷ o) ≡ Less)
      alike e (inl g) = inl (ap (λ x. is_eq (text_cmp a x) && begins o l) e ∙ ap (λ x. x && begins o l) (text_eq-same a) ∙ g)
      alike e (inr g) = inr (ap (λ x. ordering_then (text_cmp x a) (place_cmp l o)) e ∙ ap (λ r. ordering_then r (place_cmp l o)) (equal_itself text_cmp_total a) ∙ g)

      by : (r : Ordering) → text_cmp b a ≡ r → ordering_then r (place_cmp l (o ++ q)) ≡ Less
          → (place_cmp l (o ++ q) ≡ Less → (begins o l ≡ true) ⊎ (place_cmp l o ≡ Less)) → (begins (a ∷ o) (b ∷ l) ≡ true) ⊎ (place_cmp (b ∷ l) (a ∷ o) ≡ Less)
      by Less e g k = inr (ap (λ r. ordering_then r (place_cmp l o)) e)
      by Equal e g k = alike (text_cmp_exact b a e) (k g)
      by Greater e g k = absurd cc

module _ (further : Further) (root : StorageRoot) (closed : IsClosed root) where
  pub ahead : (u : Option ℕ) (last p : Place) → notes further root u p ≢ [] → place_cmp last p ≡ Less → Ahead root last p
  ahead u last p some l = by (reason further root closed u p some)
    where
      within : (o q : Place) (t : Table) → zone root p ≡ inside o q → table_at root o ≡ Some t → IsAmong (paths_of t) q → p ≡ o ++ q → (s : Place) × (last ≡ o ++ s) → Ahead root last p
      within o q t z h i e k =
          let head : zone root (o ++ []) ≡ inside o [] = zone_part root closed p o [] q z in
          in_table o k.0 q t (ap (zone root) (k.1 ∙ ap (λ x. x ++ k.0) (sym (append_nothing o))) ∙ zone_longer root closed (o ++ []) o [] k.0 head) h i e

      apart : (o q : Place) (t : Table) → zone root p ≡ inside o q → table_at root o ≡ Some t → IsAmong (paths_of t) q → p ≡ o ++ q → (begins o last ≡ true)
          ⊎ (place_cmp last o ≡ Less) → Ahead root last p
      apart o q t z h i e (inl b) = within o q t z h i e (begins_rest o last b)
      apart o q t z h i e (inr m) = in_later o q (head_seen root closed p o q z) m e

      by : Reason root closed p → Ahead root last p
      by (by_sight leaf h) = in_sight leaf h
      by (by_table o q t z h i) = let e = (zone_is root p o q z).whole in apart o q t z h i e (between root closed o q last (ap (place_cmp last) (sym e) ∙ l))

  -- what neither the listings nor the table lead to is no item
  none_between : (u : Option ℕ) (last x : Place) → NoneSeenBetween root last x → NoPathBetween root last x → (y : Place) → notes further root u y ≢ [] → place_cmp last y ≡ Less → place_cmp y x ≡ Less → ⊥
  none_between u last x sight path y some l m = by (ahead u last y some l)
    where
      front : (o q : Place) → y ≡ o ++ q → place_cmp o x ≡ Less
      front o [] e = ap (λ z. place_cmp z x) (sym (e ∙ append_nothing o)) ∙ m
      front o (n ∷ q) e = place_cmp_total.trans o y x (ap (place_cmp o) e ∙ above_self o n q) m

      by : Ahead root last y → ⊥
      by (in_sight leaf h) = sight y leaf h l m
      by (in_table o s q t z h i e) = path o s q t z h i (ap (place_cmp last) (sym e) ∙ l) (ap (λ w. place_cmp w x) (sym e) ∙ m)
      by (in_later o q h k e) = sight o dir h k (front o q e)

  none_ahead : (u : Option ℕ) (last : Place) → NoneSeenAbove root last → NoPathAbove root last → (y : Place) → notes further root u y ≢ [] → place_cmp last y ≡ Less → ⊥
  none_ahead u last sight path y some l = by (ahead u last y some l)
    where
      by : Ahead root last y → ⊥
      by (in_sight leaf h) = sight y leaf h l
      by (in_table o s q t z h i e) = path o s q t z h i (ap (place_cmp last) (sym e) ∙ l)
      by (in_later o q h k e) = sight o dir h k

module _ (further : Further) (root : StorageRoot) (closed : IsClosed root) (unread : Unread) where
  lined_notes : (y : Place) → has_lines (item_of further root unread y) ≡ true → notes further root (given_by unread y) y ≢ []
  lined_notes y h = place_has further root unread y (has_place further root unread y h)

  -- a step of the walk: the least of what the listings and the table lead to, with its item if it
  -- has lines
  pub walk_takes : (last x : Place) → place_cmp last x ≡ Less → NoneSeenBetween root last x → NoPathBetween root last x
      → after (audit further root unread) (Some last) ≡ item_at further root unread x ++ after (audit further root unread) (Some x)
  walk_takes last x l sight path = by (has_lines (item_of further root unread x)) refl
    where
      none : (y : Place) → has_lines (item_of further root unread y) ≡ true → place_cmp last y ≡ Less → place_cmp y x ≡ Less → ⊥
      none y h = none_between further root closed (given_by unread y) last x sight path y (lined_notes y h)

      onward : has_lines (item_of further root unread x) ≡ false → (y : Place) → IsAmong (item_places further root unread) y → place_cmp last y ≡ Less → place_cmp x y ≡ Less
      onward e y i k = go (place_cmp x y) refl
        where
          lined : has_lines (item_of further root unread y) ≡ true
          lined = (among_from_filter (λ z. has_lines (item_of further root unread z)) (ascending place_cmp (candidates root)) y i).1

          go : (r : Ordering) → place_cmp x y ≡ r → place_cmp x y ≡ Less
          go Less f = f
          go Equal f = absurd (true_not_false (sym lined ∙ ap (λ z. has_lines (item_of further root unread z)) (sym (place_cmp_exact x y f)) ∙ e))
          go Greater f = absurd (none y lined k (below_from_greater place_cmp_total x y f))

      by : (b : Bool) → has_lines (item_of further root unread x) ≡ b → after (audit further root unread) (Some last) ≡ on b (item_of further root unread x) ++ after (audit further root unread) (Some x)
      by true e = next_is further root unread last x e l none
      by false e =
          after_kept further root unread last
          ∙ ap (map (item_of further root unread)) (same_above (item_places further root unread) (places_ascend further root unread) last x (onward e) (λ y i k. place_cmp_total.trans last x y l k))
          ∙ sym (after_kept further root unread x)

  pub walk_ends : (last : Place) → NoneSeenAbove root last → NoPathAbove root last → after (audit further root unread) (Some last) ≡ []
  walk_ends last sight path = nothing_next further root unread last (λ y h. none_ahead further root closed (given_by unread y) last sight path y (lined_notes y h))
