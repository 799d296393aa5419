-- The audit, taken name by name.
use Rattle.std.proofs.Common.{◌≡◌, ◌≢◌, inl, inr, ℕ, zero, suc, ◌<◌, List, [], ◌∷◌, ◌++◌, refl, sym, ◌∙◌, ap, subst, true, false, Bool, map, filter, Some, arith, length, append_assoc, append-nil}
use Rattle.std.proofs.lemmas.List.{map-append}
use Rattle.std.specs.{Prelude.{cond, flat_map}, Ordering.{is_lt}}
use Rattle.ocfl_tree.specs.Place.{Place, Text, text_cmp, place_cmp, place_eq, begins}
use Rattle.ocfl_tree.specs.{Ascending.{ascending, IsAscending, IsAmong}, StorageRoot.{StorageRoot}}
use Rattle.ocfl_report.specs.{Line.{Item}, declared.further.Further.{Further}}
use Rattle.ocfl_rules.specs.Inventories.{notes}
use Rattle.ocfl_rules.specs.Audit.{Unread, given_by, item_of, has_lines, candidates, audit, after}
use Rattle.ocfl_rules.specs.Head.{on}
use Rattle.ocfl_rules.specs.Walk.{items_under, items_of_place, seen_names, path_names, names_below, item_at, walk, walk_after, IsClosed}
use Rattle.ocfl_rules.specs.Stack.{Frame, left_of, entered_at}
use Rattle.ocfl_rules.proofs.AuditExists.{place_from_test, append_one, append_nothing, lines_from_notes}
use Rattle.ocfl_rules.proofs.FurtherLaws.{notes_candidate, item_way}
use Rattle.ocfl_rules.proofs.BelowLaws.{text_cmp_total, on_ascends, place_eq-same, under, above, begins_rest, split_names, split_self, split_after}
use Rattle.ocfl_tree.proofs.Orders.{place_cmp_total, place_cmp_exact, ascending_unique, among_ascending, among_filter, among_from_filter, ascends_filter, ascends_ascending}

-- ---- lists

module _ {A B : Type 0} where
  map_flat_map : {C : Type 0} (f : A → B) (g : C → List A) (xs : List C) → map f (flat_map g xs) ≡ flat_map (λ x. map f (g x)) xs
  map_flat_map f g [] = refl
  map_flat_map f g (x ∷ xs) = map-append f (g x) (flat_map g xs) ∙ ap (λ l. map f (g x) ++ l) (map_flat_map f g xs)

  flat_map_alike : (g h : A → List B) (xs : List A) → ((x : A) → g x ≡ h x) → flat_map g xs ≡ flat_map h xs
  flat_map_alike g h xs e = λ i. flat_map (λ x. e x i) xs

append_at : {A : Type 0} {a b c e : List A} → a ≡ b → c ≡ e → a ++ c ≡ b ++ e
append_at p q = λ i. p i ++ q i

pub none_among : (xs : List Place) → ((z : Place) → IsAmong xs z → ⊥) → xs ≡ []
none_among [] h = refl
none_among (x ∷ xs) h = absurd (h x (inl refl))

pub names_ascend : (root : StorageRoot) (d : Place) → IsAscending text_cmp (names_below root d)
names_ascend root d = ascends_ascending text_cmp_total (seen_names root d ++ path_names root d)

-- ---- items and their places

module _ (further : Further) (root : StorageRoot) (unread : Unread) where
  abbrev pub item_places : List Place
  item_places = filter (λ p. has_lines (item_of further root unread p)) (ascending place_cmp (candidates root))

  pub places_ascend : IsAscending place_cmp item_places
  places_ascend = ascends_filter place_cmp (λ p. has_lines (item_of further root unread p)) _ (ascends_ascending place_cmp_total (candidates root))

  pub filter_items : (test : Place → Bool) (ps : List Place) → filter (λ i. test i.place) (map (item_of further root unread) ps) ≡ map (item_of further root unread) (filter test ps)
  filter_items test [] = refl
  filter_items test (p ∷ ps) = by (test p) (filter_items test ps)
    where
      by : (b : Bool) → filter (λ i. test i.place) (map (item_of further root unread) ps) ≡ map (item_of further root unread) (filter test ps)
          → cond b (item_of further root unread p ∷ filter (λ i. test i.place) (map (item_of further root unread) ps))
          (filter (λ i. test i.place) (map (item_of further root unread) ps)) ≡ map (item_of further root unread) (cond b (p ∷ filter test ps) (filter test ps))
      by true e = ap (λ l. item_of further root unread p ∷ l) e
      by false e = e

  filter_lines : (ps : List Place) → filter has_lines (map (item_of further root unread) ps) ≡ map (item_of further root unread) (filter (λ p. has_lines (item_of further root unread p)) ps)
  filter_lines [] = refl
  filter_lines (p ∷ ps) = by (has_lines (item_of further root unread p)) (filter_lines ps)
    where
      by : (b : Bool) → filter has_lines (map (item_of further root unread) ps) ≡ map (item_of further root unread) (filter (λ q. has_lines (item_of further root unread q)) ps)
          → cond b (item_of further root unread p ∷ filter has_lines (map (item_of further root unread) ps)) (filter has_lines (map (item_of further root unread) ps)) ≡ map
          (item_of further root unread) (cond b (p ∷ filter (λ q. has_lines (item_of further root unread q)) ps) (filter (λ q. has_lines (item_of further root unread q)) ps))
      by true e = ap (λ l. item_of further root unread p ∷ l) e
      by false e = e

  pub audit_places : audit further root unread ≡ map (item_of further root unread) item_places
  audit_places = filter_lines (ascending place_cmp (candidates root))

  -- the items of the places that a test keeps
  pub kept_items : (test : Place → Bool) → filter (λ i. test i.place) (audit further root unread) ≡ map (item_of further root unread) (filter test item_places)
  kept_items test = ap (filter (λ i. test i.place)) audit_places ∙ filter_items test item_places

  under_places : (d : Place) → items_under d (audit further root unread) ≡ map (item_of further root unread) (under item_places d)
  under_places d = kept_items (begins d)

  after_places : (d p : Place) → after (items_under d (audit further root unread)) (Some p) ≡ map (item_of further root unread) (filter (above p) (under item_places d))
  after_places d p = ap (λ xs. after xs (Some p)) (under_places d) ∙ filter_items (above p) (under item_places d)

  parts_places : (d : Place) (ns : List Text) → flat_map (λ n. items_under (d ++ n ∷ []) (audit further root unread)) ns ≡ map (item_of further root unread) (flat_map (λ n. under item_places (d ++ n ∷ [])) ns)
  parts_places d ns = flat_map_alike (λ n. items_under (d ++ n ∷ []) (audit further root unread)) (λ n. map (item_of further root unread) (under item_places (d ++ n ∷ []))) ns
      (λ n. under_places (d ++ n ∷ [])) ∙ sym (map_flat_map (item_of further root unread) (λ n. under item_places (d ++ n ∷ [])) ns)

  pub place_has : (p : Place) → IsAmong item_places p → notes further root (given_by unread p) p ≢ []
  place_has p i = (lines_from_notes p _).0 (among_from_filter (λ x. has_lines (item_of further root unread x)) (ascending place_cmp (candidates root)) p i).1

  pub has_place : (p : Place) → has_lines (item_of further root unread p) ≡ true → IsAmong item_places p
  has_place p h = among_filter (λ x. has_lines (item_of further root unread x)) (ascending place_cmp (candidates root)) p
      ((among_ascending place_cmp_exact (candidates root) p).0 (notes_candidate further root (given_by unread p) p ((lines_from_notes p _).0 h))) h

  -- ---- the item at one place

  here_places : (d : Place) → filter (place_eq d) item_places ≡ on (has_lines (item_of further root unread d)) d
  here_places d = ascending_unique place_cmp_total place_cmp_exact _ _ (ascends_filter place_cmp (place_eq d) item_places places_ascend)
      (on_ascends (has_lines (item_of further root unread d)) d) (λ z. (to z, from z (has_lines (item_of further root unread d)) refl))
    where
      to : (z : Place) → IsAmong (filter (place_eq d) item_places) z → IsAmong (on (has_lines (item_of further root unread d)) d) z
      to z i =
          let k = among_from_filter (place_eq d) item_places z i in
          let e : d ≡ z = place_from_test d z k.1 in
          let h : has_lines (item_of further root unread d) ≡ true = ap (λ x. has_lines (item_of further root unread x)) e ∙
          (among_from_filter (λ x. has_lines (item_of further root unread x)) (ascending place_cmp (candidates root)) z k.0).1 in
          subst (λ b. IsAmong (on b d) z) (sym h) (inl (sym e))

      from : (z : Place) (b : Bool) → has_lines (item_of further root unread d) ≡ b → IsAmong (on b d) z → IsAmong (filter (place_eq d) item_places) z
      from z true h (inl e) = subst (IsAmong (filter (place_eq d) item_places)) (sym e) (among_filter (place_eq d) item_places d (has_place d h) (place_eq-same d))
      from z true h (inr i) = absurd i
      from z false h i = absurd i

  pub item_here : (d : Place) → items_of_place d (audit further root unread) ≡ item_at further root unread d
  item_here d = kept_items (place_eq d) ∙ ap (map (item_of further root unread)) (here_places d) ∙ by (has_lines (item_of further root unread d))
    where
      by : (b : Bool) → map (item_of further root unread) (on b d) ≡ on b (item_of further root unread d)
      by true = refl
      by false = refl

-- ---- the laws

module _ (further : Further) (root : StorageRoot) (closed : IsClosed root) (unread : Unread) where
  cover : (d : Place) (n : Text) (r : Place) → IsAmong (item_places further root unread) (d ++ n ∷ r) → IsAmong (names_below root d) n
  cover d n r i = item_way further root closed (given_by unread (d ++ n ∷ r)) d n r (place_has further root unread (d ++ n ∷ r) i)

  -- the items that begin with d: its own, and those under each name, ascending
  pub items_by_name : (d : Place) → items_under d (audit further root unread) ≡ item_at further root unread d ++ flat_map (λ n. items_under (d ++ n ∷ []) (audit further root unread)) (names_below root d)
  items_by_name d =
      under_places further root unread d ∙ ap (map (item_of further root unread)) (split_names (item_places further root unread) (places_ascend further root unread) d (names_below root d) (names_ascend root d) (cover d))
      ∙ map-append (item_of further root unread) (filter (place_eq d) (item_places further root unread)) (flat_map (λ n. under (item_places further root unread) (d ++ n ∷ [])) (names_below root d))
      ∙ (λ i. append_at (sym (kept_items further root unread (place_eq d)) ∙ item_here further root unread d) (sym (parts_places further root unread d (names_below root d))) i)

  -- those above d itself
  pub items_after_self : (d : Place) → after (items_under d (audit further root unread)) (Some d) ≡ flat_map (λ n. items_under (d ++ n ∷ []) (audit further root unread)) (names_below root d)
  items_after_self d =
      after_places further root unread d d ∙ ap (map (item_of further root unread)) (split_self (item_places further root unread) (places_ascend further root unread) d (names_below root d) (names_ascend root d) (cover d))
      ∙ sym (parts_places further root unread d (names_below root d))

  -- those above a place below d: what is above it under its next name, and then all under greater
  -- names
  pub items_after_name : (d : Place) (n : Text) (q : Place) → after (items_under d (audit further root unread)) (Some (d ++ n ∷ q))
      ≡ after (items_under (d ++ n ∷ []) (audit further root unread)) (Some (d ++ n ∷ q)) ++ flat_map (λ m. items_under (d ++ m ∷ []) (audit further root unread))
      (filter (λ m. is_lt (text_cmp n m)) (names_below root d))
  items_after_name d n q =
      after_places further root unread d (d ++ n ∷ q)
      ∙ ap (map (item_of further root unread)) (split_after (item_places further root unread) (places_ascend further root unread) d (names_below root d) (names_ascend root d) (cover d) n q)
      ∙ map-append (item_of further root unread) (filter (above (d ++ n ∷ q)) (under (item_places further root unread) (d ++ n ∷ []))) _
      ∙ append_at (sym (after_places further root unread (d ++ n ∷ []) (d ++ n ∷ q))) (sym (parts_places further root unread d (filter (λ m. is_lt (text_cmp n m)) (names_below root d))))

  -- ---- the walk

  deeper : (k : ℕ) (d : Place) (n : Text) → ((r : Place) → IsAmong (item_places further root unread) (d ++ r) → length r < suc k) → (r : Place)
      → IsAmong (item_places further root unread) ((d ++ n ∷ []) ++ r) → length r < k
  deeper k d n h r i = let m : length (n ∷ r) < suc k = h (n ∷ r) (subst (IsAmong (item_places further root unread)) (append_one d r n) i) in omega (arith, m)

  nothing_under : (d : Place) → ((r : Place) → IsAmong (item_places further root unread) (d ++ r) → length r < 0) → items_under d (audit further root unread) ≡ []
  nothing_under d h = under_places further root unread d ∙ ap (map (item_of further root unread)) (none_among (under (item_places further root unread) d) no)
    where
      no : (z : Place) → IsAmong (under (item_places further root unread) d) z → ⊥
      no z i =
          let k = among_from_filter (begins d) (item_places further root unread) z i in
          let b = begins_rest d z k.1 in
          let m : length b.0 < 0 = h b.0 (subst (IsAmong (item_places further root unread)) b.1 k.0) in
          omega (arith, m)

  pub walk_under : (k : ℕ) (d : Place) → ((r : Place) → IsAmong (item_places further root unread) (d ++ r) → length r < k) → walk further k root unread d ≡ items_under d (audit further root unread)
  walk_under zero d h = sym (nothing_under d h)
  walk_under (suc k) d h =
      ap (λ l. item_at further root unread d ++ l)
      (flat_map_alike (λ n. walk further k root unread (d ++ n ∷ [])) (λ n. items_under (d ++ n ∷ []) (audit further root unread)) (names_below root d) (λ n. walk_under k (d ++ n ∷ []) (deeper k d n h)))
      ∙ sym (items_by_name d)

  pub walk_after_under : (k : ℕ) (d q : Place) → ((r : Place) → IsAmong (item_places further root unread) (d ++ r) → length r < k)
      → walk_after further k root unread d q ≡ after (items_under d (audit further root unread)) (Some (d ++ q))
  walk_after_under zero d q h = ap (λ xs. after xs (Some (d ++ q))) (sym (nothing_under d h))
  walk_after_under (suc k) d [] h =
      flat_map_alike (λ n. walk further k root unread (d ++ n ∷ [])) (λ n. items_under (d ++ n ∷ []) (audit further root unread)) (names_below root d) (λ n. walk_under k (d ++ n ∷ []) (deeper k d n h))
      ∙ sym (items_after_self d) ∙ ap (λ p. after (items_under d (audit further root unread)) (Some p)) (sym (append_nothing d))
  walk_after_under (suc k) d (n ∷ q) h =
      append_at (walk_after_under k (d ++ n ∷ []) q (deeper k d n h) ∙ ap (λ p. after (items_under (d ++ n ∷ []) (audit further root unread)) (Some p)) (append_one d q n))
      (flat_map_alike (λ m. walk further k root unread (d ++ m ∷ [])) (λ m. items_under (d ++ m ∷ []) (audit further root unread))
      (filter (λ m. is_lt (text_cmp n m)) (names_below root d)) (λ m. walk_under k (d ++ m ∷ []) (deeper k d m h)))
      ∙ sym (items_after_name d n q)

  pub under_root : items_under [] (audit further root unread) ≡ audit further root unread
  under_root = all (audit further root unread)
    where
      all : (xs : List Item) → filter (λ i. begins [] i.place) xs ≡ xs
      all [] = refl
      all (x ∷ xs) = ap (λ l. x ∷ l) (all xs)

  pub walk_is : (k : ℕ) → ((p : Place) → notes further root (given_by unread p) p ≢ [] → length p < k) → walk further k root unread [] ≡ audit further root unread
  walk_is k h = walk_under k [] (λ r i. h r (place_has further root unread r i)) ∙ under_root

  pub walk_after_is : (k : ℕ) (q : Place) → ((p : Place) → notes further root (given_by unread p) p ≢ [] → length p < k) → walk_after further k root unread [] q ≡ after (audit further root unread) (Some q)
  walk_after_is k q h = walk_after_under k [] q (λ r i. h r (place_has further root unread r i)) ∙ ap (λ xs. after xs (Some q)) under_root

  -- ---- the stack

  -- entered at a place, a stack leads to the items above it
  pub entered_left : (d q : Place) (fs : List Frame)
      → left_of (audit further root unread) (entered_at root d q fs) ≡ after (items_under d (audit further root unread)) (Some (d ++ q)) ++ left_of (audit further root unread) fs
  entered_left d [] fs = ap (λ l. l ++ left_of (audit further root unread) fs) (sym (items_after_self d) ∙ ap (λ p. after (items_under d (audit further root unread)) (Some p)) (sym (append_nothing d)))
  entered_left d (n ∷ q) fs =
      entered_left (d ++ n ∷ []) q ((d, filter (λ m. is_lt (text_cmp n m)) (names_below root d)) ∷ fs)
      ∙ ap (λ p. after (items_under (d ++ n ∷ []) (audit further root unread)) (Some p)
      ++ (flat_map (λ m. items_under (d ++ m ∷ []) (audit further root unread)) (filter (λ m. is_lt (text_cmp n m)) (names_below root d)) ++ left_of (audit further root unread) fs)) (append_one d q n)
      ∙ sym (append_assoc (after (items_under (d ++ n ∷ []) (audit further root unread)) (Some (d ++ n ∷ q)))
      (flat_map (λ m. items_under (d ++ m ∷ []) (audit further root unread)) (filter (λ m. is_lt (text_cmp n m)) (names_below root d))) (left_of (audit further root unread) fs))
      ∙ ap (λ l. l ++ left_of (audit further root unread) fs) (sym (items_after_name d n q))

  pub entered_is : (q : Place) → left_of (audit further root unread) (entered_at root [] q []) ≡ after (audit further root unread) (Some q)
  entered_is q = entered_left [] q [] ∙ append-nil (after (items_under [] (audit further root unread)) (Some q)) ∙ ap (λ xs. after xs (Some q)) under_root
