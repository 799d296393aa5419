-- The place before a place.
use Rattle.std.proofs.Common.{◌≡◌, inl, inr, List, [], ◌∷◌, ◌++◌, refl, sym, ◌∙◌, ap, true, false, Bool, filter, Option, Some, None, not}
use Rattle.std.proofs.lemmas.Bool.{false_from_ne_true}
use Rattle.std.specs.{Prelude.{cond, option_map}, Ordering.{is_lt}}
use Rattle.std.specs.declared.cmp.Ordering.{Ordering}
use Rattle.std.specs.declared.cmp.Ordering.TheVariants.{Less, Equal, Greater}
use Rattle.ocfl_tree.specs.Place.{Place, Text, place_cmp}
use Rattle.ocfl_tree.specs.Ascending.{ascending, IsAscending, IsAmong}
use Rattle.ocfl_tree.specs.StorageRoot.{StorageRoot, dir}
use Rattle.ocfl_tree.proofs.Orders.{place_cmp_total, place_cmp_exact, true_not_false, below_from_greater, not_below_itself, not_both_below, before_each, among_ascending, among_filter, among_from_filter, ascends_filter, ascends_ascending}
use Rattle.ocfl_report.specs.declared.further.Further.{Further}
use Rattle.ocfl_rules.specs.Audit.{candidates}
use Rattle.ocfl_rules.specs.Between.{looked_between, read_between, up_to}
use Rattle.ocfl_rules.specs.Due.{due, item_places, places_after}
use Rattle.ocfl_rules.specs.Lines.{is_empty}
use Rattle.ocfl_rules.specs.Inventories.{notes}
use Rattle.ocfl_rules.proofs.AuditExists.{seen_candidate}
use Rattle.ocfl_rules.proofs.BelowLaws.{less_from}
use Rattle.ocfl_rules.proofs.BetweenLaws.{directories, from_directory, from_object, looked_seen, objects, read_seen}
use Rattle.ocfl_walk.proofs.FilterLaws.{left_whole}
use Rattle.ocfl_walk.specs.Before.{directory_of, last_place, place_before, places_from}

-- ---- the last of an ascending list is its greatest

last_among : (ps : List Place) (q : Place) → last_place ps ≡ Some q → IsAmong ps q
last_among [] q e = absurd cc
last_among (p ∷ []) q e = let same : p ≡ q = cc in inl (sym same)
last_among (p ∷ r ∷ ps) q e = inr (last_among (r ∷ ps) q e)

last_greatest : (ps : List Place) → IsAscending place_cmp ps → (q : Place) → last_place ps ≡ Some q → (x : Place) → IsAmong ps x → place_cmp q x ≡ Less → ⊥
last_greatest [] a q e x i l = absurd i
last_greatest (p ∷ []) a q e x (inl i) l = let same : p ≡ q = cc in not_below_itself place_cmp_total q (ap (place_cmp q) (sym (i ∙ same)) ∙ l)
last_greatest (p ∷ []) a q e x (inr i) l = absurd i
last_greatest (p ∷ r ∷ ps) a q e x (inl i) l = not_both_below place_cmp_total q p (ap (place_cmp q) (sym i) ∙ l) (before_each place_cmp p (r ∷ ps) a.0 q (last_among (r ∷ ps) q e))
last_greatest (p ∷ r ∷ ps) a q e x (inr i) l = last_greatest (r ∷ ps) a.1 q e x i l

last_none : (ps : List Place) → last_place ps ≡ None → (x : Place) → IsAmong ps x → ⊥
last_none [] e x i = i
last_none (p ∷ []) e x i = cc
last_none (p ∷ r ∷ ps) e x i = last_none (r ∷ ps) e r (inl refl)

last_some : (ps : List Place) (x : Place) → IsAmong ps x → (q : Place) × (last_place ps ≡ Some q)
last_some ps x i = by (last_place ps) refl
  where
    by : (o : Option Place) → last_place ps ≡ o → (q : Place) × (last_place ps ≡ Some q)
    by None e = absurd (last_none ps e x i)
    by (Some q) e = (q, e)

-- ---- what is above the place before p

pub not_below : (b c : Place) → place_cmp b c ≡ Less → is_lt (place_cmp c b) ≡ false
not_below b c l = by (place_cmp c b) refl
  where
    by : (r : Ordering) → place_cmp c b ≡ r → is_lt r ≡ false
    by Less e = absurd (not_both_below place_cmp_total b c l e)
    by Equal e = refl
    by Greater e = refl

-- a is below all that is not less than what it is below
pub below_from : (a p x : Place) → place_cmp a p ≡ Less → is_lt (place_cmp x p) ≡ false → place_cmp a x ≡ Less
below_from a p x l n = by (place_cmp x p) refl
  where
    by : (r : Ordering) → place_cmp x p ≡ r → place_cmp a x ≡ Less
    by Less e = absurd (true_not_false (sym (ap is_lt e) ∙ n))
    by Equal e = ap (place_cmp a) (place_cmp_exact x p e) ∙ l
    by Greater e = place_cmp_total.trans a p x l (below_from_greater place_cmp_total x p e)

-- q is the place before p
pub record IsJustBefore (root : StorageRoot) (q p : Place) : Type 0 where
  pub less : place_cmp q p ≡ Less
  pub next : (x : Place) → IsAmong (candidates root) x → place_cmp q x ≡ Less → is_lt (place_cmp x p) ≡ false

-- the places that may have lines and are less than p
abbrev lesser_places : StorageRoot → Place → List Place
lesser_places root p = filter (λ q. is_lt (place_cmp q p)) (ascending place_cmp (candidates root))

module _ (root : StorageRoot) (p : Place) where
  lesser_ascend : IsAscending place_cmp (lesser_places root p)
  lesser_ascend = ascends_filter place_cmp (λ q. is_lt (place_cmp q p)) _ (ascends_ascending place_cmp_total (candidates root))

  to_lesser : (x : Place) → IsAmong (candidates root) x → is_lt (place_cmp x p) ≡ true → IsAmong (lesser_places root p) x
  to_lesser x i l = among_filter (λ q. is_lt (place_cmp q p)) (ascending place_cmp (candidates root)) x ((among_ascending place_cmp_exact (candidates root) x).0 i) l

  from_lesser : (x : Place) → IsAmong (lesser_places root p) x → place_cmp x p ≡ Less
  from_lesser x i = less_from _ (among_from_filter (λ q. is_lt (place_cmp q p)) (ascending place_cmp (candidates root)) x i).1

  before_last : place_before root p ≡ last_place (lesser_places root p)
  unfolding place_before
  before_last = refl

  pub just_before : (q : Place) → place_before root p ≡ Some q → IsJustBefore root q p
  just_before q e = record { less = from_lesser q (last_among (lesser_places root p) q last); next = λ x i l. by x i l (is_lt (place_cmp x p)) refl }
    where
      last : last_place (lesser_places root p) ≡ Some q
      last = sym before_last ∙ e

      by : (x : Place) → IsAmong (candidates root) x → place_cmp q x ≡ Less → (b : Bool) → is_lt (place_cmp x p) ≡ b → is_lt (place_cmp x p) ≡ false
      by x i l true f = absurd (last_greatest (lesser_places root p) lesser_ascend q last x (to_lesser x i f) l)
      by x i l false f = f

  pub none_before : place_before root p ≡ None → (x : Place) → IsAmong (candidates root) x → is_lt (place_cmp x p) ≡ false
  none_before e x i = false_from_ne_true (is_lt (place_cmp x p)) (λ f. last_none (lesser_places root p) (sym before_last ∙ e) x (to_lesser x i f))

  pub some_before : place_cmp [] p ≡ Less → (q : Place) × (place_before root p ≡ Some q)
  some_before l = let k = last_some (lesser_places root p) [] (to_lesser [] (inl refl) (ap is_lt l)) in (k.0, before_last ∙ k.1)

-- the storage root's place comes before all that are in it
pub root_first : (d : Place) (n : Text) → place_cmp [] (d ++ n ∷ []) ≡ Less
root_first [] n = refl
root_first (m ∷ d) n = refl

-- nothing is less than the storage root's place
pub before_root : (root : StorageRoot) → place_before root [] ≡ None
before_root root = by (place_before root []) refl
  where
    no : (q : Place) → place_cmp q [] ≡ Less → ⊥
    no [] e = cc
    no (n ∷ q) e = cc

    by : (o : Option Place) → place_before root [] ≡ o → place_before root [] ≡ None
    by None e = e
    by (Some q) e = absurd (no q (just_before root [] q e).less)

filter_same : (f g : Place → Bool) (xs : List Place) → ((x : Place) → IsAmong xs x → f x ≡ g x) → filter f xs ≡ filter g xs
filter_same f g [] h = refl
filter_same f g (x ∷ xs) h = (λ i. cond (h x (inl refl) i) (x ∷ filter f xs) (filter f xs)) ∙ ap (λ ys. cond (g x) (x ∷ ys) ys) (filter_same f g xs (λ y i. h y (inr i)))

-- two tests of a list, the one or the other first
filter_swap : (f g : Place → Bool) (xs : List Place) → filter f (filter g xs) ≡ filter g (filter f xs)
filter_swap f g [] = refl
filter_swap f g (x ∷ xs) = by (f x) (g x) refl refl (filter_swap f g xs)
  where
    by : (a b : Bool) → f x ≡ a → g x ≡ b → filter f (filter g xs) ≡ filter g (filter f xs) → filter f (cond b (x ∷ filter g xs) (filter g xs)) ≡ filter g (cond a (x ∷ filter f xs) (filter f xs))
    by true true e h k = ap (λ c. cond c (x ∷ filter f (filter g xs)) (filter f (filter g xs))) e ∙ ap (λ ys. x ∷ ys) k ∙ sym (ap (λ c. cond c (x ∷ filter g (filter f xs)) (filter g (filter f xs))) h)
    by true false e h k = k ∙ sym (ap (λ c. cond c (x ∷ filter g (filter f xs)) (filter g (filter f xs))) h)
    by false true e h k = ap (λ c. cond c (x ∷ filter f (filter g xs)) (filter f (filter g xs))) e ∙ k
    by false false e h k = k

module _ (root : StorageRoot) (p : Place) where
  -- of places that may have lines
  from_after : (ps : List Place) → ((x : Place) → IsAmong ps x → IsAmong (candidates root) x) → places_after ps (place_before root p) ≡ places_from p ps
  from_after ps may = by (place_before root p) refl
    where
      same : (q : Place) → IsJustBefore root q p → (x : Place) → IsAmong (candidates root) x → is_lt (place_cmp q x) ≡ not (is_lt (place_cmp x p))
      same q j x i = go (is_lt (place_cmp q x)) refl
        where
          over : (b : Bool) → is_lt (place_cmp x p) ≡ b → is_lt (place_cmp q x) ≡ false → false ≡ not b
          over true f e = refl
          over false f e = absurd (true_not_false (sym (ap is_lt (below_from q p x j.less f)) ∙ e))

          go : (b : Bool) → is_lt (place_cmp q x) ≡ b → b ≡ not (is_lt (place_cmp x p))
          go true e = sym (ap not (j.next x i (less_from _ e)))
          go false e = over (is_lt (place_cmp x p)) refl e

      by : (o : Option Place) → place_before root p ≡ o → places_after ps o ≡ places_from p ps
      by None e = sym (left_whole (λ q. not (is_lt (place_cmp q p))) ps (λ x i. ap not (none_before root p e x (may x i))))
      by (Some q) e = filter_same (λ x. is_lt (place_cmp q x)) (λ x. not (is_lt (place_cmp x p))) ps (λ x i. same q (just_before root p q e) x (may x i))

  from_up_to : (ps : List Place) (to : Option Place) → up_to (places_from p ps) to ≡ places_from p (up_to ps to)
  from_up_to ps None = refl
  from_up_to ps (Some b) = filter_swap (λ q. not (is_lt (place_cmp b q))) (λ q. not (is_lt (place_cmp q p))) ps

  pub item_candidate : (further : Further) (x : Place) → IsAmong (item_places further root) x → IsAmong (candidates root) x
  unfolding item_places
  item_candidate further x i = (among_ascending place_cmp_exact (candidates root) x).1 (among_from_filter (λ y. not (is_empty (notes further root None y))) (ascending place_cmp (candidates root)) x i).0

  pub looked_from : (to : Option Place) → looked_between root (place_before root p) to ≡ places_from p (looked_between root None to)
  unfolding looked_between
  looked_from to = ap (λ xs. up_to xs to) (from_after (directories root) (λ x i. seen_candidate root x dir (looked_seen root x (from_directory root x i)))) ∙ from_up_to (directories root) to

  pub read_from : (to : Option Place) → read_between root (place_before root p) to ≡ places_from p (read_between root None to)
  unfolding read_between
  read_from to = ap (λ xs. up_to xs to) (from_after (objects root) (λ x i. seen_candidate root x dir (read_seen root x (from_object root x i)).0)) ∙ from_up_to (objects root) to

pub due_from : (further : Further) (root : StorageRoot) (p : Place) → due further root (place_before root p) ≡ places_from p (item_places further root)
unfolding due
due_from further root p = from_after root p (item_places further root) (item_candidate root p further)

-- ---- the directory of a place

pub directory_is : (d : Place) (n : Text) → directory_of (d ++ n ∷ []) ≡ Some d
directory_is [] n = refl
directory_is (m ∷ []) n = refl
directory_is (m ∷ k ∷ d) n = ap (option_map (λ x. m ∷ x)) (directory_is (k ∷ d) n)
