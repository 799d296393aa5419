-- Where the walk over a part begins: what is left there before its end is what the part has above
-- the place that it is given.
use Rattle.ocfl_report.specs.declared.further.Further.{Further}
use Rattle.std.proofs.Common.{◌≡◌, List, [], ◌∷◌, ◌++◌, refl, sym, ◌∙◌, ap, subst, true, false, Bool, Option, Some, None, map, filter, append-nil}
use Rattle.std.proofs.Math.Bool.{and-true, and-false, and_comm}
use Rattle.std.specs.{Prelude.{cond, not, ◌&&◌, ◌||◌}, Option.{option_map}, Ordering.{is_lt}}
use Rattle.std.specs.declared.cmp.Ordering.{Ordering}
use Rattle.std.specs.declared.cmp.Ordering.TheVariants.{Less, Equal, Greater}
use Rattle.ocfl_tree.specs.Place.{Text, Place, place_cmp, begins}
use Rattle.ocfl_tree.specs.{Ascending.{IsAscending, IsAmong}, StorageRoot.{StorageRoot}}
use Rattle.ocfl_tree.specs.declared.store.Opening.{Opening}
use Rattle.ocfl_tree.proofs.Orders.{place_cmp_total, place_cmp_exact, true_not_false, below_from_greater, ascends_filter, among_from_filter}
use Rattle.ocfl_tree.proofs.Places.{begins-itself}
use Rattle.ocfl_rules.specs.Audit.{Unread, audit, item_of}
use Rattle.ocfl_rules.specs.Between.{IsBeyond, up_to, looked_between, read_between}
use Rattle.ocfl_rules.specs.Due.{due, item_places, items_at}
use Rattle.ocfl_rules.specs.Parts.{Part, is_from, is_below, lies_in, within, places_within}
use Rattle.ocfl_rules.specs.Trail.{unread_of}
use Rattle.ocfl_rules.proofs.BelowLaws.{less_from, begins_rest, cmp_behind}
use Rattle.ocfl_rules.proofs.BetweenLaws.{from_between}
use Rattle.ocfl_rules.proofs.BranchLaws.{nothing_above}
use Rattle.ocfl_rules.proofs.DueLaws.{after_is_due, audit_by_places}
use Rattle.ocfl_rules.proofs.Lists.{map_filter, filter_same}
use Rattle.ocfl_rules.proofs.PartLaws.{filter_twice, within_is, places_within_is, part_goes_on}
use Rattle.ocfl_walk.specs.Before.{directory_of, place_before, places_from}
use Rattle.ocfl_walk.specs.Ends.{is_above_branch, is_at_bound, is_past, before_end}
use Rattle.ocfl_walk.proofs.BeforeLaws.{below_from, due_from, looked_from, read_from, not_below}
use Rattle.ocfl_walk.proofs.EndLaws.{all_left, not_past_down}
use Rattle.ocfl_scrub.specs.Starting.{end_of, greater_of, unless_root, first_place, is_before, entry_by, entry, stand_by, stand, due_within, looked_in, read_in, items_in}
use Rattle.ocfl_scrub.proofs.OrderLaws.{looked_ascend, read_ascend}
use Rattle.ocfl_item.proofs.UpToLaws.{not_less_or}
use Rattle.ocfl_scrub.proofs.PassLaws.{due_ascends}

-- ---- what is in a part: what is not less than its first place, and not past its end

pub unless_root_is : (g b : Place) → unless_root g ≡ Some b → g ≡ b
unless_root_is [] b e = absurd (let two : None ≡ Some b = e in cc)
unless_root_is (n ∷ g) b e = let two : Some (n ∷ g) ≡ Some b = e in cc

-- what begins with a place is not less than it
begins_not_less : (u x : Place) → begins u x ≡ true → is_lt (place_cmp x u) ≡ false
begins_not_less u x h =
    let r = begins_rest u x h in
    subst (λ z. is_lt (place_cmp z u) ≡ false) (sym r.1) (ap is_lt (ap (place_cmp (u ++ r.0)) (sym (append-nil u)) ∙ cmp_behind u r.0 []) ∙ nothing_above r.0)

module _ (part : Part) (x : Place) where
  -- above the greater of both is above the branch's place
  over_under : is_lt (place_cmp x (greater_of part.under part.from)) ≡ false → is_lt (place_cmp x part.under) ≡ false
  over_under = by part.from
    where
      at : (a : Place) (b : Bool) → is_lt (place_cmp part.under a) ≡ b → is_lt (place_cmp x (cond b a part.under)) ≡ false → is_lt (place_cmp x part.under) ≡ false
      at a true e h = not_less_or x a part.under h (not_below part.under a (less_from _ e))
      at a false e h = h

      by : (from : Option Place) → is_lt (place_cmp x (greater_of part.under from)) ≡ false → is_lt (place_cmp x part.under) ≡ false
      by None h = h
      by (Some a) h = at a (is_lt (place_cmp part.under a)) refl h

  -- within the branch only the lower end counts
  from_is : is_lt (place_cmp x part.under) ≡ false → is_from part.from x ≡ not (is_lt (place_cmp x (greater_of part.under part.from)))
  from_is low = by part.from
    where
      at : (a : Place) (b : Bool) → is_lt (place_cmp part.under a) ≡ b → not (is_lt (place_cmp x a)) ≡ not (is_lt (place_cmp x (cond b a part.under)))
      at a true e = refl
      at a false e = ap not (not_less_or x part.under a low e) ∙ sym (ap not low)

      by : (from : Option Place) → is_from from x ≡ not (is_lt (place_cmp x (greater_of part.under from)))
      by None = sym (ap not low)
      by (Some a) = at a (is_lt (place_cmp part.under a)) refl

  below_is : is_below part.below x ≡ not (is_at_bound part.below x)
  below_is = by part.below
    where
      twice : (b : Bool) → b ≡ not (not b)
      twice true = refl
      twice false = refl

      by : (below : Option Place) → is_below below x ≡ not (is_at_bound below x)
      by None = refl
      by (Some b) = twice (is_lt (place_cmp x b))

  -- apart from the branch nothing is between its place and what is above it
  apart : begins part.under x ≡ false → is_lt (place_cmp x part.under) ≡ false → is_above_branch part.under x ≡ true
  apart out low = ap (λ b. is_lt (place_cmp part.under x) && not b) out ∙ and-true (is_lt (place_cmp part.under x)) ∙ by (place_cmp x part.under) refl
    where
      by : (r : Ordering) → place_cmp x part.under ≡ r → is_lt (place_cmp part.under x) ≡ true
      by Less e = absurd (true_not_false (sym (ap is_lt e) ∙ low))
      by Equal e = absurd (true_not_false (sym (subst (λ z. begins z x ≡ true) (place_cmp_exact x part.under e) (begins-itself x)) ∙ out))
      by Greater e = ap is_lt (below_from_greater place_cmp_total x part.under e)

  -- a place of the branch
  inside_is : begins part.under x ≡ true → lies_in part x ≡ not (is_lt (place_cmp x (greater_of part.under part.from))) && not (is_past (end_of part) x)
  inside_is within_it =
      let low = begins_not_less part.under x within_it in
      ap (λ b. b && (is_from part.from x && is_below part.below x)) within_it
      ∙ ap (λ b. b && is_below part.below x) (from_is low)
      ∙ ap (λ b. not (is_lt (place_cmp x (greater_of part.under part.from))) && b) (below_is ∙ sym (ap (λ b. not (b || is_at_bound part.below x)) shut))
    where
      shut : is_above_branch part.under x ≡ false
      shut = ap (λ b. is_lt (place_cmp part.under x) && not b) within_it ∙ and-false (is_lt (place_cmp part.under x))

  outside_is : begins part.under x ≡ false → lies_in part x ≡ not (is_lt (place_cmp x (greater_of part.under part.from))) && not (is_past (end_of part) x)
  outside_is out = ap (λ b. b && (is_from part.from x && is_below part.below x)) out ∙ sym (by (is_lt (place_cmp x (greater_of part.under part.from))) refl)
    where
      by : (b : Bool) → is_lt (place_cmp x (greater_of part.under part.from)) ≡ b → not (is_lt (place_cmp x (greater_of part.under part.from))) && not (is_past (end_of part) x) ≡ false
      by true e = ap (λ b. not b && not (is_past (end_of part) x)) e
      by false e = ap (λ b. not (is_lt (place_cmp x (greater_of part.under part.from))) && not (b || is_at_bound part.below x)) (apart out (over_under e))
          ∙ and-false (not (is_lt (place_cmp x (greater_of part.under part.from))))

  pub lies_exact : lies_in part x ≡ not (is_lt (place_cmp x (greater_of part.under part.from))) && not (is_past (end_of part) x)
  lies_exact = by (begins part.under x) refl
    where
      by : (b : Bool) → begins part.under x ≡ b → lies_in part x ≡ not (is_lt (place_cmp x (greater_of part.under part.from))) && not (is_past (end_of part) x)
      by true e = inside_is e
      by false e = outside_is e

-- ---- places of a part, by the walk's beginning and its end

-- those not less than the first place, all if that is the storage root's
abbrev from_first : Option Place → List Place → List Place
from_first None xs = xs
from_first (Some b) xs = places_from b xs

module _ (part : Part) where
  before_from : (xs : List Place) → before_end (end_of part) (from_first (first_place part) xs) ≡ places_within part xs
  before_from xs = by (greater_of part.under part.from) refl ∙ sym (places_within_is part xs)
    where
      by : (g : Place) → greater_of part.under part.from ≡ g → before_end (end_of part) (from_first (unless_root (greater_of part.under part.from)) xs) ≡ filter (lies_in part) xs
      by [] e =
          ap (λ g. before_end (end_of part) (from_first (unless_root g) xs)) e
          ∙ filter_same _ _ (λ x. sym (lies_exact part x ∙ ap (λ g. not (is_lt (place_cmp x g)) && not (is_past (end_of part) x)) e
          ∙ ap (λ b. not b && not (is_past (end_of part) x)) (nothing_above x))) xs
      by (n ∷ g) e =
          ap (λ h. before_end (end_of part) (from_first (unless_root h) xs)) e
          ∙ filter_twice (λ z. not (is_past (end_of part) z)) (λ q. not (is_lt (place_cmp q (n ∷ g)))) xs
          ∙ filter_same _ _ (λ x. sym (lies_exact part x ∙ ap (λ h. not (is_lt (place_cmp x h)) && not (is_past (end_of part) x)) e)) xs

  -- what is in a part is not less than its first place
  pub not_less_first : (b x : Place) → first_place part ≡ Some b → lies_in part x ≡ true → is_lt (place_cmp x b) ≡ false
  not_less_first b x e h = by (is_lt (place_cmp x b)) refl
    where
      shown : not (is_lt (place_cmp x b)) && not (is_past (end_of part) x) ≡ true
      shown = subst (λ g. not (is_lt (place_cmp x g)) && not (is_past (end_of part) x) ≡ true) (unless_root_is (greater_of part.under part.from) b e) (sym (lies_exact part x) ∙ h)

      by : (r : Bool) → is_lt (place_cmp x b) ≡ r → is_lt (place_cmp x b) ≡ false
      by true f = absurd (true_not_false (sym (sym (ap (λ r. not r && not (is_past (end_of part) x)) f) ∙ shown)))
      by false f = f

-- ---- what is left where the walk begins

module _ (root : StorageRoot) (part : Part) (f : Option Place → List Place) (from_b : (b : Place) → f (place_before root b) ≡ places_from b (f None))
    (after_p : (p : Place) → f (Some p) ≡ filter (λ q. is_lt (place_cmp p q)) (f None)) where
  -- a place that is less than the first leaves all
  lesser_leaves_all : (b : Place) → first_place part ≡ Some b → (above : Option Place) → is_before above b ≡ true → places_within part (f None) ≡ places_within part (f above)
  lesser_leaves_all b e None t = refl
  lesser_leaves_all b e (Some p) t =
      places_within_is part (f None) ∙ filter_same _ _ (λ x. by x (lies_in part x) refl) (f None)
      ∙ sym (filter_twice (lies_in part) (λ q. is_lt (place_cmp p q)) (f None)) ∙ sym (places_within_is part (filter (λ q. is_lt (place_cmp p q)) (f None))) ∙ ap (places_within part) (sym (after_p p))
    where
      by : (x : Place) (r : Bool) → lies_in part x ≡ r → lies_in part x ≡ is_lt (place_cmp p x) && lies_in part x
      by x true h = h ∙ sym (ap (λ r. r && lies_in part x) (ap is_lt (below_from p b x (less_from _ t) (not_less_first part b x e h))) ∙ h)
      by x false h = h ∙ sym (and-false (is_lt (place_cmp p x))) ∙ ap (λ r. is_lt (place_cmp p x) && r) (sym h)

  -- above another place of the part only the end counts
  greater_leaves : (b : Place) → first_place part ≡ Some b → (above : Option Place) → is_before above b ≡ false → before_end (end_of part) (f above) ≡ places_within part (f above)
  greater_leaves b e None t = absurd (true_not_false t)
  greater_leaves b e (Some p) t =
      ap (before_end (end_of part)) (after_p p) ∙ filter_twice (λ z. not (is_past (end_of part) z)) (λ q. is_lt (place_cmp p q)) (f None)
      ∙ filter_same _ _ (λ x. by x (is_lt (place_cmp p x)) refl) (f None)
      ∙ sym (filter_twice (lies_in part) (λ q. is_lt (place_cmp p q)) (f None)) ∙ sym (places_within_is part (filter (λ q. is_lt (place_cmp p q)) (f None))) ∙ ap (places_within part) (sym (after_p p))
    where
      far : (x : Place) → is_lt (place_cmp p x) ≡ true → lies_in part x ≡ not (is_past (end_of part) x)
      far x h =
          lies_exact part x ∙ ap (λ g. not (is_lt (place_cmp x g)) && not (is_past (end_of part) x)) (unless_root_is (greater_of part.under part.from) b e)
          ∙ ap (λ r. not r && not (is_past (end_of part) x)) (not_less_or x p b (not_below p x (less_from _ h)) t)

      by : (x : Place) (r : Bool) → is_lt (place_cmp p x) ≡ r → is_lt (place_cmp p x) && not (is_past (end_of part) x) ≡ is_lt (place_cmp p x) && lies_in part x
      by x true h = ap (λ r. is_lt (place_cmp p x) && r) (sym (far x h))
      by x false h = ap (λ r. r && not (is_past (end_of part) x)) h ∙ sym (ap (λ r. r && lies_in part x) h)

  leaves : (above : Option Place) → before_end (end_of part) (f (stand root part above)) ≡ places_within part (f above)
  leaves above = by (first_place part) refl
    where
      at : (b : Place) (r : Bool) → first_place part ≡ Some b → is_before above b ≡ r → before_end (end_of part) (f (cond r (place_before root b) above)) ≡ places_within part (f above)
      at b true e t = ap (before_end (end_of part)) (from_b b) ∙ sym (ap (λ o. before_end (end_of part) (from_first o (f None))) e) ∙ before_from part (f None) ∙ lesser_leaves_all b e above t
      at b false e t = greater_leaves b e above t

      by : (o : Option Place) → first_place part ≡ o → before_end (end_of part) (f (stand_by root (first_place part) above)) ≡ places_within part (f above)
      by None e = ap (λ o. before_end (end_of part) (f (stand_by root o above))) e ∙ sym (ap (λ o. before_end (end_of part) (from_first o (f above))) e) ∙ before_from part (f above)
      by (Some b) e = ap (λ o. before_end (end_of part) (f (stand_by root o above))) e ∙ at b (is_before above b) e refl

-- a filter and a bound, the one or the other first
filter_up_to : (test : Place → Bool) (ps : List Place) (to : Option Place) → up_to (filter test ps) to ≡ filter test (up_to ps to)
filter_up_to test ps None = refl
filter_up_to test ps (Some b) =
    filter_twice (λ q. not (is_lt (place_cmp b q))) test ps ∙ filter_same _ _ (λ x. and_comm (test x) (not (is_lt (place_cmp b x)))) ps ∙ sym (filter_twice test (λ q. not (is_lt (place_cmp b q))) ps)

module _ (further : Further) (root : StorageRoot) (part : Part) (above : Option Place) where
  pub due_starts : before_end (end_of part) (due further root (stand root part above)) ≡ due_within further root part above
  unfolding due
  due_starts = leaves root part (due further root) (due_from further root) (λ p. refl) above

  pub looked_starts : (to : Option Place) → before_end (end_of part) (looked_between root (stand root part above) to) ≡ looked_in root part above to
  unfolding looked_between
  looked_starts to = leaves root part (λ from. looked_between root from to) (λ b. looked_from root b to) (λ p. filter_up_to (λ q. is_lt (place_cmp p q)) _ to) above

  read_starts : (to : Option Place) → before_end (end_of part) (read_between root (stand root part above) to) ≡ read_in root part above to
  unfolding read_between
  read_starts to = leaves root part (λ from. read_between root from to) (λ b. read_from root b to) (λ p. filter_up_to (λ q. is_lt (place_cmp p q)) _ to) above

  pub looked_all : before_end (end_of part) (looked_between root (stand root part above) None) ≡ looked_in root part above None
  looked_all = looked_starts None

  pub read_all : before_end (end_of part) (read_between root (stand root part above) None) ≡ read_in root part above None
  read_all = read_starts None

  -- up to a place that is not past the end
  module _ (next : Place) (inside : is_past (end_of part) next ≡ false) where
    looked_before : before_end (end_of part) (looked_between root (stand root part above) (Some next)) ≡ looked_between root (stand root part above) (Some next)
    unfolding looked_between
    looked_before = all_left (end_of part) _ (λ y i. not_past_down (end_of part) next y inside (from_between _ (stand root part above) (Some next) y i).2)

    read_before : before_end (end_of part) (read_between root (stand root part above) (Some next)) ≡ read_between root (stand root part above) (Some next)
    unfolding read_between
    read_before = all_left (end_of part) _ (λ y i. not_past_down (end_of part) next y inside (from_between _ (stand root part above) (Some next) y i).2)

    pub looked_to : looked_between root (stand root part above) (Some next) ≡ looked_in root part above (Some next)
    looked_to = sym looked_before ∙ looked_starts (Some next)

    pub read_to : read_between root (stand root part above) (Some next) ≡ read_in root part above (Some next)
    read_to = sym read_before ∙ read_starts (Some next)

  -- the items of the part above the place
  pub above_in : (os : List Opening) → items_in further root os part above ≡ items_at further root os (due_within further root part above)
  unfolding items_at
  above_in os =
      part_goes_on part above (audit further root (unread_of further root os)) ∙ ap (within part) (after_is_due further root os above)
      ∙ within_is part (map (item_of further root (unread_of further root os)) (due further root above))
      ∙ map_filter (λ i. lies_in part i.place) (item_of further root (unread_of further root os)) (due further root above)
      ∙ ap (map (item_of further root (unread_of further root os))) (sym (places_within_is part (due further root above)))

-- ---- what is in the part there is above the place that is gone down to

below_directory : (n : Text) (p : Place) → (d : Place) × ((directory_of (n ∷ p) ≡ Some d) × (place_cmp d (n ∷ p) ≡ Less))
below_directory n [] = ([], (refl, refl))
below_directory n (m ∷ p) =
    let h = below_directory m p in
    (n ∷ h.0, (ap (λ o. option_map (λ d. n ∷ d) o) h.1.0, cmp_behind (n ∷ []) h.0 (m ∷ p) ∙ h.1.1))

pub entry_beyond : (part : Part) (above : Option Place) (y : Place) → lies_in part y ≡ true → IsBeyond above y → IsBeyond (entry part above) y
entry_beyond part above y h l = by (first_place part) refl
  where
    at : (g : Place) (r : Bool) → first_place part ≡ unless_root g → (b : Place) → unless_root g ≡ Some b → IsBeyond (cond r (directory_of b) above) y
    at [] r e b f = absurd (let two : None ≡ Some b = f in cc)
    at (n ∷ g) false e b f = l
    at (n ∷ g) true e b f =
        let same : n ∷ g ≡ b = (let two : Some (n ∷ g) ≡ Some b = f in cc) in
        let d = below_directory n g in
        let low : place_cmp d.0 y ≡ Less = below_from d.0 (n ∷ g) y d.1.1 (not_less_first part (n ∷ g) y e h) in
        subst (λ x. IsBeyond (directory_of x) y) same (subst (λ o. IsBeyond o y) (sym d.1.0) low)

    by : (o : Option Place) → first_place part ≡ o → IsBeyond (entry_by (first_place part) above) y
    by None e = subst (λ o. IsBeyond (entry_by o above) y) (sym e) l
    by (Some b) e = subst (λ o. IsBeyond (entry_by o above) y) (sym e) (at (greater_of part.under part.from) (is_before above b) refl b e)

module _ (root : StorageRoot) (part : Part) (above to : Option Place) (y : Place) where
  within_beyond : (xs : List Place) → ((z : Place) → IsAmong xs z → IsBeyond above z) → IsAmong (places_within part xs) y → IsBeyond (entry part above) y
  within_beyond xs far i =
      let k = among_from_filter (lies_in part) xs y (subst (λ zs. IsAmong zs y) (places_within_is part xs) i) in
      entry_beyond part above y k.1 (far y k.0)

  pub looked_in_beyond : IsAmong (looked_in root part above to) y → IsBeyond (entry part above) y
  unfolding looked_between
  looked_in_beyond i = within_beyond (looked_between root above to) (λ z j. (from_between _ above to z j).1) i

  pub read_in_beyond : IsAmong (read_in root part above to) y → IsBeyond (entry part above) y
  unfolding read_between
  read_in_beyond i = within_beyond (read_between root above to) (λ z j. (from_between _ above to z j).1) i

within_ascends : (part : Part) (xs : List Place) → IsAscending place_cmp xs → IsAscending place_cmp (places_within part xs)
within_ascends part xs h = subst (IsAscending place_cmp) (sym (places_within_is part xs)) (ascends_filter place_cmp (lies_in part) xs h)

pub looked_in_ascends : (root : StorageRoot) (part : Part) (above to : Option Place) → IsAscending place_cmp (looked_in root part above to)
looked_in_ascends root part above to = within_ascends part (looked_between root above to) (looked_ascend root above to)

pub read_in_ascends : (root : StorageRoot) (part : Part) (above to : Option Place) → IsAscending place_cmp (read_in root part above to)
read_in_ascends root part above to = within_ascends part (read_between root above to) (read_ascend root above to)

pub due_within_ascends : (further : Further) (root : StorageRoot) (part : Part) (above : Option Place) → IsAscending place_cmp (due_within further root part above)
due_within_ascends further root part above = within_ascends part (due further root above) (due_ascends further root above)

placed : (further : Further) (root : StorageRoot) (unread : Unread) (ps : List Place) → map (λ i. i.place) (map (item_of further root unread) ps) ≡ ps
placed further root unread [] = refl
placed further root unread (p ∷ ps) = ap (λ xs. p ∷ xs) (placed further root unread ps)

audit_ascends : (further : Further) (root : StorageRoot) (unread : Unread) → IsAscending place_cmp (map (λ i. i.place) (audit further root unread))
unfolding due
audit_ascends further root unread =
    subst (λ is. IsAscending place_cmp (map (λ i. i.place) is)) (sym (audit_by_places further root unread))
    (subst (IsAscending place_cmp) (sym (placed further root unread (item_places further root))) (due_ascends further root None))

-- and so do the items of a part
pub items_ascend : (further : Further) (root : StorageRoot) (unread : Unread) (part : Part) → IsAscending place_cmp (map (λ i. i.place) (within part (audit further root unread)))
items_ascend further root unread part =
    subst (λ is. IsAscending place_cmp (map (λ i. i.place) is)) (sym (within_is part (audit further root unread)))
    (subst (IsAscending place_cmp) (map_filter (lies_in part) (λ i. i.place) (audit further root unread)) (ascends_filter place_cmp (lies_in part) _ (audit_ascends further root unread)))
