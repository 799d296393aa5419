-- What lies past the end of a walk.
use Rattle.std.proofs.Common.{◌≡◌, ◌≢◌, List, [], ◌∷◌, ◌++◌, refl, sym, ◌∙◌, ap, subst, true, false, Bool, Option, Some, None}
use Rattle.std.proofs.{lemmas.Bool.{false_from_ne_true, not-true, or_right}, lemmas.List.{append-nil}}
use Rattle.std.specs.{Prelude.{cond, not, ◌&&◌, ◌||◌}, Ordering.{is_lt, is_eq, ordering_then}}
use Rattle.std.specs.declared.cmp.Ordering.{Ordering}
use Rattle.std.specs.declared.cmp.Ordering.TheVariants.{Less, Equal, Greater}
use Rattle.ocfl_tree.specs.Place.{Place, text_cmp, place_cmp, begins}
use Rattle.ocfl_tree.specs.{Ascending.{IsAscending, IsAmong}, StorageRoot.{StorageRoot, dir}}
use Rattle.ocfl_tree.proofs.Bools.{and_first, and_second, and_both}
use Rattle.ocfl_tree.proofs.Orders.{place_cmp_total, place_cmp_exact, true_not_false, not_below_itself, below_from_greater}
use Rattle.ocfl_report.specs.declared.further.Further.{Further}
use Rattle.ocfl_inventory.specs.Note.{Note}
use Rattle.ocfl_rules.specs.Zone.{seen}
use Rattle.ocfl_rules.specs.Inventories.{notes}
use Rattle.ocfl_rules.specs.Due.{due, item_places}
use Rattle.ocfl_rules.specs.Between.{IsBeyond, IsWithin, between, looked_between, read_between}
use Rattle.ocfl_rules.specs.Stack.{NoneSeenBetween}
use Rattle.ocfl_rules.proofs.BelowLaws.{less_from, begins_rest, text_cmp_total, text_cmp_exact}
use Rattle.ocfl_rules.proofs.BetweenLaws.{between_on, directories, directories_ascend, from_between, from_directory, from_object, looked_seen, objects, objects_ascend, read_seen}
use Rattle.ocfl_rules.proofs.Trails.{filter_append}
use Rattle.ocfl_walk.proofs.FilterLaws.{left_whole, left_nothing}
use Rattle.ocfl_walk.specs.Ends.{is_above_branch, is_at_bound, is_past, before_end}
use Rattle.ocfl_walk.specs.declared.end.End.{End}

-- ---- what is above a place past the end is past it

-- what is between two places that begin with a place begins with it
pub begins_between : (u q r x : Place) → place_cmp (u ++ q) x ≡ Less → place_cmp x (u ++ r) ≡ Less → begins u x ≡ true
begins_between [] q r x h k = refl
begins_between (m ∷ u) q r [] h k = absurd cc
begins_between (m ∷ u) q r (c ∷ x) h k = by (text_cmp m c) refl (text_cmp c m) refl h k (begins_between u q r x)
  where
    by : (o : Ordering) → text_cmp m c ≡ o → (v : Ordering) → text_cmp c m ≡ v → ordering_then o (place_cmp (u ++ q) x) ≡ Less → ordering_then v (place_cmp x (u ++ r)) ≡ Less
        → (place_cmp (u ++ q) x ≡ Less → place_cmp x (u ++ r) ≡ Less → begins u x ≡ true) → is_eq (text_cmp m c) && begins u x ≡ true
    by Equal e Equal f g i j = ap (λ y. is_eq y && begins u x) e ∙ j g i
    by Less e Less f g i j = absurd (not_below_itself text_cmp_total m (text_cmp_total.trans m c m e f))
    by Less e Equal f g i j = absurd (not_below_itself text_cmp_total m (ap (text_cmp m) (sym (text_cmp_exact c m f)) ∙ e))
    by Less e Greater f g i j = absurd cc
    by Equal e Less f g i j = absurd (not_below_itself text_cmp_total c (ap (text_cmp c) (sym (text_cmp_exact m c e)) ∙ f))
    by Equal e Greater f g i j = absurd cc
    by Greater e v f g i j = absurd cc

branch_up : (u x y : Place) → is_above_branch u x ≡ true → place_cmp x y ≡ Less → is_above_branch u y ≡ true
branch_up u x y h l = and_both (is_lt (place_cmp u y)) (not (begins u y)) (ap is_lt (place_cmp_total.trans u x y over l)) (ap not (false_from_ne_true (begins u y) apart))
  where
    over : place_cmp u x ≡ Less
    over = less_from _ (and_first (is_lt (place_cmp u x)) (not (begins u x)) h)

    out : begins u x ≡ false
    out = not-true (begins u x) (and_second (is_lt (place_cmp u x)) (not (begins u x)) h)

    apart : begins u y ≡ true → ⊥
    apart e = let r = begins_rest u y e in (
        true_not_false (sym (begins_between u [] r.0 x (subst (λ z. place_cmp z x ≡ Less) (sym (append-nil u)) over) (subst (λ z. place_cmp x z ≡ Less) r.1 l)) ∙ out))

bound_up : (b : Option Place) (x y : Place) → is_at_bound b x ≡ true → place_cmp x y ≡ Less → is_at_bound b y ≡ true
bound_up None x y h l = h
bound_up (Some b) x y h l = by (place_cmp y b) refl
  where
    by : (r : Ordering) → place_cmp y b ≡ r → not (is_lt r) ≡ true
    by Less e = absurd (true_not_false (sym (ap is_lt (place_cmp_total.trans x y b l e)) ∙ not-true (is_lt (place_cmp x b)) h))
    by Equal e = refl
    by Greater e = refl

pub past_up : (e : End) (x y : Place) → is_past e x ≡ true → place_cmp x y ≡ Less → is_past e y ≡ true
past_up e x y h l = by (is_above_branch e.under x) refl (is_at_bound e.below x) refl h
  where
    by : (a : Bool) → is_above_branch e.under x ≡ a → (b : Bool) → is_at_bound e.below x ≡ b → a || b ≡ true → is_past e y ≡ true
    by true f b g k = ap (λ a. a || is_at_bound e.below y) (branch_up e.under x y f l)
    by false f true g k = or_right (is_above_branch e.under y) (is_at_bound e.below y) (bound_up e.below x y g l)
    by false f false g k = absurd (true_not_false (sym k))

-- what is not above a place that is not past the end is not past it either
pub not_past_down : (e : End) (b y : Place) → is_past e b ≡ false → is_lt (place_cmp b y) ≡ false → is_past e y ≡ false
not_past_down e b y n u = false_from_ne_true (is_past e y) (λ f. here f (place_cmp b y) refl)
  where
    here : is_past e y ≡ true → (r : Ordering) → place_cmp b y ≡ r → ⊥
    here f Less g = true_not_false (sym (ap is_lt g) ∙ u)
    here f Equal g = true_not_false (sym f ∙ ap (is_past e) (sym (place_cmp_exact b y g)) ∙ n)
    here f Greater g = true_not_false (sym (past_up e y b f (below_from_greater place_cmp_total b y g)) ∙ n)

-- ---- lists of places before the end

module _ (e : End) where
  none_left : (xs : List Place) → ((y : Place) → IsAmong xs y → is_past e y ≡ true) → before_end e xs ≡ []
  none_left xs h = left_nothing (λ z. not (is_past e z)) xs (λ y i. ap not (h y i))

  pub all_left : (xs : List Place) → ((y : Place) → IsAmong xs y → is_past e y ≡ false) → before_end e xs ≡ xs
  all_left xs h = left_whole (λ z. not (is_past e z)) xs (λ y i. ap not (h y i))

  module _ (ps : List Place) where
    pub over : (from : Option Place) → ((y : Place) → IsAmong ps y → IsBeyond from y → is_past e y ≡ true) → before_end e (between ps from None) ≡ []
    over from h = none_left (between ps from None) (λ y i. let k = from_between ps from None y i in h y k.0 k.1)

    pub split : (from to : Option Place) (b : Place) → IsAscending place_cmp ps → IsBeyond from b → IsWithin to b → is_past e b ≡ false
        → between ps from (Some b) ++ before_end e (between ps (Some b) to) ≡ before_end e (between ps from to)
    split from to b up l w n =
        sym (
        ap (before_end e) (sym (between_on ps up from to b l w)) ∙ filter_append (λ z. not (is_past e z)) (between ps from (Some b)) (between ps (Some b) to)
        ∙ ap (λ xs. xs ++ before_end e (between ps (Some b) to)) (all_left (between ps from (Some b)) (λ y i. not_past_down e b y n (from_between ps from (Some b) y i).2))
        )

  module _ (root : StorageRoot) where
    pub looked_to : (from to : Option Place) (b : Place) → IsBeyond from b → IsWithin to b → is_past e b ≡ false
        → looked_between root from (Some b) ++ before_end e (looked_between root (Some b) to) ≡ before_end e (looked_between root from to)
    unfolding looked_between
    looked_to from to b l w n = split (directories root) from to b (directories_ascend root) l w n

    pub read_to : (from to : Option Place) (b : Place) → IsBeyond from b → IsWithin to b → is_past e b ≡ false
        → read_between root from (Some b) ++ before_end e (read_between root (Some b) to) ≡ before_end e (read_between root from to)
    unfolding read_between
    read_to from to b l w n = split (objects root) from to b (objects_ascend root) l w n

    pub looked_out : (from : Option Place) (b : Place) → IsBeyond from b → is_past e b ≡ false
        → looked_between root from (Some b) ++ before_end e (looked_between root (Some b) None) ≡ before_end e (looked_between root from None)
    looked_out from b l n = looked_to from None b l tt n

    pub read_out : (from : Option Place) (b : Place) → IsBeyond from b → is_past e b ≡ false
        → read_between root from (Some b) ++ before_end e (read_between root (Some b) None) ≡ before_end e (read_between root from None)
    read_out from b l n = read_to from None b l tt n

    -- ---- if the next place is past the end, all that is left is

    module _ (last x : Place) (none : NoneSeenBetween root last x) (past : is_past e x ≡ true) where
      ahead : (y : Place) → seen root y ≡ Some dir → place_cmp last y ≡ Less → is_past e y ≡ true
      ahead y s l = by (place_cmp y x) refl
        where
          by : (r : Ordering) → place_cmp y x ≡ r → is_past e y ≡ true
          by Less f = absurd (none y dir s l f)
          by Equal f = ap (is_past e) (place_cmp_exact y x f) ∙ past
          by Greater f = past_up e x y past (below_from_greater place_cmp_total y x f)

      pub looked_past : before_end e (looked_between root (Some last) None) ≡ []
      unfolding looked_between
      looked_past = over (directories root) (Some last) (λ y i l. ahead y (looked_seen root y (from_directory root y i)) l)

      pub read_past : before_end e (read_between root (Some last) None) ≡ []
      unfolding read_between
      read_past = over (objects root) (Some last) (λ y i l. ahead y (read_seen root y (from_object root y i)).0 l)

    due_above : (further : Further) (x : Place) → is_past e x ≡ true → before_end e (due further root (Some x)) ≡ []
    unfolding due
    due_above further x past = over (item_places further root) (Some x) (λ y i l. past_up e x y past l)

    pub due_past : (further : Further) (last x : Place) → is_past e x ≡ true → (notes further root None x ≢ [] → due further root (Some last) ≡ x ∷ due further root (Some x))
        → (notes further root None x ≡ [] → due further root (Some last) ≡ due further root (Some x)) → before_end e (due further root (Some last)) ≡ []
    due_past further last x past some none = by (notes further root None x) refl
      where
        by : (ns : List Note) → notes further root None x ≡ ns → before_end e (due further root (Some last)) ≡ []
        by [] f = ap (before_end e) (none f) ∙ due_above further x past
        by (n ∷ ns) f = ap (before_end e) (some (λ g. let two : n ∷ ns ≡ [] = sym f ∙ g in cc))
            ∙ ap (λ b. cond (not b) (x ∷ before_end e (due further root (Some x))) (before_end e (due further root (Some x)))) past ∙ due_above further x past

    -- past the end from the storage root on
    pub all_past : is_past e [] ≡ true → (xs : List Place) → before_end e xs ≡ []
    all_past past xs = none_left xs (λ y i. by y)
      where
        by : (y : Place) → is_past e y ≡ true
        by [] = past
        by (n ∷ y) = past_up e [] (n ∷ y) past refl

-- ---- the end of the whole

pub none_past : (e : End) → e.under ≡ [] → e.below ≡ None → (z : Place) → is_past e z ≡ false
none_past e u b z = (λ i. is_above_branch (u i) z || is_at_bound (b i) z) ∙ by (is_lt (place_cmp [] z))
  where
    by : (c : Bool) → (c && not true) || false ≡ false
    by true = refl
    by false = refl

pub all_kept : (e : End) → e.under ≡ [] → e.below ≡ None → (xs : List Place) → before_end e xs ≡ xs
all_kept e u b xs = all_left e xs (λ y i. none_past e u b y)
