-- What is in a part, consecutive parts joined, and what is left of a part above a place.
use Rattle.std.proofs.Common.{◌≡◌, ℕ, ◌+◌, ◌≤◌, ◌/◌, List, [], ◌∷◌, ◌++◌, refl, sym, ◌∙◌, ap, true, false, Bool, map, filter, Option, Some, None, append-nil, arith, All, length}
use Rattle.std.proofs.{lemmas.List.Elements.{filter-append}, lemmas.Grind.{flat_map-append}, Math.Bool.{and-true, and-false, and_comm}}
use Rattle.std.specs.{Prelude.{cond, flat_map, not, ◌&&◌}, Ordering.{is_lt}}
use Rattle.std.specs.declared.cmp.Ordering.{Ordering}
use Rattle.std.specs.declared.cmp.Ordering.TheVariants.{Less, Equal, Greater}
use Rattle.ocfl_tree.specs.Place.{Place, place_cmp, begins}
use Rattle.ocfl_tree.specs.Ascending.{ascending, IsAscending, IsBeforeAll}
use Rattle.ocfl_tree.specs.StorageRoot.{StorageRoot}
use Rattle.ocfl_tree.proofs.Orders.{place_cmp_total, true_not_false, not_less, ascends_filter, ascends_ascending}
use Rattle.ocfl_report.specs.{Line.{Item}, Text.{lines_text, text}}
use Rattle.ocfl_report.specs.declared.further.Further.{Further}
use Rattle.ocfl_rules.specs.Inventories.{notes, is_hashed}
use Rattle.ocfl_rules.specs.Lines.{is_empty}
use Rattle.ocfl_rules.specs.Audit.{Unread, candidates, item_of, audit, total_cost, after}
use Rattle.ocfl_rules.specs.Due.{item_places, hashed_among}
use Rattle.ocfl_rules.specs.Walk.{items_under}
use Rattle.ocfl_rules.specs.Runs.{Limits, total_files, sum_of, runs, joined, IsAtLeast}
use Rattle.ocfl_rules.specs.Parts.{Part, branch, is_from, lies_in, kept, within, places_within, parts_from, parts_of, costs_of, file_counts}
use Rattle.ocfl_rules.proofs.AuditLaws.{audit_is}
use Rattle.ocfl_rules.proofs.Lists.{map_filter, filter_same}
use Rattle.ocfl_rules.proofs.BelowLaws.{less_from}
use Rattle.ocfl_rules.proofs.DueLaws.{audit_by_places}
use Rattle.ocfl_rules.proofs.RunLaws.{large_whole, large_few, cost_append, files_append}

-- ---- lists

module _ {A B : Type 0} where
  pub flat_flat : {C : Type 0} (f : A → List B) (g : C → List A) (xs : List C) → flat_map f (flat_map g xs) ≡ flat_map (λ x. flat_map f (g x)) xs
  flat_flat f g [] = refl
  flat_flat f g (x ∷ xs) = flat_map-append f (g x) (flat_map g xs) ∙ ap (λ l. flat_map f (g x) ++ l) (flat_flat f g xs)

module _ {A : Type 0} where
  filter_flat : {C : Type 0} (test : A → Bool) (g : C → List A) (xs : List C) → filter test (flat_map g xs) ≡ flat_map (λ x. filter test (g x)) xs
  filter_flat test g [] = refl
  filter_flat test g (x ∷ xs) = filter-append test (g x) (flat_map g xs) ∙ ap (λ l. filter test (g x) ++ l) (filter_flat test g xs)

  filter_all : (xs : List A) → filter (λ x. true) xs ≡ xs
  filter_all [] = refl
  filter_all (x ∷ xs) = ap (λ l. x ∷ l) (filter_all xs)

  -- two filters are one
  pub filter_twice : (f g : A → Bool) (xs : List A) → filter f (filter g xs) ≡ filter (λ x. g x && f x) xs
  filter_twice f g [] = refl
  filter_twice f g (x ∷ xs) = by (g x) (filter_twice f g xs)
    where
      by : (b : Bool) → filter f (filter g xs) ≡ filter (λ y. g y && f y) xs
          → filter f (cond b (x ∷ filter g xs) (filter g xs)) ≡ cond (b && f x) (x ∷ filter (λ y. g y && f y) xs) (filter (λ y. g y && f y) xs)
      by true e = ap (λ l. cond (f x) (x ∷ l) l) e
      by false e = e

-- ---- what is in a part, by the one test

pub kept_is : {A : Type 0} (part : Part) (place_of : A → Place) (xs : List A) → kept part place_of xs ≡ filter (λ x. lies_in part (place_of x)) xs
kept_is {A} part place_of xs = by part.under part.from part.below
  where
    by : (u : Place) (a b : Option Place) → kept (record { under = u; from = a; below = b }) place_of xs ≡ filter (λ x. lies_in (record { under = u; from = a; below = b }) (place_of x)) xs
    by [] None None = sym (filter_all xs)
    by [] None (Some b) = refl
    by [] (Some a) b = refl
    by (n ∷ u) a b = refl

pub within_is : (part : Part) (items : List Item) → within part items ≡ filter (λ i. lies_in part i.place) items
within_is part items = kept_is part (λ i. i.place) items

pub places_within_is : (part : Part) (places : List Place) → places_within part places ≡ filter (lies_in part) places
places_within_is part places = kept_is part (λ p. p) places

-- the items of a part are those of its places
pub within_by_places : (further : Further) (root : StorageRoot) (unread : Unread) (part : Part) → within part (audit further root unread) ≡ map (item_of further root unread) (places_within part (item_places further root))
within_by_places further root unread part =
    ap (within part) (audit_by_places further root unread) ∙ within_is part (map (item_of further root unread) (item_places further root))
    ∙ map_filter (λ i. lies_in part i.place) (item_of further root unread) (item_places further root)
    ∙ ap (map (item_of further root unread)) (sym (places_within_is part (item_places further root)))

-- those of a branch
pub branch_is : (p : Place) (items : List Item) → within (branch p) items ≡ items_under p items
branch_is p items = within_is (branch p) items ∙ filter_same _ _ (λ i. and-true (begins p i.place)) items

-- what is left of a part above a place
pub part_goes_on : (part : Part) (last : Option Place) (items : List Item) → after (within part items) last ≡ within part (after items last)
part_goes_on part None items = refl
part_goes_on part (Some p) items =
    ap (filter (λ i. is_lt (place_cmp p i.place))) (within_is part items)
    ∙ filter_twice (λ i. is_lt (place_cmp p i.place)) (λ i. lies_in part i.place) items
    ∙ filter_same _ _ (λ i. and_comm (lies_in part i.place) (is_lt (place_cmp p i.place))) items
    ∙ sym (filter_twice (λ i. lies_in part i.place) (λ i. is_lt (place_cmp p i.place)) items)
    ∙ sym (within_is part (after items (Some p)))

-- ---- consecutive parts

-- a first separator is above a place
abbrev IsFirstAbove : Option Place → List Place → Type 0
IsFirstAbove None ps = Unit {0}
IsFirstAbove (Some a) [] = Unit {0}
IsFirstAbove (Some a) (p ∷ ps) = place_cmp a p ≡ Less

first_above : (p : Place) (ps : List Place) → IsBeforeAll place_cmp p ps → IsFirstAbove (Some p) ps
first_above p [] h = tt
first_above p (q ∷ ps) h = h.0

-- what is above a place that is not below p is not below it either
not_below : (q z p : Place) → place_cmp q z ≡ Less → is_lt (place_cmp q p) ≡ false → is_lt (place_cmp z p) ≡ false
not_below q z p l h = not_less (place_cmp z p) (λ e. true_not_false (sym (ap is_lt (place_cmp_total.trans q z p l e)) ∙ h))

-- what is not below a separator is not below the one before it
is_from_both : (a : Option Place) (p : Place) (ps : List Place) (z : Place) → IsFirstAbove a (p ∷ ps) → is_lt (place_cmp z p) ≡ false → is_from a z ≡ true
is_from_both None p ps z f h = refl
is_from_both (Some a) p ps z f h = by (place_cmp z a) refl
  where
    by : (r : Ordering) → place_cmp z a ≡ r → not (is_lt r) ≡ true
    by Less e = absurd (true_not_false (sym (ap is_lt (place_cmp_total.trans z a p e f)) ∙ h))
    by Equal e = refl
    by Greater e = refl

from_both : (a : Option Place) (p : Place) (ps : List Place) (z : Place) → IsFirstAbove a (p ∷ ps) → (is_from a z && not (is_lt (place_cmp z p))) ≡ not (is_lt (place_cmp z p))
from_both a p ps z f = by (is_lt (place_cmp z p)) refl
  where
    by : (t : Bool) → is_lt (place_cmp z p) ≡ t → (is_from a z && not t) ≡ not t
    by true e = and-false (is_from a z)
    by false e = ap (λ b. b && true) (is_from_both a p ps z f e)

module _ {A : Type 0} (place_of : A → Place) where
  -- of an ascending list, from one that is not below p on, nothing is
  none_below : (test : A → Bool) (p q : Place) (xs : List A) → is_lt (place_cmp q p) ≡ false → IsBeforeAll place_cmp q (map place_of xs)
      → filter (λ x. test x && is_lt (place_cmp (place_of x) p)) xs ≡ []
  none_below test p q [] h up = refl
  none_below test p q (x ∷ xs) h up =
      let rest : List A = filter (λ x. test x && is_lt (place_cmp (place_of x) p)) xs in
      ap (λ b. cond (test x && b) (x ∷ rest) rest) (not_below q (place_of x) p up.0 h) ∙ ap (λ b. cond b (x ∷ rest) rest) (and-false (test x)) ∙ none_below test p q xs h up.1

  -- what is below p and what is not, of an ascending list
  cut_in_two : (test : A → Bool) (p : Place) (xs : List A) → IsAscending place_cmp (map place_of xs)
      → filter (λ x. test x && is_lt (place_cmp (place_of x) p)) xs ++ filter (λ x. test x && not (is_lt (place_cmp (place_of x) p))) xs ≡ filter test xs
  cut_in_two test p [] up = refl
  cut_in_two test p (x ∷ xs) up = by (is_lt (place_cmp (place_of x) p)) (test x) refl (cut_in_two test p xs up.1)
    where
      by : (t c : Bool) → is_lt (place_cmp (place_of x) p) ≡ t
          → filter (λ x. test x && is_lt (place_cmp (place_of x) p)) xs ++ filter (λ x. test x && not (is_lt (place_cmp (place_of x) p))) xs ≡ filter test xs
          → cond (c && t) (x ∷ filter (λ x. test x && is_lt (place_cmp (place_of x) p)) xs) (filter (λ x. test x && is_lt (place_cmp (place_of x) p)) xs)
          ++ cond (c && not t) (x ∷ filter (λ x. test x && not (is_lt (place_cmp (place_of x) p))) xs) (filter (λ x. test x && not (is_lt (place_cmp (place_of x) p))) xs)
          ≡ cond c (x ∷ filter test xs) (filter test xs)
      by true true e more = ap (λ l. x ∷ l) more
      by true false e more = more
      by false true e more =
          ap (λ l. l ++ x ∷ filter (λ x. test x && not (is_lt (place_cmp (place_of x) p))) xs) (none_below test p (place_of x) xs e up.0)
          ∙ ap (λ l. x ∷ l) (ap (λ l. l ++ filter (λ x. test x && not (is_lt (place_cmp (place_of x) p))) xs) (sym (none_below test p (place_of x) xs e up.0)) ∙ more)
      by false false e more = more

  parts_join_from : (a : Option Place) (ps : List Place) → IsFirstAbove a ps → IsAscending place_cmp ps → (xs : List A) → IsAscending place_cmp (map place_of xs)
      → flat_map (λ part. kept part place_of xs) (parts_from a ps) ≡ filter (λ x. is_from a (place_of x)) xs
  parts_join_from a [] f up xs xs_up =
      let last : Part = record { under = []; from = a; below = None } in
      append-nil (kept last place_of xs) ∙ kept_is last place_of xs ∙ filter_same _ _ (λ x. and-true (is_from a (place_of x))) xs
  parts_join_from a (p ∷ ps) f up xs xs_up =
      let first : Part = record { under = []; from = a; below = Some p } in
      ap (λ l. l ++ flat_map (λ part. kept part place_of xs) (parts_from (Some p) ps)) (kept_is first place_of xs)
      ∙ ap (λ l. filter (λ x. lies_in first (place_of x)) xs ++ l) (parts_join_from (Some p) ps (first_above p ps up.0) up.1 xs xs_up)
      ∙ ap (λ l. filter (λ x. lies_in first (place_of x)) xs ++ l) (sym (filter_same _ _ (λ x. from_both a p ps (place_of x) f) xs))
      ∙ cut_in_two (λ x. is_from a (place_of x)) p xs xs_up

  -- the parts, joined, have all, in order
  pub kept_join : (ps : List Place) → IsAscending place_cmp ps → (xs : List A) → IsAscending place_cmp (map place_of xs) → flat_map (λ part. kept part place_of xs) (parts_of ps) ≡ xs
  kept_join ps up xs xs_up = parts_join_from None ps tt up xs xs_up ∙ filter_all xs

map_same : (ps : List Place) → map (λ p. p) ps ≡ ps
map_same [] = refl
map_same (p ∷ ps) = ap (λ l. p ∷ l) (map_same ps)

pub places_join : (ps qs : List Place) → IsAscending place_cmp ps → IsAscending place_cmp qs → flat_map (λ part. places_within part qs) (parts_of ps) ≡ qs
places_join ps qs up qs_up = kept_join (λ p. p) ps up qs (rw (map_same qs) qs_up)

pub items_ascend : (further : Further) (root : StorageRoot) → IsAscending place_cmp (item_places further root)
unfolding item_places
items_ascend further root = ascends_filter place_cmp (λ p. not (is_empty (notes further root None p))) (ascending place_cmp (candidates root)) (ascends_ascending place_cmp_total (candidates root))

module _ (further : Further) (root : StorageRoot) (ps : List Place) (up : IsAscending place_cmp ps) where
  pub items_join : (unread : Unread) → flat_map (λ part. within part (audit further root unread)) (parts_of ps) ≡ audit further root unread
  items_join unread = let is = audit_is further root unread in kept_join (λ i. i.place) ps up (audit further root unread) is.ascends

  -- so do the texts
  pub texts_join : (unread : Unread) → flat_map (λ part. text (within part (audit further root unread))) (parts_of ps) ≡ text (audit further root unread)
  texts_join unread = sym (flat_flat (λ i. lines_text i.lines) (λ part. within part (audit further root unread)) (parts_of ps)) ∙ ap text (items_join unread)

  pub hashed_join : flat_map (λ part. hashed_among further root (places_within part (item_places further root))) (parts_of ps) ≡ hashed_among further root (item_places further root)
  unfolding hashed_among
  hashed_join =
      sym (filter_flat (is_hashed further root) (λ part. places_within part (item_places further root)) (parts_of ps))
      ∙ ap (filter (is_hashed further root)) (places_join ps (item_places further root) up (items_ascend further root))

-- ---- costs and files

module _ {A : Type 0} (items_of : A → List Item) where
  pub costs_sum : (xs : List A) → sum_of (map (λ x. total_cost (items_of x)) xs) ≡ total_cost (flat_map items_of xs)
  costs_sum [] = refl
  costs_sum (x ∷ xs) = let m = costs_sum xs in let e = cost_append (items_of x) (flat_map items_of xs) in omega (arith, m, e)

  pub files_sum : (xs : List A) → sum_of (map (λ x. total_files (items_of x)) xs) ≡ total_files (flat_map items_of xs)
  files_sum [] = refl
  files_sum (x ∷ xs) = let m = files_sum xs in let e = files_append (items_of x) (flat_map items_of xs) in omega (arith, m, e)

module _ (further : Further) (root : StorageRoot) (unread : Unread) (ps : List Place) (up : IsAscending place_cmp ps) where
  pub costs_add_up : sum_of (costs_of (parts_of ps) (audit further root unread)) ≡ total_cost (audit further root unread)
  costs_add_up = costs_sum (λ part. within part (audit further root unread)) (parts_of ps) ∙ ap total_cost (items_join further root ps up unread)

  pub files_add_up : sum_of (file_counts (parts_of ps) (audit further root unread)) ≡ total_files (audit further root unread)
  files_add_up = files_sum (λ part. within part (audit further root unread)) (parts_of ps) ∙ ap total_files (items_join further root ps up unread)

-- ---- a place is in one part

more_from : (a : Option Place) (ps : List Place) → length (parts_from a ps) ≡ length ps + 1
more_from a [] = refl
more_from a (p ∷ ps) = let m = more_from (Some p) ps in omega (arith, m)

pub one_more : (ps : List Place) → length (parts_of ps) ≡ length ps + 1
one_more ps = more_from None ps

module _ (z : Place) where
  -- in none above it
  none_lies : (p : Place) (ps : List Place) → IsAscending place_cmp (p ∷ ps) → is_lt (place_cmp z p) ≡ true → filter (λ part. lies_in part z) (parts_from (Some p) ps) ≡ []
  none_lies p [] up h = ap (λ t. cond (not t && true) (record { under = []; from = Some p; below = None } ∷ []) []) h
  none_lies p (q ∷ ps) up h =
      let here : Part = record { under = []; from = Some p; below = Some q } in
      let rest : List Part = filter (λ part. lies_in part z) (parts_from (Some q) ps) in
      ap (λ t. cond (not t && is_lt (place_cmp z q)) (here ∷ rest) rest) h
      ∙ none_lies q ps up.1 (ap is_lt (place_cmp_total.trans z p q (less_from _ h) up.0.0))

  one_lies : (a : Option Place) (ps : List Place) → IsAscending place_cmp ps → is_from a z ≡ true → (part : Part) × (filter (λ part. lies_in part z) (parts_from a ps) ≡ part ∷ [])
  one_lies a [] up h =
      let last : Part = record { under = []; from = a; below = None } in
      (last, ap (λ t. cond (t && true) (last ∷ []) []) h)
  one_lies a (p ∷ ps) up h = by (is_lt (place_cmp z p)) refl (λ e. one_lies (Some p) ps up.1 e)
    where
      by : (t : Bool) → is_lt (place_cmp z p) ≡ t
          → (is_from (Some p) z ≡ true → (part : Part) × (filter (λ part. lies_in part z) (parts_from (Some p) ps) ≡ part ∷ [])) → (part : Part)
          × (filter (λ part. lies_in part z) (parts_from a (p ∷ ps)) ≡ part ∷ [])
      by true e later =
          let first : Part = record { under = []; from = a; below = Some p } in
          let rest : List Part = filter (λ part. lies_in part z) (parts_from (Some p) ps) in
          (first, ap (λ t. cond (is_from a z && t) (first ∷ rest) rest) e ∙ ap (λ t. cond (t && true) (first ∷ rest) rest) h ∙ ap (λ l. first ∷ l) (none_lies p ps up e))
      by false e later =
          let first : Part = record { under = []; from = a; below = Some p } in
          let rest : List Part = filter (λ part. lies_in part z) (parts_from (Some p) ps) in
          let more = later (ap not e) in
          (more.0, ap (λ t. cond (is_from a z && t) (first ∷ rest) rest) e ∙ ap (λ t. cond t (first ∷ rest) rest) (and-false (is_from a z)) ∙ more.1)

  pub lies_once : (ps : List Place) → IsAscending place_cmp ps → (part : Part) × (filter (λ part. lies_in part z) (parts_of ps) ≡ part ∷ [])
  lies_once ps up = one_lies None ps up refl

-- ---- runs of a part

module _ (further : Further) (root : StorageRoot) (unread : Unread) (part : Part) where
  pub part_runs_join : (b n : ℕ) (limits : List Limits) → 1 ≤ b → 1 ≤ n → All (IsAtLeast b n) limits
      → total_cost (within part (audit further root unread)) / b + total_files (within part (audit further root unread)) / n + 1 ≤ length limits
      → joined (runs (within part (audit further root unread)) limits) ≡ within part (audit further root unread)
  part_runs_join b n limits some_budget some_files large enough = large_whole b n some_budget some_files limits (within part (audit further root unread)) large enough

  pub part_runs_few : (b n : ℕ) (limits : List Limits) → 1 ≤ b → 1 ≤ n → All (IsAtLeast b n) limits
      → length (runs (within part (audit further root unread)) limits) ≤ total_cost (within part (audit further root unread)) / b + total_files (within part (audit further root unread)) / n + 1
  part_runs_few b n limits some_budget some_files large = large_few b n some_budget some_files limits (within part (audit further root unread)) large
