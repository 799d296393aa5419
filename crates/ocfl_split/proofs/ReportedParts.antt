-- The parts that are cut at the first places of runs are those runs.
use Rattle.std.proofs.Common.{◌≡◌, List, [], ◌∷◌, ◌++◌, refl, sym, ◌∙◌, ap, ap₂, true, false, map, filter, Option, Some, None, append-nil}
use Rattle.std.proofs.lemmas.List.Elements.{filter-append}
use Rattle.std.proofs.Math.Bool.{and-false}
use Rattle.std.specs.{Prelude.{cond, not, ◌&&◌, ⊤}, Ordering.{is_lt}}
use Rattle.std.specs.declared.cmp.Ordering.TheVariants.{Less}
use Rattle.ocfl_tree.specs.{Place.{Place, place_cmp}, Ascending.{IsAscending, IsBeforeAll}}
use Rattle.ocfl_tree.proofs.Orders.{place_cmp_total, not_less, not_less_itself, not_both_below}
use Rattle.ocfl_report.specs.Line.{Item}
use Rattle.ocfl_rules.specs.Runs.{joined}
use Rattle.ocfl_rules.specs.Parts.{Part, is_from, is_below, lies_in, within, parts_from, parts_of}
use Rattle.ocfl_rules.proofs.{AfterLaws.{places}, PartLaws.{within_is}}
use Rattle.ocfl_split.specs.Reported.{first_places}

abbrev part_at : Option Place → Option Place → Part
part_at from below = record { under = []; from = from; below = below }

abbrev in_part : Option Place → Option Place → List Item → List Item
in_part from below items = filter (λ i. lies_in (part_at from below) i.place) items

-- ---- items on one side of a place

abbrev AreBelow : Place → List Item → Type 0
AreBelow p [] = ⊤
AreBelow p (i ∷ items) = (place_cmp i.place p ≡ Less) × AreBelow p items

abbrev AreFrom : Option Place → List Item → Type 0
AreFrom a [] = ⊤
AreFrom a (i ∷ items) = (is_from a i.place ≡ true) × AreFrom a items

abbrev ArePast : Place → List Item → Type 0
ArePast p [] = ⊤
ArePast p (i ∷ items) = (is_lt (place_cmp i.place p) ≡ false) × ArePast p items

below_later : (p q : Place) (items : List Item) → place_cmp p q ≡ Less → AreBelow p items → AreBelow q items
below_later p q [] l h = tt
below_later p q (i ∷ items) l h = (place_cmp_total.trans i.place p q h.0 l, below_later p q items l h.1)

past_before : (p : Place) (items : List Item) → IsBeforeAll place_cmp p (places items) → ArePast p items
past_before p [] h = tt
past_before p (i ∷ items) h = (not_less _ (λ l. not_both_below place_cmp_total p i.place h.0 l), past_before p items h.1)

past_from : (p : Place) (items : List Item) → ArePast p items → AreFrom (Some p) items
past_from p [] h = tt
past_from p (i ∷ items) h = (ap not h.0, past_from p items h.1)

none_from : (p : Place) (b : Option Place) (items : List Item) → AreBelow p items → in_part (Some p) b items ≡ []
none_from p b [] h = refl
none_from p b (i ∷ items) h = ap (λ o. cond (not (is_lt o) && is_below b i.place) (i ∷ in_part (Some p) b items) (in_part (Some p) b items)) h.0 ∙ none_from p b items h.1

none_past : (a : Option Place) (p : Place) (items : List Item) → ArePast p items → in_part a (Some p) items ≡ []
none_past a p [] h = refl
none_past a p (i ∷ items) h =
    ap (λ t. cond (is_from a i.place && t) (i ∷ in_part a (Some p) items) (in_part a (Some p) items)) h.0
    ∙ ap (λ t. cond t (i ∷ in_part a (Some p) items) (in_part a (Some p) items)) (and-false (is_from a i.place))
    ∙ none_past a p items h.1

all_within : (a : Option Place) (p : Place) (items : List Item) → AreFrom a items → AreBelow p items → in_part a (Some p) items ≡ items
all_within a p [] f h = refl
all_within a p (i ∷ items) f h =
    ap (λ t. cond (t && is_lt (place_cmp i.place p)) (i ∷ in_part a (Some p) items) (in_part a (Some p) items)) f.0
    ∙ ap (λ o. cond (is_lt o) (i ∷ in_part a (Some p) items) (in_part a (Some p) items)) h.0
    ∙ ap (λ l. i ∷ l) (all_within a p items f.1 h.1)

all_last : (a : Option Place) (items : List Item) → AreFrom a items → in_part a None items ≡ items
all_last a [] f = refl
all_last a (i ∷ items) f = ap (λ t. cond (t && true) (i ∷ in_part a None items) (in_part a None items)) f.0 ∙ ap (λ l. i ∷ l) (all_last a items f.1)

-- ---- places in order

before_first : (p : Place) (xs ys : List Item) → IsBeforeAll place_cmp p (places (xs ++ ys)) → IsBeforeAll place_cmp p (places ys)
before_first p [] ys h = h
before_first p (x ∷ xs) ys h = before_first p xs ys h.1

ascend_rest : (xs ys : List Item) → IsAscending place_cmp (places (xs ++ ys)) → IsAscending place_cmp (places ys)
ascend_rest [] ys h = h
ascend_rest (x ∷ xs) ys h = ascend_rest xs ys h.1

before_next : (p : Place) (i : Item) (xs ys : List Item) → IsBeforeAll place_cmp p (places (xs ++ i ∷ ys)) → place_cmp p i.place ≡ Less
before_next p i [] ys h = h.0
before_next p i (x ∷ xs) ys h = before_next p i xs ys h.1

below_next : (i : Item) (xs ys : List Item) → IsAscending place_cmp (places (xs ++ i ∷ ys)) → AreBelow i.place xs
below_next i [] ys h = tt
below_next i (x ∷ xs) ys h = (before_next x.place i xs ys h.0, below_next i xs ys h.1)

before_starts : (p : Place) (cuts : List (List Item)) → IsBeforeAll place_cmp p (places (joined cuts)) → IsBeforeAll place_cmp p (first_places cuts)
before_starts p [] h = tt
before_starts p ([] ∷ cuts) h = before_starts p cuts h
before_starts p ((i ∷ items) ∷ cuts) h = (h.0, before_starts p cuts (before_first p items (joined cuts) h.1))

ascend_starts : (cuts : List (List Item)) → IsAscending place_cmp (places (joined cuts)) → IsAscending place_cmp (first_places cuts)
ascend_starts [] h = tt
ascend_starts ([] ∷ cuts) h = ascend_starts cuts h
ascend_starts ((i ∷ items) ∷ cuts) h = (before_starts i.place cuts (before_first i.place items (joined cuts) h.0), ascend_starts cuts (ascend_rest items (joined cuts) h.1))

-- ---- the parts

-- each run takes some items
abbrev pub AreSome : List (List Item) → Type 0
AreSome [] = ⊤
AreSome ([] ∷ cuts) = ⊥
AreSome ((i ∷ items) ∷ cuts) = AreSome cuts

-- parts from a place on have nothing of what is below it
skip_one : (p : Place) (b : Option Place) (xs ys : List Item) → AreBelow p xs → within (part_at (Some p) b) (xs ++ ys) ≡ within (part_at (Some p) b) ys
skip_one p b xs ys h =
    within_is (part_at (Some p) b) (xs ++ ys)
    ∙ filter-append (λ i. lies_in (part_at (Some p) b) i.place) xs ys
    ∙ ap (λ l. l ++ in_part (Some p) b ys) (none_from p b xs h)
    ∙ sym (within_is (part_at (Some p) b) ys)

skipped : (p : Place) (seps : List Place) (xs ys : List Item) → AreBelow p xs → IsAscending place_cmp (p ∷ seps)
    → map (λ part. within part (xs ++ ys)) (parts_from (Some p) seps) ≡ map (λ part. within part ys) (parts_from (Some p) seps)
skipped p [] xs ys h up = ap (λ l. l ∷ []) (skip_one p None xs ys h)
skipped p (q ∷ seps) xs ys h up = ap₂ (λ l ls. l ∷ ls) (skip_one p (Some q) xs ys h) (skipped q seps xs ys (below_later p q xs up.0.0 h) up.1)

parts_are_from : (a : Option Place) (first : List Item) (later : List (List Item)) → AreSome later → AreFrom a first → IsAscending place_cmp (places (first ++ joined later))
    → map (λ part. within part (first ++ joined later)) (parts_from a (first_places later)) ≡ first ∷ later
parts_are_from a first [] some from up =
    ap (λ l. l ∷ []) (within_is (part_at a None) (first ++ []) ∙ ap (in_part a None) (append-nil first) ∙ all_last a first from)
parts_are_from a first ([] ∷ later) some from up = absurd some
parts_are_from a first ((i ∷ items) ∷ later) some from up =
    let rest : List Item = i ∷ (items ++ joined later) in
    let rest_up : IsAscending place_cmp (places rest) = ascend_rest first rest up in
    let below : AreBelow i.place first = below_next i first (items ++ joined later) up in
    let past : ArePast i.place rest = (not_less_itself place_cmp_total i.place, past_before i.place (items ++ joined later) rest_up.0) in
    let here : within (part_at a (Some i.place)) (first ++ rest) ≡ first =
    within_is (part_at a (Some i.place)) (first ++ rest)
    ∙ filter-append (λ x. lies_in (part_at a (Some i.place)) x.place) first rest
    ∙ ap₂ (λ l r. l ++ r) (all_within a i.place first from below) (none_past a i.place rest past)
    ∙ append-nil first
    in
    let seps_up : IsAscending place_cmp (first_places ((i ∷ items) ∷ later)) = ascend_starts ((i ∷ items) ∷ later) rest_up in
    ap₂ (λ l ls. l ∷ ls) here
    (skipped i.place (first_places later) first rest below seps_up
    ∙ parts_are_from (Some i.place) (i ∷ items) later some (run_from i items (joined later) past) rest_up)
  where
    first_past : (p : Place) (xs ys : List Item) → ArePast p (xs ++ ys) → ArePast p xs
    first_past p [] ys h = tt
    first_past p (x ∷ xs) ys h = (h.0, first_past p xs ys h.1)

    run_from : (i : Item) (items others : List Item) → ArePast i.place (i ∷ (items ++ others)) → AreFrom (Some i.place) (i ∷ items)
    run_from i items others h = past_from i.place (i ∷ items) (h.0, first_past i.place items others h.1)

all_from : (items : List Item) → AreFrom None items
all_from [] = tt
all_from (i ∷ items) = (refl, all_from items)

pub parts_are_cuts : (first : List Item) (later : List (List Item)) → AreSome later → IsAscending place_cmp (places (first ++ joined later))
    → map (λ part. within part (first ++ joined later)) (parts_of (first_places later)) ≡ first ∷ later
parts_are_cuts first later some up = parts_are_from None first later some (all_from first) up
