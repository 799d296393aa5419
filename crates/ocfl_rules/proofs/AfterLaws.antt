-- The items above a place end an ascending list.
use Rattle.std.proofs.Common.{◌≡◌, List, [], ◌∷◌, ◌++◌, refl, sym, ◌∙◌, ap, true, false, Bool, map, Some}
use Rattle.std.specs.{Prelude.{cond}, Ordering.{is_lt}, declared.cmp.Ordering.TheVariants.{Less}}
use Rattle.ocfl_tree.specs.{Place.{Place, place_cmp}, Ascending.{IsBeforeAll, IsAscending}}
use Rattle.ocfl_report.specs.Line.{Item}
use Rattle.ocfl_rules.specs.Audit.{after}
use Rattle.ocfl_rules.proofs.BelowLaws.{less_from}
use Rattle.ocfl_tree.proofs.Orders.{place_cmp_total, not_below_itself, not_both_below, not_less}

abbrev pub places : List Item → List Place
places items = map (λ i. i.place) items

-- what is above a place that has p below it is above p too
all_above : (p q : Place) (items : List Item) → place_cmp p q ≡ Less → IsBeforeAll place_cmp q (places items) → after items (Some p) ≡ items
all_above p q [] l h = refl
all_above p q (i ∷ items) l h =
    let above : place_cmp p i.place ≡ Less = place_cmp_total.trans p q i.place l h.0 in
    ap (λ r. cond (is_lt r) (i ∷ after items (Some p)) (after items (Some p))) above ∙ ap (λ xs. i ∷ xs) (all_above p q items l h.1)

pub after_is_end : (items : List Item) (p : Place) → IsAscending place_cmp (places items) → (front : List Item) × (items ≡ front ++ after items (Some p))
after_is_end [] p h = ([], refl)
after_is_end (i ∷ items) p h = by (is_lt (place_cmp p i.place)) refl (after_is_end items p h.1)
  where
    by : (b : Bool) → is_lt (place_cmp p i.place) ≡ b → (front : List Item) × (items ≡ front ++ after items (Some p)) → (front : List Item) × (i ∷ items ≡ front ++ after (i ∷ items) (Some p))
    by true e rest = ([], sym (ap (λ b. cond b (i ∷ after items (Some p)) (after items (Some p))) e ∙ ap (λ xs. i ∷ xs) (all_above p i.place items (less_from _ e) h.0)))
    by false e rest = (i ∷ rest.0, ap (λ xs. i ∷ xs) rest.1 ∙ ap (λ b. i ∷ (rest.0 ++ cond b (i ∷ after items (Some p)) (after items (Some p)))) (sym e))

-- all of what p comes before is above p
above_kept : (p : Place) (items : List Item) → IsBeforeAll place_cmp p (places items) → after items (Some p) ≡ items
above_kept p [] h = refl
above_kept p (i ∷ items) h = ap (λ r. cond (is_lt r) (i ∷ after items (Some p)) (after items (Some p))) h.0 ∙ ap (λ xs. i ∷ xs) (above_kept p items h.1)

dropped : (p : Place) (i : Item) (items : List Item) → (place_cmp p i.place ≡ Less → ⊥) → after (i ∷ items) (Some p) ≡ after items (Some p)
dropped p i items h = ap (λ b. cond b (i ∷ after items (Some p)) (after items (Some p))) (not_less _ h)

before_last : (front : List Item) (i x : Item) (rest : List Item) → IsBeforeAll place_cmp x.place (places (front ++ i ∷ rest)) → place_cmp x.place i.place ≡ Less
before_last [] i x rest h = h.0
before_last (y ∷ front) i x rest h = before_last front i x rest h.1

-- what is above an item of an ascending list is what follows it
pub after_item : (front : List Item) (i : Item) (rest : List Item) → IsAscending place_cmp (places (front ++ i ∷ rest)) → after (front ++ i ∷ rest) (Some i.place) ≡ rest
after_item [] i rest h = dropped i.place i rest (not_below_itself place_cmp_total i.place) ∙ above_kept i.place rest h.0
after_item (x ∷ front) i rest h =
    dropped i.place x (front ++ i ∷ rest) (λ l. not_both_below place_cmp_total i.place x.place l (before_last front i x rest h.0)) ∙ after_item front i rest h.1
