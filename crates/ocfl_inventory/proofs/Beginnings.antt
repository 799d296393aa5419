-- The places that a place begins, and conflicts among sorted places.
use Rattle.std.proofs.Common.{◌≡◌, List, [], ◌∷◌, refl, sym, ◌∙◌, ap, true, false}
use Rattle.std.proofs.lemmas.Bool.{and_parts}
use Rattle.std.specs.{Prelude.{◌&&◌}, List.{dedup}, List.Sorted.{IsPermutation}}
use Rattle.std.specs.Ordering.{is_lt, ordering_then, ordering_reverse}
use Rattle.std.specs.Cmp.Lexicographic.{nat_list_cmp_total}
use Rattle.std.specs.declared.cmp.Ordering.{Ordering}
use Rattle.std.specs.declared.cmp.Ordering.TheVariants.{Less, Equal, Greater}
use Rattle.ocfl_tree.specs.Place.{Text, Place, text_cmp, text_eq, place_cmp, place_eq, begins}
use Rattle.ocfl_inventory.specs.{Notes.{is_conflict, conflicts}, Internal.Beside.{hits}}
use Rattle.ocfl_tree.proofs.{Places.{begins-itself, text_cmp_exact}, Orders.{true_not_false, place_cmp_total, place_cmp_exact, below_from_greater}}
use Rattle.ocfl_inventory.proofs.{Runs.{IsUp, IsFront, equal_itself}, Once.{alike_is, sorted_hits}}

same_text : (a b : Text) → text_eq a b ≡ true → a ≡ b
same_text = alike_is nat_list_cmp_total text_cmp_exact

begins_later : (p q : Place) → begins p q ≡ true → is_lt (place_cmp q p) ≡ false
begins_later [] [] h = refl
begins_later [] (b ∷ q) h = refl
begins_later (a ∷ p) [] h = absurd (true_not_false (sym h))
begins_later (a ∷ p) (b ∷ q) h =
    let w = and_parts _ _ h in
    let e : text_cmp b a ≡ Equal = ap (λ x. text_cmp x a) (sym (same_text a b w.0)) ∙ equal_itself nat_list_cmp_total a in
    ap (λ r. is_lt (ordering_then r (place_cmp q p))) e ∙ begins_later p q w.1

begins_between : (p q r : Place) → is_lt (place_cmp q p) ≡ false → is_lt (place_cmp r q) ≡ false → begins p r ≡ true → begins p q ≡ true
begins_between [] q r h k t = refl
begins_between (a ∷ p) q [] h k t = absurd (true_not_false (sym t))
begins_between (a ∷ p) [] (c ∷ r) h k t = absurd (true_not_false h)
begins_between (a ∷ p) (b ∷ q) (c ∷ r) h k t =
    let w = and_parts _ _ t in
    let k2 : is_lt (ordering_then (text_cmp a b) (place_cmp r q)) ≡ false = ap (λ x. is_lt (ordering_then (text_cmp x b) (place_cmp r q))) (same_text a c w.0) ∙ k in
    by (text_cmp b a) refl h (text_cmp a b) refl k2 (λ m n. begins_between p q r m n w.1)
  where
    by : (x : Ordering) → text_cmp b a ≡ x → is_lt (ordering_then x (place_cmp q p)) ≡ false → (y : Ordering) → text_cmp a b ≡ y → is_lt (ordering_then y (place_cmp r q)) ≡ false
        → (is_lt (place_cmp q p) ≡ false → is_lt (place_cmp r q) ≡ false → begins p q ≡ true) → text_eq a b && begins p q ≡ true
    by Less e m y f n more = absurd (true_not_false m)
    by x e m Less f n more = absurd (true_not_false n)
    by Greater e m y f n more = absurd (true_not_false (ap (λ o. is_lt (ordering_then o (place_cmp r q))) (sym (sym f ∙ below_from_greater nat_list_cmp_total b a e)) ∙ n))
    by Equal e m Equal f n more = rw f (more m n)
    by Equal e m Greater f n more = absurd (let both = sym f ∙ (nat_list_cmp_total.antisymm a b ∙ ap ordering_reverse e) in cc)

pub begins_front : IsFront place_cmp begins
begins_front = record { itself = begins-itself; later = begins_later; between = begins_between }

pub sorted_conflicts : (ps qs : List Place) → IsPermutation ps qs → IsUp place_cmp qs → dedup place_eq (hits begins qs) ≡ conflicts ps
sorted_conflicts ps qs perm up = sorted_hits place_cmp_total place_cmp_exact begins_front (is_conflict ps) ps qs (λ p i. refl) perm up
