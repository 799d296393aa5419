-- The text of a place is its path escaped, but for the root's.
use Rattle.std.proofs.Common.{◌≡◌, ◌==◌, [], ◌∷◌, ◌++◌, true, false, map, length, codes, refl, sym, ap, ◌∙◌, arith, eqb-true}
use Rattle.std.proofs.lemmas.List.Concat.{flat_map-append}
use Rattle.std.specs.List.{join_with_byte}
use Rattle.ocfl_tree.specs.{Place.{Text, Place}, Path.{elements, names_of, slashed}}
use Rattle.ocfl_tree.proofs.{Orders.{true_not_false}, PathOrders.{some_element}}
use Rattle.ocfl_tree.proofs.Paths.{slashed_elements}
use Rattle.ocfl_report.specs.Text.{escape_byte, escape, place_text}

escape-slashed : (n : Text) (p : Place) → join_with_byte 47 (map escape (n ∷ p)) ≡ escape (slashed (n ∷ p))
escape-slashed n [] = refl
escape-slashed n (m ∷ p) = ap (λ t. escape n ++ 47 ∷ t) (escape-slashed m p) ∙ sym (flat_map-append escape_byte n (47 ∷ slashed (m ∷ p)))

pub place_text-slashed : (p : Place) → (p ≡ [] → ⊥) → place_text p ≡ escape (slashed p)
place_text-slashed [] h = absurd (h refl)
place_text-slashed (n ∷ p) h = escape-slashed n p

pub path_text : (t : Text) → (length t == 0) ≡ false → place_text (names_of t) ≡ escape t
path_text [] h = absurd (true_not_false h)
path_text (c ∷ t) h = place_text-slashed (elements (c ∷ t)) (some_element (c ∷ t)) ∙ ap escape (slashed_elements (c ∷ t))

pub root_text : (t : Text) → (length t == 0) ≡ true → place_text (names_of t) ≡ codes "."
root_text [] h = refl
root_text (c ∷ t) h = let e = eqb-true (length (c ∷ t)) 0 h in absurd (omega arith)
