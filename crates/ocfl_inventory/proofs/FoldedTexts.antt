-- Comparing folded texts byte by byte.
use Rattle.std.proofs.Common.{◌≡◌, ◌⊎◌, inl, inr, ℕ, ◌≤◌, [], ◌∷◌, refl, drop, length, arith}
use Prim.Native.Nat.{min}
use Rattle.std.specs.Ordering.{nat_cmp}
use Rattle.ocfl_tree.specs.Place.{Text, text_cmp}
use Rattle.ocfl_tree.proofs.PathOrders.{none_less, some_greater, compared_all}
use Rattle.ocfl_inventory.specs.DigestText.{folded}

ends_folded : (x y : Text) → (length x ≡ 0) ⊎ (length y ≡ 0) → text_cmp (folded x) (folded y) ≡ nat_cmp (length x) (length y)
ends_folded [] [] h = refl
ends_folded [] (b ∷ u) h = none_less (length u)
ends_folded (a ∷ t) [] h = some_greater (length t)
ends_folded (a ∷ t) (b ∷ u) (inl e) = absurd (omega (arith, e))
ends_folded (a ∷ t) (b ∷ u) (inr e) = absurd (omega (arith, e))

pub folded_done : (t u : Text) (i s : ℕ) → s ≡ min (length t) (length u) → i ≤ s → s ≤ i → text_cmp (folded (drop i t)) (folded (drop i u)) ≡ nat_cmp (length t) (length u)
folded_done = compared_all (λ x y. text_cmp (folded x) (folded y)) ends_folded
