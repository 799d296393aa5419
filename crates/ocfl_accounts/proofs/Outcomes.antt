-- One more cycle that was said.
use Rattle.std.proofs.Common.{◌≡◌, ℕ, ◌+◌, List, [], ◌∷◌, ◌++◌, length, refl, subst, arith}
use Rattle.std.specs.Prelude.{max}
use Rattle.ocfl_accounts.specs.Telling.{Stand, Outcome, IsOutcome, AreOutcomes, greatest_from}
use Rattle.ocfl_accounts.specs.Changes.{Says}

module _ (says : Says) (o : Outcome) where
  pub outcomes_more : (first last : Stand) (c n : ℕ) (os : List Outcome) → AreOutcomes first c says os last → c + length os ≡ n → IsOutcome last n says o → AreOutcomes first c says (os ++ o ∷ []) o.after
  outcomes_more first last c n [] h e is =
      let number : n ≡ c = omega (arith, e) in
      (subst (λ m. IsOutcome first m says o) number (subst (λ a. IsOutcome a n says o) h is), refl)
  outcomes_more first last c n (p ∷ os) h e is =
      (h.0, outcomes_more p.after last (c + 1) n os h.1 (omega (arith, e)) is)

  pub greatest_more : (status : ℕ) (os : List Outcome) → greatest_from status (os ++ o ∷ []) ≡ max (greatest_from status os) o.status
  greatest_more status [] = refl
  greatest_more status (p ∷ os) = greatest_more (max status p.status) os
