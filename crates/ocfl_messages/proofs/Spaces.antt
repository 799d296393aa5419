-- What comes before the first space of a text.
use Rattle.std.proofs.Common.{◌≡◌, ◌≢◌, suc, ◌==◌, false, [], ◌∷◌, ◌++◌, Option, Some, None, Bor, refl, ap, sym, ◌∙◌, arith}
use Rattle.std.proofs.lemmas.Bool.Decides.{nat_tests}
use Rattle.std.specs.Prelude.{All, IfSome, IsNone, option_map}
use Rattle.ocfl_tree.specs.Place.{Text}
use Rattle.ocfl_messages.specs.Wording.{at_space}

after : (a b : Text) → All (λ c. c ≢ 32) a → at_space (a ++ 32 ∷ b) ≡ Some (a, b)
after [] b h = refl
after (x ∷ a) b h =
    let other : (x == 32) ≡ false = grind (arith, nat_tests, h 0 x (omega arith)) in
    rw other (ap (option_map (λ p. (x ∷ p.0, p.1))) (after a b (λ k d l. h (suc k) d (omega (arith, l)))))

none : (t : Text) → All (λ c. c ≢ 32) t → at_space t ≡ None
none [] h = refl
none (x ∷ t) h =
    let other : (x == 32) ≡ false = grind (arith, nat_tests, h 0 x (omega arith)) in
    rw other (ap (option_map (λ p. (x ∷ p.0, p.1))) (none t (λ k d l. h (suc k) d (omega (arith, l)))))

pub split_is : (t : Text) (o : Option (Bor Text × Bor Text)) → IfSome o (λ p. t ≡ p.0.now ++ 32 ∷ p.1.now) → IfSome o (λ p. All (λ c. c ≢ 32) p.0.now)
    → (IsNone o → All (λ c. c ≢ 32) t) → option_map (λ p. (p.0.now, p.1.now)) o ≡ at_space t
split_is t None found first missing = sym (none t (missing refl))
split_is t (Some p) found first missing = sym (ap at_space found ∙ after p.0.now p.1.now first)
