-- Texts within single quotes.
use Rattle.std.proofs.Common.{◌≡◌, ◌≢◌, ℕ, ◌<◌, ◌==◌, suc, false, [], ◌∷◌, ◌++◌, length, get_or, refl, sym, ap, ◌∙◌, append_assoc, arith}
use Rattle.std.proofs.{lemmas.Bool.Decides.{nat_tests}, lemmas.Grind.{flat_map-append}}
use Rattle.std.specs.Prelude.{flat_map}
use Rattle.ocfl_tree.specs.Place.{Text}
use Rattle.ocfl_messages.specs.Quoted.{quoted_byte}

-- what has no quote stays as it is
pub unquoted : (t : Text) → ((i : ℕ) → i < length t → get_or t i 0 ≢ 39) → flat_map quoted_byte t ≡ t
unquoted [] h = refl
unquoted (b ∷ t) h =
    let other : (b == 39) ≡ false = grind (arith, nat_tests, h 0 (omega arith)) in
    let same : quoted_byte b ≡ b ∷ [] = rw other refl in
    (λ i. same i ++ unquoted t (λ k l. h (suc k) (omega (arith, l))) i)

-- up to a quote, and on
pub quoted_on : (text part after : Text) → text ≡ part ++ 39 ∷ after → ((i : ℕ) → i < length part → get_or part i 0 ≢ 39)
    → flat_map quoted_byte text ≡ (part ++ 39 ∷ 92 ∷ 39 ∷ 39 ∷ []) ++ flat_map quoted_byte after
quoted_on text part after e h =
    ap (flat_map quoted_byte) e ∙ flat_map-append quoted_byte part (39 ∷ after)
    ∙ ap (λ t. t ++ ((39 ∷ 92 ∷ 39 ∷ 39 ∷ []) ++ flat_map quoted_byte after)) (unquoted part h)
    ∙ sym (append_assoc part (39 ∷ 92 ∷ 39 ∷ 39 ∷ []) (flat_map quoted_byte after))

-- six texts in turn
pub six : (a b c d e f : Text) → a ++ (b ++ (c ++ (d ++ (e ++ f)))) ≡ a ++ b ++ c ++ d ++ e ++ f
six a b c d e f = simp append_assoc
