-- Bytes behind a first line feed.
use Rattle.std.proofs.Common.{◌≡◌, ◌≢◌, ℕ, suc, ◌+◌, ◌==◌, All, [], ◌∷◌, ◌++◌, Bool, true, false, None, drop, length, refl, ap, ◌∙◌, arith}
use Rattle.std.proofs.lemmas.{List.Elements.{All-head, All-nil, All-tail}, Bool.Decides.{Decides-eqb}}
use Rattle.std.specs.List.{after_first, position_or_len}
use Rattle.ocfl_tree.specs.Place.{Text}
use Rattle.ocfl_report.specs.Text.{IsLine}
use Rattle.ocfl_messages.specs.{Found.{IsHeadIn}, declared.finding.Heads.{Heads}}

no_feed : (c : ℕ) → c ≢ 10 → (c == 10) ≡ false
no_feed c h = by (c == 10) refl
  where
    by : (b : Bool) → (c == 10) ≡ b → b ≡ false
    by true e = absurd (h ((Decides-eqb c 10).0 e))
    by false e = refl

pub behind_feed : (cut rest : Text) → All (λ c. c ≢ 10) cut → after_first (λ c. c == 10) (cut ++ 10 ∷ rest) ≡ rest
behind_feed cut rest h = ap (λ n. drop (n + 1) (cut ++ 10 ∷ rest)) (position cut h) ∙ dropped cut
  where
    position : (t : Text) → All (λ c. c ≢ 10) t → position_or_len (λ c. c == 10) (t ++ 10 ∷ rest) ≡ length t
    position [] k = refl
    position (c ∷ t) k =
        let e = no_feed c (All-head (λ b. b ≢ 10) c t k) in
        rw e (ap (λ n. 1 + n) (position t (All-tail (λ b. b ≢ 10) c t k)) ∙ omega arith)

    dropped : (t : Text) → drop (length t + 1) (t ++ 10 ∷ rest) ≡ rest
    dropped [] = refl
    dropped (c ∷ t) =
        let e : length (c ∷ t) + 1 ≡ suc (length t + 1) = omega arith in
        ap (λ n. drop n (c ∷ (t ++ 10 ∷ rest))) e ∙ dropped t

pub behind_none : (t : Text) → All (λ c. c ≢ 10) t → after_first (λ c. c == 10) t ≡ []
behind_none t h = ap (λ n. drop (n + 1) t) (position t h) ∙ dropped t
  where
    position : (u : Text) → All (λ c. c ≢ 10) u → position_or_len (λ c. c == 10) u ≡ length u
    position [] k = refl
    position (c ∷ u) k =
        let e = no_feed c (All-head (λ b. b ≢ 10) c u k) in
        rw e (ap (λ n. 1 + n) (position u (All-tail (λ b. b ≢ 10) c u k)) ∙ omega arith)

    dropped : (u : Text) → drop (length u + 1) u ≡ []
    dropped [] = refl
    dropped (c ∷ u) =
        let e : length (c ∷ u) + 1 ≡ suc (length u + 1) = omega arith in
        ap (λ n. drop n (c ∷ u)) e ∙ dropped u

-- of no bytes
pub none_in : (heads : Heads) → heads.last ≡ None → IsHeadIn heads []
none_in heads e = record { lines = []; rest = []; are = All-nil IsLine; is = refl; unended = All-nil (λ c. c ≢ 10); heads = e }
