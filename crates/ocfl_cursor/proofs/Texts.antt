-- The test whether two texts are the same.
use Rattle.std.proofs.Common.{◌≡◌, ◌≢◌, ℕ, [], ◌∷◌, ◌++◌, ◌==◌, true, not, cond, All, refl, sym, ap, ◌∙◌}
use Rattle.std.proofs.{lemmas.Bool.{ne_eqb}, lemmas.List.Sums.{take_while-cons}}
use Rattle.std.proofs.lemmas.List.Elements.{All-head, All-tail}
use Rattle.std.specs.Cmp.Lexicographic.{texts_ties, bytes_decides}
use Rattle.ocfl_tree.specs.Place.{Text, text_eq}
use Rattle.ocfl_cursor.specs.Sealed.{first_line}

-- texts that pass the test are the same
pub text_eq-same : (a b : Text) → text_eq a b ≡ true → a ≡ b
text_eq-same a b h = (bytes_decides a b).0 (texts_ties a b ∙ h)

-- the same text passes the test
pub same-text_eq : (a b : Text) → a ≡ b → text_eq a b ≡ true
same-text_eq a b e = sym (texts_ties a b) ∙ (bytes_decides a b).1 e

-- ---- the first line of a text

-- no line feed in what is before it
abbrev IsNotFeed : ℕ → Type 0
IsNotFeed b = b ≢ 10

first_line-cons : (c : ℕ) (t : Text) → c ≢ 10 → first_line (c ∷ t) ≡ c ∷ first_line t
first_line-cons c t apart =
    take_while-cons (λ b. not (b == 10)) c t ∙ ap (λ r. cond (not r) (c ∷ first_line t) []) (ne_eqb c 10 apart)

-- what is before a line feed, if none is before it
pub first_line-found : (line rest : Text) → All IsNotFeed line → first_line (line ++ 10 ∷ rest) ≡ line
first_line-found [] rest h = refl
first_line-found (c ∷ line) rest h =
    first_line-cons c (line ++ 10 ∷ rest) (All-head IsNotFeed c line h) ∙ ap (λ t. c ∷ t) (first_line-found line rest (All-tail IsNotFeed c line h))

-- all of it if there is no line feed
pub first_line-missing : (t : Text) → All IsNotFeed t → first_line t ≡ t
first_line-missing [] h = refl
first_line-missing (c ∷ t) h = first_line-cons c t (All-head IsNotFeed c t h) ∙ ap (λ u. c ∷ u) (first_line-missing t (All-tail IsNotFeed c t h))
