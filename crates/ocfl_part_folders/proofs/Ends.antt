-- A line without its line feed.
use Rattle.std.proofs.Common.{◌≡◌, ◌≢◌, ◌+◌, ◌-◌, ◌∙◌, ◌++◌, ◌∷◌, [], ℕ, List, Option, Some, None, MatchOption, Bor, sym, subst, take, length, lit<}
use Rattle.std.proofs.lemmas.{List.{append_cancel_right}, Str.Pattern.{strip_suffix_char}}
use Rattle.std.specs.Str.Pattern.{FindsCharSuffix}

-- the clause of `strip_suffix` at a line feed, and what it says
abbrev pub IsStripped : List ℕ → Option (Bor (List ℕ)) → Type 0
IsStripped line r = MatchOption r (FindsCharSuffix 10 line None) (λ x. (n : ℕ) × FindsCharSuffix 10 line (Some n) × (x.now ≡ take (length line - n) line) × (length x.now + n ≡ length line))

abbrev IsFront : List ℕ → Option (Bor (List ℕ)) → Type 0
IsFront line r = MatchOption r ((front : List ℕ) → line ≢ front ++ 10 ∷ []) (λ x. line ≡ x.now ++ 10 ∷ [])

pub stripped : (line words : List ℕ) (r : Option (Bor (List ℕ))) (x : Bor (List ℕ)) → r ≡ Some x → IsStripped line r → line ≡ words ++ 10 ∷ [] → x.now ≡ words
stripped line words r x is h e =
    let front : line ≡ x.now ++ 10 ∷ [] = subst (IsFront line) is (strip_suffix_char 10 line r h (lit< tt)) in
    append_cancel_right x.now words (10 ∷ []) (sym front ∙ e)

pub unstripped : (line words : List ℕ) (r : Option (Bor (List ℕ))) → r ≡ None → IsStripped line r → line ≡ words ++ 10 ∷ [] → line ≡ words
unstripped line words r is h e = absurd (subst (IsFront line) is (strip_suffix_char 10 line r h (lit< tt)) words e)
