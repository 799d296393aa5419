-- A place read back off its text: the text is the place's path escaped, but for the root's.
use Rattle.std.proofs.Common.{◌≡◌, ◌≢◌, ◌⊎◌, inl, inr, ℕ, ◌==◌, [], ◌∷◌, ◌++◌, true, false, codes, length, get_or, All, IsUtf8, refl, sym, ap, ◌∙◌, arith}
use Rattle.std.proofs.{Math.Dec.{eqb-suc-zero}, lemmas.Bool.Decides.{eqb_tells}}
use Rattle.std.proofs.lemmas.Str.{IsUtf8-nil, IsUtf8-append, IsUtf8-from_ascii, IsUtf8-had}
use Rattle.std.proofs.lemmas.Str.Ascii.{IsAscii-nil, IsAscii-cons}
use Rattle.std.proofs.lemmas.List.Elements.{All-head, All-tail, All-weaker}
use Rattle.std.specs.List.{join_with_byte, slice_split}
use Rattle.ocfl_tree.specs.{Place.{Text, Place}, Name.{IsName, IsPlace}, Path.{names_of, slashed}}
use Rattle.ocfl_tree.proofs.PathNames.{names_are}
use Rattle.ocfl_report.specs.Text.{escape, place_text}
use Rattle.ocfl_report.proofs.{Escapes.{IsNoSlash}, PathTexts.{path_text, place_text-slashed}}
use Rattle.ocfl_report.proofs.PlaceTexts.{names_of as unescaped_names, names_of-place_text}
use Rattle.ocfl_report.proofs.Separators.{slice_split-join_with_byte}

-- a path that has an escaped form with bytes has bytes
some_path : (b t : Text) → (length b == 0) ≡ false → b ≡ escape t → (length t == 0) ≡ false
some_path b [] some e = sym (ap (λ u. length u == 0) e) ∙ some
some_path b (c ∷ t) some e = eqb-suc-zero (length t)

-- a text that is a path escaped is that of the path's place
pub text_of_path : (b t : Text) → (length b == 0) ≡ false → b ≡ escape t → b ≡ place_text (names_of t)
text_of_path b t some e = e ∙ sym (path_text t (some_path b t some e))

-- the path of a place is UTF-8
pub path_utf8 : (p : Place) → IsPlace p → IsUtf8 (slashed p)
path_utf8 [] h = IsUtf8-nil
path_utf8 (n ∷ []) h = IsUtf8-had n (All-head IsName n [] h).text
path_utf8 (n ∷ m ∷ p) h =
    let slash = IsUtf8-from_ascii (47 ∷ []) (IsAscii-cons 47 [] (omega arith) IsAscii-nil) in
    IsUtf8-append n (47 ∷ slashed (m ∷ p)) (IsUtf8-had n (All-head IsName n (m ∷ p) h).text)
    (IsUtf8-append (47 ∷ []) (slashed (m ∷ p)) slash (path_utf8 (m ∷ p) (All-tail IsName n (m ∷ p) h)))

-- names in a path are joined by slashes
slashed-joined : (n : Text) (p : Place) → slashed (n ∷ p) ≡ join_with_byte 47 (n ∷ p)
slashed-joined n [] = refl
slashed-joined n (m ∷ p) = ap (λ t. n ++ 47 ∷ t) (slashed-joined m p)

-- a name has no slash
name_no_slash : (n : Text) → IsName n → All IsNoSlash n
name_no_slash n h = λ k d l. by (get_or n k d) (h.fits.plain k d l).0
  where
    by : (b : ℕ) → b ≢ 47 → IsNoSlash b
    by b other = told (eqb_tells b 47)
      where
        told : ((b == 47 ≡ true) × (b ≡ 47)) ⊎ ((b == 47 ≡ false) × (b ≢ 47)) → IsNoSlash b
        told (inl is) = absurd (other is.1)
        told (inr is_not) = is_not.0

-- a path with a name has bytes
path_some : (n : Text) (p : Place) → IsName n → (length (slashed (n ∷ p)) == 0) ≡ false
path_some [] p h = absurd (h.fits.not_empty refl)
path_some (c ∷ n) [] h = eqb-suc-zero (length n)
path_some (c ∷ n) (m ∷ p) h = eqb-suc-zero (length (n ++ 47 ∷ slashed (m ∷ p)))

-- the path of a place gives its names
pub path_names : (p : Place) → IsPlace p → names_of (slashed p) ≡ p
path_names [] h = refl
path_names (n ∷ p) h =
    names_are (slashed (n ∷ p)) (path_some n p (All-head IsName n p h))
    ∙ ap (λ t. slice_split (λ b. b == 47) t) (slashed-joined n p)
    ∙ slice_split-join_with_byte 47 n p (All-weaker IsName (All IsNoSlash) name_no_slash (n ∷ p) h)

-- the text of a place is its path escaped, but for the root's
pub path_of_text : (b : Text) (p : Place) → b ≢ codes "." → b ≡ place_text p → b ≡ escape (slashed p)
path_of_text b [] named e = absurd (named e)
path_of_text b (n ∷ p) named e = e ∙ place_text-slashed (n ∷ p) (λ h. cc)

-- the text of a place has bytes
pub text_some : (b : Text) (p : Place) → IsPlace p → b ≡ place_text p → (length b == 0) ≡ false
text_some (c ∷ b) p h e = eqb-suc-zero (length b)
text_some [] [] h e = cc
text_some [] (n ∷ p) h e =
    let names : [] ∷ [] ≡ n ∷ p = ap unescaped_names e ∙ names_of-place_text n p h in
    let first : n ≡ [] = cc in
    absurd ((All-head IsName n p h).fits.not_empty first)
