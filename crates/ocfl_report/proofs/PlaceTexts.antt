-- The text of a place determines the place.
use Rattle.std.proofs.Common.{◌≡◌, ◌≢◌, [], ◌∷◌, ◌==◌, map, codes, All, refl, sym, ap, ◌∙◌, arith}
use Rattle.std.proofs.lemmas.List.Elements.{All-nil, All-head, All-tail, All-map, All-weaker}
use Rattle.std.specs.List.{slice_split}
use Rattle.ocfl_tree.specs.{Place.{Text, Place}, Name.{IsName, IsPlace}}
use Rattle.ocfl_report.specs.Text.{escape, place_text}
use Rattle.ocfl_report.proofs.Bytes.{IsPrintable, name_bytes, All-from_test, is_printable, IsPrintable-from_test}
use Rattle.ocfl_report.proofs.Separators.{slice_split-join_with_byte, All-join_with_byte}
use Rattle.ocfl_report.proofs.Escapes.{unescape, unescape-escape, IsNoSlash, escape_no_slash, escape_printable}

-- the names that a text gives, if it is not the root's
abbrev pub names_of : Text → Place
names_of t = map unescape (slice_split (λ b. b == 47) t)

-- an escaped name has no slash
escaped_name_no_slash : (n : Text) → IsName n → All IsNoSlash (escape n)
escaped_name_no_slash n h = escape_no_slash n (name_bytes n h) (λ k d l. (h.fits.plain k d l).0)

-- escaped names read back
unescape-escape-names : (p : Place) → IsPlace p → map unescape (map escape p) ≡ p
unescape-escape-names [] h = refl
unescape-escape-names (n ∷ p) h =
    let first = unescape-escape n (name_bytes n (All-head IsName n p h)) in
    let rest = unescape-escape-names p (All-tail IsName n p h) in
    λ i. first i ∷ rest i

-- the parts of the text of a place below the root are its escaped names
pub slice_split-place_text : (n : Text) (p : Place) → IsPlace (n ∷ p) → slice_split (λ b. b == 47) (place_text (n ∷ p)) ≡ map escape (n ∷ p)
slice_split-place_text n p h =
    let no_slashes = All-weaker IsName (λ m. All IsNoSlash (escape m)) escaped_name_no_slash (n ∷ p) h in
    slice_split-join_with_byte 47 (escape n) (map escape p) (All-map (All IsNoSlash) escape (n ∷ p) no_slashes)

-- the text of a place below the root reads back
pub names_of-place_text : (n : Text) (p : Place) → IsPlace (n ∷ p) → names_of (place_text (n ∷ p)) ≡ n ∷ p
names_of-place_text n p h = ap (map unescape) (slice_split-place_text n p h) ∙ unescape-escape-names (n ∷ p) h

-- a place with a name does not have the text `.`
named_place_not_dot : (n : Text) (p : Place) → IsPlace (n ∷ p) → place_text (n ∷ p) ≢ codes "."
named_place_not_dot n p h e =
    let names : n ∷ p ≡ codes "." ∷ [] = sym (names_of-place_text n p h) ∙ ap names_of e in
    let name : n ≡ codes "." = cc in
    (All-head IsName n p h).fits.not_dot name

-- places are equal if their texts are
pub place_text_determines : (p q : Place) → IsPlace p → IsPlace q → place_text p ≡ place_text q → p ≡ q
place_text_determines [] [] h k e = refl
place_text_determines [] (m ∷ q) h k e = absurd (named_place_not_dot m q k (sym e))
place_text_determines (n ∷ p) [] h k e = absurd (named_place_not_dot n p h e)
place_text_determines (n ∷ p) (m ∷ q) h k e = sym (names_of-place_text n p h) ∙ ap names_of e ∙ names_of-place_text m q k

-- a place with the text `.` is the root
pub root_from_dot : (p : Place) → IsPlace p → place_text p ≡ codes "." → p ≡ []
root_from_dot p h e = place_text_determines p [] h (All-nil IsName) e

-- a place other than the root does not have the text `.`
pub place_text_not_dot : (p : Place) → IsPlace p → p ≢ [] → place_text p ≢ codes "."
place_text_not_dot p h below e = below (root_from_dot p h e)

-- the text of a place is printable
pub place_text_printable : (p : Place) → IsPlace p → All IsPrintable (place_text p)
place_text_printable [] h = All-from_test IsPrintable is_printable IsPrintable-from_test (codes ".") refl
place_text_printable (n ∷ p) h =
    let names_printable = All-weaker IsName (λ m. All IsPrintable (escape m)) (λ m k. escape_printable m (name_bytes m k)) (n ∷ p) h in
    All-join_with_byte IsPrintable 47 (omega arith, omega arith) (map escape (n ∷ p)) (All-map (All IsPrintable) escape (n ∷ p) names_printable)
