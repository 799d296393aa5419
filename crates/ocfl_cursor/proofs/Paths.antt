-- How long the text of a place is, and how many slashes it has.
use Rattle.std.proofs.Common.{◌≡◌, ℕ, ◌+◌, ◌*◌, ◌/◌, ◌%◌, ◌<◌, ◌≤◌, [], ◌∷◌, ◌==◌, Bool, true, false, cond, Result, Ok, Err, IfOk, subst, length, map, count_by, ap, arith, length-append}
use Rattle.std.proofs.{lemmas.List.{length-map}, lemmas.List.Splits.{length-slice_split}}
use Rattle.std.proofs.lemmas.List.Elements.{All-head, All-tail}
use Rattle.std.specs.List.{slice_split, join_with_byte}
use Rattle.ocfl_tree.specs.{Place.{Text, Place}, Name.{IsName, IsPlace}}
use Rattle.ocfl_report.specs.Text.{is_escaped, hex_digit, escape_byte, escape, place_text}
use Rattle.ocfl_report.proofs.{Escapes.{unescape}, PlaceTexts.{names_of, names_of-place_text}}

-- ---- slashes

-- a slash is between two names
abbrev pub slashes : Text → ℕ
slashes t = count_by (λ b. b == 47) t

slashes-place_text : (n : Text) (p : Place) → IsPlace (n ∷ p) → slashes (place_text (n ∷ p)) ≡ length p
slashes-place_text n p h =
    let t = place_text (n ∷ p) in
    let parts : length (slice_split (λ b. b == 47) t) ≡ slashes t + 1 = length-slice_split (λ b. b == 47) t in
    let names : length (names_of t) ≡ length (slice_split (λ b. b == 47) t) = length-map (slice_split (λ b. b == 47) t) unescape in
    let whole : length (names_of t) ≡ length (n ∷ p) = ap length (names_of-place_text n p h) in
    omega arith

-- a place whose text has fewer than 255 slashes has at most 255 names
pub few_names : (p : Place) → IsPlace p → slashes (place_text p) < 255 → length p ≤ 255
few_names [] h l = omega arith
few_names (n ∷ p) h l = omega (arith, slashes-place_text n p h)

-- so it is if one was read of such a text
pub short_place : {E : Type 0} (path : Text) (r : Result Place E) → slashes path < 255 → IfOk r (λ p. path ≡ place_text p) → IfOk r IsPlace → IfOk r (λ p. IsPlace p × (length p ≤ 255))
short_place path (Ok p) few e h = (h, few_names p h (subst (λ t. slashes t < 255) e few))
short_place path (Err stop) few e h = tt

-- and a place of at most 255 names has such a text
pub few_slashes : (p : Place) → IsPlace p → length p ≤ 255 → slashes (place_text p) < 255
few_slashes [] h l = omega arith
few_slashes (n ∷ p) h l = omega (arith, slashes-place_text n p h)

-- ---- bytes

length-escape_byte : (b : ℕ) → length (escape_byte b) ≤ 3
length-escape_byte b = by (is_escaped b)
  where
    by : (r : Bool) → length (cond r (37 ∷ hex_digit (b / 16) ∷ hex_digit (b % 16) ∷ []) (b ∷ [])) ≤ 3
    by true = omega arith
    by false = omega arith

length-escape : (t : Text) → length (escape t) ≤ 3 * length t
length-escape [] = omega arith
length-escape (b ∷ t) = omega (arith, length-append (escape_byte b) (escape t), length-escape_byte b, length-escape t)

length-escaped_name : (n : Text) → IsName n → length (escape n) ≤ 765
length-escaped_name n h = omega (arith, length-escape n, h.fits.short)

length-joined : (n : Text) (p : Place) → IsPlace (n ∷ p) → length (join_with_byte 47 (map escape (n ∷ p))) + 1 ≤ 766 * length (n ∷ p)
length-joined n [] h = omega (arith, length-escaped_name n (All-head IsName n [] h))
length-joined n (m ∷ p) h =
    omega (arith, length-append (escape n) (47 ∷ join_with_byte 47 (map escape (m ∷ p))), length-escaped_name n (All-head IsName n (m ∷ p) h), length-joined m p (All-tail IsName n (m ∷ p) h))

-- the text of a place of at most 255 names has at most 195,329 bytes
pub length-place_text : (p : Place) → IsPlace p → length p ≤ 255 → length (place_text p) ≤ 195329
length-place_text [] h l = omega arith
length-place_text (n ∷ p) h l = omega (arith, length-joined n p h)
