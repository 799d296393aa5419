-- Escaped text reads back, and has printable bytes alone.
use Rattle.std.proofs.Common.{◌≡◌, ◌≢◌, ◌⊎◌, inl, inr, ℕ, ◌+◌, ◌*◌, ◌-◌, ◌/◌, ◌%◌, ◌<◌, [], ◌∷◌, ◌++◌, Bool, true, false, cond, if◌then◌else◌, nat_lt, ◌==◌, ◌||◌, not, All, refl, sym, ap, ap₂, ◌∙◌, append-nil, append_assoc, arith}
use Rattle.std.proofs.lemmas.Bool.{agree_below_at, eqb-true, not-true, or_parts, or_cases, cond-false}
use Rattle.std.proofs.lemmas.List.Elements.{All-nil, All-head, All-tail, All-append}
use Rattle.std.specs.List.{list_all}
use Rattle.ocfl_tree.specs.Place.{Text}
use Rattle.ocfl_report.specs.Text.{is_escaped, hex_digit, escape_byte, escape}
use Rattle.ocfl_report.proofs.Bytes.{IsByte, All-from_test, IsPrintable, is_printable, IsPrintable-from_test}

-- ---- reading back

-- where a reader of escaped text is: at a byte, after a `%`, or after a `%` and a digit
pub data Reading : Type 0 where
  at_byte : Reading
  at_digit : Reading
  behind_digit : ℕ → Reading

-- what a hexadecimal digit stands for
abbrev pub hex_value : ℕ → ℕ
hex_value c = if nat_lt c 58 then c - 48 else c - 55

-- the text that a reader gives from there on
abbrev pub unescape_from : Reading → Text → Text
unescape_from r [] = []
unescape_from at_byte (c ∷ t) = if c == 37 then unescape_from at_digit t else c ∷ unescape_from at_byte t
unescape_from at_digit (c ∷ t) = unescape_from (behind_digit (hex_value c)) t
unescape_from (behind_digit h) (c ∷ t) = (h * 16 + hex_value c) ∷ unescape_from at_byte t

-- the text whose escaped form this is
abbrev pub unescape : Text → Text
unescape t = unescape_from at_byte t

-- a digit has the value that it was made from
hex_value-hex_digit : (n : ℕ) → n < 16 → hex_value (hex_digit n) ≡ n
hex_value-hex_digit n l = eqb-true _ n (agree_below_at (λ k. hex_value (hex_digit k) == k) (λ _. true) 16 n refl l)

-- two digits have the value of their byte
two_digits : (b : ℕ) → b < 256 → hex_value (hex_digit (b / 16)) * 16 + hex_value (hex_digit (b % 16)) ≡ b
two_digits b l =
    let high : hex_value (hex_digit (b / 16)) ≡ b / 16 = hex_value-hex_digit (b / 16) (omega arith) in
    let low : hex_value (hex_digit (b % 16)) ≡ b % 16 = hex_value-hex_digit (b % 16) (omega arith) in
    let whole : b / 16 * 16 + b % 16 ≡ b = omega arith in
    ap₂ (λ x y. x * 16 + y) high low ∙ whole

-- a byte that is not escaped is no `%`
not_percent : (b : ℕ) → is_escaped b ≡ false → b == 37 ≡ false
not_percent b e = (or_parts _ _ (or_parts _ _ e).0).1

-- an escaped byte reads back, whatever follows it
pub unescape-escape_byte : (b : ℕ) (rest : Text) → b < 256 → unescape (escape_byte b ++ rest) ≡ b ∷ unescape rest
unescape-escape_byte b rest l = by (is_escaped b) refl
  where
    by : (r : Bool) → is_escaped b ≡ r → unescape (cond r (37 ∷ hex_digit (b / 16) ∷ hex_digit (b % 16) ∷ []) (b ∷ []) ++ rest) ≡ b ∷ unescape rest
    by true e = ap (λ n. n ∷ unescape rest) (two_digits b l)
    by false e = cond-false (b == 37) _ _ (not_percent b e)

-- escaped text reads back, whatever follows it
pub unescape-escape-append : (t rest : Text) → All (λ b. b < 256) t → unescape (escape t ++ rest) ≡ t ++ unescape rest
unescape-escape-append [] rest h = refl
unescape-escape-append (b ∷ t) rest h =
    ap unescape (append_assoc (escape_byte b) (escape t) rest) ∙ unescape-escape_byte b (escape t ++ rest) (All-head IsByte b t h)
    ∙ ap (λ x. b ∷ x) (unescape-escape-append t rest (All-tail IsByte b t h))

-- escaped text reads back
pub unescape-escape : (t : Text) → All (λ b. b < 256) t → unescape (escape t) ≡ t
unescape-escape t h = ap unescape (sym (append-nil (escape t))) ∙ unescape-escape-append t [] h ∙ append-nil t

-- texts are equal if their escaped forms are
pub escape_injective : (t u : Text) → All (λ b. b < 256) t → All (λ b. b < 256) u → escape t ≡ escape u → t ≡ u
escape_injective t u h k e = sym (unescape-escape t h) ∙ ap unescape e ∙ unescape-escape u k

-- ---- the bytes of escaped text

-- what holds of the escaped form of each byte holds of the escaped text
All-escape : (P Q : ℕ → Type 0) → ((b : ℕ) → Q b → All P (escape_byte b)) → (t : Text) → All Q t → All P (escape t)
All-escape P Q each [] h = All-nil P
All-escape P Q each (b ∷ t) h = All-append P (escape_byte b) (escape t) (each b (All-head Q b t h)) (All-escape P Q each t (All-tail Q b t h))

-- an escaped byte is printable
escape_byte_printable : (b : ℕ) → b < 256 → All IsPrintable (escape_byte b)
escape_byte_printable b l = All-from_test IsPrintable is_printable IsPrintable-from_test (escape_byte b) (agree_below_at (λ c. list_all is_printable (escape_byte c)) (λ c. true) 256 b refl l)

-- escaped text is printable
pub escape_printable : (t : Text) → All (λ b. b < 256) t → All IsPrintable (escape t)
escape_printable t h = All-escape IsPrintable IsByte escape_byte_printable t h

-- no `/`
abbrev pub IsNoSlash : ℕ → Type 0
IsNoSlash b = b == 47 ≡ false

-- an escaped byte has a slash only if it is one
escape_byte_no_slash : (b : ℕ) → (b < 256) × (b ≢ 47) → All IsNoSlash (escape_byte b)
escape_byte_no_slash b h =
    by (or_cases (b == 47) _ (agree_below_at (λ c. c == 47 || list_all (λ x. not (x == 47)) (escape_byte c)) (λ c. true) 256 b refl h.0))
  where
    by : (b == 47 ≡ true) ⊎ (list_all (λ x. not (x == 47)) (escape_byte b) ≡ true) → All IsNoSlash (escape_byte b)
    by (inl e) = absurd (h.1 (eqb-true b 47 e))
    by (inr e) = All-from_test IsNoSlash (λ x. not (x == 47)) (λ x. not-true (x == 47)) (escape_byte b) e

-- escaped text has no slash if the text has none
pub escape_no_slash : (t : Text) → All (λ b. b < 256) t → All (λ b. b ≢ 47) t → All IsNoSlash (escape t)
escape_no_slash t h k = All-escape IsNoSlash (λ b. (b < 256) × (b ≢ 47)) escape_byte_no_slash t (λ i d l. (h i d l, k i d l))
