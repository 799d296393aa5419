-- Numbers in decimal.
use Rattle.std.proofs.Common.{◌≡◌, ◌≢◌, ℕ, ◌+◌, ◌*◌, ◌/◌, ◌%◌, ◌^◌, ◌<◌, ◌≤◌, [], ◌∷◌, ◌++◌, get_or, decimal, All, IfOk, IfSome, IsNone, Option, None, Some, Result, Ok, Err, refl, sym, ap, subst, ◌∙◌, append-nil, append_assoc, length-append, arith}
use Rattle.std.proofs.lemmas.Fmt.{decimal_digit, decimal_step_wide, decimal_by_steps_wide, decimal_is_IsNumeral_wide, IsAscii-decimal_wide}
use Rattle.std.proofs.lemmas.Str.{digit_value_digit, IsUtf8-from_ascii}
use Rattle.std.proofs.lemmas.Str.Parse.{digit_from_value, digit_at, without_leading_plus_none}
use Rattle.std.proofs.{lemmas.List.{get_or_append_left}, lemmas.List.Elements.{All-from_get_or}}
use Rattle.std.specs.{Char.{digit_value}, Result.{result_ok}, Str.{IsUtf8}}
use Rattle.std.specs.Str.Parse.{AllDigits, digits_value_after, digits_value, ParsesUnsigned}
use Rattle.ocfl_tree.specs.Place.{Text}
use Rattle.ocfl_report.specs.Internal.Number.{IsPlain}

-- a number of 128 bits has at most 64 digits
pub wide : (n : ℕ) → n < 2 ^ 128 → n < 10 ^ 64
wide n l = omega arith

-- ---- digits without leading zeros are those of their value

value_after_ge : (n : ℕ) (ds : Text) → n ≤ digits_value_after 10 n ds
value_after_ge n [] = omega arith
value_after_ge n (c ∷ cs) = omega (arith, value_after_ge (n * 10 + digit_value c) cs)

decimal_value_after : (n : ℕ) (ds : Text) → 0 < n → AllDigits 10 ds → digits_value_after 10 n ds < 10 ^ 64 → decimal (digits_value_after 10 n ds) ≡ decimal n ++ ds
decimal_value_after n [] some d small = sym (append-nil (decimal n))
decimal_value_after n (c ∷ cs) some d small =
    let m : ℕ = n * 10 + digit_value c in
    let k = digit_value_digit c (digit_from_value c d.0) in
    let front : m / 10 ≡ n = omega (arith, d.0) in
    let end : 48 + m % 10 ≡ c = omega (arith, d.0) in
    decimal_value_after m cs (omega arith) d.1 small
    ∙ ap (λ x. x ++ cs) (decimal_step_wide m (omega arith) (omega (arith, value_after_ge m cs)) ∙ (λ i. decimal (front i) ++ (end i ∷ [])))
    ∙ append_assoc (decimal n) (c ∷ []) cs

decimal_value : (ds : Text) → AllDigits 10 ds → IsPlain ds → digits_value 10 ds < 10 ^ 64 → decimal (digits_value 10 ds) ≡ ds
decimal_value [] d plain small = absurd (omega (arith, plain.some))
decimal_value (c ∷ []) d plain small =
    let k = digit_value_digit c (digit_from_value c d.0) in
    decimal_digit (0 * 10 + digit_value c) (omega (arith, d.0)) ∙ ap (λ x. x ∷ []) (omega arith)
decimal_value (c ∷ e ∷ cs) d plain small =
    let k = digit_value_digit c (digit_from_value c d.0) in
    let nonzero : c ≡ 48 → ⊥ = λ z. omega (arith, plain.no_zero z) in
    let same : 48 + (0 * 10 + digit_value c) ≡ c = omega arith in
    decimal_value_after (0 * 10 + digit_value c) (e ∷ cs) (omega arith) d.1 small
    ∙ ap (λ x. x ++ (e ∷ cs)) (decimal_digit (0 * 10 + digit_value c) (omega (arith, d.0)) ∙ ap (λ x. x ∷ []) same)

-- what is read from plain digits is the number whose digits they are
pub read_is_decimal : {E : Type 0} (ds : Text) (r : Result ℕ E) → IsPlain ds → ParsesUnsigned 128 10 ds r → IfOk r (λ n. ds ≡ decimal n)
read_is_decimal ds (Err e) plain h = tt
read_is_decimal ds (Ok n) plain h =
    let bare = without_leading_plus_none ds plain.no_sign in
    let digits : AllDigits 10 ds = subst (AllDigits 10) bare h.0.0.1 in
    let value : digits_value 10 ds ≡ n = ap (digits_value 10) (sym bare) ∙ sym h.1 in
    let small : digits_value 10 ds < 10 ^ 64 = wide _ (subst (λ x. digits_value 10 x < 2 ^ 128) bare h.0.1) in
    sym (decimal_value ds digits plain small) ∙ ap decimal value

-- ---- the digits of a number

-- plain, and not `0` if the number is not 0
abbrev IsPlainOf : ℕ → Text → Type 0
IsPlainOf m ds = IsPlain ds × (0 < m → 48 < get_or ds 0 0)

-- the digits of a number have no sign and no leading zero
pub decimal_plain : (n : ℕ) → n < 2 ^ 128 → IsPlain (decimal n)
decimal_plain n l = (decimal_by_steps_wide IsPlainOf one more n (wide n l)).0
  where
    one : (m : ℕ) → m < 10 → IsPlainOf m ((48 + m) ∷ [])
    one m k = (record { some = omega arith; no_sign = λ e. omega arith; no_zero = λ e. refl }, λ a. omega arith)

    more : (m : ℕ) (ds : Text) → 10 ≤ m → IsPlainOf (m / 10) ds → IsPlainOf m (ds ++ ((48 + m % 10) ∷ []))
    more m ds k h =
        let first = get_or_append_left ds ((48 + m % 10) ∷ []) 0 0 h.0.some in
        let above : 48 < get_or (ds ++ ((48 + m % 10) ∷ [])) 0 0 = omega (arith, h.1 (omega arith)) in
        (record { some = omega (arith, h.0.some, length-append ds ((48 + m % 10) ∷ [])); no_sign = λ e. omega arith; no_zero = λ e. absurd (omega arith) }, λ a. above)

-- the digits of a number are text
pub decimal_utf8 : (n : ℕ) → n < 2 ^ 128 → IsUtf8 (decimal n)
decimal_utf8 n l = IsUtf8-from_ascii (decimal n) (IsAscii-decimal_wide n (wide n l))

-- the digits of a number have no line feed
pub decimal_no_line_feed : (n : ℕ) → n < 2 ^ 128 → All (λ b. b ≢ 10) (decimal n)
decimal_no_line_feed n l =
    let digits = (decimal_is_IsNumeral_wide n (wide n l)).0.1 in
    All-from_get_or (λ b. b ≢ 10) (decimal n) 0 (λ i k e. omega (arith, digit_at (decimal n) i digits k))

-- numbers are equal if their digits are
pub decimal_determines : (m n : ℕ) → m < 2 ^ 128 → n < 2 ^ 128 → decimal m ≡ decimal n → m ≡ n
decimal_determines m n h k e =
    sym (decimal_is_IsNumeral_wide m (wide m h)).1 ∙ ap (digits_value 10) e ∙ (decimal_is_IsNumeral_wide n (wide n k)).1

-- ---- clauses on an option

-- what holds of a result's value holds of the value that `ok` gives
pub IfSome-result_ok : {X E : Type 0} (r : Result X E) (o : Option X) (P : X → Type 0) → o ≡ result_ok r → IfOk r P → IfSome o P
IfSome-result_ok (Ok x) o P e h = subst (λ p. IfSome p P) (sym e) h
IfSome-result_ok (Err d) o P e h = subst (λ p. IfSome p P) (sym e) tt

-- a value is there if one is known
pub IsNone-not_some : {X : Type 0} (o : Option X) (x : X) → o ≡ Some x → IsNone o → ⊥
IsNone-not_some None x e h = cc
IsNone-not_some (Some y) x e h = cc
