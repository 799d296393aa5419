-- Texts without a character that is obeyed and not shown.
use Rattle.std.proofs.Common.{◌≡◌, ◌≢◌, ℕ, ◌+◌, ◌/◌, ◌≤◌, ◌==◌, List, [], ◌∷◌, ◌++◌, Bool, true, false, cond, ltb, refl, ap, subst, sym, ◌∙◌, All, IsUtf8, flat_map, arith}
use Rattle.std.proofs.Math.Utf8.{next, encode, encodes, scalar, scalars}
use Rattle.std.proofs.lemmas.Bool.{and_parts, false≢true, or_parts}
use Rattle.std.proofs.lemmas.Bool.Decides.{nat_tests}
use Rattle.std.proofs.lemmas.Grind.{flat_map-append}
use Rattle.std.proofs.lemmas.List.{append-nil}
use Rattle.std.proofs.lemmas.List.Elements.{All-append, All-cons, All-from_recursion, All-head, All-nil, All-tail}
use Rattle.std.proofs.lemmas.Str.{chars-IsAscii, chars-encodes, encode_ascii, encodes-append, encodes-chars, scalars-chars}
use Rattle.std.proofs.lemmas.Str.Ascii.{IsAscii-cons, IsAscii-nil}
use Rattle.std.specs.{Prelude.{not}, List.{list_any}, Str.{IsAscii, chars}}
use Rattle.ocfl_tree.specs.{Name.{IsPlace}, Path.{slashed}, Place.{Text, Place}}
use Rattle.ocfl_report.specs.Text.{escape, place_text}
use Rattle.ocfl_report.proofs.{Bytes.{IsPrintable, utf8_bytes}, Escapes.{escape_printable}, PlaceTexts.{place_text_printable}}
use Rattle.ocfl_messages.specs.{Command.{is_plain, path_text}, Quoted.{has_control, is_control, quoted, quoted_byte}}

-- ---- bytes of characters

-- what holds of each byte from 128 on, and of the character, holds of the bytes of its UTF-8
All-encode : (P : ℕ → Type 0) → ((b : ℕ) → 128 ≤ b → P b) → (c : ℕ) → P c → All P (encode c)
unfolding encode
All-encode P high c h = by (ltb c 128) (ltb c 2048) (ltb c 65536)
  where
    then : (n : ℕ) → P (next n)
    then n = high (next n) (omega arith)

    by : (x y z : Bool) → All P (cond x (c ∷ []) (cond y ((192 + c / 64) ∷ next c ∷ [])
        (cond z ((224 + c / 4096) ∷ next (c / 64) ∷ next c ∷ []) ((240 + c / 262144) ∷ next (c / 4096) ∷ next (c / 64) ∷ next c ∷ []))))
    by true y z = All-from_recursion P (c ∷ []) (h, tt)
    by false true z = All-from_recursion P ((192 + c / 64) ∷ next c ∷ []) (high (192 + c / 64) (omega arith), (then c, tt))
    by false false true =
        All-from_recursion P ((224 + c / 4096) ∷ next (c / 64) ∷ next c ∷ []) (high (224 + c / 4096) (omega arith), (then (c / 64), (then c, tt)))
    by false false false =
        All-from_recursion P ((240 + c / 262144) ∷ next (c / 4096) ∷ next (c / 64) ∷ next c ∷ [])
        (high (240 + c / 262144) (omega arith), (then (c / 4096), (then (c / 64), (then c, tt))))

-- ---- line feeds

abbrev IsOther : ℕ → Type 0
IsOther b = b ≢ 10

high_other : (b : ℕ) → 128 ≤ b → IsOther b
high_other b h = λ e. absurd (omega (arith, h, e))

-- a character that is shown is no line feed
shown_other : (c : ℕ) → is_control c ≡ false → IsOther c
shown_other c e = λ k. absurd (false≢true (sym e ∙ ap is_control k))

encodes_other : (cs : List ℕ) → list_any is_control cs ≡ false → All IsOther (encodes cs)
encodes_other [] e = All-nil IsOther
encodes_other (c ∷ cs) e =
    let parts = or_parts (is_control c) (list_any is_control cs) e in
    All-append IsOther (encode c) (encodes cs) (All-encode IsOther high_other c (shown_other c parts.0)) (encodes_other cs parts.1)

-- a text of characters that are shown has no line feed
pub no_line_feeds : (t : Text) → IsUtf8 t → has_control t ≡ false → All (λ b. b ≢ 10) t
no_line_feeds t u e = subst (All IsOther) (encodes-chars t u) (encodes_other (chars t) e)

-- ---- paths

printable_shown : (t : Text) → All IsPrintable t → list_any is_control t ≡ false
printable_shown [] h = refl
printable_shown (b ∷ t) h =
    let one : IsPrintable b = All-head IsPrintable b t h in
    let first : is_control b ≡ false = grind (arith, nat_tests, one.0, one.1) in
    rw first (printable_shown t (All-tail IsPrintable b t h))

printable_ascii : (t : Text) → All IsPrintable t → IsAscii t
printable_ascii [] h = IsAscii-nil
printable_ascii (b ∷ t) h =
    let one : IsPrintable b = All-head IsPrintable b t h in
    IsAscii-cons b t (omega (arith, one.1)) (printable_ascii t (All-tail IsPrintable b t h))

-- printable ASCII is shown
printable_has_none : (t : Text) → All IsPrintable t → has_control t ≡ false
printable_has_none t h = ap (list_any is_control) (chars-IsAscii t (printable_ascii t h)) ∙ printable_shown t h

turned : (b : Bool) → not b ≡ true → b ≡ false
turned true e = absurd (false≢true e)
turned false e = refl

pub plain_has_none : (t : Text) → is_plain t ≡ true → has_control t ≡ false
plain_has_none [] e = absurd (false≢true e)
plain_has_none (b ∷ t) e = turned (has_control (b ∷ t)) (and_parts (not (has_control (b ∷ t))) (not (list_any (λ c. c == 37) (b ∷ t))) e).0

-- and so is the path of a place in a message
pub path_has_none : (p : Place) → IsPlace p → has_control (path_text p) ≡ false
path_has_none p h = by (is_plain (slashed p)) refl
  where
    by : (b : Bool) → is_plain (slashed p) ≡ b → has_control (cond b (slashed p) (place_text p)) ≡ false
    by true e = plain_has_none (slashed p) e
    by false e = printable_has_none (place_text p) (place_text_printable p h)

-- ---- words of commands

abbrev IsNoQuote : ℕ → Type 0
IsNoQuote b = b ≢ 39

high_no_quote : (b : ℕ) → 128 ≤ b → IsNoQuote b
high_no_quote b h = λ e. absurd (omega (arith, h, e))

unquoted : (t : Text) → All IsNoQuote t → flat_map quoted_byte t ≡ t
unquoted [] h = refl
unquoted (b ∷ t) h =
    let other : (b == 39) ≡ false = grind (arith, nat_tests, All-head IsNoQuote b t h) in
    let same : quoted_byte b ≡ b ∷ [] = rw other refl in
    (λ i. same i ++ unquoted t (All-tail IsNoQuote b t h) i)

-- to quote a character is to quote its bytes
quoted_encode : (c : ℕ) → flat_map quoted_byte (encode c) ≡ encodes (quoted_byte c)
unfolding encode
quoted_encode c = by (c == 39) refl
  where
    by : (q : Bool) → (c == 39) ≡ q → flat_map quoted_byte (encode c) ≡ encodes (cond q (39 ∷ 92 ∷ 39 ∷ 39 ∷ []) (c ∷ []))
    by true e = let is : c ≡ 39 = grind (arith, nat_tests, e) in subst (λ x. flat_map quoted_byte (encode x) ≡ encodes (39 ∷ 92 ∷ 39 ∷ 39 ∷ [])) (sym is) refl
    by false e =
        let other : c ≢ 39 = grind (arith, nat_tests, e) in
        unquoted (encode c) (All-encode IsNoQuote high_no_quote c other) ∙ sym (append-nil (encode c))

quoted_encodes : (cs : List ℕ) → flat_map quoted_byte (encodes cs) ≡ encodes (flat_map quoted_byte cs)
quoted_encodes [] = refl
quoted_encodes (c ∷ cs) =
    flat_map-append quoted_byte (encode c) (encodes cs) ∙ ap (λ t. t ++ flat_map quoted_byte (encodes cs)) (quoted_encode c)
    ∙ ap (λ t. encodes (quoted_byte c) ++ t) (quoted_encodes cs) ∙ sym (encodes-append (quoted_byte c) (flat_map quoted_byte cs))

abbrev ended : List ℕ → List ℕ
ended cs = flat_map quoted_byte cs ++ 39 ∷ []

word_encodes : (cs : List ℕ) → encodes (39 ∷ ended cs) ≡ 39 ∷ ended (encodes cs)
word_encodes cs =
    let quote : encode 39 ≡ 39 ∷ [] = encode_ascii 39 (omega arith) in
    let last : encodes (39 ∷ []) ≡ 39 ∷ [] = append-nil (encode 39) ∙ quote in
    ap (λ t. t ++ encodes (ended cs)) quote
    ∙ ap (λ t. 39 ∷ t) (encodes-append (flat_map quoted_byte cs) (39 ∷ []) ∙ ap (λ t. encodes (flat_map quoted_byte cs) ++ t) last ∙ ap (λ t. t ++ 39 ∷ []) (sym (quoted_encodes cs)))

scalars_ended : (cs : List ℕ) → scalars cs ≡ true → scalars (ended cs) ≡ true
scalars_ended [] e = refl
scalars_ended (c ∷ cs) e =
    let parts = and_parts (scalar c) (scalars cs) e in
    let rest = scalars_ended cs parts.1 in
    elim (c == 39) as (λ q. scalars ((cond q (39 ∷ 92 ∷ 39 ∷ 39 ∷ []) (c ∷ []) ++ flat_map quoted_byte cs) ++ 39 ∷ []) ≡ true) [ true ↦ rest | false ↦ rw parts.0 rest ]

shown_ended : (cs : List ℕ) → list_any is_control cs ≡ false → list_any is_control (ended cs) ≡ false
shown_ended [] e = refl
shown_ended (c ∷ cs) e =
    let parts = or_parts (is_control c) (list_any is_control cs) e in
    let rest = shown_ended cs parts.1 in
    elim (c == 39) as (λ q. list_any is_control ((cond q (39 ∷ 92 ∷ 39 ∷ 39 ∷ []) (c ∷ []) ++ flat_map quoted_byte cs) ++ 39 ∷ []) ≡ false) [
      | true ↦ rest
      | false ↦ rw parts.0 rest
    ]

shown_word : (t : Text) → IsUtf8 t → has_control t ≡ false → has_control (39 ∷ ended t) ≡ false
shown_word t u e =
    let same : encodes (39 ∷ ended (chars t)) ≡ 39 ∷ ended t = word_encodes (chars t) ∙ ap (λ x. 39 ∷ ended x) (encodes-chars t u) in
    ap has_control (sym same) ∙ ap (list_any is_control) (chars-encodes (39 ∷ ended (chars t)) (scalars_ended (chars t) (scalars-chars t u)))
    ∙ shown_ended (chars t) e

quotes_printable : (t : Text) → All IsPrintable t → All IsPrintable (ended t)
quotes_printable [] h = All-from_recursion IsPrintable (39 ∷ []) ((omega arith, omega arith), tt)
quotes_printable (b ∷ t) h =
    let rest = quotes_printable t (All-tail IsPrintable b t h) in
    let quote : IsPrintable 39 = (omega arith, omega arith) in
    let slash : IsPrintable 92 = (omega arith, omega arith) in
    let three = All-cons IsPrintable 39 (39 ∷ ended t) quote (All-cons IsPrintable 39 (ended t) quote rest) in
    elim (b == 39) as (λ q. All IsPrintable ((cond q (39 ∷ 92 ∷ 39 ∷ 39 ∷ []) (b ∷ []) ++ flat_map quoted_byte t) ++ 39 ∷ [])) [
      | true ↦ All-cons IsPrintable 39 (92 ∷ 39 ∷ 39 ∷ ended t) quote (All-cons IsPrintable 92 (39 ∷ 39 ∷ ended t) slash three)
      | false ↦ All-cons IsPrintable b (ended t) (All-head IsPrintable b t h) rest
    ]

-- a word of a command is shown, whatever text it is of
pub word_has_none : (t : Text) → IsUtf8 t → has_control (quoted t) ≡ false
word_has_none t u = by (has_control t) refl
  where
    by : (b : Bool) → has_control t ≡ b → has_control (39 ∷ ended (cond b (escape t) t)) ≡ false
    by true e =
        let inner = quotes_printable (escape t) (escape_printable t (utf8_bytes t u)) in
        printable_has_none (39 ∷ ended (escape t)) (All-cons IsPrintable 39 (ended (escape t)) (omega arith, omega arith) inner)
    by false e = shown_word t u e
