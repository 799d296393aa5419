-- The line that is found by reading a text is the one that the text is of.
use Rattle.std.proofs.Common.{◌≡◌, ◌≢◌, ◌∙◌, ◌==◌, not, ℕ, ◌≤◌, List, [], ◌∷◌, ◌++◌, All, Bool, true, false, if◌then◌else◌, codes, length, length-append, drop, zero, suc, bytes_eq, nat_le, Option, Some, None, refl, sym, ap, ap₂, subst, arith, append_assoc}
use Rattle.std.specs.{Bool.{Decides}, List.{list_all}, Str.{IsUtf8, is_utf8}, Cmp.Lexicographic.{bytes_decides}}
use Rattle.std.proofs.Math.Seq.{drop-append_seam}
use Rattle.std.specs.Io.BufRead.{take_through}
use Rattle.std.proofs.lemmas.Bool.{ne_eqb, eq-eqb}
use Rattle.std.proofs.lemmas.Bool.Decides.{Decides-and, Decides-by_and, Decides-eqb, Decides-like, Decides-not, nat_tests}
use Rattle.std.proofs.lemmas.Str.{IsUtf8-from_is_utf8, IsUtf8-had, is_utf8-from_IsUtf8}
use Rattle.std.proofs.lemmas.List.Elements.{All-head, All-tail}
use Rattle.ocfl_tree.specs.{Place.{Text, Place}, Name.{IsName, IsPlace}}
use Rattle.ocfl_report.specs.{Line.{Line}, Text.{IsLineText, code_text, escape, line_text, place_text}}
use Rattle.ocfl_report.proofs.Bytes.{utf8_bytes}
use Rattle.ocfl_report.proofs.CodeTexts.{code_of, code_of-code_text, code_text_printable}
use Rattle.ocfl_report.proofs.Escapes.{escape_printable, unescape, unescape-escape}
use Rattle.ocfl_report.proofs.LineTexts.{no_line_feed, no_tab}
use Rattle.ocfl_report.proofs.PlaceTexts.{names_of-place_text, place_text_not_dot, place_text_printable}
use Rattle.ocfl_messages.specs.declared.tally.Counts.{Counts}
use Rattle.ocfl_part_folders.specs.Counting.{CountAs, CountsAs, HasCounts, counts_in, counts_of, lines_in, lines_of}
use Rattle.ocfl_part_folders.specs.Reading.{before, behind, has_text, is_empty, is_name, is_plain, line_in, place_in, read_as}

-- ---- what is read is split where the text was joined

before_first : (b : ℕ) (t rest : Text) → All (λ c. c ≢ b) t → before b (t ++ b ∷ rest) ≡ t
before_first b [] rest h = rw (eq-eqb b b refl)
before_first b (c ∷ t) rest h = rw (ne_eqb c b (All-head (λ c. c ≢ b) c t h)) (ap (λ x. c ∷ x) (before_first b t rest (All-tail (λ c. c ≢ b) c t h)))

behind_first : (b : ℕ) (t rest : Text) → All (λ c. c ≢ b) t → behind b (t ++ b ∷ rest) ≡ rest
behind_first b [] rest h = rw (eq-eqb b b refl)
behind_first b (c ∷ t) rest h = rw (ne_eqb c b (All-head (λ c. c ≢ b) c t h)) (behind_first b t rest (All-tail (λ c. c ≢ b) c t h))

place_read : (p : Place) → IsPlace p → place_in (place_text p) ≡ p
place_read [] h = refl
place_read (n ∷ p) h = by (bytes_eq (place_text (n ∷ p)) (codes ".")) refl
  where
    by : (is : Bool) → bytes_eq (place_text (n ∷ p)) (codes ".") ≡ is → place_in (place_text (n ∷ p)) ≡ n ∷ p
    by true e = absurd (place_text_not_dot (n ∷ p) h (λ e. cc) ((bytes_decides (place_text (n ∷ p)) (codes ".")).0 e))
    by false e = rw e (names_of-place_text n p h)

line_split : (l : Line) → line_text l ≡ code_text l.code ++ 9 ∷ (place_text l.place ++ 9 ∷ (escape l.detail ++ 10 ∷ []))
line_split l = simp append_assoc

line_read : (text : Text) (l : Line) → IsLineText text l → read_as text ≡ l
line_read text l h = ap read_as (h.is ∙ line_split l) ∙ (λ i. record { code = code i; place = place i; detail = detail i })
  where
    details : Text
    details = escape l.detail ++ 10 ∷ []

    places : Text
    places = place_text l.place ++ 9 ∷ details

    whole : Text
    whole = code_text l.code ++ 9 ∷ places

    code_no_tab : All (λ c. c ≢ 9) (code_text l.code)
    code_no_tab = no_tab (code_text l.code) (code_text_printable l.code)

    place_no_tab : All (λ c. c ≢ 9) (place_text l.place)
    place_no_tab = no_tab (place_text l.place) (place_text_printable l.place h.place)

    detail_no_feed : All (λ c. c ≢ 10) (escape l.detail)
    detail_no_feed = no_line_feed (escape l.detail) (escape_printable l.detail (utf8_bytes l.detail h.detail))

    rest : behind 9 whole ≡ places
    rest = behind_first 9 (code_text l.code) places code_no_tab

    last : behind 9 (behind 9 whole) ≡ details
    last = ap (behind 9) rest ∙ behind_first 9 (place_text l.place) details place_no_tab

    code : (read_as whole).code ≡ l.code
    code = ap code_of (before_first 9 (code_text l.code) places code_no_tab) ∙ code_of-code_text l.code

    place : (read_as whole).place ≡ l.place
    place = ap (λ t. place_in (before 9 t)) rest ∙ ap place_in (before_first 9 (place_text l.place) details place_no_tab) ∙ place_read l.place h.place

    detail : (read_as whole).detail ≡ l.detail
    detail = ap (λ t. unescape (before 10 t)) last ∙ ap unescape (before_first 10 (escape l.detail) [] detail_no_feed) ∙ unescape-escape l.detail (utf8_bytes l.detail h.detail)

-- ---- whether it is one is tested

decides_utf8 : (t : Text) → Decides (is_utf8 t) (IsUtf8 t)
decides_utf8 t = (IsUtf8-from_is_utf8 t, is_utf8-from_IsUtf8 t)

decides_empty : (t : Text) → Decides (is_empty t) (t ≡ [])
decides_empty [] = (λ e. refl, λ e. refl)
decides_empty (b ∷ t) = (λ e. cc, λ e. cc)

decides_plain : (b : ℕ) → Decides (is_plain b) ((b ≢ 47) × (b ≢ 0))
decides_plain b = Decides-and (not (b == 47)) (not (b == 0)) (Decides-not (b == 47) (Decides-eqb b 47)) (Decides-not (b == 0) (Decides-eqb b 0))

decides_plains : (t : Text) → Decides (list_all is_plain t) (All (λ b. (b ≢ 47) × (b ≢ 0)) t)
decides_plains t = Decides-by_and is_plain (λ b. (b ≢ 47) × (b ≢ 0)) (list_all is_plain) decides_plain refl (λ _ _. refl) t

decides_is : (t u : Text) → Decides (bytes_eq t u) (t ≡ u)
decides_is t u = bytes_decides t u

decides_short : (t : Text) → Decides (nat_le (length t) 255) (length t ≤ 255)
decides_short t = (λ e. grind (arith, nat_tests), λ h. grind (arith, nat_tests))

decides_name : (t : Text) → Decides (is_name t) (IsName t)
decides_name t =
    let dots = Decides-and _ _ (Decides-not _ (decides_is t (codes "."))) (Decides-not _ (decides_is t (codes ".."))) in
    let rest = Decides-and _ _ (Decides-not _ (decides_empty t)) (Decides-and _ _ (decides_short t) (Decides-and _ _ (decides_plains t) dots)) in
    Decides-like (is_name t) (λ h. record { text = ∣ h.0 ∣₁; fits = record { not_empty = h.1.0; short = h.1.1.0; plain = h.1.1.1.0; not_dot = h.1.1.1.1.0; not_dots = h.1.1.1.1.1 } })
    (λ n. (IsUtf8-had t n.text, (n.fits.not_empty, (n.fits.short, (n.fits.plain, (n.fits.not_dot, n.fits.not_dots))))))
    (Decides-and _ _ (decides_utf8 t) rest)

decides_text : (text : Text) (l : Line) → Decides (has_text text l) (IsLineText text l)
decides_text text l =
    Decides-like (has_text text l) (λ h. record { place = h.0; detail = h.1.0; is = h.1.1 }) (λ h. (h.place, (h.detail, h.is)))
    (Decides-and _ _ (Decides-by_and is_name IsName (list_all is_name) decides_name refl (λ _ _. refl) l.place) (Decides-and _ _ (decides_utf8 l.detail) (decides_is text (line_text l))))

line_found : (text : Text) (l : Line) → IsLineText text l → line_in text ≡ Some l
unfolding line_in
line_found text l h =
    let same = line_read text l h in
    let has : has_text text (read_as text) ≡ true = subst (λ m. has_text text m ≡ true) (sym same) ((decides_text text l).1 h) in
    ap (λ is. if is then Some (read_as text) else None) has ∙ ap Some same

no_line : (text : Text) → ((l : Line) → IsLineText text l → ⊥) → line_in text ≡ None
unfolding line_in
no_line text none = by (has_text text (read_as text)) refl
  where
    by : (is : Bool) → has_text text (read_as text) ≡ is → (if is then Some (read_as text) else None) ≡ None
    by true e = absurd (none (read_as text) ((decides_text text (read_as text)).0 e))
    by false e = refl

-- ---- line by line

counted_so : (text : Text) (line : Option Line) → CountsAs text line → line ≡ line_in text
counted_so text None h = sym (no_line text h.1)
counted_so text (Some l) h = sym (line_found text l h)

lines_counted : (n : ℕ) (bytes : Text) (lines : List (Option Line)) → length bytes ≤ n → CountAs bytes lines → lines ≡ lines_in n bytes
lines_counted zero bytes [] le h = refl
lines_counted (suc n) bytes [] le h = subst (λ b. [] ≡ lines_in (suc n) b) (sym h) refl
lines_counted zero [] (line ∷ lines) le h = absurd (h.1.0.some refl)
lines_counted (suc n) [] (line ∷ lines) le h = absurd (h.1.0.some refl)
lines_counted zero (b ∷ bytes) (line ∷ lines) le h = absurd (omega (arith, le))
lines_counted (suc n) (b ∷ bytes) (line ∷ lines) le h =
    ap₂ (λ l ls. l ∷ ls) (counted_so first line h.1.0.counts) (lines_counted n h.0 lines shorter h.1.1 ∙ ap (lines_in n) (sym dropped))
  where
    first : Text
    first = take_through 10 (b ∷ bytes)

    dropped : drop (length first) (b ∷ bytes) ≡ h.0
    dropped = ap (drop (length first)) h.1.0.is ∙ drop-append_seam first h.0

    some : (t : Text) → (t ≡ [] → ⊥) → 1 ≤ length t
    some [] not = absurd (not refl)
    some (c ∷ t) not = omega arith

    shorter : length h.0 ≤ n
    shorter = omega (arith, le, some first h.1.0.some, ap length h.1.0.is, length-append first h.0)

-- what a report counts is what is read from it
pub counts_are : (bytes : Text) (found : Counts) → HasCounts bytes found → found ≡ counts_in bytes
unfolding counts_in
counts_are bytes found h =
    (λ i. record { right = h.right i; files = h.files i; objects = h.objects i; bytes = h.bytes_are i })
    ∙ ap (λ (lines : List (Option Line)). counts_of (lines_of lines)) (lines_counted (length bytes) bytes h.lines (omega arith) h.count)
