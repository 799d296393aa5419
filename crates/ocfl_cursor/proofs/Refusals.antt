-- Why bytes are refused as a stored text: what each test tells, of any kind and of a cursor.
use Rattle.std.proofs.Common.{◌≡◌, ◌≢◌, ◌⊎◌, inl, inr, ◌≤◌, ◌<◌, ◌++◌, nat_eq, nat_le, ◌&&◌, Bool, true, false, length, drop, codes, refl, sym, ap, ap₂, subst, ◌∙◌, arith}
use Rattle.std.proofs.lemmas.Bool.{le-leb, lt-leb, and_right}
use Rattle.std.proofs.lemmas.Bool.Decides.{Decides-eqb}
use Rattle.std.proofs.{lemmas.List.{drop_at}, lemmas.Slice.Eq.{starts_is}}
use Rattle.std.specs.List.{starts_with}
use Rattle.ocfl_tree.specs.Place.{Text}
use Rattle.ocfl_report.specs.declared.further.Further.{Further}
use Rattle.ocfl_report.specs.declared.further.Further.TheVariants.{Nothing, Inventories}
use Rattle.ocfl_report.specs.declared.stop.TextStop.{TextStop}
use Rattle.ocfl_report.specs.declared.stop.TextStop.TheVariants as stop
use Rattle.ocfl_cursor.specs.Cursor.{Cursor, cursor_first_line, cursor_lines, cursor_body, digest_line, cursor_text, HasVersionOne, version_one_body, version_one_text}
use Rattle.ocfl_cursor.specs.Internal.Body.{IsBodyOf}
use Rattle.ocfl_cursor.specs.Refusal.{refusal, max_text, is_cursor_front, is_version_read, is_sealed, IsTextOf, RefusedRightly}
use Rattle.ocfl_cursor.specs.Refused.{first_reason, is_version, reason_by, refusal_of, version_after, IsRefused}
use Rattle.ocfl_cursor.specs.Sealed.{first_line}
use Rattle.ocfl_cursor.specs.declared.refused.Refused.{Refused}
use Rattle.ocfl_cursor.specs.declared.refused.Refused.TheVariants.{NotA, Version, Damaged, Malformed, Memory}
use Rattle.ocfl_cursor.specs.declared.refused.TextKind.{TextKind}
use Rattle.ocfl_cursor.specs.declared.refused.TextKind.TheVariants as kind
use Rattle.ocfl_cursor.proofs.{CursorTexts.{length-text, IsBodyOf-sealed}, Seals.{is_sealed-sealed}}

-- ---- of any kind

-- what is refused is refused for the first reason, or for want of memory
pub first_or_memory : (first : Refused) (IsOne : Type 0) (why : Refused) → IsRefused first IsOne why → (why ≡ Memory) ⊎ ((why ≡ first) × (IsOne → ⊥))
first_or_memory first IsOne (NotA t) h = inr h
first_or_memory first IsOne Version h = inr h
first_or_memory first IsOne Damaged h = inr h
first_or_memory first IsOne Malformed h = inr h
first_or_memory first IsOne Memory h = inl refl

-- a text of the kind for want of memory alone
pub only_memory : (first : Refused) (IsOne : Type 0) (why : Refused) → IsOne → IsRefused first IsOne why → why ≡ Memory
only_memory first IsOne why one h = by (first_or_memory first IsOne why h)
  where
    by : (why ≡ Memory) ⊎ ((why ≡ first) × (IsOne → ⊥)) → why ≡ Memory
    by (inl e) = e
    by (inr k) = absurd (k.1 one)

-- if a text of the kind passes the tests, then what fails one is none
pub refused_by_tests : (first : Refused) (IsOne : Type 0) (why : Refused) → (IsOne → first ≡ Malformed) → IsRefused first (first ≡ Malformed) why → IsRefused first IsOne why
refused_by_tests first IsOne (NotA t) passes h = (h.0, λ one. h.1 (passes one))
refused_by_tests first IsOne Version passes h = (h.0, λ one. h.1 (passes one))
refused_by_tests first IsOne Damaged passes h = (h.0, λ one. h.1 (passes one))
refused_by_tests first IsOne Malformed passes h = (h.0, λ one. h.1 (passes one))
refused_by_tests first IsOne Memory passes h = h

-- and what passes them is refused as what was read of it tells
pub refused_by_reading : (first : Refused) (IsOne : Type 0) (why : TextStop) → first ≡ Malformed → (why ≡ stop.Bad → IsOne → ⊥) → IsRefused first IsOne (refusal_of why)
refused_by_reading first IsOne stop.Bad passed none = (sym passed, none refl)
refused_by_reading first IsOne stop.Memory passed none = passed

-- whether bytes begin as a text of the kind, as their first reason tells
pub not_begun : (t k : TextKind) (begins known sealed : Bool) → NotA k ≡ first_reason t begins known sealed → (k ≡ t) × (begins ≡ false)
not_begun t k false known sealed e = (cc, refl)
not_begun t k true false sealed e = absurd cc
not_begun t k true true false e = absurd cc
not_begun t k true true true e = absurd cc

pub begun : (t : TextKind) (why : Refused) (begins known sealed : Bool) → ((k : TextKind) → why ≢ NotA k) → why ≡ first_reason t begins known sealed → begins ≡ true
begun t why true known sealed other e = refl
begun t why false known sealed other e = absurd (other t e)

-- ---- the front and the version, as they are read

module _ (front text : Text) where
  pub begins_so : (rest : Text) → text ≡ front ++ rest → starts_with nat_eq text front ≡ true
  begins_so rest e = (starts_is Decides-eqb text front (starts_with nat_eq text front) refl).1 rest e

  pub begins_otherwise : ((rest : Text) → text ≢ front ++ rest) → starts_with nat_eq text front ≡ false
  begins_otherwise none = by (starts_with nat_eq text front) refl
    where
      by : (r : Bool) → starts_with nat_eq text front ≡ r → r ≡ false
      by true e = absurd (none _ ((starts_is Decides-eqb text front (starts_with nat_eq text front) refl).0 e))
      by false e = refl

  pub version_so : (digits rest line : Text) (r known : Bool) → text ≡ front ++ rest → line ≡ first_line rest → r ≡ is_version digits line → r ≡ known → is_version digits (version_after front text) ≡ known
  version_so digits rest line r known e f g is =
      let after : first_line rest ≡ version_after front text = ap first_line (sym (ap (drop (length front)) e ∙ drop_at front rest (length front) refl)) in
      ap (is_version digits) (sym (f ∙ after)) ∙ sym g ∙ is

-- the first reason by what the three tests say
pub tests_say : (t : TextKind) {begins known sealed b k s : Bool} → begins ≡ b → known ≡ k → sealed ≡ s → first_reason t begins known sealed ≡ first_reason t b k s
tests_say t e f g = λ i. first_reason t (e i) (f i) (g i)

-- what fails one is refused for that, and passes not all of them
pub failed : (first why : Refused) → first ≡ why → why ≢ Malformed → (why ≡ first) × (first ≡ Malformed → ⊥)
failed first why e other = (sym e, λ h. other (sym e ∙ h))

-- ---- a cursor's text passes each test

-- a test that its text passes, as it is written and in version 1
passed : (test : Text → Bool) (b : Text) (c : Cursor) → IsTextOf b c → test (cursor_text c) ≡ true → test (version_one_text c) ≡ true → test b ≡ true
passed test b c h written one = by h.is
  where
    by : (b ≡ cursor_text c) ⊎ (HasVersionOne c × (b ≡ version_one_text c)) → test b ≡ true
    by (inl e) = ap test e ∙ written
    by (inr e) = ap test e.1 ∙ one

-- the front and the version of what begins with the first line
abbrev begins_as_cursor : Text → Bool
begins_as_cursor t = starts_with nat_eq t (codes "ocfl-scrub cursor ")

front_of_line : (f : Further) (a b : Text) → begins_as_cursor (cursor_first_line f ++ a ++ b) ≡ true
front_of_line Nothing a b = refl
front_of_line Inventories a b = refl

version_of_line : (f : Further) (a b : Text) → is_version_read (cursor_first_line f ++ a ++ b) ≡ true
version_of_line Nothing a b = refl
version_of_line Inventories a b = refl

front-cursor_text : (b : Text) (c : Cursor) → IsTextOf b c → is_cursor_front b ≡ true
front-cursor_text b c h =
    let short : length b ≤ max_text = omega (arith, length-text b c h) in
    let front = front_of_line c.further (cursor_lines c) (digest_line (cursor_body c)) in
    ap₂ (λ r s. r && s) (passed begins_as_cursor b c h front refl) (le-leb (length b) max_text short)

version-cursor_text : (b : Text) (c : Cursor) → IsTextOf b c → is_version_read b ≡ true
version-cursor_text b c h = passed is_version_read b c h (version_of_line c.further (cursor_lines c) (digest_line (cursor_body c))) refl

sealed-cursor_text : (b : Text) (c : Cursor) → IsTextOf b c → is_sealed b ≡ true
sealed-cursor_text b c h = passed is_sealed b c h (sealed (cursor_body c)) (sealed (version_one_body c))
  where
    sealed : (body : Text) → is_sealed (body ++ digest_line body) ≡ true
    sealed body = is_sealed-sealed (codes "digest ") refl (body ++ digest_line body) body refl

pub passes-cursor_text : (b : Text) → (c : Cursor) × IsTextOf b c → refusal b ≡ Malformed
passes-cursor_text b (c, h) = tests_say kind.Cursor (front-cursor_text b c h) (version-cursor_text b c h) (sealed-cursor_text b c h)

-- ---- so bytes that fail one are the text of no cursor

pub refused_not_cursor : (b : Text) → is_cursor_front b ≡ false → RefusedRightly b (NotA kind.Cursor)
refused_not_cursor b e = refused_by_tests (refusal b) _ (NotA kind.Cursor) (passes-cursor_text b) (failed _ _ (tests_say kind.Cursor e refl refl) (λ e. cc))

-- a text that is too long does not begin as a cursor's
pub too_long : (b : Text) → max_text < length b → is_cursor_front b ≡ false
too_long b l = and_right (starts_with nat_eq b (codes "ocfl-scrub cursor ")) (nat_le (length b) max_text) (lt-leb (length b) max_text l)

-- the reason of a text that is not
abbrev pub reason_of_short : Text → Refused
reason_of_short b = reason_by kind.Cursor (codes "ocfl-scrub cursor ") (codes "123") (codes "digest ") b

short_reason : (b : Text) → length b ≤ max_text → reason_of_short b ≡ refusal b
short_reason b few = ap (λ r. first_reason kind.Cursor r (is_version_read b) (is_sealed b)) (sym (ap (λ r. begins && r) (le-leb (length b) max_text few) ∙ and_true begins))
  where
    begins : Bool
    begins = starts_with nat_eq b (codes "ocfl-scrub cursor ")

    and_true : (r : Bool) → (r && true) ≡ r
    and_true true = refl
    and_true false = refl

pub refused_cursor : (b : Text) (why : Refused) → length b ≤ max_text → IsRefused (reason_of_short b) (reason_of_short b ≡ Malformed) why → RefusedRightly b why
refused_cursor b why few h =
    refused_by_tests (refusal b) _ why (passes-cursor_text b) (subst (λ r. IsRefused r (r ≡ Malformed) why) (short_reason b few) h)

pub unread_cursor : (b body : Text) (why : TextStop) → length b ≤ max_text → reason_of_short b ≡ Malformed → b ≡ body ++ digest_line body
    → (why ≡ stop.Bad → (c : Cursor) → IsBodyOf body c → ⊥) → RefusedRightly b (refusal_of why)
unread_cursor b body why few passed is none =
    refused_by_reading (refusal b) _ why (sym (short_reason b few) ∙ passed) (λ bad one. none bad one.0 (IsBodyOf-sealed b body one.0 is one.1))
