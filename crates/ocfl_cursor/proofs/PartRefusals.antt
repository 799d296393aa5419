-- Why bytes are not the text of a part's cursor: what each answer tells.
use Rattle.std.proofs.Common.{◌≡◌, ◌⊎◌, inl, inr, ◌++◌, true, false, codes, refl, ap, ◌∙◌}
use Rattle.ocfl_tree.specs.Place.{Text}
use Rattle.ocfl_report.specs.declared.further.Further.{Further}
use Rattle.ocfl_report.specs.declared.further.Further.TheVariants.{Nothing, Inventories}
use Rattle.ocfl_report.specs.declared.stop.TextStop.{TextStop}
use Rattle.ocfl_report.specs.declared.stop.TextStop.TheVariants as stop
use Rattle.ocfl_cursor.specs.Cursor.{Cursor, cursor_first_line, cursor_lines, cursor_body, cursor_text, digest_line, HasVersionOne, version_one_text}
use Rattle.ocfl_cursor.specs.{Internal.Part.{IsPartBody}, Part.{ends_lines, part_first_line, part_body, IsPartText}}
use Rattle.ocfl_cursor.specs.PartRefusal.{is_part_front, part_refusal, AnyPartRefusedRightly, PartRefusedRightly}
use Rattle.ocfl_cursor.specs.Refusal.{is_cursor_front, is_sealed, IsTextOf, RefusedRightly}
use Rattle.ocfl_cursor.specs.{Refused.{refusal_of}, declared.ends.PartEnds.{PartEnds}}
use Rattle.ocfl_cursor.specs.declared.refused.PartRefused.{PartRefused}
use Rattle.ocfl_cursor.specs.declared.refused.PartRefused.TheVariants as part
use Rattle.ocfl_cursor.specs.declared.refused.Refused.TheVariants.{NotA, Damaged, Malformed, Memory}
use Rattle.ocfl_cursor.specs.declared.refused.TextKind.TheVariants as kind
use Rattle.ocfl_cursor.proofs.PartTexts.{IsPartBody-sealed, part_text_determines}
use Rattle.ocfl_cursor.proofs.Refusals as refusals
use Rattle.ocfl_cursor.proofs.Seals.{is_sealed-sealed}
use Rattle.ocfl_cursor.proofs.Refusals.{failed, refused_by_reading, refused_by_tests, refused_not_cursor, tests_say}

-- ---- a part's cursor passes each test

-- what begins with its first line
front_of_line : (f : Further) (a b d : Text) → is_part_front (part_first_line f ++ a ++ b ++ d) ≡ true
front_of_line Nothing a b d = refl
front_of_line Inventories a b d = refl

pub front-part_text : (e : PartEnds) (b : Text) (c : Cursor) → IsPartText e b c → is_part_front b ≡ true
front-part_text e b c h = ap is_part_front h.is ∙ front_of_line c.further (ends_lines e) (cursor_lines c) (digest_line (part_body e c))

seal-part_text : (e : PartEnds) (b : Text) (c : Cursor) → IsPartText e b c → is_sealed b ≡ true
seal-part_text e b c h = is_sealed-sealed (codes "digest ") refl b (part_body e c) h.is

pub passes-part_text : (e : PartEnds) (b : Text) (c : Cursor) → IsPartText e b c → part_refusal b ≡ Malformed
passes-part_text e b c h = tests_say kind.Cursor {known = true} (front-part_text e b c h) refl (seal-part_text e b c h)

-- so it is refused for no reason but memory
pub only_memory : (e : PartEnds) (b : Text) (c : Cursor) → IsPartText e b c → (r : PartRefused) → PartRefusedRightly e b r → r ≡ part.Text Memory
only_memory e b c h (part.Text why) k = ap part.Text (refusals.only_memory (part_refusal b) _ why (e, (c, h)) k)
only_memory e b c h part.OtherPart k = absurd (k.other (part_text_determines b k.ends e k.cursor c k.is h).0)

-- ---- and bytes that fail one are the text of no part's cursor

pub not_part : (b : Text) → is_part_front b ≡ false → AnyPartRefusedRightly b (NotA kind.Cursor)
not_part b e = refused_by_tests (part_refusal b) _ (NotA kind.Cursor) (λ one. passes-part_text one.0 b one.1.0 one.1.1) (failed _ _ (tests_say kind.Cursor {known = true} e refl refl) (λ e. cc))

pub damaged_part : (b : Text) → is_part_front b ≡ true → is_sealed b ≡ false → AnyPartRefusedRightly b Damaged
damaged_part b front e = refused_by_tests (part_refusal b) _ Damaged (λ one. passes-part_text one.0 b one.1.0 one.1.1) (failed _ _ (tests_say kind.Cursor {known = true} front refl e) (λ e. cc))

pub unread_part : (b body : Text) (why : TextStop) → is_part_front b ≡ true → b ≡ body ++ digest_line body
    → (why ≡ stop.Bad → (e : PartEnds) (c : Cursor) → IsPartBody e body c → ⊥) → AnyPartRefusedRightly b (refusal_of why)
unread_part b body why front is none =
    refused_by_reading (part_refusal b) _ why (tests_say kind.Cursor {known = true} front refl (is_sealed-sealed (codes "digest ") refl b body is))
    (λ bad one. none bad one.0 one.1.0 (IsPartBody-sealed one.0 b body one.1.0 is one.1.1))

-- ---- parts and whole roots

-- the first line of the one is not that of the other
part_line_is_no_whole : (f : Further) (a b d : Text) → is_cursor_front (part_first_line f ++ a ++ b ++ d) ≡ false
part_line_is_no_whole Nothing a b d = refl
part_line_is_no_whole Inventories a b d = refl

whole_line_is_no_part : (f : Further) (a b : Text) → is_part_front (cursor_first_line f ++ a ++ b) ≡ false
whole_line_is_no_part Nothing a b = refl
whole_line_is_no_part Inventories a b = refl

-- to the reader of a whole root's cursor a part's cursor is none
pub part_is_no_whole : (e : PartEnds) (b : Text) (c : Cursor) → IsPartText e b c → RefusedRightly b (NotA kind.Cursor)
part_is_no_whole e b c h =
    refused_not_cursor b (ap is_cursor_front h.is ∙ part_line_is_no_whole c.further (ends_lines e) (cursor_lines c) (digest_line (part_body e c)))

-- and the other way round
pub whole_has_no_part_front : (b : Text) (c : Cursor) → IsTextOf b c → is_part_front b ≡ false
whole_has_no_part_front b c h = by h.is
  where
    by : (b ≡ cursor_text c) ⊎ (HasVersionOne c × (b ≡ version_one_text c)) → is_part_front b ≡ false
    by (inl e) = ap is_part_front e ∙ whole_line_is_no_part c.further (cursor_lines c) (digest_line (cursor_body c))
    by (inr e) = ap is_part_front e.1

pub whole_is_no_part : (b : Text) (c : Cursor) → IsTextOf b c → AnyPartRefusedRightly b (NotA kind.Cursor)
whole_is_no_part b c h = not_part b (whole_has_no_part_front b c h)
