-- The text of lines determines the lines.
use Rattle.std.proofs.Common.{◌≡◌, ◌≢◌, List, [], ◌∷◌, ◌++◌, flat_map, All, refl, sym, ap, ◌∙◌, append_assoc, arith}
use Rattle.std.proofs.lemmas.List.{append_cancel_right}
use Rattle.std.proofs.lemmas.List.Elements.{All-weaker}
use Rattle.std.proofs.lemmas.List.Concat.{flat_map-append}
use Rattle.ocfl_tree.specs.Place.{Text}
use Rattle.ocfl_report.specs.Line.{Line, Item}
use Rattle.ocfl_report.specs.Text.{code_text, place_text, escape, line_text, lines_text, text, IsLine, IsLineText}
use Rattle.ocfl_report.proofs.Bytes.{IsPrintable, utf8_bytes}
use Rattle.ocfl_report.proofs.Separators.{first_parts, separated_not_empty, texts_determine}
use Rattle.ocfl_report.proofs.Escapes.{escape_injective, escape_printable}
use Rattle.ocfl_report.proofs.CodeTexts.{code_text_injective, code_text_printable}
use Rattle.ocfl_report.proofs.PlaceTexts.{place_text_determines, place_text_printable}

-- the text of a line and what follows it, as three parts with a separator after each
line_text-append : (l : Line) (rest : Text) → line_text l ++ rest ≡ code_text l.code ++ 9 ∷ (place_text l.place ++ 9 ∷ (escape l.detail ++ 10 ∷ rest))
line_text-append l rest = simp append_assoc

-- printable text has no tab
pub no_tab : (t : Text) → All IsPrintable t → All (λ b. b ≢ 9) t
no_tab t h = All-weaker IsPrintable (λ b. b ≢ 9) (λ b k. omega (arith, k)) t h

-- printable text has no line feed
pub no_line_feed : (t : Text) → All IsPrintable t → All (λ b. b ≢ 10) t
no_line_feed t h = All-weaker IsPrintable (λ b. b ≢ 10) (λ b k. omega (arith, k)) t h

-- if two texts are equal, so are the lines that they begin with, and so is what follows these
pub first_lines : (l m : Line) (r s : Text) → IsLine l → IsLine m → line_text l ++ r ≡ line_text m ++ s → (l ≡ m) × (r ≡ s)
first_lines l m r s h k e =
    let whole = sym (line_text-append l r) ∙ e ∙ line_text-append m s in
    let same_codes = first_parts 9 (code_text l.code) (code_text m.code) _ _ (no_tab _ (code_text_printable l.code)) (no_tab _ (code_text_printable m.code)) whole in
    let same_places = first_parts 9 (place_text l.place) (place_text m.place) _ _ (no_tab _ (place_text_printable l.place h.place)) (no_tab _ (place_text_printable m.place k.place)) same_codes.1 in
    let same_details = first_parts 10 (escape l.detail) (escape m.detail) r s (no_line_feed _ (escape_printable l.detail h.detail))
    (no_line_feed _ (escape_printable m.detail k.detail)) same_places.1 in
    let code = code_text_injective l.code m.code same_codes.0 in
    let place = place_text_determines l.place m.place h.place k.place same_places.0 in
    let detail = escape_injective l.detail m.detail h.detail k.detail same_details.0 in
    ((λ i. record { code = code i; place = place i; detail = detail i }), same_details.1)

-- lines are equal if their texts are
pub line_text_determines : (l m : Line) → IsLine l → IsLine m → line_text l ≡ line_text m → l ≡ m
line_text_determines l m h k e = (first_lines l m [] [] h k (ap (λ t. t ++ []) e)).0

-- a line's text is not empty
line_text_not_empty : (l : Line) (rest : Text) → line_text l ++ rest ≢ []
line_text_not_empty l rest e = separated_not_empty 9 (code_text l.code) (place_text l.place ++ 9 ∷ (escape l.detail ++ 10 ∷ rest)) (sym (line_text-append l rest) ∙ e)

-- lists of lines are equal if their texts are
pub lines_text_determines : (ls ms : List Line) → All IsLine ls → All IsLine ms → lines_text ls ≡ lines_text ms → ls ≡ ms
lines_text_determines = texts_determine IsLine line_text first_lines line_text_not_empty

-- the text of items is that of all their lines
pub text_is_lines_text : (items : List Item) → text items ≡ lines_text (flat_map (λ i. i.lines) items)
text_is_lines_text [] = refl
text_is_lines_text (i ∷ items) = ap (λ t. lines_text i.lines ++ t) (text_is_lines_text items) ∙ sym (flat_map-append line_text i.lines (flat_map (λ x. x.lines) items))

-- ---- a line whose fields are read

-- the text of three fields, as three parts with a separator after each
three_fields : (code place detail : Text) → code ++ 9 ∷ place ++ 9 ∷ detail ++ 10 ∷ [] ≡ code ++ 9 ∷ (place ++ 9 ∷ (detail ++ 10 ∷ []))
three_fields code place detail = simp append_assoc

-- what is between the tabs of a line's text is its code, its place and its detail
pub fields_of : (bytes code place detail : Text) (l : Line) → IsLine l → All (λ b. b ≢ 9) code → All (λ b. b ≢ 9) place → bytes ≡ code ++ 9 ∷ place ++ 9 ∷ detail ++ 10 ∷ [] → bytes ≡ line_text l
    → (code ≡ code_text l.code) × ((place ≡ place_text l.place) × (detail ≡ escape l.detail))
fields_of bytes code place detail l h k m e f =
    let whole = sym (three_fields code place detail) ∙ sym e ∙ f ∙ three_fields (code_text l.code) (place_text l.place) (escape l.detail) in
    let codes = first_parts 9 code (code_text l.code) _ _ k (no_tab _ (code_text_printable l.code)) whole in
    let places = first_parts 9 place (place_text l.place) _ _ m (no_tab _ (place_text_printable l.place h.place)) codes.1 in
    (codes.0, (places.0, append_cancel_right detail (escape l.detail) (10 ∷ []) places.1))

-- a line that has a text may be in a report
pub IsLine-from_text : (bytes : Text) (l : Line) → IsLineText bytes l → IsLine l
IsLine-from_text bytes l h = record { place = h.place; detail = utf8_bytes l.detail h.detail }

-- the bytes of a line determine it
pub line_text_read : (bytes : Text) (l m : Line) → IsLineText bytes l → IsLineText bytes m → l ≡ m
line_text_read bytes l m h k = line_text_determines l m (IsLine-from_text bytes l h) (IsLine-from_text bytes m k) (sym h.is ∙ k.is)

-- the text of the fields that were read is the line's
pub text_from_fields : (bytes code place detail : Text) (l : Line) → bytes ≡ code ++ 9 ∷ place ++ 9 ∷ detail ++ 10 ∷ [] → code ≡ code_text l.code
    → place ≡ place_text l.place → detail ≡ escape l.detail → bytes ≡ line_text l
text_from_fields bytes code place detail l e f g h = e ∙ (λ i. f i ++ 9 ∷ g i ++ 9 ∷ h i ++ 10 ∷ [])
