-- The heads among lines, and lines of right files, which are none.
use Rattle.std.proofs.Common.{◌≡◌, All, List, [], ◌∷◌, ◌++◌, Bool, true, false, cond, Option, Some, None, refl, ap, sym, ◌∙◌}
use Rattle.std.proofs.{lemmas.Bool.{false≢true}, lemmas.List.{append-nil}, lemmas.List.Elements.{All-head, All-tail}}
use Rattle.std.specs.Prelude.{◌&&◌, not}
use Rattle.ocfl_tree.specs.Place.{Place as Spot, Text}
use Rattle.ocfl_tree.proofs.Places.{place_eq-Decides}
use Rattle.ocfl_report.specs.{Line.{Line, is_finding_code}, Text.{IsLine, lines_text}}
use Rattle.ocfl_report.proofs.LineTexts.{lines_text_determines}
use Rattle.ocfl_codes.specs.Kinds.{is_dash, is_empty, is_file, is_head, kind_at, tells_file, tells_object}
use Rattle.ocfl_codes.specs.declared.kind.Kind.{Kind}
use Rattle.ocfl_codes.specs.declared.kind.Kind.TheVariants.{Object, File, Place as PlaceKind, ObjectOrFile}
use Rattle.ocfl_messages.specs.{Finding.{Section, first_section, head_after, head_with, section_after, section_at, section_with}, Found.{IsAfter}, Tally.{is_last, is_right}}
use Rattle.ocfl_messages.specs.declared.{found.Found.{Found}, known.KnownEntry.{KnownEntry}}

pub head_joined : (head : Option Spot) (ls ms : List Line) → head_after head (ls ++ ms) ≡ head_after (head_after head ls) ms
head_joined head [] ms = refl
head_joined head (l ∷ ls) ms = head_joined (head_with head l) ls ms

-- ---- lines of right files

no_head : (k : Kind) (detail : Text) → is_file k detail ≡ true → is_head k detail ≡ false
no_head Object detail e = absurd (false≢true e)
no_head File detail e = refl
no_head PlaceKind detail e = refl
no_head ObjectOrFile detail e = dash (is_dash detail) e
  where
    dash : (b : Bool) → not b ≡ true → b ≡ false
    dash true f = absurd (false≢true f)
    dash false f = refl

left_true : (a b : Bool) → (a && b) ≡ true → a ≡ true
left_true true b e = refl
left_true false b e = e

no_object : (l : Line) → is_right l ≡ true → tells_object l ≡ false
no_object l e =
    let file = left_true (tells_file l) (not (is_finding_code l.code)) e in
    by (not (is_empty l.place)) (is_head (kind_at l.code l.place) l.detail) (no_head (kind_at l.code l.place) l.detail file)
  where
    by : (a b : Bool) → b ≡ false → (a && b) ≡ false
    by true b f = f
    by false b f = refl

pub right_stays : (head : Option Spot) (l : Line) → is_right l ≡ true → head_with head l ≡ head
right_stays head l e = rw (no_object l e) refl

pub right_heads : (head : Option Spot) (ls : List Line) → All (λ l. is_right l ≡ true) ls → head_after head ls ≡ head
right_heads head [] h = refl
right_heads head (l ∷ ls) h =
    ap (λ x. head_after x ls) (right_stays head l (All-head (λ m. is_right m ≡ true) l ls h)) ∙ right_heads head ls (All-tail (λ m. is_right m ≡ true) l ls h)

-- ---- the head that findings are gathered behind

is_it : (o : Option Spot) (p : Spot) → is_last o p ≡ true → o ≡ Some p
is_it None p e = absurd (false≢true e)
is_it (Some q) p e = ap Some ((place_eq-Decides q p).0 e)

head_at : (s : Section) (l : Line) → (section_at s l).head ≡ head_with s.head l
head_at s l = by (tells_object l) (is_last s.head l.place) refl
  where
    new : Section
    new = record { head = Some l.place; lines = []; is_begun = true }

    by : (b c : Bool) → is_last s.head l.place ≡ c → (cond (b && not c) new s).head ≡ cond b (Some l.place) s.head
    by true true e = is_it s.head l.place e
    by true false e = refl
    by false c e = refl

section_head : (s : Section) (ls : List Line) → (section_after s ls).head ≡ head_after s.head ls
section_head s [] = refl
section_head s (l ∷ ls) = section_head (section_with s l) ls ∙ ap (λ h. head_after h ls) (head_at s l)

pub found_head : (es : List KnownEntry) (head : Option Spot) (f : Found) (ls : List Line) → IsAfter es head f (lines_text ls) → f.rest.items ≡ [] → All IsLine ls
    → f.gathering.heads.last ≡ head_after head ls
found_head es head f ls h none are =
    let text : lines_text ls ≡ lines_text h.lines = h.is ∙ ap (λ t. lines_text h.lines ++ t) none ∙ append-nil (lines_text h.lines) in
    let same : ls ≡ h.lines = lines_text_determines ls h.lines are h.are text in
    h.gathered.head ∙ section_head (first_section head) h.lines ∙ ap (head_after head) (sym same)
