-- Sections of a report, with one more line.
use Rattle.std.proofs.Common.{◌≡◌, All, List, [], ◌∷◌, ◌++◌, Bool, true, false, cond, Option, Some, refl, ap, sym, ◌∙◌, append_assoc}
use Rattle.std.proofs.{lemmas.Bool.{false≢true}, lemmas.List.{append-nil}, lemmas.List.Elements.{All-head, All-tail}}
use Rattle.std.specs.Prelude.{◌&&◌, not}
use Rattle.ocfl_tree.specs.Place.{Place as Spot, Text}
use Rattle.ocfl_report.specs.Line.{Line, is_finding_code}
use Rattle.ocfl_codes.specs.Kinds.{is_dash, is_empty, is_file, is_head, kind_at, tells_file, tells_object}
use Rattle.ocfl_codes.specs.declared.kind.Kind.{Kind}
use Rattle.ocfl_codes.specs.declared.kind.Kind.TheVariants.{Object, File, Place as PlaceKind, ObjectOrFile}
use Rattle.ocfl_messages.specs.Finding.{Section, ended_after, ended_with, head_after, head_with, is_other, section_after, section_at, section_with}
use Rattle.ocfl_messages.specs.{Gathering.{section_on}, Tally.{is_last, is_right}}
use Rattle.ocfl_messages.proofs.Tallies.{is_it}

-- the head of a section is the one that came last
head_at : (s : Section) (l : Line) → (section_at s l).head ≡ head_with s.head l
head_at s l = by (tells_object l) (is_last s.head l.place) refl
  where
    new : Section
    new = record { head = Some l.place; lines = []; is_begun = true }

    by : (b c : Bool) → is_last s.head l.place ≡ c → (cond (b && not c) new s).head ≡ cond b (Some l.place) s.head
    by true true e = is_it s.head l.place e
    by true false e = refl
    by false c e = refl

pub section_head : (s : Section) (ls : List Line) → (section_after s ls).head ≡ head_after s.head ls
section_head s [] = refl
section_head s (l ∷ ls) = section_head (section_with s l) ls ∙ ap (λ h. head_after h ls) (head_at s l)

-- lines that are no heads go on with a section
no_head : (k : Kind) (detail : Text) → is_file k detail ≡ true → is_head k detail ≡ false
no_head Object detail e = absurd (false≢true e)
no_head File detail e = refl
no_head PlaceKind detail e = refl
no_head ObjectOrFile detail e = dash (is_dash detail) e
  where
    dash : (b : Bool) → not b ≡ true → b ≡ false
    dash true f = absurd (false≢true f)
    dash false f = refl

left_true : (a b : Bool) → (a && b) ≡ true → a ≡ true
left_true true b e = refl
left_true false b e = e

no_other : (head : Option Spot) (l : Line) → is_right l ≡ true → is_other head l ≡ false
no_other head l e =
    let file = left_true (tells_file l) (not (is_finding_code l.code)) e in
    by (not (is_empty l.place)) (is_head (kind_at l.code l.place) l.detail) (no_head (kind_at l.code l.place) l.detail file)
  where
    by : (a b : Bool) → b ≡ false → ((a && b) && not (is_last head l.place)) ≡ false
    by true b f = rw f refl
    by false b f = refl

same_section : (s : Section) (l : Line) → is_right l ≡ true → section_with s l ≡ section_on s (l ∷ [])
same_section s l e = rw (no_other s.head l e) refl

pub right_section : (s : Section) (ls : List Line) → All (λ l. is_right l ≡ true) ls → section_after s ls ≡ section_on s ls
right_section s [] h = ap (λ ms. record { head = s.head; lines = ms; is_begun = s.is_begun }) (sym (append-nil s.lines))
right_section s (l ∷ ls) h =
    let e = All-head (λ m. is_right m ≡ true) l ls h in
    let rest = right_section (section_on s (l ∷ [])) ls (All-tail (λ m. is_right m ≡ true) l ls h) in
    ap (λ t. section_after t ls) (same_section s l e) ∙ rest ∙ ap (λ ms. record { head = s.head; lines = ms; is_begun = s.is_begun }) (append_assoc s.lines (l ∷ []) ls)

pub right_ends_none : (s : Section) (ls : List Line) → All (λ l. is_right l ≡ true) ls → ended_after s ls ≡ []
right_ends_none s [] h = refl
right_ends_none s (l ∷ ls) h =
    let e = All-head (λ m. is_right m ≡ true) l ls h in
    let rest = right_ends_none (section_on s (l ∷ [])) ls (All-tail (λ m. is_right m ≡ true) l ls h) in
    rw (no_other s.head l e) rest

pub section_joined : (s : Section) (ls ms : List Line) → section_after s (ls ++ ms) ≡ section_after (section_after s ls) ms
section_joined s [] ms = refl
section_joined s (l ∷ ls) ms = section_joined (section_with s l) ls ms

pub ended_joined : (s : Section) (ls ms : List Line) → ended_after s (ls ++ ms) ≡ ended_after s ls ++ ended_after (section_after s ls) ms
ended_joined s [] ms = refl
ended_joined s (l ∷ ls) ms =
    let t = section_with s l in
    ap (λ fs. ended_with s l ++ fs) (ended_joined t ls ms) ∙ sym (append_assoc (ended_with s l) (ended_after t ls) (ended_after (section_after t ls) ms))
