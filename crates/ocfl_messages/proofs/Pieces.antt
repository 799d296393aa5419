-- Bytes of a report that come piece by piece.
use Rattle.std.proofs.Common.{◌≡◌, true, ◌≢◌, List, [], ◌∷◌, ◌++◌, ap, sym, subst, ◌∙◌, append_assoc}
use Rattle.std.proofs.{lemmas.Grind.{flat_map-append}, lemmas.List.{append-nil}}
use Rattle.std.proofs.lemmas.List.Elements.{All-append, All-cons, All-nil}
use Rattle.std.specs.Prelude.{All, Option}
use Rattle.ocfl_tree.specs.Place.{Place, Text}
use Rattle.ocfl_report.specs.{Line.{Line}, Text.{IsLine, IsLineText, line_text, lines_text}}
use Rattle.ocfl_report.proofs.LineTexts.{IsLine-from_text}
use Rattle.ocfl_messages.specs.{Finding.{Finding, Section, ended_after, ended_with, first_section, section_after, section_with}, Gathering.{IsGathered, section_on}, Known.{is_unknown}, Tally.{is_right}}
use Rattle.ocfl_messages.proofs.Placing.{ended_joined, right_ends_none, right_section, section_joined}
use Rattle.ocfl_messages.specs.{Found.{HasBadLine, IsAfter}, declared.found.Found.{Found}}
use Rattle.ocfl_messages.specs.declared.known.KnownEntry.{KnownEntry}

-- the bytes go on with the text of lines that were taken
lines_after : (es : List KnownEntry) (head : Option Place) (old new : Found) (b after : Text) (ls : List Line) (h : IsAfter es head old b) → All IsLine ls
    → after ≡ lines_text h.lines ++ lines_text ls → new.rest.items ≡ []
    → IsGathered (is_unknown es) new.gathering (ended_after (first_section head) h.lines ++ ended_after (section_after (first_section head) h.lines) ls)
    (section_after (section_after (first_section head) h.lines) ls)
    → IsAfter es head new after
lines_after es head old new b after ls h are is empty taken =
    let first = first_section head in
    let t = section_after first h.lines in
    let with_them : IsGathered (is_unknown es) new.gathering (ended_after first h.lines ++ ended_after t ls) (section_after first (h.lines ++ ls)) =
    subst (IsGathered (is_unknown es) new.gathering (ended_after first h.lines ++ ended_after t ls)) (sym (section_joined first h.lines ls)) taken in
    record {
      lines = h.lines ++ ls;
      are = All-append IsLine h.lines ls h.are are;
      is = is ∙ sym (flat_map-append line_text h.lines ls) ∙ sym (append-nil (lines_text (h.lines ++ ls))) ∙ ap (λ t. lines_text (h.lines ++ ls) ++ t) (sym empty);
      unended = subst (All (λ c. c ≢ 10)) (sym empty) (All-nil (λ c. c ≢ 10));
      gathered = subst (λ fs. IsGathered (is_unknown es) new.gathering fs (section_after first (h.lines ++ ls))) (sym (ended_joined first h.lines ls)) with_them;
    }

-- with the text of one line
line_after : (es : List KnownEntry) (head : Option Place) (old new : Found) (b after : Text) (l : Line) (h : IsAfter es head old b) → IsLine l → after ≡ lines_text h.lines ++ line_text l
    → new.rest.items ≡ []
    → ((fs : List Finding) (s : Section) → IsGathered (is_unknown es) old.gathering fs s → IsGathered (is_unknown es) new.gathering (fs ++ ended_with s l) (section_with s l))
    → IsAfter es head new after
line_after es head old new b after l h one is empty takes =
    let first = first_section head in
    let t = section_after first h.lines in
    let taken = takes (ended_after first h.lines) t h.gathered in
    lines_after es head old new b after (l ∷ []) h (All-cons IsLine l [] one (All-nil IsLine)) (is ∙ ap (λ x. lines_text h.lines ++ x) (sym (append-nil (line_text l)))) empty
    (subst (λ fs. IsGathered (is_unknown es) new.gathering (ended_after first h.lines ++ fs) (section_with t l)) (sym (append-nil (ended_with t l))) taken)

-- the end of a line: what was kept, and this with its line feed, are the text of the line
pub line_taken : (es : List KnownEntry) (head : Option Place) (old new : Found) (b part : Text) (l : Line) → IsAfter es head old b → new.rest.items ≡ []
    → IsLineText ((old.rest.items ++ part) ++ 10 ∷ []) l
    → ((fs : List Finding) (s : Section) → IsGathered (is_unknown es) old.gathering fs s → IsGathered (is_unknown es) new.gathering (fs ++ ended_with s l) (section_with s l))
    → IsAfter es head new (b ++ (part ++ 10 ∷ []))
line_taken es head old new b part l h empty text takes =
    let rest = old.rest.items in
    let joined : rest ++ (part ++ 10 ∷ []) ≡ line_text l = sym (append_assoc rest part (10 ∷ [])) ∙ text.is in
    let is = ap (λ t. t ++ (part ++ 10 ∷ [])) h.is ∙ append_assoc (lines_text h.lines) rest (part ++ 10 ∷ []) ∙ ap (λ t. lines_text h.lines ++ t) joined in
    line_after es head old new b (b ++ (part ++ 10 ∷ [])) l h (IsLine-from_text _ l text) is empty takes

-- a whole line, where none was cut before it
pub whole_taken : (es : List KnownEntry) (head : Option Place) (old new : Found) (b : Text) (l : Line) → IsAfter es head old b → IsLine l → old.rest.items ≡ [] → new.rest.items ≡ []
    → ((fs : List Finding) (s : Section) → IsGathered (is_unknown es) old.gathering fs s → IsGathered (is_unknown es) new.gathering (fs ++ ended_with s l) (section_with s l))
    → IsAfter es head new (b ++ line_text l)
whole_taken es head old new b l h one none empty takes =
    let before : b ≡ lines_text h.lines = h.is ∙ ap (λ t. lines_text h.lines ++ t) none ∙ append-nil (lines_text h.lines) in
    line_after es head old new b (b ++ line_text l) l h one (ap (λ t. t ++ line_text l) before) empty takes

-- lines of files that are right, where none was cut before them
pub right_taken : (es : List KnownEntry) (head : Option Place) (old new : Found) (b : Text) (ls : List Line) (h : IsAfter es head old b) → All IsLine ls
    → All (λ l. is_right l ≡ true) ls → old.rest.items ≡ [] → new.rest.items ≡ []
    → IsGathered (is_unknown es) new.gathering (ended_after (first_section head) h.lines) (section_on (section_after (first_section head) h.lines) ls)
    → IsAfter es head new (b ++ lines_text ls)
right_taken es head old new b ls h lines right none empty taken =
    let first = first_section head in
    let t = section_after first h.lines in
    let before : b ≡ lines_text h.lines = h.is ∙ ap (λ x. lines_text h.lines ++ x) none ∙ append-nil (lines_text h.lines) in
    let ended : ended_after first h.lines ++ ended_after t ls ≡ ended_after first h.lines = ap (λ fs. ended_after first h.lines ++ fs) (right_ends_none t ls right) ∙ append-nil (ended_after first h.lines) in
    lines_after es head old new b (b ++ lines_text ls) ls h lines (ap (λ x. x ++ lines_text ls) before) empty
    (subst (λ fs. IsGathered (is_unknown es) new.gathering fs (section_after t ls)) (sym ended)
    (subst (IsGathered (is_unknown es) new.gathering (ended_after first h.lines)) (sym (right_section t ls right)) taken))

-- or they are the text of none
pub line_refused : (es : List KnownEntry) (head : Option Place) (old : Found) (b part after : Text) → IsAfter es head old b → All (λ c. c ≢ 10) part
    → ((l : Line) → IsLineText ((old.rest.items ++ part) ++ 10 ∷ []) l → ⊥) → HasBadLine (b ++ (part ++ 10 ∷ []) ++ after)
line_refused es head old b part after h one refused =
    let rest = old.rest.items in
    let joined : b ++ (part ++ 10 ∷ []) ≡ lines_text h.lines ++ ((rest ++ part) ++ 10 ∷ []) =
    ap (λ t. t ++ (part ++ 10 ∷ [])) h.is ∙ append_assoc (lines_text h.lines) rest (part ++ 10 ∷ []) ∙ ap (λ t. lines_text h.lines ++ t) (sym (append_assoc rest part (10 ∷ []))) in
    record {
      before = h.lines;
      bad = rest ++ part;
      after = after;
      are = h.are;
      is = ap (λ t. t ++ after) joined;
      one = All-append (λ c. c ≢ 10) rest part h.unended one;
      refused = refused;
    }

-- what has no line feed is kept
pub rest_kept : (es : List KnownEntry) (head : Option Place) (old new : Found) (b more : Text) → IsAfter es head old b → All (λ c. c ≢ 10) more → new.rest.items ≡ old.rest.items ++ more
    → new.gathering ≡ old.gathering → IsAfter es head new (b ++ more)
rest_kept es head old new b more h unended e same = record {
  lines = h.lines;
  are = h.are;
  is = ap (λ t. t ++ more) h.is ∙ append_assoc (lines_text h.lines) old.rest.items more ∙ ap (λ t. lines_text h.lines ++ t) (sym e);
  unended = subst (All (λ c. c ≢ 10)) (sym e) (All-append (λ c. c ≢ 10) old.rest.items more h.unended unended);
  gathered = subst (λ g. IsGathered (is_unknown es) g (ended_after (first_section head) h.lines) (section_after (first_section head) h.lines)) (sym same) h.gathered;
}

-- ---- pieces

pub cut_on : (done part after bytes left : Text) → bytes ≡ done ++ left → left ≡ part ++ 10 ∷ after → bytes ≡ (done ++ (part ++ 10 ∷ [])) ++ after
cut_on done part after bytes left e f =
    let grouped : (done ++ (part ++ 10 ∷ [])) ++ after ≡ done ++ (part ++ 10 ∷ after) = append_assoc done (part ++ 10 ∷ []) after ∙ ap (λ t. done ++ t) (append_assoc part (10 ∷ []) after) in
    e ∙ ap (λ t. done ++ t) f ∙ sym grouped

pub bad_joined : (b done part after bytes left : Text) → bytes ≡ done ++ left → left ≡ part ++ 10 ∷ after → ((b ++ done) ++ (part ++ 10 ∷ [])) ++ after ≡ b ++ bytes
bad_joined b done part after bytes left e f =
    ap (λ t. t ++ after) (append_assoc b done (part ++ 10 ∷ [])) ∙ append_assoc b (done ++ (part ++ 10 ∷ [])) after ∙ ap (λ t. b ++ t) (sym (cut_on done part after bytes left e f))

pub rest_joined : (b done bytes left : Text) → bytes ≡ done ++ left → (b ++ done) ++ left ≡ b ++ bytes
rest_joined b done bytes left e = append_assoc b done left ∙ ap (λ t. b ++ t) (sym e)
