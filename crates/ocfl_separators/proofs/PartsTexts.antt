-- The text of separators determines them.
use Rattle.std.proofs.Common.{◌≡◌, ◌≢◌, ◌⊎◌, inl, inr, ℕ, ◌<◌, List, [], ◌∷◌, ◌++◌, All, length, refl, sym, ap, subst, ◌∙◌, append_assoc, length-append, arith}
use Rattle.std.proofs.lemmas.List.Elements.{All-head, All-tail, All-weaker}
use Rattle.ocfl_tree.specs.{Place.{Text, Place}, Name.{IsPlace}}
use Rattle.ocfl_report.specs.Text.{place_text}
use Rattle.ocfl_report.proofs.Bytes.{IsPrintable}
use Rattle.ocfl_report.proofs.Separators.{first_parts, separated_not_empty, texts_determine}
use Rattle.ocfl_report.proofs.PlaceTexts.{place_text_determines, place_text_printable}
use Rattle.ocfl_separators.specs.Separators.{AreSeparators, part_line, parts_text}
use Rattle.ocfl_separators.specs.Parts.{max_separators, max_bytes, IsPartsText, BeginsWith, IsFirstBad, HasMoreLines, IsBadLine}
use Rattle.ocfl_separators.proofs.Orders.{names_last, AreSeparators-front}

path_one_line : (p : Place) → IsPlace p → All (λ b. b ≢ 10) (place_text p)
path_one_line p h = All-weaker IsPrintable (λ b. b ≢ 10) (λ b k. omega (arith, k)) (place_text p) (place_text_printable p h)

pub part_line-append : (p : Place) (r : Text) → part_line p ++ r ≡ place_text p ++ 10 ∷ r
part_line-append p r = append_assoc (place_text p) (10 ∷ []) r

-- places are the same if texts begin with their lines, and so is what follows
pub first_lines : (p q : Place) (r s : Text) → IsPlace p → IsPlace q → part_line p ++ r ≡ part_line q ++ s → (p ≡ q) × (r ≡ s)
first_lines p q r s h k e =
    let parts = first_parts 10 (place_text p) (place_text q) r s (path_one_line p h) (path_one_line q k) (sym (part_line-append p r) ∙ e ∙ part_line-append q s) in
    (place_text_determines p q h k parts.0, parts.1)

-- a line is not empty
line_is_there : (p : Place) (r : Text) → part_line p ++ r ≢ []
line_is_there p r e = separated_not_empty 10 (place_text p) r (sym (part_line-append p r) ∙ e)

pub parts_text_determines : (ps qs : List Place) → AreSeparators ps → AreSeparators qs → parts_text ps ≡ parts_text qs → ps ≡ qs
parts_text_determines ps qs h k e = texts_determine IsPlace part_line first_lines line_is_there ps qs h.names k.names e

-- ---- one line more

-- what is before the line feed of a separator's line, and what follows it
pub path_of_line : (text path rest : Text) (p : Place) (after : Text) → text ≡ path ++ 10 ∷ rest → All (λ b. b ≢ 10) path → IsPlace p → text ≡ part_line p ++ after → path ≡ place_text p
path_of_line text path rest p after e first h f = (first_parts 10 path (place_text p) rest after first (path_one_line p h) (sym e ∙ f ∙ part_line-append p after)).0

-- if one place is refused as a separator, so is each with that text
pub other_refused : (text path rest : Text) (before : List Place) (q : Place) → text ≡ path ++ 10 ∷ rest → All (λ b. b ≢ 10) path → path ≡ place_text q
    → IsPlace q → (AreSeparators (before ++ q ∷ []) → ⊥)
    → (p : Place) (after : Text) → AreSeparators (before ++ p ∷ []) → text ≢ part_line p ++ after
other_refused text path rest before q e first is names refused p after k f =
    let name = names_last before p k.names in
    let same : p ≡ q = place_text_determines p q name names (sym (path_of_line text path rest p after e first name f) ∙ is) in
    refused (subst (λ x. AreSeparators (before ++ x ∷ [])) same k)

-- ---- separators that begin as others do

-- the text of separators goes on, after the lines of others, with that of one more
record GoesOn (ps before : List Place) (rest : Text) : Type 0 where
  pub next : Place
  pub more : List Place
  pub is : ps ≡ before ++ next ∷ more
  pub text : rest ≡ part_line next ++ parts_text more

goes_on : (ps before : List Place) (rest : Text) → All IsPlace ps → All IsPlace before → rest ≢ [] → parts_text ps ≡ parts_text before ++ rest → GoesOn ps before rest
goes_on [] [] rest h k more e = absurd (more (sym e))
goes_on (p ∷ ps) [] rest h k more e = record { next = p; more = ps; is = refl; text = sym e }
goes_on [] (q ∷ qs) rest h k more e = absurd (line_is_there q (parts_text qs ++ rest) (sym (e ∙ append_assoc (part_line q) (parts_text qs) rest)))
goes_on (p ∷ ps) (q ∷ qs) rest h k more e =
    let first = first_lines p q (parts_text ps) (parts_text qs ++ rest) (All-head IsPlace p ps h) (All-head IsPlace q qs k) (e ∙ append_assoc (part_line q) (parts_text qs) rest) in
    let on = goes_on ps qs rest (All-tail IsPlace p ps h) (All-tail IsPlace q qs k) more first.1 in
    record { next = on.next; more = on.more; is = (λ i. first.0 i ∷ on.is i); text = on.text }

begins_in : (b : Text) (ps before : List Place) (rest : Text) → AreSeparators ps → b ≡ parts_text ps → BeginsWith b before rest → GoesOn ps before rest
begins_in b ps before rest h e k = goes_on ps before rest h.names k.separators.names k.more (sym e ∙ k.is)

-- the text of separators has no bad line
pub no_bad_line : (b : Text) (n : ℕ) (ps : List Place) → AreSeparators ps → b ≡ parts_text ps → IsFirstBad b n → ⊥
no_bad_line b n ps h e k =
    let on = begins_in b ps k.before k.rest h e k.begins in
    let whole : AreSeparators ((k.before ++ on.next ∷ []) ++ on.more) = subst AreSeparators (on.is ∙ sym (append_assoc k.before (on.next ∷ []) on.more)) h in
    k.bad on.next (parts_text on.more) (AreSeparators-front (k.before ++ on.next ∷ []) on.more whole) on.text

-- if there are more lines than there may be, there are too many separators
pub more_than_may_be : (b : Text) (ps : List Place) → AreSeparators ps → b ≡ parts_text ps → HasMoreLines b → max_separators < length ps
more_than_may_be b ps h e k =
    let on = begins_in b ps k.before k.rest h e k.begins in
    omega (arith, k.all, ap length on.is, length-append k.before (on.next ∷ on.more))

pub not_bad : (b : Text) (n : ℕ) (ps : List Place) → IsPartsText b ps → IsBadLine b n → ⊥
not_bad b n ps h k = no_bad_line b n ps h.separators h.is k.first

pub not_long : (b : Text) (ps : List Place) → IsPartsText b ps → (max_bytes < length b) ⊎ HasMoreLines b → ⊥
not_long b ps h (inl l) = omega (arith, l, h.short)
not_long b ps h (inr k) = omega (arith, more_than_may_be b ps h.separators h.is k, h.few)

-- ---- why bytes are refused is one thing

-- if more lines are those of separators, what follows the first of them is the line of one more
record GoesOnBefore (ps before : List Place) (tail rest : Text) : Type 0 where
  pub next : Place
  pub more : List Place
  pub is : ps ≡ before ++ next ∷ more
  pub text : rest ≡ part_line next ++ (parts_text more ++ tail)

goes_on_before : (ps before : List Place) (tail rest : Text) → All IsPlace ps → All IsPlace before → length before < length ps
    → parts_text ps ++ tail ≡ parts_text before ++ rest → GoesOnBefore ps before tail rest
goes_on_before [] before tail rest h k l e = absurd (omega arith)
goes_on_before (p ∷ ps) [] tail rest h k l e = record { next = p; more = ps; is = refl; text = sym e ∙ append_assoc (part_line p) (parts_text ps) tail }
goes_on_before (p ∷ ps) (q ∷ qs) tail rest h k l e =
    let first = first_lines p q (parts_text ps ++ tail) (parts_text qs ++ rest) (All-head IsPlace p ps h) (All-head IsPlace q qs k)
    (sym (append_assoc (part_line p) (parts_text ps) tail) ∙ e ∙ append_assoc (part_line q) (parts_text qs) rest) in
    let on = goes_on_before ps qs tail rest (All-tail IsPlace p ps h) (All-tail IsPlace q qs k) (omega arith) first.1 in
    record { next = on.next; more = on.more; is = (λ i. first.0 i ∷ on.is i); text = on.text }

-- bytes with a bad line do not begin with as many lines as there may be
pub not_bad_and_more : (b : Text) (n : ℕ) → IsFirstBad b n → HasMoreLines b → ⊥
not_bad_and_more b n f m =
    let on = goes_on_before m.before f.before m.rest f.rest m.begins.separators.names f.begins.separators.names (omega (arith, f.number, f.counted, m.all)) (sym m.begins.is ∙ f.begins.is) in
    let whole : AreSeparators ((f.before ++ on.next ∷ []) ++ on.more) = subst AreSeparators (on.is ∙ sym (append_assoc f.before (on.next ∷ []) on.more)) m.begins.separators in
    f.bad on.next (parts_text on.more ++ m.rest) (AreSeparators-front (f.before ++ on.next ∷ []) on.more whole) on.text

pub not_bad_and_long : (b : Text) (n : ℕ) → IsBadLine b n → (max_bytes < length b) ⊎ HasMoreLines b → ⊥
not_bad_and_long b n h (inl l) = omega (arith, l, h.short)
not_bad_and_long b n h (inr m) = not_bad_and_more b n h.first m
