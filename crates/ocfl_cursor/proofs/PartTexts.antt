-- The text of a part's cursor determines the part and the cursor.
use Rattle.std.proofs.Common.{◌≡◌, ◌≢◌, ℕ, [], ◌∷◌, ◌++◌, get_or, Bool, true, false, cond, Option, Some, None, All, codes, length, nat_eq, IsTrue, ◌↔◌, refl, sym, ap, subst, ◌∙◌, append_assoc, arith}
use Rattle.std.proofs.{lemmas.Bool.{eqb-false, true≢false}, lemmas.List.{append_cancel_left}}
use Rattle.std.proofs.lemmas.List.Elements.{All-head, All-weaker, All-append, All-from_recursion}
use Rattle.std.specs.Cmp.Lexicographic.{pointwise}
use Rattle.ocfl_tree.specs.{Place.{Text, Place, text_eq}, Name.{IsName, IsPlace}}
use Rattle.ocfl_tree.proofs.Places.{text_eq-Decides, path_eq-Decides}
use Rattle.ocfl_report.specs.Text.{place_text}
use Rattle.ocfl_report.specs.declared.further.Further.{Further}
use Rattle.ocfl_report.specs.declared.further.Further.TheVariants.{Nothing, Inventories}
use Rattle.ocfl_report.proofs.{Bytes.{IsPrintable}, Separators.{first_parts}}
use Rattle.ocfl_report.proofs.PlaceTexts.{names_of, names_of-place_text, place_text_determines, place_text_printable}
use Rattle.ocfl_cursor.specs.Cursor.{Cursor, cursor_lines, digest_line}
use Rattle.ocfl_cursor.specs.Part.{HasNames, AreEnds, end_text, end_line, ends_lines, part_first_line, part_body, IsPartText}
use Rattle.ocfl_cursor.specs.{Internal.Part.{IsPartBody}, declared.ends.PartEnds.{PartEnds}}
use Rattle.ocfl_cursor.specs.Internal.Body.{version_of, AreLinesOf}
use Rattle.ocfl_cursor.proofs.CursorTexts.{further_written, lines_of-cursor, lines_determine, AreLinesOf-cursor}
use Rattle.ocfl_cursor.proofs.Seals.{sealed_determines}

-- ---- tests

-- whether two places are there and the same
pub same_some : (r : Bool) (p q : Place) (x y : Option Place) → x ≡ Some p → y ≡ Some q → r ≡ pointwise (pointwise nat_eq) p q → IsTrue r ↔ (x ≡ y)
same_some r p q x y e f g = (λ t. e ∙ ap Some ((path_eq-Decides p q).0 (sym g ∙ t)) ∙ sym f, λ h. let same : p ≡ q = cc in g ∙ (path_eq-Decides p q).1 same)

-- whether what follows a front is this text
pub same_after : (r : Bool) (front text rest word : Text) → text ≡ front ++ rest → r ≡ text_eq rest word → IsTrue r ↔ (text ≡ front ++ word)
same_after r front text rest word e f =
    (λ t. e ∙ ap (λ u. front ++ u) ((text_eq-Decides rest word).0 (sym f ∙ t)), λ g. f ∙ (text_eq-Decides rest word).1 (append_cancel_left front _ _ (sym e ∙ g)))

-- ---- the text of an end

-- no place's text begins with `./`
no_dot_name : (p : Place) → IsPlace p → (t : Text) → place_text p ≢ 46 ∷ 47 ∷ t
no_dot_name [] h t e = cc
no_dot_name (n ∷ p) h t e =
    let names : n ∷ p ≡ names_of (46 ∷ 47 ∷ t) = sym (names_of-place_text n p h) ∙ ap names_of e in
    let name : n ≡ codes "." = cc in
    (All-head IsName n p h).fits.not_dot name

-- the text of a place at an end, by whether its path is the word
abbrev by_word : Bool → Place → Text
by_word b p = cond b (codes "./" ++ place_text p) (place_text p)

-- no place has the word
not_word : (word : Text) (p : Place) → (b : Bool) → text_eq (place_text p) word ≡ b → word ≢ by_word b p
not_word word p true e f =
    let same : place_text p ≡ word = (text_eq-Decides _ _).0 e in
    omega (arith, ap length (f ∙ ap (λ t. codes "./" ++ t) same))
not_word word p false e f = true≢false (sym ((text_eq-Decides _ _).1 (sym f)) ∙ e)

both_places : (word : Text) (p q : Place) → IsPlace p → IsPlace q → (a b : Bool) → by_word a p ≡ by_word b q → p ≡ q
both_places word p q h k true true e = place_text_determines p q h k (append_cancel_left (codes "./") _ _ e)
both_places word p q h k true false e = absurd (no_dot_name q k (place_text p) (sym e))
both_places word p q h k false true e = absurd (no_dot_name p h (place_text q) e)
both_places word p q h k false false e = place_text_determines p q h k e

-- ends are the same if their texts are
pub end_text_determines : (word : Text) (p q : Option Place) → HasNames p → HasNames q → end_text word p ≡ end_text word q → p ≡ q
end_text_determines word None None h k e = refl
end_text_determines word None (Some q) h k e = absurd (not_word word q _ refl e)
end_text_determines word (Some p) None h k e = absurd (not_word word p _ refl (sym e))
end_text_determines word (Some p) (Some q) h k e = ap Some (both_places word p q h k _ _ e)

-- ---- what is read of an end

-- the place whose path is the word, after `./`
pub end_of_word : (word : Text) (p : Place) → word ≡ place_text p → codes "./" ++ word ≡ end_text word (Some p)
end_of_word word p e = by (text_eq (place_text p) word) ((text_eq-Decides _ _).1 (sym e))
  where
    by : (b : Bool) → b ≡ true → codes "./" ++ word ≡ by_word b p
    by true f = ap (λ t. codes "./" ++ t) e
    by false f = absurd (true≢false (sym f))

-- the place of another path
pub end_of_path : (word text : Text) (p : Place) → text_eq text word ≡ false → text ≡ place_text p → text ≡ end_text word (Some p)
end_of_path word text p other e = by (text_eq (place_text p) word) (ap (λ t. text_eq t word) (sym e) ∙ other)
  where
    by : (b : Bool) → b ≡ false → text ≡ by_word b p
    by true f = absurd (true≢false f)
    by false f = e

-- no end has the text if the word, and a place of its path, are ruled out
pub no_end_of_word : (word text : Text) → text_eq text word ≡ false → text ≡ codes "./" ++ word → ((p : Place) → IsPlace p → word ≡ place_text p → ⊥)
    → (end : Option Place) → HasNames end → text ≡ end_text word end → ⊥
no_end_of_word word text other is none None h e = true≢false (sym ((text_eq-Decides _ _).1 e) ∙ other)
no_end_of_word word text other is none (Some p) h e = by (text_eq (place_text p) word) refl e
  where
    by : (b : Bool) → text_eq (place_text p) word ≡ b → text ≡ by_word b p → ⊥
    by true f g = none p h (append_cancel_left (codes "./") _ _ (sym is ∙ g))
    by false f g = no_dot_name p h word (sym g ∙ is)

pub no_end_of_path : (word text : Text) → text_eq text word ≡ false → (text ≡ codes "./" ++ word → ⊥) → ((p : Place) → IsPlace p → text ≡ place_text p → ⊥)
    → (end : Option Place) → HasNames end → text ≡ end_text word end → ⊥
no_end_of_path word text other unmarked none None h e = true≢false (sym ((text_eq-Decides _ _).1 e) ∙ other)
no_end_of_path word text other unmarked none (Some p) h e = by (text_eq (place_text p) word) refl e
  where
    by : (b : Bool) → text_eq (place_text p) word ≡ b → text ≡ by_word b p → ⊥
    by true f g = unmarked (g ∙ ap (λ t. codes "./" ++ t) ((text_eq-Decides _ _).0 f))
    by false f g = none p h g

-- ---- the line of an end

no_feed : (t : Text) → All IsPrintable t → All (λ b. b ≢ 10) t
no_feed t h = All-weaker IsPrintable (λ b. b ≢ 10) (λ b k. omega (arith, k)) t h

-- the text of an end is within its line
pub end_text_one_line : (word : Text) (end : Option Place) → All (λ b. b ≢ 10) word → HasNames end → All (λ b. b ≢ 10) (end_text word end)
end_text_one_line word None plain h = plain
end_text_one_line word (Some p) plain h = by (text_eq (place_text p) word)
  where
    path : All (λ b. b ≢ 10) (place_text p)
    path = no_feed (place_text p) (place_text_printable p h)

    by : (b : Bool) → All (λ c. c ≢ 10) (by_word b p)
    by true = All-append (λ b. b ≢ 10) (codes "./") (place_text p) (All-from_recursion (λ b. b ≢ 10) (codes "./") ((λ e. omega arith), ((λ e. omega arith), tt))) path
    by false = path

end_line-append : (front word : Text) (end : Option Place) (r : Text) → end_line front word end ++ r ≡ front ++ (end_text word end ++ 10 ∷ r)
end_line-append front word end r = simp append_assoc

-- what follows the front of the line
pub after_front : (front word text line : Text) (end : Option Place) (r : Text) → text ≡ front ++ line → text ≡ end_line front word end ++ r → line ≡ end_text word end ++ 10 ∷ r
after_front front word text line end r e f = append_cancel_left front _ _ (sym e ∙ f ∙ end_line-append front word end r)

-- what is before the line feed, and what follows it
pub before_feed : (front word text line before after : Text) (end : Option Place) (r : Text) → All (λ b. b ≢ 10) word → HasNames end → text ≡ front ++ line
    → line ≡ before ++ 10 ∷ after → All (λ b. b ≢ 10) before
    → text ≡ end_line front word end ++ r → (before ≡ end_text word end) × (after ≡ r)
before_feed front word text line before after end r plain h e f first g =
    first_parts 10 before (end_text word end) after r first (end_text_one_line word end plain h) (sym f ∙ after_front front word text line end r e g)

-- ends are the same if texts begin with their lines, and so is what follows
pub end_line_determines : (front word : Text) (p q : Option Place) (r s : Text) → All (λ b. b ≢ 10) word → HasNames p → HasNames q
    → end_line front word p ++ r ≡ end_line front word q ++ s → (p ≡ q) × (r ≡ s)
end_line_determines front word p q r s plain h k e =
    let whole = append_cancel_left front _ _ (sym (end_line-append front word p r) ∙ e ∙ end_line-append front word q s) in
    let parts = first_parts 10 (end_text word p) (end_text word q) r s (end_text_one_line word p plain h) (end_text_one_line word q plain k) whole in
    (end_text_determines word p q h k parts.0, parts.1)

-- ---- the lines of both ends

pub start_one_line : All (λ b. b ≢ 10) (codes "start")
start_one_line = All-from_recursion (λ b. b ≢ 10) (codes "start") ((λ e. omega arith), ((λ e. omega arith), ((λ e. omega arith), ((λ e. omega arith), ((λ e. omega arith), tt)))))

pub end_one_line : All (λ b. b ≢ 10) (codes "end")
end_one_line = All-from_recursion (λ b. b ≢ 10) (codes "end") ((λ e. omega arith), ((λ e. omega arith), ((λ e. omega arith), tt)))

abbrev from_line : Option Place → Text
from_line p = end_line (codes "from ") (codes "start") p

abbrev below_line : Option Place → Text
below_line p = end_line (codes "below ") (codes "end") p

pub ends_lines-append : (e : PartEnds) (r : Text) → ends_lines e ++ r ≡ from_line e.from ++ (below_line e.below ++ r)
ends_lines-append e r = append_assoc (from_line e.from) (below_line e.below) r

pub ends_lines_determine : (e f : PartEnds) (r s : Text) → AreEnds e → AreEnds f → ends_lines e ++ r ≡ ends_lines f ++ s → (e ≡ f) × (r ≡ s)
ends_lines_determine e f r s h k g =
    let first = end_line_determines (codes "from ") (codes "start") e.from f.from _ _ start_one_line h.from k.from (sym (ends_lines-append e r) ∙ g ∙ ends_lines-append f s) in
    let second = end_line_determines (codes "below ") (codes "end") e.below f.below r s end_one_line h.below k.below first.1 in
    ((λ i. record { from = first.0 i; below = second.0 i }), second.1)

-- ---- the first line

-- the digit of a version is the byte after the front
abbrev part_digit : Further → ℕ
part_digit Nothing = 49
part_digit Inventories = 50

digit_of_line : (f : Further) (r : Text) → get_or (part_first_line f ++ r) 23 0 ≡ part_digit f
digit_of_line Nothing r = refl
digit_of_line Inventories r = refl

same_digits : (f g : Further) → part_digit f ≡ part_digit g → f ≡ g
same_digits Nothing Nothing e = refl
same_digits Nothing Inventories e = absurd (eqb-false 49 50 refl e)
same_digits Inventories Nothing e = absurd (eqb-false 50 49 refl e)
same_digits Inventories Inventories e = refl

-- what it tells is the same if texts begin with it, and so is what follows
pub part_first_line_determines : (f g : Further) (r s : Text) → part_first_line f ++ r ≡ part_first_line g ++ s → (f ≡ g) × (r ≡ s)
part_first_line_determines f g r s e =
    let same : f ≡ g = same_digits f g (sym (digit_of_line f r) ∙ ap (λ t. get_or t 23 0) e ∙ digit_of_line g s) in
    (same, append_cancel_left (part_first_line g) r s (ap (λ h. part_first_line h ++ r) (sym same) ∙ e))

-- a text without either line has none
pub no_part_first_line : (body : Text) → ((r : Text) → body ≡ part_first_line Inventories ++ r → ⊥) → ((r : Text) → body ≡ part_first_line Nothing ++ r → ⊥)
    → (f : Further) (r : Text) → body ≡ part_first_line f ++ r → ⊥
no_part_first_line body two one Nothing r e = one r e
no_part_first_line body two one Inventories r e = two r e

-- ---- the text before the digest line

pub part_body-append : (e : PartEnds) (c : Cursor) → part_body e c ≡ part_first_line c.further ++ (ends_lines e ++ cursor_lines c)
part_body-append e c = append_assoc (part_first_line c.further) (ends_lines e) (cursor_lines c)

-- what the first line tells, and what follows it
pub part_lines : (e : PartEnds) (f : Further) (body lines : Text) (c : Cursor) → IsPartBody e body c → body ≡ part_first_line f ++ lines → (c.further ≡ f) × (ends_lines e ++ cursor_lines c ≡ lines)
part_lines e f body lines c h g = part_first_line_determines c.further f _ lines (sym (part_body-append e c) ∙ sym h.is ∙ g)

-- what follows the lines of the ends, once these are read
pub part_rest : (e g : PartEnds) (f : Further) (body lines rest : Text) (c : Cursor) → AreEnds g → IsPartBody e body c → body ≡ part_first_line f ++ lines
    → lines ≡ ends_lines g ++ rest → (e ≡ g) × AreLinesOf (version_of f) rest c
part_rest e g f body lines rest c names h k l =
    let front = part_lines e f body lines c h k in
    let same = ends_lines_determine e g (cursor_lines c) rest h.ends names (front.1 ∙ l) in
    (same.0, subst (λ t. AreLinesOf (version_of f) t c) same.1 (subst (λ v. AreLinesOf (version_of v) (cursor_lines c) c) front.0 (AreLinesOf-cursor c h.keeps)))

-- and with such lines it is the body of the part's cursor
pub part_body_read : (e : PartEnds) (f : Further) (body lines rest : Text) (c : Cursor) → AreEnds e → body ≡ part_first_line f ++ lines → lines ≡ ends_lines e ++ rest
    → AreLinesOf (version_of f) rest c → IsPartBody e body c
part_body_read e f body lines rest c names k l h =
    let further : c.further ≡ f = h.further ∙ further_written f in
    let whole = k ∙ ap (λ t. part_first_line f ++ t) (l ∙ ap (λ t. ends_lines e ++ t) (lines_of-cursor f rest c h)) in
    record {
      ends = names;
      keeps = h.keeps;
      is = whole ∙ ap (λ v. part_first_line v ++ (ends_lines e ++ cursor_lines c)) (sym further) ∙ sym (part_body-append e c);
    }

-- parts and cursors are the same if their bodies are
part_body_determines : (e f : PartEnds) (body : Text) (c d : Cursor) → IsPartBody e body c → IsPartBody f body d → (e ≡ f) × (c ≡ d)
part_body_determines e f body c d h k =
    let rest = part_rest e f d.further body (ends_lines f ++ cursor_lines d) (cursor_lines d) c k.ends h (k.is ∙ part_body-append f d) refl in
    (rest.0, lines_determine (version_of d.further) (cursor_lines d) c d rest.1 (AreLinesOf-cursor d k.keeps))

-- ---- the whole text

pub IsPartBody-sealed : (e : PartEnds) (text body : Text) (c : Cursor) → text ≡ body ++ digest_line body → IsPartText e text c → IsPartBody e body c
IsPartBody-sealed e text body c f h = record { ends = h.ends; keeps = h.keeps; is = sealed_determines (codes "digest ") refl body (part_body e c) (sym f ∙ h.is) }

pub IsPartText-sealed : (e : PartEnds) (text body : Text) (c : Cursor) → text ≡ body ++ digest_line body → IsPartBody e body c → IsPartText e text c
IsPartText-sealed e text body c f h = record { ends = h.ends; keeps = h.keeps; is = f ∙ ap (λ b. b ++ digest_line b) h.is }

-- a text determines the part and the cursor whose text it is
pub part_text_determines : (b : Text) (e f : PartEnds) (c d : Cursor) → IsPartText e b c → IsPartText f b d → (e ≡ f) × (c ≡ d)
part_text_determines b e f c d h k =
    part_body_determines e f (part_body e c) c d (IsPartBody-sealed e b (part_body e c) c h.is h) (IsPartBody-sealed f b (part_body e c) d h.is k)
