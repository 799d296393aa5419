-- What is left of a report begins with the text of a line that may follow.
use Rattle.std.proofs.Common.{◌≡◌, ◌≢◌, ℕ, List, [], ◌∷◌, ◌++◌, All, IsTrue, false, Option, Some, None, refl, sym, ap, subst, ◌∙◌, append_assoc}
use Rattle.std.proofs.lemmas.List.Elements.{All-head, All-tail}
use Rattle.std.specs.Io.BufRead.{take_through}
use Rattle.ocfl_tree.specs.Place.{Text, Place}
use Rattle.ocfl_report.specs.{Line.{Line}, Text.{code_text, escape, place_text, line_text, lines_text, IsLine}}
use Rattle.ocfl_report.proofs.{Bytes.{utf8_bytes}, LineTexts.{first_lines}}
use Rattle.ocfl_separators.specs.Splits.{HasText, IsNotLess, AreInOrder}
use Rattle.ocfl_separators.proofs.Reports.{line_is_first}
use Rattle.ocfl_joining.specs.Joined.{IsFrom, IsBelow, IsReportIn}
use Rattle.ocfl_joining.specs.Internal.Copying.{IsFitLine, last_of}

pub not_true : IsTrue false → ⊥
not_true e = cc

is_line : (l : Line) → HasText l → IsLine l
is_line l h = record { place = h.place; detail = utf8_bytes l.detail h.detail }

none_front : (xs ys : Text) → xs ++ ys ≡ [] → xs ≡ []
none_front [] ys e = refl
none_front (x ∷ xs) ys e = cc

some_behind : (xs : Text) (y : ℕ) (ys : Text) → xs ++ y ∷ ys ≡ [] → ⊥
some_behind [] y ys e = cc
some_behind (x ∷ xs) y ys e = cc

no_line : (l : Line) (rest left : Text) → (line_text l ++ rest) ++ left ≡ [] → ⊥
no_line l rest left e =
    let none : line_text l ≡ [] = none_front (line_text l) rest (none_front (line_text l ++ rest) left e) in
    some_behind (code_text l.code ++ 9 ∷ place_text l.place ++ 9 ∷ escape l.detail) 10 [] none

record Behind (lines ms : List Line) (left : Text) : Type 0 where
  more : List Line
  is : ms ≡ lines ++ more
  text : left ≡ lines_text more

behind : (lines ms : List Line) (left : Text) → All HasText lines → All HasText ms → lines_text ms ≡ lines_text lines ++ left → Behind lines ms left
behind [] ms left h k e = record { more = ms; is = refl; text = sym e }
behind (l ∷ lines) [] left h k e = absurd (no_line l (lines_text lines) left (sym e))
behind (l ∷ lines) (m ∷ ms) left h k e =
    let both = first_lines m l (lines_text ms) (lines_text lines ++ left) (is_line m (All-head HasText m ms k)) (is_line l (All-head HasText l lines h)) (e ∙ append_assoc (line_text l) (lines_text lines) left) in
    let rest = behind lines ms left (All-tail HasText l lines h) (All-tail HasText m ms k) both.1 in
    record { more = rest.more; is = λ i. both.0 i ∷ rest.is i; text = rest.text }

order_at : (last : Option Place) (ls : List Line) (l : Line) (ms : List Line) → AreInOrder last (ls ++ l ∷ ms) → IsNotLess (last_of last ls) l.place
order_at last [] l ms h = h.0
order_at last (k ∷ ls) l ms h = order_at (Some k.place) ls l ms h.1

all_at : (P : Line → Type 0) (ls : List Line) (l : Line) (ms : List Line) → All P (ls ++ l ∷ ms) → P l
all_at P [] l ms h = All-head P l ms h
all_at P (k ∷ ls) l ms h = all_at P ls l ms (All-tail P k (ls ++ l ∷ ms) h)

module _ (from below : Option Place) (lines : List Line) (bytes left text : Text) (are : All HasText lines) (read : bytes ≡ lines_text lines ++ left) (next : text ≡ take_through 10 left) (some : text ≢ []) where
  pub next_fits : IsReportIn from below bytes → (l : Line) × IsFitLine from below (last_of None lines) text l
  next_fits r =
      let b = behind lines r.lines left are r.are.texts (sym r.is ∙ read) in
      by b.more b.is b.text
    where
      by : (more : List Line) → r.lines ≡ lines ++ more → left ≡ lines_text more → (l : Line) × IsFitLine from below (last_of None lines) text l
      by [] e f = absurd (some (next ∙ ap (take_through 10) f))
      by (l ∷ ms) e f =
          let has : HasText l = all_at HasText lines l ms (subst (All HasText) e r.are.texts) in
          let within = all_at (λ l. IsFrom from l.place × IsBelow below l.place) lines l ms (subst (All (λ l. IsFrom from l.place × IsBelow below l.place)) e r.within) in (
            l,
            record {
              is = record { place = has.place; detail = has.detail; is = next ∙ ap (take_through 10) f ∙ line_is_first l (lines_text ms) has };
              at = record { order = order_at None lines l ms (subst (AreInOrder None) e r.are.order); from_is = within.0; below_is = within.1 };
            },
          )
