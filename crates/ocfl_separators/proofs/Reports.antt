-- What the lines that were read say of all bytes of a reader.
use Rattle.std.proofs.Common.{◌≡◌, ◌≢◌, ℕ, ◌+◌, ◌≤◌, List, [], ◌∷◌, ◌++◌, Option, Some, None, IfSome, length, All, refl, sym, ap, subst, ◌∙◌, append_assoc, append-nil, arith}
use Rattle.std.proofs.lemmas.Bool.{ne_eqb}
use Rattle.std.proofs.lemmas.List.Elements.{All-append, All-cons, All-head, All-tail}
use Rattle.std.proofs.lemmas.List.Concat.{flat_map-append}
use Rattle.std.specs.{Prelude.{cond}, Io.BufRead.{take_through}, Io.KnownBytes.{Consumes, IsAtEnd}}
use Rattle.ocfl_tree.specs.Place.{Text, Place}
use Rattle.ocfl_report.specs.Line.{Line}
use Rattle.ocfl_report.specs.Text.{code_text, place_text, escape, line_text, lines_text, IsLineText}
use Rattle.ocfl_report.proofs.{Bytes.{utf8_bytes}, Escapes.{escape_printable}}
use Rattle.ocfl_report.proofs.{CodeTexts.{code_text_printable}, LineTexts.{no_line_feed}}
use Rattle.ocfl_report.proofs.PlaceTexts.{place_text_printable}
use Rattle.ocfl_separators.specs.Parts.{max_separators}
use Rattle.ocfl_separators.specs.Splits.{HasText, AreInOrder, AreLines, cuts, IsSplit}
use Rattle.ocfl_separators.specs.SplitStop.{SplitStopsRightly}
use Rattle.ocfl_separators.specs.Internal.Cutting.{IsCutSoFar, TakesNot, StopsAtEnd}
use Rattle.ocfl_separators.specs.{declared.costs.ItemCost.{ItemCost}, declared.splitting.SplitStop.{SplitStop}}
use Rattle.ocfl_separators.specs.declared.splitting.SplitStop.TheVariants.{Line as BadLine, Many, Read, Memory}

-- ---- the first line of some bytes

-- up to the first line feed
first_line_is : (front rest : Text) → All (λ b. b ≢ 10) front → take_through 10 (front ++ 10 ∷ rest) ≡ front ++ 10 ∷ []
first_line_is [] rest h = refl
first_line_is (x ∷ front) rest h =
    ap (λ z. cond z (x ∷ []) (x ∷ take_through 10 (front ++ 10 ∷ rest))) (ne_eqb x 10 (All-head (λ b. b ≢ 10) x front h))
    ∙ ap (λ t. x ∷ t) (first_line_is front rest (All-tail (λ b. b ≢ 10) x front h))

-- a line's text without its line feed
abbrev fields : Line → Text
fields l = code_text l.code ++ 9 ∷ place_text l.place ++ 9 ∷ escape l.detail

fields_one_line : (l : Line) → HasText l → All (λ b. b ≢ 10) (fields l)
fields_one_line l h =
    let P : ℕ → Type 0 = λ b. b ≢ 10 in
    let tab : 9 ≢ 10 = λ e. omega (arith, e) in
    let code = no_line_feed (code_text l.code) (code_text_printable l.code) in
    let place = All-cons P 9 (place_text l.place) tab (no_line_feed (place_text l.place) (place_text_printable l.place h.place)) in
    let detail = All-cons P 9 (escape l.detail) tab (no_line_feed (escape l.detail) (escape_printable l.detail (utf8_bytes l.detail h.detail))) in
    All-append P (code_text l.code ++ 9 ∷ place_text l.place) (9 ∷ escape l.detail) (All-append P (code_text l.code) (9 ∷ place_text l.place) code place) detail

-- if bytes begin with the text of a line, that is their first line
pub line_is_first : (l : Line) (after : Text) → HasText l → take_through 10 (line_text l ++ after) ≡ line_text l
line_is_first l after h = ap (take_through 10) (append_assoc (fields l) (10 ∷ []) after) ∙ first_line_is (fields l) after (fields_one_line l h)

-- ---- what was read

pub none_read : (known : Option Text) → Consumes known known []
none_read None = tt
none_read (Some b) = refl

lines_text-push : (ls : List Line) (l : Line) → lines_text (ls ++ l ∷ []) ≡ lines_text ls ++ line_text l
lines_text-push ls l = flat_map-append line_text ls (l ∷ []) ∙ ap (λ t. lines_text ls ++ t) (append-nil (line_text l))

-- one more line was read
pub more_read : (known left next : Option Text) (done : List Line) (l : Line) (text bytes : Text) → Consumes known left (lines_text done)
    → Consumes left next text → bytes ≡ text → IsLineText bytes l → Consumes known next (lines_text (done ++ l ∷ []))
more_read None left next done l text bytes h k e it = tt
more_read (Some b) None next done l text bytes h k e it = absurd h
more_read (Some b) (Some c) None done l text bytes h k e it = absurd k
more_read (Some b) (Some c) (Some d) done l text bytes h k e it =
    h ∙ ap (λ t. lines_text done ++ t) k ∙ sym (append_assoc (lines_text done) text d) ∙ ap (λ t. t ++ d) (ap (λ t. lines_text done ++ t) (sym e ∙ it.is) ∙ sym (lines_text-push done l))

-- ---- what it says of all bytes

are_lines : (b : ℕ) (done : List Line) (ps : List Place) (s : ℕ) (item : Option ItemCost) → IsCutSoFar b done ps s item → (AreInOrder None (done ++ []) → AreLines done)
are_lines b done ps s item h order = record { texts = h.texts; order = subst (AreInOrder None) (append-nil done) order }

module _ (b : ℕ) (done : List Line) (ps : List Place) (s : ℕ) (item : Option ItemCost) (h : IsCutSoFar b done ps s item) where
  lines : AreLines done
  lines = are_lines b done ps s item h ((h.order []).0 tt)

  pub split_read : (known left : Option Text) (qs : List Place) → Consumes known left (lines_text done) → IsAtEnd left → (qs ≡ cuts b done)
      × (length qs ≤ max_separators) → IfSome known (λ bytes. IsSplit b bytes qs)
  split_read None left qs read end is = tt
  split_read (Some k) None qs read end is = absurd read
  split_read (Some k) (Some rest) qs read end is = record { lines = done; are = lines; is = read ∙ ap (λ t. lines_text done ++ t) end ∙ append-nil (lines_text done); cuts = is.0; few = is.1 }

  pub end_read : (known left : Option Text) (stop : SplitStop) → Consumes known left (lines_text done) → StopsAtEnd b done stop → IfSome known (λ bytes. SplitStopsRightly b bytes stop)
  end_read None left stop read h = tt
  end_read (Some k) None stop read h = absurd read
  end_read (Some k) (Some rest) (BadLine n) read h = absurd h
  end_read (Some k) (Some rest) Many read h = record { before = done; rest = rest; are = lines; is = read; many = h }
  end_read (Some k) (Some rest) Read read h = tt
  end_read (Some k) (Some rest) Memory read h = tt

  -- a line that was not taken
  pub line_read : (known left : Option Text) (number : ℕ) (text bytes : Text) (stop : SplitStop) → Consumes known left (lines_text done)
      → number ≡ length done + 1 → IfSome left (λ xs. text ≡ take_through 10 xs) → text ≢ [] → bytes ≡ text
      → TakesNot b done number bytes stop → IfSome known (λ xs. SplitStopsRightly b xs stop)
  line_read None left number text bytes stop read count line some e h = tt
  line_read (Some k) None number text bytes stop read count line some e h = absurd read
  line_read (Some k) (Some rest) number text bytes (BadLine n) read count line some e h = record {
    before = done;
    rest = rest;
    are = lines;
    is = read;
    more = λ f. some (line ∙ ap (take_through 10) f);
    number = h.0 ∙ count;
    bad = λ l after are f.
        let has : HasText l = last_has l are.texts in
        h.1 l (record { place = has.place; detail = has.detail; is = e ∙ line ∙ ap (take_through 10) f ∙ line_is_first l after has }) are.order;
  }
    where
      last_of : (l : Line) (ls : List Line) → All HasText (ls ++ l ∷ []) → HasText l
      last_of l [] a = All-head HasText l [] a
      last_of l (m ∷ ls) a = last_of l ls (All-tail HasText m (ls ++ l ∷ []) a)

      last_has : (l : Line) → All HasText (done ++ l ∷ []) → HasText l
      last_has l a = last_of l done a
  line_read (Some k) (Some rest) number text bytes Many read count line some e h = record { before = done; rest = rest; are = lines; is = read; many = h }
  line_read (Some k) (Some rest) number text bytes Read read count line some e h = tt
  line_read (Some k) (Some rest) number text bytes Memory read count line some e h = tt
