-- What the lines that were read say of a report.
use Rattle.std.proofs.Common.{◌≡◌, ◌≢◌, inl, inr, ℕ, ◌+◌, List, [], ◌∷◌, ◌++◌, true, false, Option, Some, None, IfSome, length, All, refl, sym, ap, subst, ◌∙◌, append-nil, length-append}
use Rattle.std.proofs.lemmas.List.Elements.{All-append, All-cons, All-nil, All-head, All-tail}
use Rattle.std.specs.{Io.BufRead.{take_through}, Io.KnownBytes.{Consumes, IsAtEnd}}
use Rattle.std.specs.{Ordering.{is_gt, is_lt}, declared.cmp.Ordering.{Ordering}}
use Rattle.std.specs.declared.cmp.Ordering.TheVariants.{Less, Equal, Greater}
use Rattle.ocfl_tree.specs.Place.{Text, Place, place_cmp}
use Rattle.ocfl_tree.proofs.Orders.{place_cmp_total, true_not_false, not_less_itself, below_from_greater}
use Rattle.ocfl_report.specs.{Line.{Line, line_of}, Text.{lines_text, IsLineText}}
use Rattle.ocfl_report.specs.declared.line.Line.{Line as MadeLine}
use Rattle.ocfl_separators.specs.Splits.{HasText, IsNotLess, AreInOrder, AreLines, IsBadReportLine}
use Rattle.ocfl_report.proofs.LineTexts.{line_text_read}
use Rattle.ocfl_separators.proofs.Reports.{line_is_first, more_read}
use Rattle.ocfl_compare.specs.Internal.Reading.{listed, IsReading, HasRead, GoesOn, last_place, is_after, IsUnfit, IsNextLine, IsOpen, IsNextPlace, ReadStopsRightly}
use Rattle.ocfl_compare.specs.declared.reading.ReadStop.{ReadStop}
use Rattle.ocfl_compare.specs.declared.reading.ReadStop.TheVariants.{Line as BadLine, Failed, Output, Memory}

-- ---- order

-- the place of the last line, or the one before all
abbrev end_of : Option Place → List Line → Option Place
end_of last [] = last
end_of last (l ∷ ls) = end_of (Some l.place) ls

order_more : (last : Option Place) (ls : List Line) (l : Line) → AreInOrder last ls → IsNotLess (end_of last ls) l.place → AreInOrder last (ls ++ l ∷ [])
order_more last [] l h k = (k, tt)
order_more last (m ∷ ls) l h k = (h.0, order_more (Some m.place) ls l h.1 k)

order_last : (last : Option Place) (ls : List Line) (l : Line) → AreInOrder last (ls ++ l ∷ []) → IsNotLess (end_of last ls) l.place
order_last last [] l h = h.0
order_last last (m ∷ ls) l h = order_last (Some m.place) ls l h.1

end_more : (last : Option Place) (ls : List Line) (l : Line) → end_of last (ls ++ l ∷ []) ≡ Some l.place
end_more last [] l = refl
end_more last (m ∷ ls) l = end_more (Some m.place) ls l

end_is : (done : List Line) (next : Option MadeLine) → IsOpen done next → end_of None (done ++ listed next) ≡ last_place next
end_is done None h = ap (λ ls. end_of None (ls ++ [])) (h refl)
end_is done (Some l) h = end_more None done (line_of l)

goes_on : (next : Option MadeLine) (m : MadeLine) → GoesOn next (Some m) → IsNotLess (last_place next) m.place
goes_on None m h = tt
goes_on (Some l) m h = h

last_has : (ls : List Line) (l : Line) → All HasText (ls ++ l ∷ []) → HasText l
last_has [] l h = All-head HasText l [] h
last_has (m ∷ ls) l h = last_has ls l (All-tail HasText m (ls ++ l ∷ []) h)

-- ---- one more line

module _ (all left after : Option Text) (done : List Line) (next : Option MadeLine) (count : ℕ) (opened : IsOpen done next) (h : IsReading all left done next count) where
  line_more : (m : MadeLine) (k : ℕ) (text bytes : Text) → Consumes left after text → bytes ≡ text → IsLineText bytes (line_of m) → GoesOn next (Some m) → k ≡ count + 1
      → IsReading all after (done ++ listed next) (Some m) k
  line_more m k text bytes c e it g f = record {
    lines = record {
      texts = All-append HasText (done ++ listed next) (line_of m ∷ []) h.lines.texts (All-cons HasText (line_of m) [] (record { place = it.place; detail = it.detail }) (All-nil HasText));
      order = order_more None (done ++ listed next) (line_of m) h.lines.order (subst (λ p. IsNotLess p m.place) (sym (end_is done next opened)) (goes_on next m g));
    };
    read = more_read all left after (done ++ listed next) (line_of m) text bytes h.read c e it;
    counted = f ∙ ap (λ x. x + 1) h.counted ∙ sym (length-append (done ++ listed next) (line_of m ∷ []));
  }

  pub read_more : (later : Option MadeLine) (k : ℕ) (text bytes : Text) → Consumes left after text → bytes ≡ text → IsNextLine bytes later × (GoesOn next later × (k ≡ count + 1))
      → HasRead all after (done ++ listed next) later k
  read_more None k text bytes c e it = absurd it.0
  read_more (Some m) k text bytes c e it = record { reading = line_more m k text bytes c e it.0 it.1.0 it.1.1; end = λ z. cc }

  pub line_refused : (n : ℕ) (text bytes : Text) → IfSome left (λ xs. text ≡ take_through 10 xs) → text ≢ [] → bytes ≡ text → n ≡ count + 1 → IsUnfit bytes next → IfSome all (λ b. IsBadReportLine b n)
  line_refused n text bytes line some e f unfit = by all left h.read line
    where
      by : (known rest : Option Text) → Consumes known rest (lines_text (done ++ listed next)) → IfSome rest (λ xs. text ≡ take_through 10 xs) → IfSome known (λ b. IsBadReportLine b n)
      by None rest c l = tt
      by (Some b) None c l = absurd c
      by (Some b) (Some rest) c l = record {
        before = done ++ listed next;
        rest = rest;
        are = h.lines;
        is = c;
        more = λ g. some (l ∙ ap (take_through 10) g);
        number = f ∙ ap (λ x. x + 1) h.counted;
        bad = λ m more are g.
            let has : HasText m = last_has (done ++ listed next) m are.texts in
            unfit m (record { place = has.place; detail = has.detail; is = e ∙ l ∙ ap (take_through 10) g ∙ line_is_first m more has })
            (subst (λ p. IsNotLess p m.place) (end_is done next opened) (order_last None (done ++ listed next) m are.order));
      }

-- ---- the end

none_left : (all left after : Option Text) (t : Text) → Consumes all left t → Consumes left after [] → Consumes all after t
none_left None left after t h k = tt
none_left (Some b) None after t h k = absurd h
none_left (Some b) (Some c) None t h k = absurd k
none_left (Some b) (Some c) (Some d) t h k = h ∙ ap (λ x. t ++ x) k

halted : (all left after : Option Text) (t text : Text) → Consumes all left t → IsAtEnd left → Consumes left after text → text ≡ [] → IfSome all (λ b. IsAtEnd after)
halted None left after t text h end c e = tt
halted (Some b) None after t text h end c e = absurd h
halted (Some b) (Some r) None t text h end c e = absurd c
halted (Some b) (Some r) (Some d) t text h end c e = sym (c ∙ ap (λ x. x ++ d) e) ∙ end

pub read_end : (all left after : Option Text) (done : List Line) (next : Option MadeLine) (count : ℕ) (text : Text) → IsReading all left done next count → IsAtEnd left → Consumes left after text → text ≡ []
    → HasRead all after (done ++ listed next) None count
read_end all left after done next count text h end c e =
    let whole = append-nil (done ++ listed next) in
    record {
      reading = record {
        lines = subst AreLines (sym whole) h.lines;
        read = subst (λ ls. Consumes all after (lines_text ls)) (sym whole) (none_left all left after (lines_text (done ++ listed next)) h.read (subst (Consumes left after) e c));
        counted = h.counted ∙ ap length (sym whole);
      };
      end = λ z. halted all left after (lines_text (done ++ listed next)) text h.read end c e;
    }

-- ---- no line

pub stop_read : (all left : Option Text) (done : List Line) (next : Option MadeLine) (count : ℕ) (text bytes : Text) (stop : ReadStop) → IsOpen done next → IsReading all left done next count
    → IfSome left (λ xs. text ≡ take_through 10 xs) → text ≢ [] → bytes ≡ text → ((n : ℕ) → stop ≡ BadLine n → (n ≡ count + 1) × IsUnfit bytes next) → IfSome all (λ b. ReadStopsRightly b stop)
stop_read None left done next count text bytes stop o h line some e bad = tt
stop_read (Some b) left done next count text bytes (BadLine n) o h line some e bad =
    line_refused (Some b) left left done next count o h n text bytes line some e (bad n refl).0 (bad n refl).1
stop_read (Some b) left done next count text bytes Failed o h line some e bad = tt
stop_read (Some b) left done next count text bytes Output o h line some e bad = tt
stop_read (Some b) left done next count text bytes Memory o h line some e bad = tt

-- ---- as the code tests it

not_gt : (r : Ordering) → is_gt r ≡ false → r ≢ Greater
not_gt Less e = λ f. cc
not_gt Equal e = λ f. cc
not_gt Greater e = cc

gt_is : (r : Ordering) → is_gt r ≡ true → r ≡ Greater
gt_is Less e = cc
gt_is Equal e = cc
gt_is Greater e = refl

pub not_after : (last : Option MadeLine) (l : MadeLine) → is_after last l.place ≡ false → GoesOn last (Some l)
not_after None l e = tt
not_after (Some m) l e = not_gt (place_cmp m.place l.place) e

pub after_unfit : (last : Option MadeLine) (p : Place) → is_after last p ≡ true → IsNotLess (last_place last) p → ⊥
after_unfit None p e h = cc
after_unfit (Some m) p e h = h (gt_is (place_cmp m.place p) e)

-- a line that is less than the last one does not follow it
pub above_unfit : (text : Text) (last : Option MadeLine) (l : MadeLine) → IsLineText text (line_of l) → is_after last l.place ≡ true → IsUnfit text last
above_unfit text last l it e = λ m is less. after_unfit last l.place e (subst (λ k. IsNotLess (last_place last) k.place) (line_text_read text m (line_of l) is it) less)

-- ---- the lesser of two places

pub not_greater : (p q : Place) → is_lt (place_cmp q p) ≡ false → place_cmp p q ≢ Greater
not_greater p q h e = true_not_false (sym (ap is_lt (below_from_greater place_cmp_total p q e)) ∙ h)

pub same_not_greater : (p : Place) → place_cmp p p ≢ Greater
same_not_greater p = not_greater p p (not_less_itself place_cmp_total p)

pub only_now : (b n : Option MadeLine) (l : MadeLine) → b ≡ None → n ≡ Some l → IsNextPlace (Some l.place) b n
only_now b n l e f = subst (λ x. IsNextPlace (Some l.place) x n) (sym e) (subst (λ x. IsNextPlace (Some l.place) None x) (sym f) (inr refl, (tt, same_not_greater l.place)))

pub only_before : (b n : Option MadeLine) (l : MadeLine) → b ≡ Some l → n ≡ None → IsNextPlace (Some l.place) b n
only_before b n l e f = subst (λ x. IsNextPlace (Some l.place) x n) (sym e) (subst (λ x. IsNextPlace (Some l.place) (Some l) x) (sym f) (inl refl, (same_not_greater l.place, tt)))

pub same_number : (k n : ℕ) → BadLine k ≡ BadLine n → n ≡ k
same_number k n e = cc
