-- One more line of a report, and one more report.
use Rattle.std.proofs.Common.{◌≡◌, ◌⊎◌, inl, inr, ℕ, ◌+◌, List, [], ◌∷◌, ◌++◌, length, Bool, true, false, Option, Some, None, refl, sym, ap, subst, ◌∙◌, add-one, append-nil, append_assoc, length-append}
use Rattle.std.specs.Prelude.{flat_map}
use Rattle.std.proofs.lemmas.Grind.{flat_map-append}
use Rattle.std.proofs.lemmas.List.Elements.{All-append, All-cons, All-nil}
use Rattle.ocfl_tree.specs.Place.{Text, Place}
use Rattle.ocfl_report.specs.{Line.{Line}, Text.{line_text, lines_text}}
use Rattle.ocfl_separators.specs.Separators.{start_of_part, end_of_part}
use Rattle.ocfl_separators.specs.Splits.{HasText, IsNotLess, AreInOrder}
use Rattle.ocfl_state.specs.Pieces.{Carries}
use Rattle.ocfl_joining.specs.{Joined.{IsAsClosed, IsFrom, IsBelow, IsReportIn, IsRight}, Missing.{numbers}, Reports.{SameReports, Seen, ReadsLine, with_open, with_left, with_made}, Stops.{AreChanged, unless}}
use Rattle.ocfl_joining.specs.Internal.Copying.{last_of, HasCopied, CopiesLine, AreGiven, AreCopied, IsCopy, AreAllCopied}
use Rattle.ocfl_joining.proofs.{Numbers.{numbers_more, flat_more, all_more}, Stopping.{right_as}}
use Rattle.ocfl_joining.specs.declared.reports.KeptMark.{KeptMark}
use Rattle.ocfl_joining.specs.declared.copying.Copied.{Copied}

order_more : (last : Option Place) (ls : List Line) (l : Line) → AreInOrder last ls → IsNotLess (last_of last ls) l.place → AreInOrder last (ls ++ l ∷ [])
order_more last [] l h k = (k, tt)
order_more last (m ∷ ls) l h k = (h.0, order_more (Some m.place) ls l h.1 k)

last_more : (last : Option Place) (ls : List Line) (l : Line) → last_of last (ls ++ l ∷ []) ≡ Some l.place
last_more last [] l = refl
last_more last (m ∷ ls) l = last_more (Some m.place) ls l

pub text_more : (ls : List Line) (l : Line) → lines_text (ls ++ l ∷ []) ≡ lines_text ls ++ line_text l
text_more ls l = flat_map-append line_text ls (l ∷ []) ∙ ap (λ t. lines_text ls ++ t) (append-nil (line_text l))

module _ (from below : Option Place) (lines : List Line) (text : Text) (old new : Copied) (h : HasCopied from below lines old) (c : CopiesLine from below text old new) where
  abbrev pub more : List Line
  more = lines ++ c.fit.line ∷ []

  pub text_is : lines_text more ≡ lines_text lines ++ text
  text_is = text_more lines c.fit.line ∙ ap (λ t. lines_text lines ++ t) (sym c.fit.fits.is.is)

  pub copied_more : HasCopied from below more new
  copied_more = record {
    are = record {
      texts = All-append HasText lines (c.fit.line ∷ []) h.are.texts (All-cons HasText c.fit.line [] (record { place = c.fit.fits.is.place; detail = c.fit.fits.is.detail }) (All-nil HasText));
      order = order_more None lines c.fit.line h.are.order (subst (λ p. IsNotLess p c.fit.line.place) h.last c.fit.fits.at.order);
    };
    within = All-append (λ l. IsFrom from l.place × IsBelow below l.place) lines (c.fit.line ∷ []) h.within
        (All-cons (λ l. IsFrom from l.place × IsBelow below l.place) c.fit.line [] (c.fit.fits.at.from_is, c.fit.fits.at.below_is) (All-nil (λ l. IsFrom from l.place × IsBelow below l.place)));
    last = c.last ∙ ap Some c.fit.place ∙ sym (last_more None lines c.fit.line);
    count = c.count ∙ ap (λ n. n + length text) h.count ∙ sym (length-append (lines_text lines) text) ∙ ap length (sym text_is);
    digests = subst (Carries new.digests) (sym text_is) (c.digests (lines_text lines) h.digests h.count);
  }

  pub given_more : (first before read given : Seen) (m : Bool) → AreGiven lines first before → ReadsLine m text before read → given ≡ with_made text read → AreGiven more first given
  given_more first before read given m a r g = record {
    read = a.read ∙ ap (λ t. lines_text lines ++ t) r.is ∙ sym (append_assoc (lines_text lines) text read.left) ∙ (λ i. sym text_is i ++ sym (ap (λ s. s.left) g) i);
    rest = g ∙ ap (with_made text) (r.same ∙ ap (with_left read.left) a.rest)
        ∙ (λ i. record {
          bytes = first.bytes;
          marks = first.marks;
          word = first.word;
          opened = first.opened;
          left = sym (ap (λ s. s.left) g) i;
          made = (append_assoc first.made (lines_text lines) text ∙ ap (λ t. first.made ++ t) (sym text_is)) i;
          put = first.put;
          rest = first.rest;
        });
  }

pub none_given : (s : Seen) → AreGiven [] s s
none_given s = record {
  read = refl;
  rest = λ i. record { bytes = s.bytes; marks = s.marks; word = s.word; opened = s.opened; left = s.left; made = sym (append-nil s.made) i; put = s.put; rest = s.rest };
}

-- ---- the end of a report

none_behind : (xs ys : Text) → xs ++ ys ≡ [] → ys ≡ []
none_behind [] ys e = e
none_behind (x ∷ xs) ys e = cc

module _ (lines : List Line) (text : Text) (first before read : Seen) (a : AreGiven lines first before) (r : ReadsLine false text before read) where
  pub none_left : read.left ≡ []
  none_left = none_behind text read.left (sym r.is ∙ r.end refl)

  pub all_given : AreGiven lines first read
  all_given = record {
    read = a.read ∙ ap (λ t. lines_text lines ++ t) (r.end refl ∙ sym none_left);
    rest = r.same ∙ ap (with_left read.left) a.rest;
  }

-- ---- one more report

module _ (separators : List Place) (n : ℕ) (first before after : Seen) (h : AreAllCopied separators n first before) (right : IsRight separators before (n + 1)) (c : IsCopy (n + 1) before after) where
  pub all_copied_more : AreAllCopied separators (n + 1) first after
  all_copied_more = record {
    bytes = c.bytes ∙ h.bytes;
    marks = c.marks ∙ h.marks;
    word = c.word ∙ h.word;
    opened = c.opened ∙ ap (λ ns. ns ++ (n + 1) ∷ []) h.opened ∙ append_assoc first.opened (numbers n) ((n + 1) ∷ []) ∙ ap (λ ns. first.opened ++ ns) (sym (numbers_more n));
    made = c.made ∙ (λ i. h.made i ++ h.bytes i (n + 1)) ∙ append_assoc first.made (flat_map first.bytes (numbers n)) (first.bytes (n + 1)) ∙ ap (λ t. first.made ++ t) (sym (flat_more first.bytes n));
    put = c.put ∙ h.put;
    right = all_more (IsRight separators first) n h.right (same_right (n + 1) right);
  }
    where
      same_right : (k : ℕ) → IsRight separators before k → IsRight separators first k
      same_right k r = record {
        closed = subst (λ f. IsAsClosed (first.marks k) (f k)) h.bytes (subst (λ f. IsAsClosed (f k) (before.bytes k)) h.marks r.closed);
        report = subst (λ f. IsReportIn (start_of_part separators k) (end_of_part separators k) (f k)) h.bytes r.report;
      }

pub none_copied : (separators : List Place) (s : Seen) → AreAllCopied separators 0 s s
none_copied separators s = record {
  bytes = refl;
  marks = refl;
  word = refl;
  opened = sym (append-nil s.opened);
  made = sym (append-nil s.made);
  put = refl;
  right = All-nil (IsRight separators s);
}

-- ---- the parts whose reports are not right

none_if_nil : (right : Bool) (number : ℕ) (xs : List ℕ) → xs ++ unless right number ≡ [] → (right ≡ true) × (xs ≡ [])
none_if_nil true number xs e = (refl, sym (append-nil xs) ∙ e)
none_if_nil false number [] e = cc
none_if_nil false number (x ∷ xs) e = cc

module _ (separators : List Place) (n : ℕ) (first before after : Seen) (right : Bool) (changed more : List ℕ) (same : SameReports first before) (m : more ≡ changed ++ unless right (n + 1)) where
  pub changed_more : (right ≡ true → IsRight separators before (n + 1)) → (right ≡ false → IsRight separators before (n + 1) → ⊥) → AreChanged separators first n changed → AreChanged separators first (n + 1) more
  changed_more right_is right_not h = subst (λ k. AreChanged separators first k more) (sym (add-one n)) (changed, (h, by right m right_is right_not))
    where
      by : (b : Bool) → more ≡ changed ++ unless b (n + 1) → (b ≡ true → IsRight separators before (n + 1)) → (b ≡ false → IsRight separators before (n + 1) → ⊥)
          → (IsRight separators first (n + 1) × (more ≡ changed)) ⊎ ((IsRight separators first (n + 1) → ⊥) × (more ≡ changed ++ (n + 1) ∷ []))
      by true e y x = inl (right_as separators before first same.bytes same.marks (n + 1) (y refl), e ∙ append-nil changed)
      by false e y x = inr (λ is. x refl (right_as separators first before (sym same.bytes) (sym same.marks) (n + 1) is), e)

  -- so far none was changed, and this one is not
  pub copied_if_none : (changed ≡ [] → AreAllCopied separators n first before) → (right ≡ true → IsRight separators before (n + 1)) → (right ≡ true → IsCopy (n + 1) before after)
      → more ≡ [] → AreAllCopied separators (n + 1) first after
  copied_if_none h right_is copied none =
      let k = none_if_nil right (n + 1) changed (sym m ∙ none) in
      all_copied_more separators n first before after (h k.1) (right_is k.0) (copied k.0)

-- ---- the report of a part

module _ (separators : List Place) (number : ℕ) (old opened new : Seen) (mark : KeptMark) (copied : Copied)
    (a : AreCopied (start_of_part separators number) (end_of_part separators number) opened new copied) (o : opened ≡ with_open number old) where
  bytes_are : old.bytes number ≡ lines_text a.lines
  bytes_are = sym (ap (λ s. s.left) o) ∙ a.given.read ∙ ap (λ t. lines_text a.lines ++ t) a.all ∙ append-nil (lines_text a.lines)

  pub part_copied : IsCopy number old new
  part_copied = record {
    bytes = ap (λ s. s.bytes) a.given.rest ∙ ap (λ s. s.bytes) o;
    marks = ap (λ s. s.marks) a.given.rest ∙ ap (λ s. s.marks) o;
    word = ap (λ s. s.word) a.given.rest ∙ ap (λ s. s.word) o;
    opened = ap (λ s. s.opened) a.given.rest ∙ ap (λ s. s.opened) o;
    made = ap (λ s. s.made) a.given.rest ∙ (λ i. (o i).made ++ sym bytes_are i);
    put = ap (λ s. s.put) a.given.rest ∙ ap (λ s. s.put) o;
  }

  pub part_right : mark ≡ old.marks number → ((report : Text) → Carries copied.digests report → IsAsClosed mark report) → IsRight separators old number
  part_right m closed = record {
    closed = subst (λ k. IsAsClosed k (old.bytes number)) m
        (subst (IsAsClosed mark) (sym bytes_are) (closed (lines_text a.lines) a.copied_are.digests));
    report = record { lines = a.lines; are = a.copied_are.are; is = bytes_are; within = a.copied_are.within };
  }

-- a part whose report is not right now was not before others were copied
pub still_wrong : (separators : List Place) (n k : ℕ) (first before : Seen) → AreAllCopied separators n first before → (IsRight separators before k → ⊥) → IsRight separators first k → ⊥
still_wrong separators n k first before h wrong r = wrong (record {
  closed = subst (λ f. IsAsClosed (before.marks k) (f k)) (sym h.bytes) (subst (λ f. IsAsClosed (f k) (first.bytes k)) (sym h.marks) r.closed);
  report = subst (λ f. IsReportIn (start_of_part separators k) (end_of_part separators k) (f k)) (sym h.bytes) r.report;
})
