-- Bytes that are sifted, step by step.
use Rattle.std.proofs.Common.{◌≡◌, ◌≢◌, ℕ, ◌+◌, ◌<◌, List, [], ◌∷◌, ◌++◌, All, Bool, true, false, cond, Option, Some, None, length, refl, ap, sym, subst, ◌∙◌, append_assoc, length-append, arith}
use Rattle.std.proofs.{lemmas.Bool.{false≢true}, lemmas.List.{append-nil}, lemmas.List.Concat.{flat_map-append}}
use Rattle.std.proofs.lemmas.List.Elements.{All-append, All-cons, All-head, All-nil, All-tail, filter-append}
use Rattle.std.specs.{Prelude.{◌&&◌, is_none, not}, List.{filter}}
use Rattle.ocfl_tree.specs.{Name.{IsPlace}, Place.{Place, Text}}
use Rattle.ocfl_tree.proofs.Places.{begins-itself}
use Rattle.ocfl_report.specs.{Line.{Line}, Text.{IsLine, IsLineText, line_text, lines_text}}
use Rattle.ocfl_report.specs.declared.code.Code.TheVariants.{Clean}
use Rattle.ocfl_report.proofs.LineTexts.{IsLine-from_text, lines_text_determines}
use Rattle.ocfl_codes.specs.Kinds.{is_empty, is_head, kind_at}
use Rattle.ocfl_messages.specs.{Finding.{head_after, head_with, is_within, placed_after}, Found.{AreAll, IsAfter}, Gathering.{AreRightIn}, Gravest.{IsOf}, Known.{unknown}, Tally.{IsCount, is_right}}
use Rattle.ocfl_messages.specs.declared.{found.Found.{Found}, finding.Heads.{Heads}, gravest.Gravest.{Gravest}, known.KnownEntry.{KnownEntry}}
use Rattle.ocfl_speaking.specs.Sifting.{AreTaken, Given, IsFor, IsFound, IsOne, IsRightIn, IsSeen, IsSifted, IsTaken, Taken, beginning, broken_end, broken_in, given_behind, given_on, is_passed, line_in, lines_in, texts_in}
use Rattle.ocfl_speaking.specs.Internal.{IsRead, given_whole}
use Rattle.ocfl_speaking.specs.declared.sifting.Sifting.{Sifting}
use Rattle.ocfl_speaking.proofs.HeadLines.{found_head, head_joined, right_heads, right_stays}

-- ---- one more line

pub lines_more : (ts : List Taken) (t : Taken) → lines_in (ts ++ t ∷ []) ≡ lines_in ts ++ line_in t
lines_more ts t = flat_map-append line_in ts (t ∷ []) ∙ ap (λ ls. lines_in ts ++ ls) (append-nil (line_in t))

texts_more : (ts : List Taken) (t : Taken) → texts_in (ts ++ t ∷ []) ≡ texts_in ts ++ t.text
texts_more ts t = flat_map-append (λ (x : Taken). x.text) ts (t ∷ []) ∙ ap (λ s. texts_in ts ++ s) (append-nil t.text)

broken_more : (ts : List Taken) (t : Taken) → broken_in (ts ++ t ∷ []) ≡ broken_in ts + broken_in (t ∷ [])
broken_more ts t = ap length (filter-append (λ (x : Taken). is_none x.line) ts (t ∷ [])) ∙ length-append (filter (λ (x : Taken). is_none x.line) ts) (filter (λ (x : Taken). is_none x.line) (t ∷ []))

taken_more : (head : Option Place) (ts : List Taken) (t : Taken) → AreTaken head ts → IsTaken (head_after head (lines_in ts)) t → AreTaken head (ts ++ t ∷ [])
taken_more head [] t are one = (one, tt)
taken_more head (s ∷ ts) t are one =
    (are.0, taken_more (head_after head (line_in s)) ts t are.1 (subst (λ h. IsTaken h t) (head_joined head (line_in s) (lines_in ts)) one))

bytes_more : (b : Text) (ts : List Taken) (t : Taken) → b ≡ texts_in ts → b ++ t.text ≡ texts_in (ts ++ t ∷ [])
bytes_more b ts t e = ap (λ x. x ++ t.text) e ∙ sym (texts_more ts t)

-- ---- lines of right files are taken

abbrev right_line : Place → Line
right_line o = record { code = Clean; place = o; detail = [] }

stands_in : (o : Place) → IsPlace o → IsRightIn (Some o) (right_line o)
stands_in o h = record { line = record { place = h; detail = All-nil (λ b. b < 256) }; right = refl; within = begins-itself o }

-- for a line that is passed any of a right file stands
pub stand_in : (seen head : Option Place) (t : Text) → IsSeen seen head → is_passed seen t ≡ true → (l : Line) × (IsRightIn seen l × IsRightIn head l)
stand_in None head t k e = absurd (false≢true e)
stand_in (Some o) head t k e =
    let r = stands_in o k.0 in
    (right_line o, (r, subst (λ h. IsRightIn h (right_line o)) (sym k.2) r))

pub passed : (es : List KnownEntry) (old new : Sifting) (g : Given) (t : Text) (h : IsSifted es old g) → old.rest.items ≡ [] → IsOne t
    → is_passed (head_after g.seen (lines_in h.lines)) t ≡ true → ((m : ℕ) → IsCount old.right m → IsCount new.right (m + 1))
    → new.found ≡ old.found → new.rest ≡ old.rest → new.within ≡ old.within → new.broken ≡ old.broken → IsSifted es new (given_on g t)
passed es old new g t h none one e adds found rest within broken =
    let seen = head_after g.seen (lines_in h.lines) in
    let head = head_after g.head h.before in
    let s = stand_in seen head t h.object e in
    let l = s.0 in
    let T : Taken = record { text = t; line = Some l } in
    let more = lines_more h.lines T in
    let same_seen : head_after g.seen (lines_in (h.lines ++ T ∷ [])) ≡ seen = ap (head_after g.seen) more ∙ head_joined g.seen (lines_in h.lines) (l ∷ []) ∙ right_stays seen l s.1.0.right in
    let empty : new.rest.items ≡ [] = ap (λ r. r.items) rest ∙ none in
    let whole : g.bytes ≡ texts_in h.lines = h.bytes ∙ ap (λ x. texts_in h.lines ++ x) none ∙ append-nil (texts_in h.lines) in
    record {
      lines = h.lines ++ T ∷ [];
      are = taken_more g.seen h.lines T h.are (record { one = one; for = subst (λ b. IsFor seen b t (Some l)) (sym e) s.1.0 });
      bytes = bytes_more g.bytes h.lines T whole ∙ sym (append-nil (texts_in (h.lines ++ T ∷ []))) ∙ ap (λ x. texts_in (h.lines ++ T ∷ []) ++ x) (sym empty);
      unended = subst (All (λ c. c ≢ 10)) (sym empty) (All-nil (λ c. c ≢ 10));
      broken = subst (λ n. IsCount new.broken (g.broken + n)) (sym (broken_more h.lines T ∙ omega arith)) (subst (λ n. IsCount n (g.broken + broken_in h.lines)) (sym broken) h.broken);
      before = h.before;
      behind = h.behind ++ l ∷ [];
      parts = more ∙ ap (λ ls. ls ++ l ∷ []) h.parts ∙ append_assoc h.before h.behind (l ∷ []);
      reports = subst (All IsLine) (append_assoc h.before h.behind (l ∷ [])) (All-append IsLine (h.before ++ h.behind) (l ∷ []) h.reports (All-cons IsLine l [] s.1.0.line (All-nil IsLine)));
      right = subst (IsCount new.right) (sym (length-append h.behind (l ∷ []))) (adds (length h.behind) h.right);
      are_right = record {
        right = All-append (λ m. is_right m ≡ true) h.behind (l ∷ []) h.are_right.right (All-cons (λ m. is_right m ≡ true) l [] s.1.1.right (All-nil (λ m. is_right m ≡ true)));
        within = All-append (λ m. is_within head m.place ≡ true) h.behind (l ∷ []) h.are_right.within
            (All-cons (λ m. is_within head m.place ≡ true) l [] s.1.1.within (All-nil (λ m. is_within head m.place ≡ true)));
      };
      found = subst (λ f. IsAfter es g.head f (lines_text h.before)) (sym found) h.found;
      whole = ap (λ f. f.rest.items) found ∙ h.whole;
      within = ap (λ w. w.items) within ∙ h.within ∙ ap beginning (sym same_seen);
      object = subst (λ o. IsSeen o head) (sym same_seen) h.object;
    }

-- ---- the right files are among the findings

pub settled : (es : List KnownEntry) (old new : Sifting) (g : Given) (h : IsSifted es old g) → old.rest.items ≡ []
    → ((head : Option Place) (b : Text) (ls : List Line) → IsCount old.right (length ls) → All IsLine ls → AreRightIn old.found.gathering.heads.last ls → old.found.rest.items ≡ []
    → IsAfter es head old.found b → IsAfter es head new.found (b ++ lines_text ls))
    → new.found.rest ≡ old.found.rest → new.right ≡ 0 → new.rest ≡ old.rest → new.within ≡ old.within → new.broken ≡ old.broken → IsRead es new g
settled es old new g h none takes whole right rest within broken =
    let reports : All IsLine (lines_in h.lines) = subst (All IsLine) (sym h.parts) h.reports in
    let before : All IsLine h.before = All-front IsLine h.before h.behind h.reports in
    let behind : All IsLine h.behind = All-back IsLine h.before h.behind h.reports in
    let heads = found_head es g.head old.found h.before h.found h.whole before in
    let found = takes g.head (lines_text h.before) h.behind h.right behind (subst (λ o. AreRightIn o h.behind) (sym heads) h.are_right) h.whole h.found in
    let text : lines_text h.before ++ lines_text h.behind ≡ lines_text (lines_in h.lines) = sym (ap lines_text h.parts ∙ flat_map-append line_text h.before h.behind) in
    let head : head_after g.head (lines_in h.lines) ≡ head_after g.head h.before = ap (head_after g.head) h.parts ∙ head_joined g.head h.before h.behind ∙ right_heads (head_after g.head h.before) h.behind h.are_right.right in
    record {
      lines = h.lines;
      are = h.are;
      bytes = h.bytes ∙ ap (λ x. texts_in h.lines ++ x) none ∙ append-nil (texts_in h.lines);
      broken = subst (λ n. IsCount n (g.broken + broken_in h.lines)) (sym broken) h.broken;
      reports = reports;
      found = subst (IsAfter es g.head new.found) text found;
      whole = ap (λ r. r.items) whole ∙ h.whole;
      right = right;
      rest = ap (λ r. r.items) rest ∙ none;
      within = ap (λ w. w.items) within ∙ h.within;
      object = subst (IsSeen (head_after g.seen (lines_in h.lines))) (sym head) h.object;
    }
  where
    All-front : {A : Type 0} (P : A → Type 0) (xs ys : List A) → All P (xs ++ ys) → All P xs
    All-front P [] ys h = All-nil P
    All-front P (x ∷ xs) ys h = All-cons P x xs (All-head P x (xs ++ ys) h) (All-front P xs ys (All-tail P x (xs ++ ys) h))

    All-back : {A : Type 0} (P : A → Type 0) (xs ys : List A) → All P (xs ++ ys) → All P ys
    All-back P [] ys h = h
    All-back P (x ∷ xs) ys h = All-back P xs ys (All-tail P x (xs ++ ys) h)

-- what is read is sifted
pub sifted : (es : List KnownEntry) (s : Sifting) (g : Given) → IsRead es s g → IsSifted es s g
sifted es s g r =
    let ls = lines_in r.lines in
    record {
      lines = r.lines;
      are = r.are;
      bytes = r.bytes ∙ sym (append-nil (texts_in r.lines)) ∙ ap (λ x. texts_in r.lines ++ x) (sym r.rest);
      unended = subst (All (λ c. c ≢ 10)) (sym r.rest) (All-nil (λ c. c ≢ 10));
      broken = r.broken;
      before = ls;
      behind = [];
      parts = sym (append-nil ls);
      reports = subst (All IsLine) (sym (append-nil ls)) r.reports;
      right = r.right;
      are_right = record { right = All-nil (λ m. is_right m ≡ true); within = All-nil (λ m. is_within (head_after g.head ls) m.place ≡ true) };
      found = r.found;
      whole = r.whole;
      within = r.within;
      object = r.object;
    }

-- ---- a line is read

pub broke : (es : List KnownEntry) (old new : Sifting) (g : Given) (t : Text) (r : IsRead es old g) → IsOne t → is_passed (head_after g.seen (lines_in r.lines)) t ≡ false
    → ((l : Line) → IsLineText t l → ⊥) → ((m : ℕ) → IsCount old.broken m → IsCount new.broken (m + 1))
    → new.found ≡ old.found → new.rest ≡ old.rest → new.within ≡ old.within → new.right ≡ old.right → IsRead es new (given_on g t)
broke es old new g t r one e refused adds found rest within right =
    let seen = head_after g.seen (lines_in r.lines) in
    let T : Taken = record { text = t; line = None } in
    let same : lines_in (r.lines ++ T ∷ []) ≡ lines_in r.lines = lines_more r.lines T ∙ append-nil (lines_in r.lines) in
    let count : g.broken + broken_in (r.lines ++ T ∷ []) ≡ (g.broken + broken_in r.lines) + 1 = ap (λ n. g.broken + n) (broken_more r.lines T) ∙ omega arith in
    record {
      lines = r.lines ++ T ∷ [];
      are = taken_more g.seen r.lines T r.are (record { one = one; for = subst (λ b. IsFor seen b t None) (sym e) refused });
      bytes = bytes_more g.bytes r.lines T r.bytes;
      broken = subst (IsCount new.broken) (sym count) (adds (g.broken + broken_in r.lines) r.broken);
      reports = subst (All IsLine) (sym same) r.reports;
      found = subst (λ f. IsAfter es g.head f (lines_text (lines_in (r.lines ++ T ∷ [])))) (sym found) (subst (λ ls. IsAfter es g.head old.found (lines_text ls)) (sym same) r.found);
      whole = ap (λ f. f.rest.items) found ∙ r.whole;
      right = right ∙ r.right;
      rest = ap (λ x. x.items) rest ∙ r.rest;
      within = ap (λ w. w.items) within ∙ r.within ∙ ap (λ ls. beginning (head_after g.seen ls)) (sym same);
      object = subst (λ ls. IsSeen (head_after g.seen ls) (head_after g.head ls)) (sym same) r.object;
    }

some_place : (p : Place) → not (is_empty p) ≡ true → p ≢ []
some_place [] e f = false≢true e
some_place (n ∷ p) e f = cc

-- the head of a line is seen, and is the last one
seen_with : (seen head : Option Place) (l : Line) → IsPlace l.place → IsSeen seen head → IsSeen (head_with seen l) (head_with head l)
seen_with seen head l h k = by (not (is_empty l.place)) (is_head (kind_at l.code l.place) l.detail) refl
  where
    by : (a b : Bool) → not (is_empty l.place) ≡ a → IsSeen (cond (a && b) (Some l.place) seen) (cond (a && b) (Some l.place) head)
    by true true e = (h, some_place l.place e, refl)
    by true false e = k
    by false b e = k

pub kept : (es : List KnownEntry) (old new : Sifting) (mid : Found) (g : Given) (t : Text) (l : Line) (r : IsRead es old g) → mid ≡ old.found → IsOne t → IsLineText t l
    → is_passed (head_after g.seen (lines_in r.lines)) t ≡ false
    → ((head : Option Place) (b : Text) → IsLine l → mid.rest.items ≡ [] → IsAfter es head mid b → IsAfter es head new.found (b ++ line_text l))
    → ((seen : Option Place) → old.within.items ≡ beginning seen → new.within.items ≡ beginning (head_with seen l))
    → new.found.rest ≡ mid.rest → new.rest ≡ old.rest → new.broken ≡ old.broken → new.right ≡ old.right → IsRead es new (given_on g t)
kept es old new mid g t l r same one is e takes notes whole rest broken right =
    let ls = lines_in r.lines in
    let seen = head_after g.seen ls in
    let T : Taken = record { text = t; line = Some l } in
    let more : lines_in (r.lines ++ T ∷ []) ≡ ls ++ l ∷ [] = lines_more r.lines T in
    let line : IsLine l = IsLine-from_text t l is in
    let none : mid.rest.items ≡ [] = ap (λ f. f.rest.items) same ∙ r.whole in
    let count : g.broken + broken_in (r.lines ++ T ∷ []) ≡ g.broken + broken_in r.lines = ap (λ n. g.broken + n) (broken_more r.lines T) ∙ omega arith in
    let joined : (o : Option Place) → head_after o (lines_in (r.lines ++ T ∷ [])) ≡ head_with (head_after o ls) l = λ o. ap (head_after o) more ∙ head_joined o ls (l ∷ []) in
    let text : lines_text ls ++ line_text l ≡ lines_text (lines_in (r.lines ++ T ∷ [])) =
    sym (ap lines_text more ∙ flat_map-append line_text ls (l ∷ []) ∙ ap (λ x. lines_text ls ++ x) (append-nil (line_text l))) in
    record {
      lines = r.lines ++ T ∷ [];
      are = taken_more g.seen r.lines T r.are (record { one = one; for = subst (λ b. IsFor seen b t (Some l)) (sym e) is });
      bytes = bytes_more g.bytes r.lines T r.bytes;
      broken = subst (IsCount new.broken) (sym count) (subst (λ n. IsCount n (g.broken + broken_in r.lines)) (sym broken) r.broken);
      reports = subst (All IsLine) (sym more) (All-append IsLine ls (l ∷ []) r.reports (All-cons IsLine l [] line (All-nil IsLine)));
      found = subst (IsAfter es g.head new.found) text (takes g.head (lines_text ls) line none (subst (λ f. IsAfter es g.head f (lines_text ls)) (sym same) r.found));
      whole = ap (λ x. x.items) whole ∙ none;
      right = right ∙ r.right;
      rest = ap (λ x. x.items) rest ∙ r.rest;
      within = notes seen r.within ∙ ap beginning (sym (joined g.seen));
      object = subst (λ o. IsSeen o (head_after g.head (lines_in (r.lines ++ T ∷ [])))) (sym (joined g.seen))
          (subst (IsSeen (head_with seen l)) (sym (joined g.head)) (seen_with seen (head_after g.head ls) l line.place r.object));
    }

-- ---- beginnings of lines

abbrev pub bytes_are : Given → Text → Given
bytes_are g b = record { head = g.head; seen = g.seen; bytes = b; broken = g.broken }

-- another beginning of a line, behind the same lines
other_rest : (es : List KnownEntry) (old new : Sifting) (g : Given) (b : Text) (h : IsSifted es old g) → b ≡ texts_in h.lines ++ new.rest.items → All (λ c. c ≢ 10) new.rest.items
    → new.found ≡ old.found → new.within ≡ old.within → new.broken ≡ old.broken → new.right ≡ old.right → IsSifted es new (bytes_are g b)
other_rest es old new g b h bytes unended found within broken right = record {
  lines = h.lines;
  are = h.are;
  bytes = bytes;
  unended = unended;
  broken = subst (λ n. IsCount n (g.broken + broken_in h.lines)) (sym broken) h.broken;
  before = h.before;
  behind = h.behind;
  parts = h.parts;
  reports = h.reports;
  right = subst (λ n. IsCount n (length h.behind)) (sym right) h.right;
  are_right = h.are_right;
  found = subst (λ f. IsAfter es g.head f (lines_text h.before)) (sym found) h.found;
  whole = ap (λ f. f.rest.items) found ∙ h.whole;
  within = ap (λ w. w.items) within ∙ h.within;
  object = h.object;
}

pub rest_kept : (es : List KnownEntry) (old new : Sifting) (g : Given) (more : Text) (h : IsSifted es old g) → All (λ c. c ≢ 10) more → new.rest.items ≡ old.rest.items ++ more
    → new.found ≡ old.found → new.within ≡ old.within → new.broken ≡ old.broken → new.right ≡ old.right → IsSifted es new (given_on g more)
rest_kept es old new g more h unended e =
    other_rest es old new g (g.bytes ++ more) h (ap (λ b. b ++ more) h.bytes ∙ append_assoc (texts_in h.lines) old.rest.items more ∙ ap (λ b. texts_in h.lines ++ b) (sym e))
    (subst (All (λ c. c ≢ 10)) (sym e) (All-append (λ c. c ≢ 10) old.rest.items more h.unended unended))

-- the end of a line: without the beginning that was kept, and with all of it
pub line_ended : (es : List KnownEntry) (old cut taken new : Sifting) (g : Given) (part text : Text) (h : IsSifted es old g) → All (λ c. c ≢ 10) part → text ≡ (old.rest.items ++ part) ++ 10 ∷ []
    → cut.rest.items ≡ [] → cut.found ≡ old.found → cut.within ≡ old.within → cut.broken ≡ old.broken → cut.right ≡ old.right
    → ((k : Given) → IsOne text → IsSifted es cut k → IsSifted es taken (given_on k text)) → taken.rest.items ≡ [] → new.rest.items ≡ []
    → new.found ≡ taken.found → new.within ≡ taken.within → new.broken ≡ taken.broken → new.right ≡ taken.right
    → IsSifted es new (given_on g (part ++ 10 ∷ []))
line_ended es old cut taken new g part text h none e empty f1 w1 b1 r1 takes taken_empty new_empty f2 w2 b2 r2 =
    let rest = old.rest.items in
    let B = texts_in h.lines in
    let one : IsOne text = record { before = rest ++ part; is = e; one = All-append (λ c. c ≢ 10) rest part h.unended none } in
    let begun : IsSifted es cut (bytes_are g B) = other_rest es old cut g B h (sym (append-nil B) ∙ ap (λ x. B ++ x) (sym empty)) (subst (All (λ c. c ≢ 10)) (sym empty) (All-nil (λ c. c ≢ 10))) f1 w1 b1 r1 in
    let done : IsSifted es taken (bytes_are g (B ++ text)) = takes (bytes_are g B) one begun in
    let ended : IsSifted es new (bytes_are g (B ++ text)) = other_rest es taken new (bytes_are g (B ++ text)) (B ++ text) done (done.bytes ∙ ap (λ x. texts_in done.lines ++ x) (taken_empty ∙ sym new_empty))
    (subst (All (λ c. c ≢ 10)) (sym new_empty) (All-nil (λ c. c ≢ 10))) f2 w2 b2 r2 in
    let bytes : B ++ text ≡ g.bytes ++ (part ++ 10 ∷ []) =
    ap (λ x. B ++ x) (e ∙ append_assoc rest part (10 ∷ [])) ∙ sym (append_assoc B rest (part ++ 10 ∷ [])) ∙ ap (λ x. x ++ (part ++ 10 ∷ [])) (sym h.bytes) in
    subst (λ b. IsSifted es new (bytes_are g b)) bytes ended

-- ---- what was found is asked for

pub cut_off : (es : List KnownEntry) (old new : Sifting) (g : Given) (h : IsSifted es old g) → new.rest.items ≡ [] → ((m : ℕ) → IsCount old.broken m → IsCount new.broken (m + broken_end old.rest.items))
    → new.found ≡ old.found → new.within ≡ old.within → new.right ≡ old.right → IsSifted es new (given_whole g h.lines old.rest.items)
cut_off es old new g h empty adds found within right =
    let B = texts_in h.lines in
    let count : (g.broken + broken_in h.lines) + broken_end old.rest.items ≡ (g.broken + broken_end old.rest.items) + broken_in h.lines = omega arith in
    record {
      lines = h.lines;
      are = h.are;
      bytes = sym (append-nil B) ∙ ap (λ x. B ++ x) (sym empty);
      unended = subst (All (λ c. c ≢ 10)) (sym empty) (All-nil (λ c. c ≢ 10));
      broken = subst (IsCount new.broken) count (adds (g.broken + broken_in h.lines) h.broken);
      before = h.before;
      behind = h.behind;
      parts = h.parts;
      reports = h.reports;
      right = subst (λ n. IsCount n (length h.behind)) (sym right) h.right;
      are_right = h.are_right;
      found = subst (λ f. IsAfter es g.head f (lines_text h.before)) (sym found) h.found;
      whole = ap (λ f. f.rest.items) found ∙ h.whole;
      within = ap (λ w. w.items) within ∙ h.within;
      object = h.object;
    }

-- of no bytes, behind a head
pub begun : (es : List KnownEntry) (s : Sifting) (g : Given) → IsAfter es g.head s.found [] → s.rest.items ≡ [] → s.within.items ≡ beginning g.seen → s.right ≡ 0
    → IsCount s.broken g.broken → IsSeen g.seen g.head → g.bytes ≡ [] → IsSifted es s g
begun es s g found rest within right broken object bytes = record {
  lines = [];
  are = tt;
  bytes = bytes ∙ sym rest;
  unended = subst (All (λ c. c ≢ 10)) (sym rest) (All-nil (λ c. c ≢ 10));
  broken = subst (IsCount s.broken) (omega arith) broken;
  before = [];
  behind = [];
  parts = refl;
  reports = All-nil IsLine;
  right = right;
  are_right = record { right = All-nil (λ m. is_right m ≡ true); within = All-nil (λ m. is_within g.head m.place ≡ true) };
  found = found;
  whole = nil_right (lines_text found.lines) s.found.rest.items (sym found.is);
  within = within;
  object = object;
}
  where
    nil_right : {A : Type 0} (xs ys : List A) → xs ++ ys ≡ [] → ys ≡ []
    nil_right [] ys e = e
    nil_right (x ∷ xs) ys e = absurd cc

-- all of it, and what comes next
pub ended : (es : List KnownEntry) (over : Bool) (old mid new : Sifting) (g : Given) (found : Gravest) (behind : Heads) (h : IsSifted es old g) (r : IsRead es mid (given_whole g h.lines old.rest.items))
    → AreAll es over g.head found behind (lines_text (lines_in r.lines)) → IsAfter es behind.last new.found []
    → new.rest ≡ mid.rest → new.within ≡ mid.within → new.right ≡ mid.right → new.broken ≡ mid.broken → IsFound es over g found new
ended es over old mid new g found behind h r a after rest within right broken =
    let ls = lines_in r.lines in
    let same : a.lines ≡ ls = lines_text_determines a.lines ls a.are r.reports (sym a.is) in
    let head : behind.last ≡ head_after g.head ls = a.heads ∙ ap (head_after g.head) same in
    let count : (g.broken + broken_end old.rest.items) + broken_in r.lines ≡ (g.broken + broken_in r.lines) + broken_end old.rest.items = omega arith in
    record {
      lines = r.lines;
      rest = old.rest.items;
      are = record { are = r.are; bytes = h.bytes ∙ ap (λ b. b ++ old.rest.items) r.bytes; unended = h.unended };
      found = subst (λ ms. IsOf found (unknown es (placed_after over g.head ms))) same a.gravest;
      next = begun es new (given_behind g r.lines old.rest.items) (subst (λ o. IsAfter es o new.found []) head after)
          (ap (λ x. x.items) rest ∙ r.rest) (ap (λ x. x.items) within ∙ r.within) (right ∙ r.right)
          (subst (λ n. IsCount n ((g.broken + broken_in r.lines) + broken_end old.rest.items)) (sym broken) (subst (IsCount mid.broken) count r.broken)) r.object refl;
    }

-- ---- pieces

pub cut_on : (done part after bytes left : Text) → bytes ≡ done ++ left → left ≡ part ++ 10 ∷ after → bytes ≡ (done ++ (part ++ 10 ∷ [])) ++ after
cut_on done part after bytes left e f =
    let grouped : (done ++ (part ++ 10 ∷ [])) ++ after ≡ done ++ (part ++ 10 ∷ after) = append_assoc done (part ++ 10 ∷ []) after ∙ ap (λ t. done ++ t) (append_assoc part (10 ∷ []) after) in
    e ∙ ap (λ t. done ++ t) f ∙ sym grouped
