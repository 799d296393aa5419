-- Which findings of a report are to be said, by all that is seen while it is compared.
use Rattle.std.proofs.Common.{◌≡◌, ◌≢◌, ◌+◌, List, [], ◌∷◌, ◌++◌, Bool, true, false, ◌&&◌, ◌||◌, cond, not, length, Option, Some, None, All, map, inl, inr, refl, sym, ap, subst, ◌∙◌, append_assoc, append-nil, length-append, arith}
use Rattle.std.proofs.lemmas.Bool.{false≢true}
use Rattle.std.proofs.lemmas.Grind.{flat_map-append}
use Rattle.std.proofs.lemmas.List.Elements.{All-append, All-cons, All-filter, All-head, All-map, All-nil, All-tail, All-weaker, filter-append, filter_passes}
use Rattle.std.proofs.lemmas.List.Folds.{list_any-append, list_any_none}
use Rattle.std.specs.{Prelude.{flat_map, if◌then◌else◌}, Option.{option_to_list}}
use Rattle.std.specs.declared.cmp.Ordering.TheVariants.{Less}
use Rattle.ocfl_tree.specs.{Place.{Place, place_cmp, place_eq, text_eq}, Ascending.{IsAmong, IsAscending}}
use Rattle.ocfl_tree.proofs.Bools.{and_second}
use Rattle.ocfl_tree.proofs.Orders.{ascends_ascending, before_each, not_below_itself, place_cmp_total}
use Rattle.ocfl_tree.proofs.Places.{place_eq-Decides, text_eq-Decides}
use Rattle.ocfl_report.specs.{Line.{Line, is_finding_code}, Text.{code_text}, declared.code.Code.{Code}}
use Rattle.ocfl_report.proofs.CodeTexts.{code_text_injective}
use Rattle.ocfl_separators.specs.Splits.{AreLines}
use Rattle.ocfl_compare.specs.Changes.{change_at, is_code, is_left, lines_at, places_of}
use Rattle.ocfl_compare.specs.Seen.{Seen, change, line, shown}
use Rattle.ocfl_compare.specs.declared.{change.{Change.{Change}}, side.Side.{Side}, side.Side.TheVariants.{Before, Now}}
use Rattle.ocfl_compare.specs.declared.change.Change.TheVariants.{Gone, Undeclared, FileGone, Unlooked, Found, Repaired, Missing, Rewritten, WentBack, NewVersion}
use Rattle.ocfl_messages.specs.{Finding.{Finding, placed_after}, Gathering.{said as said_by}, Gravest.{IsOf}, Tally.{IsCount, IsTally}}
use Rattle.ocfl_messages.specs.declared.known.KnownEntry.{KnownEntry}
use Rattle.ocfl_words.specs.declared.findings.Findings.{Findings}
use Rattle.ocfl_words.specs.Held.{Agrees, HasFound, Held, Marked, Marks, all_of, held_after, held_new, held_noted, held_with, lines_in, lines_of as lines_marked, marked_by, marks_named, marks_of_all, marks_with, none_held, put_line, settled, unmarked, waits_at}
use Rattle.ocfl_words.specs.{Kept.{Kept, kept_seen, kept_with, none_kept, noted_from}, News.{AreNews, again_in, findings_in, is_among, is_same_line, new_line, new_lines, unsaid_in}}
use Rattle.ocfl_words.specs.Noted.{Noted, first_at, is_finding_at, is_known_in, noted_in}
use Rattle.ocfl_words.proofs.Marking.{all_first, all_then, all_with, lines_append, lines_of_all, none_new}
use Rattle.ocfl_closed.specs.Internal.Takes.{is_seen_within, within}
use Rattle.ocfl_closed.proofs.ByPlaces.{all_lines_by_places}
use Rattle.ocfl_closed.proofs.NotedIn.{all_compared, block, kept_lines, kept_of, lines_of, noted_at, noted_block, said_in}

-- ---- how many were said before

again_append : (before ls ms : List Line) → length (again_in before (ls ++ ms)) ≡ length (again_in before ls) + length (again_in before ms)
again_append before ls ms = ap length (filter-append (is_among before) ls ms) ∙ length-append (again_in before ls) (again_in before ms)

pub again_after : (known : List KnownEntry) (before : List Line) (k : Kept) (h : Held) (seen : List Seen)
    → (held_after known before k h seen).again ≡ h.again + length (again_in before (new_lines (noted_from known k seen)))
again_after known before k h [] = omega arith
again_after known before k h (line Before l ∷ seen) = again_after known before (kept_seen k Before l) h seen
again_after known before k h (line Now l ∷ seen) = again_after known before (kept_seen k Now l) (held_with h l) seen
again_after known before k h (change c ∷ seen) =
    let n = noted_in known k.before k.now c in
    let rest = new_lines (noted_from known k seen) in
    let both = again_append before (new_line n) rest in
    let last = again_after known before k (held_noted before h n) seen in
    omega (arith, both, last)

-- ---- several findings that are new

new_append : (before : List Line) (h : Held) (ls ms : List Line) → held_new before (held_new before h ls) ms ≡ held_new before h (ls ++ ms)
new_append before h ls ms = λ i. record { marks = marks i; again = again i }
  where
    all_marks : (m : Marks) (xs ys : List Line) → marks_of_all (marks_of_all m xs) ys ≡ marks_of_all m (xs ++ ys)
    all_marks m [] ys = refl
    all_marks m (x ∷ xs) ys = all_marks (marks_named m x) xs ys

    marks : marks_of_all (marks_of_all h.marks (unsaid_in before ls)) (unsaid_in before ms) ≡ marks_of_all h.marks (unsaid_in before (ls ++ ms))
    marks = all_marks h.marks (unsaid_in before ls) (unsaid_in before ms) ∙ ap (marks_of_all h.marks) (sym (filter-append (λ l. not (is_among before l)) ls ms))

    again : (h.again + length (again_in before ls)) + length (again_in before ms) ≡ h.again + length (again_in before (ls ++ ms))
    again = let both = again_append before ls ms in omega (arith, both)

-- ---- along what is seen

abbrev held_lines : Held → List Line → Held
held_lines h [] = h
held_lines h (l ∷ ls) = held_lines (held_with h l) ls

held_before : (known : List KnownEntry) (before : List Line) (b n : List Line) (h : Held) (ls : List Line) (rest : List Seen)
    → held_after known before (kept_of b n) h (lines_of Before ls ++ rest) ≡ held_after known before (kept_of (kept_lines b ls) n) h rest
held_before known before b n h [] rest = refl
held_before known before b n h (l ∷ ls) rest = held_before known before (kept_with b l) n h ls rest

held_now : (known : List KnownEntry) (before : List Line) (b n : List Line) (h : Held) (ls : List Line) (rest : List Seen)
    → held_after known before (kept_of b n) h (lines_of Now ls ++ rest) ≡ held_after known before (kept_of b (kept_lines n ls)) (held_lines h ls) rest
held_now known before b n h [] rest = refl
held_now known before b n h (l ∷ ls) rest = held_now known before b (kept_with n l) (held_with h l) ls rest

held_shown : (known : List KnownEntry) (before : List Line) (b n : List Line) (p : Place) (h : Held) (cs : List Change) (rest : List Seen)
    → held_after known before (kept_of b n) h (shown p cs ++ rest) ≡ held_after known before (kept_of b n) (held_new before h (new_lines (noted_at known b n p cs))) rest
held_shown known before b n p h [] rest = ap (λ g. held_after known before (kept_of b n) g rest) (sym (none_new before h))
held_shown known before b n p h (c ∷ cs) rest =
    let one = noted_in known b n (change_at p c) in
    held_shown known before b n p (held_noted before h one) cs rest
    ∙ ap (λ g. held_after known before (kept_of b n) g rest) (new_append before h (new_line one) (new_lines (noted_at known b n p cs)))

-- ---- lines at a place

abbrev IsAt : Place → Line → Type 0
IsAt p l = p ≡ l.place

abbrev IsApart : Place → Line → Type 0
IsApart p l = p ≢ l.place

-- a finding there
abbrev IsFindingAt : Place → Line → Type 0
IsFindingAt p l = (p ≡ l.place) × (is_finding_code l.code ≡ true)

-- no finding there
abbrev IsOther : Place → Marked → Type 0
IsOther p m = (l : Line) → IsFindingAt p l → is_same_line m.line l ≡ false

same_place : (l m : Line) → is_same_line l m ≡ true → l.place ≡ m.place
same_place l m e = (place_eq-Decides l.place m.place).0 (left e)
  where
    left : (place_eq l.place m.place && (is_code l.code m.code && text_eq l.detail m.detail)) ≡ true → place_eq l.place m.place ≡ true
    left = by (place_eq l.place m.place) (is_code l.code m.code && text_eq l.detail m.detail)
      where
        by : (a b : Bool) → (a && b) ≡ true → a ≡ true
        by true b f = refl
        by false b f = f

same_code : (l m : Line) → is_same_line l m ≡ true → l.code ≡ m.code
same_code l m e = code_text_injective l.code m.code ((text_eq-Decides (code_text l.code) (code_text m.code)).0 (first (is_code l.code m.code) (text_eq l.detail m.detail) (and_second (place_eq l.place m.place) _ e)))
  where
    first : (a b : Bool) → (a && b) ≡ true → a ≡ true
    first true b f = refl
    first false b f = f

not_same : (l m : Line) → (is_same_line l m ≡ true → ⊥) → is_same_line l m ≡ false
not_same l m h = by (is_same_line l m) h
  where
    by : (b : Bool) → (b ≡ true → ⊥) → b ≡ false
    by true f = absurd (f refl)
    by false f = refl

apart_other : (p : Place) (m : Marked) → IsApart p m.line → IsOther p m
apart_other p m apart l at = not_same m.line l (λ e. apart (at.0 ∙ sym (same_place m.line l e)))

clean_other : (p : Place) (m : Marked) → is_finding_code m.line.code ≡ false → IsOther p m
clean_other p m clean l at = not_same m.line l (λ e. false≢true (sym clean ∙ ap is_finding_code (same_code m.line l e) ∙ at.1))

none_among : (T : List Line) (l : Line) → All (IsApart l.place) T → is_among T l ≡ false
none_among T l apart = list_any_none (is_same_line l) T (All-weaker (IsApart l.place) (λ m. is_same_line l m ≡ false) (λ m h. not_same l m (λ e. h (same_place l m e))) T apart)

-- ---- the lines of a place, and then its changes

-- none of the settled lines is a finding there, nor of those that wait, unless these are there
pub record IsReady (p : Place) (m : Marks) : Type 0 where
  pub settled : All (IsOther p) m.settled
  pub waiting : waits_at m.waiting p ≡ false → All (IsOther p) m.waiting

all_apart : (p : Place) (ms : List Marked) → All (IsApart p) (lines_marked ms) → All (IsOther p) ms
all_apart p [] h = All-nil (IsOther p)
all_apart p (m ∷ ms) h = All-cons (IsOther p) m ms (apart_other p m (All-head (IsApart p) m.line (lines_marked ms) h)) (all_apart p ms (All-tail (IsApart p) m.line (lines_marked ms) h))

apart_ready : (p : Place) (m : Marks) → All (IsApart p) (lines_in m) → IsReady p m
apart_ready p m h =
    let all = all_apart p (all_of m) h in record {
      settled = all_first (IsOther p) m.settled m.waiting all;
      waiting = λ e. all_then (IsOther p) m.settled m.waiting all;
    }

ready_with : (p : Place) (m : Marks) (l : Line) → p ≡ l.place → IsReady p m → IsReady p (marks_with m l)
ready_with p m l at ready = subst (λ q. IsReady p (put_line (cond (waits_at m.waiting q) m (settled m)) l)) at (by m.waiting (waits_at m.waiting p) refl ready.waiting)
  where
    u : List Marked
    u = unmarked l ∷ []

    one : (s : List Marked) → All (IsOther p) s → (b : Bool) → is_finding_code l.code ≡ b
        → IsReady p (cond (not b) (record { settled = s ++ u; waiting = [] }) (record { settled = s; waiting = u }))
    one s all true e = record { settled = all; waiting = λ f. absurd (false≢true (sym f ∙ (place_eq-Decides l.place p).1 (sym at))) }
    one s all false e = record {
      settled = All-append (IsOther p) s u all (All-cons (IsOther p) (unmarked l) [] (clean_other p (unmarked l) e) (All-nil (IsOther p)));
      waiting = λ f. All-nil (IsOther p);
    }

    more : (w : List Marked) → waits_at w p ≡ true → IsReady p (put_line (record { settled = m.settled; waiting = w }) l)
    more [] e = absurd (false≢true e)
    more (x ∷ xs) e = record { settled = ready.settled; waiting = λ f. absurd (false≢true (sym f ∙ e)) }

    by : (w : List Marked) (b : Bool) → waits_at w p ≡ b → (waits_at w p ≡ false → All (IsOther p) w)
        → IsReady p (put_line (cond b (record { settled = m.settled; waiting = w }) (record { settled = m.settled ++ w; waiting = [] })) l)
    by w true e waiting = more w e
    by w false e waiting = one (m.settled ++ w) (All-append (IsOther p) m.settled w ready.settled (waiting e)) (is_finding_code l.code) refl

ready_lines : (p : Place) (h : Held) (ls : List Line) → All (IsAt p) ls → IsReady p h.marks → IsReady p (held_lines h ls).marks
ready_lines p h [] at ready = ready
ready_lines p h (l ∷ ls) at ready = ready_lines p (held_with h l) ls (All-tail (IsAt p) l ls at) (ready_with p h.marks l (All-head (IsAt p) l ls at) ready)

all_lines : (h : Held) (ls : List Line) → all_of (held_lines h ls).marks ≡ all_of h.marks ++ map unmarked ls
all_lines h [] = sym (append-nil (all_of h.marks))
all_lines h (l ∷ ls) =
    all_lines (held_with h l) ls ∙ ap (λ ms. ms ++ map unmarked ls) (all_with h.marks l) ∙ append_assoc (all_of h.marks) (unmarked l ∷ []) (map unmarked ls)

unmarked_lines : (ls : List Line) → lines_marked (map unmarked ls) ≡ ls
unmarked_lines [] = refl
unmarked_lines (l ∷ ls) = ap (λ ms. l ∷ ms) (unmarked_lines ls)

lines_put : (h : Held) (ls : List Line) → lines_in (held_lines h ls).marks ≡ lines_in h.marks ++ ls
lines_put h ls = ap lines_marked (all_lines h ls) ∙ lines_append (all_of h.marks) (map unmarked ls) ∙ ap (λ ms. lines_in h.marks ++ ms) (unmarked_lines ls)

unmarked_agree : (T ls : List Line) → All (λ l. All (IsApart l.place) T) ls → All (Agrees (is_among T)) (map unmarked ls)
unmarked_agree T ls h = All-map (Agrees (is_among T)) unmarked ls (All-weaker (λ l. All (IsApart l.place) T) (λ l. is_among T l ≡ false) (λ l a. none_among T l a) ls h)

-- one finding of the place more is to be said
among_more : (T : List Line) (l m : Line) → is_among (T ++ l ∷ []) m ≡ (is_among T m || is_same_line m l)
among_more T l m = list_any-append (is_same_line m) T (l ∷ []) ∙ ap (λ b. is_among T m || b) (or_false (is_same_line m l))
  where
    or_false : (b : Bool) → (b || false) ≡ b
    or_false true = refl
    or_false false = refl

settled_agree : (p : Place) (T : List Line) (l : Line) → IsFindingAt p l → (ms : List Marked) → All (IsOther p) ms → All (Agrees (is_among T)) ms → All (Agrees (is_among (T ++ l ∷ []))) ms
settled_agree p T l at [] other agree = All-nil (Agrees (is_among (T ++ l ∷ [])))
settled_agree p T l at (m ∷ ms) other agree =
    All-cons (Agrees (is_among (T ++ l ∷ []))) m ms
    (among_more T l m.line ∙ ap (λ b. is_among T m.line || b) (All-head (IsOther p) m ms other l at) ∙ or_false (is_among T m.line) ∙ All-head (Agrees (is_among T)) m ms agree)
    (settled_agree p T l at ms (All-tail (IsOther p) m ms other) (All-tail (Agrees (is_among T)) m ms agree))
  where
    or_false : (b : Bool) → (b || false) ≡ b
    or_false true = refl
    or_false false = refl

waiting_agree : (T : List Line) (l : Line) (ms : List Marked) → All (Agrees (is_among T)) ms → All (Agrees (is_among (T ++ l ∷ []))) (map (marked_by l) ms)
waiting_agree T l [] agree = All-nil (Agrees (is_among (T ++ l ∷ [])))
waiting_agree T l (m ∷ ms) agree =
    All-cons (Agrees (is_among (T ++ l ∷ []))) (marked_by l m) (map (marked_by l) ms)
    (among_more T l m.line ∙ by (is_among T m.line) (is_same_line m.line l) (All-head (Agrees (is_among T)) m ms agree))
    (waiting_agree T l ms (All-tail (Agrees (is_among T)) m ms agree))
  where
    by : (a b : Bool) → a ≡ m.is_said → (a || b) ≡ cond b true m.is_said
    by true true e = refl
    by true false e = e
    by false true e = refl
    by false false e = e

named_agree : (p : Place) (T ls : List Line) (m : Marks) → All (IsFindingAt p) ls → All (IsOther p) m.settled → All (Agrees (is_among T)) (all_of m)
    → All (Agrees (is_among (T ++ ls))) (all_of (marks_of_all m ls))
named_agree p T [] m at other agree = subst (λ U. All (Agrees (is_among U)) (all_of m)) (sym (append-nil T)) agree
named_agree p T (l ∷ ls) m at other agree =
    let more = T ++ l ∷ [] in
    let first = settled_agree p T l (All-head (IsFindingAt p) l ls at) m.settled other (all_first (Agrees (is_among T)) m.settled m.waiting agree) in
    let last = waiting_agree T l m.waiting (all_then (Agrees (is_among T)) m.settled m.waiting agree) in
    subst (λ U. All (Agrees (is_among U)) (all_of (marks_of_all (marks_named m l) ls))) (append_assoc T (l ∷ []) ls)
    (named_agree p more ls (marks_named m l) (All-tail (IsFindingAt p) l ls at) other (All-append (Agrees (is_among more)) m.settled (map (marked_by l) m.waiting) first last))

-- ---- the findings that are new at a place

first_is_there : (p : Place) (code : Code) (ls : List Line) (l : Line) → first_at p code ls ≡ Some l → IsFindingAt p l
first_is_there p code [] l e = absurd cc
first_is_there p code (m ∷ ls) l e = by (is_finding_at p code m) refl e (first_is_there p code ls l)
  where
    by : (b : Bool) → is_finding_at p code m ≡ b → cond b (Some m) (first_at p code ls) ≡ Some l → (first_at p code ls ≡ Some l → IsFindingAt p l) → IsFindingAt p l
    by false f g rest = rest g
    by true f g rest =
        let same : m ≡ l = cc in
        subst (IsFindingAt p) same (
          (place_eq-Decides p m.place).0 (left (place_eq p m.place) (is_finding_code m.code && is_code code m.code) f),
          left (is_finding_code m.code) (is_code code m.code) (and_second (place_eq p m.place) (is_finding_code m.code && is_code code m.code) f),
        )
      where
        left : (a b : Bool) → (a && b) ≡ true → a ≡ true
        left true b h = refl
        left false b h = h

new_at : (known : List KnownEntry) (b n : List Line) (p : Place) (c : Change) → All (IsFindingAt p) (new_line (noted_in known b n (change_at p c)))
new_at known b n p (Found code) = by (is_known_in known n (change_at p (Found code))) (first_at p code n) refl
  where
    by : (is_known : Bool) (o : Option Line) → first_at p code n ≡ o → All (IsFindingAt p) (cond (not is_known) (option_to_list o) [])
    by true o e = All-nil (IsFindingAt p)
    by false None e = All-nil (IsFindingAt p)
    by false (Some l) e = All-cons (IsFindingAt p) l [] (first_is_there p code n l e) (All-nil (IsFindingAt p))
new_at known b n p Gone = All-nil (IsFindingAt p)
new_at known b n p Undeclared = All-nil (IsFindingAt p)
new_at known b n p FileGone = All-nil (IsFindingAt p)
new_at known b n p Unlooked = All-nil (IsFindingAt p)
new_at known b n p (Repaired code) = All-nil (IsFindingAt p)
new_at known b n p Missing = All-nil (IsFindingAt p)
new_at known b n p Rewritten = All-nil (IsFindingAt p)
new_at known b n p WentBack = All-nil (IsFindingAt p)
new_at known b n p NewVersion = All-nil (IsFindingAt p)

all_new_at : (known : List KnownEntry) (b n : List Line) (p : Place) (cs : List Change) → All (IsFindingAt p) (new_lines (noted_at known b n p cs))
all_new_at known b n p [] = All-nil (IsFindingAt p)
all_new_at known b n p (c ∷ cs) =
    All-append (IsFindingAt p) (new_line (noted_in known b n (change_at p c))) (new_lines (noted_at known b n p cs)) (new_at known b n p c) (all_new_at known b n p cs)

-- ---- place by place

-- these lines are held, and just those are to be said that are among the others
pub record AreSaid (ls T : List Line) (h : Held) : Type 0 where
  pub lines : lines_in h.marks ≡ ls
  pub agree : All (Agrees (is_among T)) (all_of h.marks)

abbrev AreApart : List Place → List Line → Type 0
AreApart ps ls = (q : Place) → IsAmong ps q → All (IsApart q) ls

at_place : (p : Place) (ls : List Line) → All (IsAt p) (lines_at p ls)
at_place p ls = All-weaker (λ (l : Line). place_eq p l.place ≡ true) (IsAt p) (λ l e. (place_eq-Decides p l.place).0 e) (lines_at p ls) (filter_passes (λ (l : Line). place_eq p l.place) ls)

apart_from : (p q : Place) (ls : List Line) → place_cmp p q ≡ Less → All (IsAt p) ls → All (IsApart q) ls
apart_from p q ls less at = All-weaker (IsAt p) (IsApart q) (λ l e f. not_below_itself place_cmp_total p (subst (λ x. place_cmp p x ≡ Less) (f ∙ sym e) less)) ls at

module _ (known : List KnownEntry) (before was is : List Line) (cs : Place → List Change) where
  abbrev sights : List Place → List Seen
  sights ps = flat_map (block cs was is) ps

  abbrev lines_over : List Place → List Line
  lines_over ps = flat_map (λ p. lines_at p is) ps

  said_block : (p : Place) (b n ls T : List Line) (h : Held) → All (IsApart p) ls → All (IsApart p) T → AreSaid ls T h
      → AreSaid (ls ++ lines_at p is) (T ++ unsaid_in before (new_lines (noted_at known b n p (cs p)))) (held_new before (held_lines h (lines_at p is)) (new_lines (noted_at known b n p (cs p))))
  said_block p b n ls T h fresh apart said =
      let own = lines_at p is in
      let next = held_lines h own in
      let new = unsaid_in before (new_lines (noted_at known b n p (cs p))) in
      let news_at = All-filter (λ l. not (is_among before l)) (IsFindingAt p) (new_lines (noted_at known b n p (cs p))) (all_new_at known b n p (cs p)) in
      let ready = ready_lines p h own (at_place p is) (apart_ready p h.marks (subst (All (IsApart p)) (sym said.lines) fresh)) in
      let agree : All (Agrees (is_among T)) (all_of next.marks) =
      subst (All (Agrees (is_among T))) (sym (all_lines h own))
      (All-append (Agrees (is_among T)) (all_of h.marks) (map unmarked own) said.agree
      (unmarked_agree T own (All-weaker (IsAt p) (λ l. All (IsApart l.place) T) (λ l e. subst (λ q. All (IsApart q) T) e apart) own (at_place p is)))) in
      record {
        lines = lines_of_all next.marks new ∙ lines_put h own ∙ ap (λ ms. ms ++ own) said.lines;
        agree = named_agree p T new next.marks news_at ready.settled agree;
      }

  still_apart : (p : Place) (ps : List Place) (ls ms : List Line) → IsAscending place_cmp (p ∷ ps) → All (IsAt p) ms → AreApart (p ∷ ps) ls → AreApart ps (ls ++ ms)
  still_apart p ps ls ms ascends at apart q among = All-append (IsApart q) ls ms (apart q (inr among)) (apart_from p q ms (before_each place_cmp p ps ascends.0 q among) at)

  new_here : (p : Place) (b n : List Line) → All (IsAt p) (unsaid_in before (new_lines (noted_at known b n p (cs p))))
  new_here p b n =
      let ls = new_lines (noted_at known b n p (cs p)) in
      All-weaker (IsFindingAt p) (IsAt p) (λ l h. h.0) (unsaid_in before ls) (All-filter (λ l. not (is_among before l)) (IsFindingAt p) ls (all_new_at known b n p (cs p)))

  pub said_over : (ps : List Place) (b n ls T : List Line) (h : Held) → IsAscending place_cmp ps → AreApart ps ls → AreApart ps T → AreSaid ls T h
      → AreSaid (ls ++ lines_over ps) (T ++ unsaid_in before (new_lines (noted_from known (kept_of b n) (sights ps)))) (held_after known before (kept_of b n) h (sights ps))
  said_over [] b n ls T h ascends fresh apart said = record {
    lines = said.lines ∙ sym (append-nil ls);
    agree = subst (λ U. All (Agrees (is_among U)) (all_of h.marks)) (sym (append-nil T)) said.agree;
  }
  said_over (p ∷ ps) b n ls T h ascends fresh apart said =
      let own = lines_at p is in
      let c = kept_lines b (lines_at p was) in
      let m = kept_lines n own in
      let ns = noted_at known c m p (cs p) in
      let new = unsaid_in before (new_lines ns) in
      let next = held_new before (held_lines h own) (new_lines ns) in
      let rest = noted_from known (kept_of c m) (sights ps) in
      let here = said_block p c m ls T h (fresh p (inl refl)) (apart p (inl refl)) said in
      let all = said_over ps c m (ls ++ own) (T ++ new) next ascends.1
      (still_apart p ps ls own ascends (at_place p is) fresh) (still_apart p ps T new ascends (new_here p c m) apart) here in
      let noted : noted_from known (kept_of b n) (sights (p ∷ ps)) ≡ ns ++ rest = noted_block known cs was is p b n (sights ps) in
      let lines : (ls ++ own) ++ lines_over ps ≡ ls ++ lines_over (p ∷ ps) = append_assoc ls own (lines_over ps) in
      let named : (T ++ new) ++ unsaid_in before (new_lines rest) ≡ T ++ unsaid_in before (new_lines (noted_from known (kept_of b n) (sights (p ∷ ps)))) =
      append_assoc T new (unsaid_in before (new_lines rest))
      ∙ ap (λ ms. T ++ ms) (sym (filter-append (λ l. not (is_among before l)) (new_lines ns) (new_lines rest)) ∙ ap (unsaid_in before) (sym (flat_map-append new_line ns rest)) ∙ ap (λ os. unsaid_in before (new_lines os)) (sym noted)) in
      let held : held_after known before (kept_of b n) h (sights (p ∷ ps)) ≡ held_after known before (kept_of c m) next (sights ps) =
      ap (held_after known before (kept_of b n) h) (append_assoc (lines_of Before (lines_at p was)) (lines_of Now own ++ shown p (cs p)) (sights ps) ∙ ap (λ s. lines_of Before (lines_at p was) ++ s) (append_assoc (lines_of Now own) (shown p (cs p)) (sights ps)))
      ∙ held_before known before b n h (lines_at p was) (lines_of Now own ++ (shown p (cs p) ++ sights ps))
      ∙ held_now known before c n h own (shown p (cs p) ++ sights ps)
      ∙ held_shown known before c m p (held_lines h own) (cs p) (sights ps) in
      subst (λ g. AreSaid (ls ++ lines_over (p ∷ ps)) (T ++ unsaid_in before (new_lines (noted_from known (kept_of b n) (sights (p ∷ ps))))) g) (sym held)
      (subst (λ U. AreSaid (ls ++ lines_over (p ∷ ps)) U (held_after known before (kept_of c m) next (sights ps))) named
      (subst (λ ms. AreSaid ms ((T ++ new) ++ unsaid_in before (new_lines rest)) (held_after known before (kept_of c m) next (sights ps))) lines all))

-- ---- of the changes within some places alone

abbrev cut : List Place → (Place → List Change) → Place → List Change
cut places says p = if is_left places p then says p else []

within_lines : (places : List Place) (side : Side) (ls : List Line) → within places (lines_of side ls) ≡ lines_of side ls
within_lines places side [] = refl
within_lines places side (l ∷ ls) = ap (λ s. line side l ∷ s) (within_lines places side ls)

either_way : (b : Bool) (seen : List Seen) → seen ≡ cond b seen seen
either_way true seen = refl
either_way false seen = refl

within_shown : (places : List Place) (p : Place) (cs : List Change) → within places (shown p cs) ≡ cond (is_left places p) (shown p cs) []
within_shown places p [] = either_way (is_left places p) []
within_shown places p (c ∷ cs) = by (is_left places p) (within_shown places p cs)
  where
    by : (b : Bool) → within places (shown p cs) ≡ cond b (shown p cs) [] → cond b (change (change_at p c) ∷ within places (shown p cs)) (within places (shown p cs)) ≡ cond b (change (change_at p c) ∷ shown p cs) []
    by true e = ap (λ s. change (change_at p c) ∷ s) e
    by false e = e

cut_shown : (places : List Place) (says : Place → List Change) (p : Place) → cond (is_left places p) (shown p (says p)) [] ≡ shown p (cut places says p)
cut_shown places says p = by (is_left places p)
  where
    by : (b : Bool) → cond b (shown p (says p)) [] ≡ shown p (cond b (says p) [])
    by true = refl
    by false = refl

within_block : (places : List Place) (says : Place → List Change) (was is : List Line) (p : Place) → within places (block says was is p) ≡ block (cut places says) was is p
within_block places says was is p =
    let b = lines_of Before (lines_at p was) in
    let n = lines_of Now (lines_at p is) in
    filter-append (is_seen_within places) b (n ++ shown p (says p))
    ∙ (λ i. within_lines places Before (lines_at p was) i ++ filter-append (is_seen_within places) n (shown p (says p)) i)
    ∙ (λ i. b ++ (within_lines places Now (lines_at p is) i ++ (within_shown places p (says p) ∙ cut_shown places says p) i))

within_blocks : (places : List Place) (says : Place → List Change) (was is : List Line) (ps : List Place) → within places (flat_map (block says was is) ps) ≡ flat_map (block (cut places says) was is) ps
within_blocks places says was is [] = refl
within_blocks places says was is (p ∷ ps) =
    filter-append (is_seen_within places) (block says was is p) (flat_map (block says was is) ps) ∙ (λ i. within_block places says was is p i ++ within_blocks places says was is ps i)

-- ---- what is found

abbrev said_among : (Line → Bool) → List Line → List Finding
said_among says ls = said_by says (placed_after true None ls)

found_of : (before : List Line) (ns : List Noted) (now : List Line) (f : Findings) (h : Held) → HasFound f h → AreSaid now (unsaid_in before (new_lines ns)) h
    → h.again ≡ length (again_in before (new_lines ns)) → AreNews before ns now f
found_of before ns now f h found said again =
    let says = is_among (unsaid_in before (new_lines ns)) in
    record {
      gravest = subst (λ ls. IsOf f.gravest (said_among says ls)) said.lines (found.gravest says said.agree);
      again = subst (IsCount f.said) again found.again;
      count = subst (λ ls. IsCount f.count (findings_in ls)) said.lines found.count;
      tally = subst (IsTally f.tally) said.lines found.tally;
    }

pub news_of_none : (before : List Line) (f : Findings) → HasFound f none_held → AreNews before [] [] f
news_of_none before f found = found_of before [] [] f none_held found (record { lines = refl; agree = All-nil (Agrees (is_among [])) }) refl

news_over : (known : List KnownEntry) (before was is : List Line) (says : Place → List Change) (f : Findings) → AreLines is
    → HasFound f (held_after known before none_kept none_held (flat_map (block says was is) (places_of was is)))
    → AreNews before (noted_from known none_kept (flat_map (block says was is) (places_of was is))) is f
news_over known before was is says f are found =
    let ps = places_of was is in
    let seen = flat_map (block says was is) ps in
    let ns = noted_from known none_kept seen in
    let h = held_after known before none_kept none_held seen in
    let said = said_over known before was is says ps [] [] [] [] none_held (ascends_ascending place_cmp_total (map (λ l. l.place) (was ++ is))) (λ q i. All-nil (IsApart q)) (λ q i. All-nil (IsApart q))
    (record { lines = refl; agree = All-nil (Agrees (is_among [])) }) in
    let counts = again_after known before none_kept none_held seen in
    let again : h.again ≡ length (again_in before (new_lines ns)) = omega (arith, counts) in
    found_of before ns is f h found (subst (λ ls. AreSaid ls (unsaid_in before (new_lines ns)) h) (all_lines_by_places was is are) said) again

pub news_compared : (known : List KnownEntry) (before : List Line) (left : List Place) (was is : List Line) (f : Findings) → AreLines is
    → HasFound f (held_after known before none_kept none_held (all_compared left was is)) → AreNews before (noted_from known none_kept (all_compared left was is)) is f
news_compared known before left was is f are found = news_over known before was is (said_in left was is) f are found

pub news_within : (known : List KnownEntry) (before : List Line) (places left : List Place) (was is : List Line) (f : Findings) → AreLines is
    → HasFound f (held_after known before none_kept none_held (within places (all_compared left was is))) → AreNews before (noted_from known none_kept (within places (all_compared left was is))) is f
news_within known before places left was is f are found =
    let same = within_blocks places (said_in left was is) was is (places_of was is) in
    subst (λ seen. AreNews before (noted_from known none_kept seen) is f) (sym same)
    (news_over known before was is (cut places (said_in left was is)) f are (subst (λ seen. HasFound f (held_after known before none_kept none_held seen)) same found))
