-- The lines of a report while it is compared, with one line more, and with a finding that is new.
use Rattle.std.proofs.Common.{◌≡◌, ℕ, ◌+◌, ◌<◌, List, [], ◌∷◌, ◌++◌, All, Bool, true, false, Some, None, map, cond, length, get_or, take, drop, arith, refl, sym, ap, subst, ◌∙◌, append_assoc, append-nil}
use Rattle.std.specs.{Prelude.{◌||◌, filter, not, slice_set}, List.{list_any}, Option.{option_to_list}}
use Rattle.std.proofs.lemmas.List.{drop-set-lt, drop_more, length-append, map-append, map_more, take_more_set}
use Rattle.std.proofs.lemmas.List.Elements.{All-cons, All-head, All-nil, All-tail, filter-append}
use Rattle.ocfl_report.specs.Line.{Line, is_finding_code, line_of}
use Rattle.ocfl_messages.specs.{Finding.{Finding, Section, ended_after, ended_with, first_section, section_after, section_with}, Gathering.{IsGathered}, Tally.{IsCount}}
use Rattle.ocfl_messages.specs.declared.gathering.Gathering.{Gathering}
use Rattle.ocfl_messages.proofs.Placing.{ended_joined, section_joined}
use Rattle.ocfl_words.specs.Held.{Agrees, Held, Marked, Marks, all_of, held_new, held_noted, lines_in, lines_of, marked_by, marked_of, marks_named, marks_of_all, marks_with, put_line, settled, unmarked, waits_at}
use Rattle.ocfl_words.specs.{Counted.{is_new_finding}, News.{findings_in, is_among}, Noted.{Noted}, declared.marked.Waiting.{Waiting}}

pub lines_append : (ms ns : List Marked) → lines_of (ms ++ ns) ≡ lines_of ms ++ lines_of ns
lines_append ms ns = map-append (λ (m : Marked). m.line) ms ns

pub all_first : {X : Type 0} (P : X → Type 0) (xs ys : List X) → All P (xs ++ ys) → All P xs
all_first P [] ys h = All-nil P
all_first P (x ∷ xs) ys h = All-cons P x xs (All-head P x (xs ++ ys) h) (all_first P xs ys (All-tail P x (xs ++ ys) h))

pub all_then : {X : Type 0} (P : X → Type 0) (xs ys : List X) → All P (xs ++ ys) → All P ys
all_then P [] ys h = h
all_then P (x ∷ xs) ys h = all_then P xs ys (All-tail P x (xs ++ ys) h)

-- ---- what is among lines, and of what they say

pub any_mapped : {X Y : Type 0} (f : X → Y) (test : Y → Bool) (xs : List X) → list_any (λ x. test (f x)) xs ≡ list_any test (map f xs)
any_mapped f test [] = refl
any_mapped f test (x ∷ xs) = ap (λ b. test (f x) || b) (any_mapped f test xs)

-- ---- which lines there are

put_lines : (s w : List Marked) (l : Line) → all_of (put_line (record { settled = s; waiting = w }) l) ≡ (s ++ w) ++ unmarked l ∷ []
put_lines s [] l = by (is_finding_code l.code)
  where
    u : List Marked
    u = unmarked l ∷ []

    by : (b : Bool) → all_of (cond (not b) (record { settled = s ++ u; waiting = [] }) (record { settled = s; waiting = u })) ≡ (s ++ []) ++ u
    by true = ap (λ ms. ms ++ u) (sym (append-nil s))
    by false = append-nil (s ++ u) ∙ ap (λ ms. ms ++ u) (sym (append-nil s))
put_lines s (w ∷ ws) l = sym (append_assoc s (w ∷ ws) (unmarked l ∷ []))

pub all_with : (m : Marks) (l : Line) → all_of (marks_with m l) ≡ all_of m ++ unmarked l ∷ []
all_with m l = by (waits_at m.waiting l.place)
  where
    by : (b : Bool) → all_of (put_line (cond b m (settled m)) l) ≡ all_of m ++ unmarked l ∷ []
    by true = put_lines m.settled m.waiting l
    by false = put_lines (all_of m) [] l ∙ ap (λ ms. ms ++ unmarked l ∷ []) (append-nil (all_of m))

pub lines_with : (m : Marks) (l : Line) → lines_in (marks_with m l) ≡ lines_in m ++ l ∷ []
lines_with m l = ap lines_of (all_with m l) ∙ lines_append (all_of m) (unmarked l ∷ [])

same_lines : (l : Line) (ms : List Marked) → lines_of (map (marked_by l) ms) ≡ lines_of ms
same_lines l [] = refl
same_lines l (m ∷ ms) = ap (λ ls. m.line ∷ ls) (same_lines l ms)

pub lines_named : (m : Marks) (l : Line) → lines_in (marks_named m l) ≡ lines_in m
lines_named m l = lines_append m.settled (map (marked_by l) m.waiting) ∙ ap (λ ls. lines_of m.settled ++ ls) (same_lines l m.waiting) ∙ sym (lines_append m.settled m.waiting)

pub lines_of_all : (m : Marks) (ls : List Line) → lines_in (marks_of_all m ls) ≡ lines_in m
lines_of_all m [] = refl
lines_of_all m (l ∷ ls) = lines_of_all (marks_named m l) ls ∙ lines_named m l

-- ---- how many of them are findings

pub findings_one : (ls : List Line) (l : Line) → findings_in (ls ++ l ∷ []) ≡ findings_in ls + cond (is_finding_code l.code) 1 0
findings_one ls l =
    ap length (filter-append (λ (m : Line). is_finding_code m.code) ls (l ∷ []))
    ∙ length-append (filter (λ (m : Line). is_finding_code m.code) ls) (filter (λ (m : Line). is_finding_code m.code) (l ∷ []))
    ∙ ap (λ k. findings_in ls + k) (by (is_finding_code l.code))
  where
    by : (b : Bool) → length (cond b (l ∷ []) []) ≡ cond b 1 0
    by true = refl
    by false = refl

pub one_counts : (b : Bool) (n : ℕ) → n ≡ cond b 1 0 → IsCount n (cond b 1 0)
one_counts true n e = e
one_counts false n e = e

-- ---- findings that are new

pub none_new : (before : List Line) (h : Held) → held_new before h [] ≡ h
none_new before h = λ i. record { marks = h.marks; again = same i }
  where
    same : h.again + 0 ≡ h.again
    same = omega arith

pub not_new : (before : List Line) (h : Held) (n : Noted) → is_new_finding n ≡ false → held_noted before h n ≡ h
not_new before h n e = ap (λ b. held_new before h (cond b (option_to_list n.line) [])) e ∙ none_new before h

pub one_new : (before : List Line) (h : Held) (n : Noted) (l : Line) → is_new_finding n ≡ true → n.line ≡ Some l → held_noted before h n ≡ held_new before h (l ∷ [])
one_new before h n l e f = (λ i. held_new before h (cond (e i) (option_to_list (f i)) []))

pub unsaid_one : (before : List Line) (h : Held) (l : Line) → is_among before l ≡ false → held_new before h (l ∷ []) ≡ record { marks = marks_named h.marks l; again = h.again + 0 }
unsaid_one before h l e = λ i. record { marks = marks_of_all h.marks (cond (not (e i)) (l ∷ []) []); again = h.again + length (cond (e i) (l ∷ []) []) }

-- ---- gathering them

-- more lines behind those that are gathered
pub gathered_on : (says : Line → Bool) (g : Gathering) (ms ns : List Marked)
    → IsGathered says g (ended_after (first_section None) (lines_of ms) ++ ended_after (section_after (first_section None) (lines_of ms)) (lines_of ns))
    (section_after (section_after (first_section None) (lines_of ms)) (lines_of ns))
    → IsGathered says g (ended_after (first_section None) (lines_of (ms ++ ns))) (section_after (first_section None) (lines_of (ms ++ ns)))
gathered_on says g ms ns h =
    let first = first_section None in
    subst (λ ls. IsGathered says g (ended_after first ls) (section_after first ls)) (sym (lines_append ms ns))
    (subst (λ fs. IsGathered says g fs (section_after first (lines_of ms ++ lines_of ns))) (sym (ended_joined first (lines_of ms) (lines_of ns)))
    (subst (λ s. IsGathered says g (ended_after first (lines_of ms) ++ ended_after (section_after first (lines_of ms)) (lines_of ns)) s) (sym (section_joined first (lines_of ms) (lines_of ns))) h))

lines_more : (ws : List Waiting) (w : Waiting) → lines_of (map marked_of (ws ++ w ∷ [])) ≡ lines_of (map marked_of ws) ++ line_of w.line ∷ []
lines_more ws w = ap lines_of (map-append marked_of ws (w ∷ [])) ∙ lines_append (map marked_of ws) (marked_of w ∷ [])

-- one line more
pub gathered_more : (says : Line → Bool) (g : Gathering) (fs : List Finding) (s : Section) (ws : List Waiting) (w : Waiting)
    → IsGathered says g ((fs ++ ended_after s (lines_of (map marked_of ws))) ++ ended_with (section_after s (lines_of (map marked_of ws))) (line_of w.line))
    (section_with (section_after s (lines_of (map marked_of ws))) (line_of w.line))
    → IsGathered says g (fs ++ ended_after s (lines_of (map marked_of (ws ++ w ∷ [])))) (section_after s (lines_of (map marked_of (ws ++ w ∷ []))))
gathered_more says g fs s ws w h =
    let ls = lines_of (map marked_of ws) in
    let l = line_of w.line in
    let ended : (fs ++ ended_after s ls) ++ ended_with (section_after s ls) l ≡ fs ++ ended_after s (ls ++ l ∷ []) =
    append_assoc fs (ended_after s ls) (ended_with (section_after s ls) l)
    ∙ ap (λ gs. fs ++ gs) (ap (λ gs. ended_after s ls ++ gs) (sym (append-nil (ended_with (section_after s ls) l))) ∙ sym (ended_joined s ls (l ∷ []))) in
    subst (λ ms. IsGathered says g (fs ++ ended_after s ms) (section_after s ms)) (sym (lines_more ws w))
    (subst (λ gs. IsGathered says g gs (section_after s (ls ++ l ∷ []))) ended
    (subst (λ t. IsGathered says g ((fs ++ ended_after s ls) ++ ended_with (section_after s ls) l) t) (sym (section_joined s ls (l ∷ []))) h))

pub all_more : (says : Line → Bool) (ws : List Waiting) (w : Waiting) → All (Agrees says) (map marked_of (ws ++ w ∷ [])) → All (Agrees says) (map marked_of ws) × (says (line_of w.line) ≡ w.is_said)
all_more says ws w h =
    let both = subst (All (Agrees says)) (map-append marked_of ws (w ∷ [])) h in
    (all_first (Agrees says) (map marked_of ws) (marked_of w ∷ []) both, All-head (Agrees says) (marked_of w) [] (all_then (Agrees says) (map marked_of ws) (marked_of w ∷ []) both))

-- ---- elements that are changed one after the other

module _ {X Y : Type 0} (f : X → Y) (g : Y → Y) (xs ys : List X) (i : ℕ) (old new : X) (l : i < length xs) (is : old ≡ get_or xs i old) (now : f new ≡ g (f old))
    (done : map f (take i xs) ≡ map g (map f (take i ys))) (rest : drop i xs ≡ drop i ys) (same : length xs ≡ length ys) where
  lt : i < length ys
  lt = omega (arith, l, same)

  both : get_or xs i old ∷ drop (i + 1) xs ≡ get_or ys i old ∷ drop (i + 1) ys
  both = sym (drop_more xs i old l) ∙ rest ∙ drop_more ys i old lt

  first : get_or ys i old ≡ old
  first = sym (ap (λ zs. get_or zs 0 old) both) ∙ sym is

  pub rest_more : drop (i + 1) (slice_set xs i new) ≡ drop (i + 1) ys
  rest_more = drop-set-lt (i + 1) xs i new (omega arith) ∙ ap (drop 1) both

  pub done_more : map f (take (i + 1) (slice_set xs i new)) ≡ map g (map f (take (i + 1) ys))
  done_more =
      let before = map f (take i ys) in
      let there : map f (take (i + 1) ys) ≡ before ++ f old ∷ [] = map_more f ys i old lt ∙ ap (λ z. before ++ f z ∷ []) first in
      ap (map f) (take_more_set xs i new l) ∙ map-append f (take i xs) (new ∷ []) ∙ ap (λ zs. zs ++ f new ∷ []) done
      ∙ ap (λ z. map g before ++ z ∷ []) now ∙ sym (map-append g before (f old ∷ [])) ∙ ap (map g) (sym there)
