-- What the lines of one place say together, and its text.
use Rattle.std.proofs.Common.{◌≡◌, ◌≢◌, ◌⊎◌, inl, inr, List, [], ◌∷◌, ◌++◌, ℕ, Bool, true, false, Option, Some, None, All, map, refl, sym, ap, subst, ◌∙◌, append_assoc}
use Rattle.std.proofs.{Math.Bool.{or-false}, lemmas.List.{map-append}, lemmas.List.Folds.{list_any-append}}
use Rattle.std.proofs.lemmas.List.Elements.{All-append, All-cons, All-nil}
use Rattle.std.specs.{Prelude.{cond, ◌||◌, not, flat_map}, List.{list_any}}
use Rattle.std.specs.declared.cmp.Ordering.{Ordering}
use Rattle.std.specs.declared.cmp.Ordering.TheVariants.{Less, Equal, Greater}
use Rattle.ocfl_tree.specs.Place.{Text, Place, place_cmp}
use Rattle.ocfl_tree.proofs.Orders.{place_cmp_exact, place_cmp_total, not_below_itself, below_from_greater}
use Rattle.ocfl_report.specs.{Line.{Line, line_of}, declared.code.Code.{Code}}
use Rattle.ocfl_report.specs.declared.line.Line.{Line as MadeLine}
use Rattle.ocfl_codes.specs.Kinds.{is_empty, tells_object, tells_file, hides}
use Rattle.ocfl_compare.specs.Changes.{has_code, with_code, codes_from, new_codes, stops, when}
use Rattle.ocfl_compare.specs.{Versions.{note_from, with_note}, Seen.{Seen, show_at, shown}}
use Rattle.ocfl_compare.specs.declared.change.Change.{Change}
use Rattle.ocfl_compare.specs.Internal.Reading.{listed, HasRead, IsNotAbove, IsBelow, IsAt, GoesOn}
use Rattle.ocfl_compare.specs.Internal.Summing.{Summarizes, summary_note}
use Rattle.ocfl_compare.specs.Internal.Turns.{AreTaken}
use Rattle.ocfl_compare.specs.declared.summary.Summary.{Summary}

-- ---- one more line

codes_more : (cs : List Code) (ls : List Line) (l : Line) → codes_from cs (ls ++ l ∷ []) ≡ with_code (codes_from cs ls) l.code
codes_more cs [] l = refl
codes_more cs (m ∷ ls) l = codes_more (with_code cs m.code) ls l

note_more : (note : Option Text) (ls : List Line) (l : Line) → note_from note (ls ++ l ∷ []) ≡ with_note (note_from note ls) l
note_more note [] l = refl
note_more note (m ∷ ls) l = note_more (with_note note m) ls l

any_more : (test : Line → Bool) (ls : List Line) (l : Line) → list_any test (ls ++ l ∷ []) ≡ list_any test ls || test l
any_more test ls l = list_any-append test ls (l ∷ []) ∙ ap (λ b. list_any test ls || b) (or-false (test l))

not_empty : (ls : List Line) (l : Line) → false ≡ is_empty (ls ++ l ∷ [])
not_empty [] l = refl
not_empty (m ∷ ls) l = refl

pub summary_more : (summary after : Summary) (own : List Line) (l : Line) → Summarizes summary own → after.absent ≡ false → after.object ≡ summary.object || tells_object l → after.stopped ≡ summary.stopped || stops l → after.file ≡ summary.file || tells_file l
    → after.hidden ≡ summary.hidden || hides l → after.findings.items ≡ with_code summary.findings.items l.code
    → summary_note after ≡ with_note (summary_note summary) l → Summarizes after (own ++ l ∷ [])
summary_more summary after own l h absent object stopped file hidden findings note = record {
  absent = absent ∙ not_empty own l;
  object = object ∙ ap (λ b. b || tells_object l) h.object ∙ sym (any_more tells_object own l);
  stopped = stopped ∙ ap (λ b. b || stops l) h.stopped ∙ sym (any_more stops own l);
  file = file ∙ ap (λ b. b || tells_file l) h.file ∙ sym (any_more tells_file own l);
  hidden = hidden ∙ ap (λ b. b || hides l) h.hidden ∙ sym (any_more hides own l);
  findings = findings ∙ ap (λ cs. with_code cs l.code) h.findings ∙ sym (codes_more [] own l);
  note = note ∙ ap (λ n. with_note n l) h.note ∙ sym (note_more None own l);
}

-- ---- changes, one by one

-- the changes of codes that are not among others, each said so
pub code_changes : (said : Code → Change) (p : Place) (others codes : List Code) → shown p (map said (new_codes others codes)) ≡ flat_map (λ c. shown p (when (not (has_code others c)) (said c))) codes
code_changes said p others [] = refl
code_changes said p others (c ∷ codes) = by (not (has_code others c)) (code_changes said p others codes)
  where
    rest : List Seen
    rest = flat_map (λ d. shown p (when (not (has_code others d)) (said d))) codes

    by : (b : Bool) → shown p (map said (new_codes others codes)) ≡ rest → shown p (map said (cond b (c ∷ new_codes others codes) (new_codes others codes))) ≡ shown p (when b (said c)) ++ rest
    by true e = ap (λ cs. show_at p (said c) ∷ cs) e
    by false e = e

-- five kinds of changes, taken in turn
pub all_taken : {T : Type 0} (Takes : T → List Seen → T → Type 0) (joined : (t u v : T) (first then : List Seen) → Takes t first u → Takes u then v → Takes t (first ++ then) v)
    (p : Place) (a b c d e : List Change) (start one two three four five : T) → Takes start (shown p a) one → Takes one (shown p b) two → Takes two (shown p c) three → Takes three (shown p d) four → Takes four (shown p e) five
    → Takes start (shown p (a ++ (b ++ (c ++ (d ++ e))))) five
all_taken Takes joined p a b c d e start one two three four five f g h i j =
    subst (λ cs. Takes start cs five) (sym (map-append (show_at p) a (b ++ (c ++ (d ++ e))) ∙ ap (λ cs. shown p a ++ cs) (map-append (show_at p) b (c ++ (d ++ e)) ∙ ap (λ cs. shown p b ++ cs) (map-append (show_at p) c (d ++ e) ∙ ap (λ cs. shown p c ++ cs) (map-append (show_at p) d e)))))
    (joined start one five (shown p a) (shown p b ++ (shown p c ++ (shown p d ++ shown p e))) f
    (joined one two five (shown p b) (shown p c ++ (shown p d ++ shown p e)) g
    (joined two three five (shown p c) (shown p d ++ shown p e) h (joined three four five (shown p d) (shown p e) i j))))

-- ---- lines of a place, one by one

at_some : (p : Place) (next : Option MadeLine) → IsAt p next → next ≡ None → ⊥
at_some p None h e = h
at_some p (Some l) h e = cc

pub at_open : (p : Place) (next : Option MadeLine) (done : List Line) → IsAt p next → next ≡ None → done ≡ []
at_open p next done h e = absurd (at_some p next h e)

at_listed : (p : Place) (next : Option MadeLine) → IsAt p next → All (λ l. p ≡ l.place) (listed next)
at_listed p None h = absurd h
at_listed p (Some l) h = All-cons (λ m. p ≡ m.place) (line_of l) [] h (All-nil (λ m. p ≡ m.place))

at_more : (p : Place) (next : Option MadeLine) (own : List Line) → IsAt p next → own ++ listed next ≢ []
at_more p None own h e = h
at_more p (Some l) [] h e = cc
at_more p (Some l) (m ∷ own) h e = cc

at_first : (p : Place) (first next : Option MadeLine) (own : List Line) → IsAt p next → ((own ≢ []) × IsAt p first) ⊎ ((own ≡ []) × (next ≡ first)) → IsAt p first
at_first p first next own h (inl s) = s.1
at_first p first next own h (inr e) = subst (IsAt p) e.1 h

pub taken_more : (p : Place) (all left after : Option Text) (done own : List Line) (first next later : Option MadeLine) (count k : ℕ) → IsAt p next → AreTaken p all left done own first next count
    → HasRead all after ((done ++ own) ++ listed next) later k → AreTaken p all after done (own ++ listed next) first later k
taken_more p all left after done own first next later count k h t r = record {
  here = All-append (λ l. p ≡ l.place) own (listed next) t.here (at_listed p next h);
  some = inl (at_more p next own h, at_first p first next own h t.some);
  reading = subst (λ ls. HasRead all after ls later k) (append_assoc done own (listed next)) r;
}

-- the line after one of this place
pub goes_from : (p : Place) (next later : Option MadeLine) → IsAt p next → GoesOn next later → IsNotAbove p later
goes_from p None later h g = absurd h
goes_from p (Some l) later h g = subst (λ q. IsNotAbove q later) (sym h) g

pub at_another : (p : Place) (next : Option MadeLine) → IsNotAbove p next → (IsAt p next → ⊥) → IsBelow p next
at_another p None h k = tt
at_another p (Some l) h k = by (place_cmp p l.place) refl
  where
    by : (r : Ordering) → place_cmp p l.place ≡ r → place_cmp p l.place ≡ Less
    by Less e = e
    by Equal e = absurd (k (place_cmp_exact p l.place e))
    by Greater e = absurd (h e)

-- the same by the comparison
pub equal_at : (p : Place) (next : Option MadeLine) (l : MadeLine) → next ≡ Some l → place_cmp p l.place ≡ Equal → IsAt p next
equal_at p next l e f = subst (IsAt p) (sym e) (place_cmp_exact p l.place f)

equal_itself : (p : Place) → place_cmp p p ≡ Equal
equal_itself p = by (place_cmp p p) refl
  where
    by : (r : Ordering) → place_cmp p p ≡ r → place_cmp p p ≡ Equal
    by Less e = absurd (not_below_itself place_cmp_total p e)
    by Equal e = e
    by Greater e = absurd (not_below_itself place_cmp_total p (below_from_greater place_cmp_total p p e))

pub at_equal : (p : Place) (next : Option MadeLine) (l : MadeLine) → next ≡ Some l → IsAt p next → place_cmp p l.place ≡ Equal
at_equal p next l e a = ap (place_cmp p) (sym (here (subst (IsAt p) e a))) ∙ equal_itself p
  where
    here : IsAt p (Some l) → p ≡ l.place
    here h = h
