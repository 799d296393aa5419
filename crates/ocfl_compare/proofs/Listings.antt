-- What is answered of a list of objects, as a report, is which of them are missing.
use Rattle.std.proofs.Common.{◌≡◌, inl, inr, ℕ, ◌+◌, List, [], ◌∷◌, ◌++◌, Bool, true, false, Option, Some, None, IfSome, All, map, filter, refl, sym, ap, subst, ◌∙◌, append_assoc, append-nil, add-one, arith}
use Rattle.std.proofs.{Math.Bool.{and-true, or-true}, lemmas.List.{map-append}}
use Rattle.std.proofs.lemmas.List.Elements.{All-cons, All-nil, All-head, All-tail, All-weaker}
use Rattle.std.proofs.lemmas.List.Concat.{flat_map-append}
use Rattle.std.proofs.lemmas.List.Sorted.{list_any-IsPermutation}
use Rattle.std.specs.{Prelude.{cond, ◌&&◌, ◌||◌, not, flat_map, codes}, List.{list_any}}
use Rattle.std.specs.List.Sorted.{IsPermutation, IsSorted}
use Rattle.std.specs.{Ordering.{is_lt}, Str.{IsUtf8}}
use Rattle.ocfl_tree.specs.{Place.{Text, Place, place_cmp, place_eq}, Name.{IsPlace}}
use Rattle.ocfl_tree.specs.Ascending.{ascending, IsAmong}
use Rattle.ocfl_tree.proofs.Bools.{and_first, and_second, and_both}
use Rattle.ocfl_tree.proofs.Places.{place_eq-Decides, place_eq-same}
use Rattle.ocfl_tree.proofs.Orders.{place_cmp_total, place_cmp_exact, ascending_unique, ascends_ascending, ascends_filter, among_ascending, among_filter, among_from_filter, among_left}
use Rattle.ocfl_report.specs.Line.{Line}
use Rattle.ocfl_report.specs.Text.{code_text, place_text, escape, line_text, lines_text, IsLine}
use Rattle.ocfl_report.proofs.{Bytes.{utf8_bytes}, LineTexts.{first_lines, lines_text_determines}}
use Rattle.ocfl_separators.specs.Splits.{HasText, AreInOrder, AreLines, IsBadReportLine}
use Rattle.ocfl_compare.proofs.Reports.{not_greater}
use Rattle.ocfl_codes.specs.Kinds.{is_empty, tells_object}
use Rattle.ocfl_compare.specs.Seen.{Seen, all_seen, changes_seen}
use Rattle.ocfl_compare.proofs.Sights.{only_changes}
use Rattle.ocfl_compare.specs.Changes.{lines_at, places_of, is_left, when, placed, said_at, answers}
use Rattle.ocfl_compare.specs.declared.change.Change.TheVariants.{Missing}
use Rattle.ocfl_compare.specs.{Compared.{IsAnswered}, CompareStop.{StopsRightly, ReportStops}}
use Rattle.ocfl_compare.specs.Expected.{is_missing, missing_objects, missing, IsSearched}
use Rattle.ocfl_compare.specs.Internal.Listing.{as_object}
use Rattle.ocfl_compare.specs.declared.question.Question.TheVariants.{Expected}
use Rattle.ocfl_compare.specs.declared.stop.CompareStop.{CompareStop}
use Rattle.ocfl_compare.specs.declared.stop.CompareStop.TheVariants.{Before, Now, BeforeFailed, NowFailed, Output, Memory}

-- ---- among, as a test

abbrev has : List Place → Place → Bool
has ps p = list_any (place_eq p) ps

has_among : (ps : List Place) (p : Place) → IsAmong ps p → has ps p ≡ true
has_among [] p i = absurd i
has_among (q ∷ ps) p (inl e) = ap (λ b. b || has ps p) (ap (place_eq p) (sym e) ∙ place_eq-same p)
has_among (q ∷ ps) p (inr i) = ap (λ b. place_eq p q || b) (has_among ps p i) ∙ or-true (place_eq p q)

among_has : (ps : List Place) (p : Place) → has ps p ≡ true → IsAmong ps p
among_has [] p h = cc
among_has (q ∷ ps) p h = by (place_eq p q) refl h (among_has ps p)
  where
    by : (b : Bool) → place_eq p q ≡ b → b || has ps p ≡ true → (has ps p ≡ true → IsAmong ps p) → IsAmong (q ∷ ps) p
    by true e k rest = inl ((place_eq-Decides p q).0 e)
    by false e k rest = inr (rest k)

-- a permutation has the same elements
permuted : (ps qs : List Place) → IsPermutation ps qs → (p : Place) → IsAmong qs p → IsAmong ps p
permuted ps qs h p i = among_has ps p (list_any-IsPermutation (place_eq p) ps qs h ∙ has_among qs p i)

permuted_back : (ps qs : List Place) → IsPermutation ps qs → (p : Place) → IsAmong ps p → IsAmong qs p
permuted_back ps qs h p i = among_has qs p (sym (list_any-IsPermutation (place_eq p) ps qs h) ∙ has_among ps p i)

-- ---- the lines of a list

object_at : (p : Place) (qs : List Place) → list_any tells_object (lines_at p (map as_object qs)) ≡ has qs p && not (is_empty p)
object_at p [] = refl
object_at p (q ∷ qs) = by (place_eq p q) refl (object_at p qs)
  where
    or_both : (a b : Bool) → a || (b && a) ≡ a
    or_both true b = refl
    or_both false true = refl
    or_both false false = refl

    by : (b : Bool) → place_eq p q ≡ b → list_any tells_object (lines_at p (map as_object qs)) ≡ has qs p && not (is_empty p)
        → list_any tells_object (cond b (as_object q ∷ lines_at p (map as_object qs)) (lines_at p (map as_object qs))) ≡ (b || has qs p) && not (is_empty p)
    by true e k =
        (λ i. (not (is_empty (sym ((place_eq-Decides p q).0 e) i)) && true) || k i)
        ∙ ap (λ b. b || (has qs p && not (is_empty p))) (and-true (not (is_empty p)))
        ∙ or_both (not (is_empty p)) (has qs p)
    by false e k = k

-- ---- changes

module _ (left qs : List Place) (ls : List Line) where
  abbrev wanted : Place → Bool
  wanted p = has qs p && is_missing left ls p

  said_one : (p : Place) → placed p (said_at Expected left (map as_object qs) ls p) ≡ cond (wanted p) (missing p ∷ []) []
  said_one p =
      ap (λ b. placed p (cond (is_left left p) [] (when (not (list_any tells_object (lines_at p ls)) && b) Missing))) (object_at p qs)
      ∙ by (is_left left p) (list_any tells_object (lines_at p ls)) (has qs p) (not (is_empty p))
    where
      by : (l o h e : Bool) → placed p (cond l [] (when (not o && (h && e)) Missing)) ≡ cond (h && (not l && (e && not o))) (missing p ∷ []) []
      by true o true e = refl
      by true o false e = refl
      by false true true true = refl
      by false true true false = refl
      by false true false e = refl
      by false false true true = refl
      by false false true false = refl
      by false false false e = refl

  said_of : (ps : List Place) → flat_map (λ p. placed p (said_at Expected left (map as_object qs) ls p)) ps ≡ map missing (filter wanted ps)
  said_of [] = refl
  said_of (p ∷ ps) = (λ i. said_one p i ++ said_of ps i) ∙ by (wanted p)
    where
      by : (b : Bool) → cond b (missing p ∷ []) [] ++ map missing (filter wanted ps) ≡ map missing (cond b (p ∷ filter wanted ps) (filter wanted ps))
      by true = refl
      by false = refl

-- ---- places

map_places : (qs : List Place) → map (λ l. l.place) (map as_object qs) ≡ qs
map_places [] = refl
map_places (q ∷ qs) = ap (λ ps. q ∷ ps) (map_places qs)

module _ (left ps qs : List Place) (ls : List Line) (perm : IsPermutation ps qs) where
  abbrev all_places : List Place
  all_places = map (λ l. l.place) (map as_object qs ++ ls)

  listed_among : (p : Place) → IsAmong qs p → IsAmong all_places p
  listed_among p i = subst (λ xs. IsAmong xs p) (sym (map-append (λ l. l.place) (map as_object qs) ls)) (among_left (map (λ l. l.place) (map as_object qs)) (map (λ l. l.place) ls) p (subst (λ xs. IsAmong xs p) (sym (map_places qs)) i))

  to : (p : Place) → IsAmong (filter (wanted left qs ls) (ascending place_cmp all_places)) p → IsAmong (filter (is_missing left ls) (ascending place_cmp ps)) p
  to p i =
      let k = among_from_filter (wanted left qs ls) (ascending place_cmp all_places) p i in
      let in_qs : IsAmong qs p = among_has qs p (and_first (has qs p) (is_missing left ls p) k.1) in
      among_filter (is_missing left ls) (ascending place_cmp ps) p ((among_ascending place_cmp_exact ps p).0 (permuted ps qs perm p in_qs)) (and_second (has qs p) (is_missing left ls p) k.1)

  from : (p : Place) → IsAmong (filter (is_missing left ls) (ascending place_cmp ps)) p → IsAmong (filter (wanted left qs ls) (ascending place_cmp all_places)) p
  from p i =
      let k = among_from_filter (is_missing left ls) (ascending place_cmp ps) p i in
      let in_qs : IsAmong qs p = permuted_back ps qs perm p ((among_ascending place_cmp_exact ps p).1 k.0) in
      among_filter (wanted left qs ls) (ascending place_cmp all_places) p ((among_ascending place_cmp_exact all_places p).0 (listed_among p in_qs)) (and_both (has qs p) (is_missing left ls p) (has_among qs p in_qs) k.1)

  same : filter (wanted left qs ls) (places_of (map as_object qs) ls) ≡ missing_objects left ps ls
  same =
      ascending_unique place_cmp_total place_cmp_exact (filter (wanted left qs ls) (ascending place_cmp all_places)) (filter (is_missing left ls) (ascending place_cmp ps))
      (ascends_filter place_cmp (wanted left qs ls) (ascending place_cmp all_places) (ascends_ascending place_cmp_total all_places))
      (ascends_filter place_cmp (is_missing left ls) (ascending place_cmp ps) (ascends_ascending place_cmp_total ps)) (λ p. (to p, from p))

  answers_are : answers Expected left (map as_object qs) ls ≡ map missing (missing_objects left ps ls)
  answers_are = said_of left qs ls (places_of (map as_object qs) ls) ∙ ap (map missing) same

-- ---- the list as a report

dash_is_text : IsUtf8 (codes "-")
unfolding lib.Utf8.encode
dash_is_text = (45 ∷ [], (refl, refl))

object_has : (p : Place) → IsPlace p → HasText (as_object p)
object_has p h = record { place = h; detail = dash_is_text }

objects_have : (ps : List Place) → All IsPlace ps → All HasText (map as_object ps)
objects_have [] h = All-nil HasText
objects_have (p ∷ ps) h = All-cons HasText (as_object p) (map as_object ps) (object_has p (All-head IsPlace p ps h)) (objects_have ps (All-tail IsPlace p ps h))

line_of_text : (l : Line) → HasText l → IsLine l
line_of_text l h = record { place = h.place; detail = utf8_bytes l.detail h.detail }

sorted_order : (p : Place) (ps : List Place) → IsSorted place_cmp (p ∷ ps) → AreInOrder (Some p) (map as_object ps)
sorted_order p [] h = tt
sorted_order p (q ∷ ps) h =
    let head : is_lt (place_cmp q p) ≡ false = h 0 p (omega arith) (omega arith) in
    (not_greater p q head, sorted_order q ps (λ k d a b. simp add-one (simp add-one at (h (k + 1) d (omega arith) (omega arith)))))

objects_order : (ps : List Place) → IsSorted place_cmp ps → AreInOrder None (map as_object ps)
objects_order [] h = tt
objects_order (p ∷ ps) h = (tt, sorted_order p ps h)

pub objects_report : (ps : List Place) → All IsPlace ps → IsSorted place_cmp ps → AreLines (map as_object ps)
objects_report ps h k = record { texts = objects_have ps h; order = objects_order ps k }

-- the bytes of a report determine its lines
same_lines : (ls ms : List Line) → AreLines ls → AreLines ms → lines_text ls ≡ lines_text ms → ls ≡ ms
same_lines ls ms h k e = lines_text_determines ls ms (All-weaker HasText IsLine line_of_text ls h.texts) (All-weaker HasText IsLine line_of_text ms k.texts) e

pub searched : (left ps qs : List Place) (b n : Text) (Taken : List Seen → Type 0) → IsPermutation ps qs → IsSorted place_cmp qs → All IsPlace qs → b ≡ lines_text (map as_object qs)
    → IsAnswered Expected left b n Taken → IsSearched left ps n Taken
searched left ps qs b n Taken perm sorted names e h =
    let same_list : h.before ≡ map as_object qs = same_lines h.before (map as_object qs) h.is_before.are (objects_report qs names sorted) (sym h.is_before.is ∙ e) in
    record {
      lines = h.now;
      report = h.is_now;
      taken = subst Taken (ap (λ ls. all_seen Expected left ls h.now) same_list ∙ only_changes left (map as_object qs) h.now ∙ ap changes_seen (answers_are left ps qs h.now perm)) h.taken;
    }

-- ---- no line of the list is bad

no_bytes : (xs ys : Text) → [] ≡ xs ++ ys → xs ≡ []
no_bytes [] ys e = refl
no_bytes (x ∷ xs) ys e = cc

some_bytes : (xs ys : Text) (y : ℕ) → xs ++ y ∷ ys ≡ [] → ⊥
some_bytes [] ys y e = cc
some_bytes (x ∷ xs) ys y e = cc

line_has_bytes : (l : Line) (rest : Text) → [] ≡ line_text l ++ rest → ⊥
line_has_bytes l rest e = some_bytes (code_text l.code ++ 9 ∷ place_text l.place ++ 9 ∷ escape l.detail) [] 10 (no_bytes (line_text l) rest e)

front_texts : (done ls : List Line) (rest : Text) → All HasText done → All HasText ls → lines_text ls ≡ lines_text done ++ rest → (more : List Line) × ((ls ≡ done ++ more) × (rest ≡ lines_text more))
front_texts [] ls rest h k e = (ls, (refl, sym e))
front_texts (d ∷ done) [] rest h k e = absurd (line_has_bytes d (lines_text done ++ rest) (e ∙ append_assoc (line_text d) (lines_text done) rest))
front_texts (d ∷ done) (l ∷ ls) rest h k e =
    let first = first_lines l d (lines_text ls) (lines_text done ++ rest) (line_of_text l (All-head HasText l ls k)) (line_of_text d (All-head HasText d done h)) (e ∙ append_assoc (line_text d) (lines_text done) rest) in
    let more = front_texts done ls rest (All-tail HasText d done h) (All-tail HasText l ls k) first.1 in
    (more.0, ((λ i. first.0 i ∷ more.1.0 i), more.1.1))

texts_front : (xs ms : List Line) (l : Line) → All HasText (xs ++ l ∷ ms) → All HasText (xs ++ l ∷ [])
texts_front [] ms l h = All-cons HasText l [] (All-head HasText l ms h) (All-nil HasText)
texts_front (x ∷ xs) ms l h = All-cons HasText x (xs ++ l ∷ []) (All-head HasText x (xs ++ l ∷ ms) h) (texts_front xs ms l (All-tail HasText x (xs ++ l ∷ ms) h))

order_front : (last : Option Place) (xs ms : List Line) (l : Line) → AreInOrder last (xs ++ l ∷ ms) → AreInOrder last (xs ++ l ∷ [])
order_front last [] ms l h = (h.0, tt)
order_front last (x ∷ xs) ms l h = (h.0, order_front (Some x.place) xs ms l h.1)

none_bad : (b : Text) (ls : List Line) (k : ℕ) → AreLines ls → b ≡ lines_text ls → IsBadReportLine b k → ⊥
none_bad b ls k are e h =
    let front = front_texts h.before ls h.rest h.are.texts are.texts (sym e ∙ h.is) in
    by front.0 front.1.0 front.1.1
  where
    by : (more : List Line) → ls ≡ h.before ++ more → h.rest ≡ lines_text more → ⊥
    by [] f g = h.more g
    by (l ∷ more) f g =
        let all : AreLines (h.before ++ l ∷ more) = subst AreLines f are in
        h.bad l (lines_text more) (record { texts = texts_front h.before more l all.texts; order = order_front None h.before more l all.order }) g

pub list_stops : (b n : Text) (ls : List Line) (s : CompareStop) → AreLines ls → b ≡ lines_text ls → StopsRightly b n s → ReportStops n s
list_stops b n ls (Before k) are e h = none_bad b ls k are e h
list_stops b n ls (Now k) are e h = h
list_stops b n ls BeforeFailed are e h = tt
list_stops b n ls NowFailed are e h = tt
list_stops b n ls Output are e h = tt
list_stops b n ls Memory are e h = tt

-- ---- as the code has it

pub known_searched : (left ps qs : List Place) (b : Text) (n : Option Text) (Taken : List Seen → Type 0) → IsPermutation ps qs → IsSorted place_cmp qs → All IsPlace qs → b ≡ lines_text (map as_object qs)
    → IfSome n (λ t. IsAnswered Expected left b t Taken) → IfSome n (λ t. IsSearched left ps t Taken)
known_searched left ps qs b None Taken perm sorted names e h = tt
known_searched left ps qs b (Some t) Taken perm sorted names e h = searched left ps qs b t Taken perm sorted names e h

pub known_stops : (qs : List Place) (b : Text) (n : Option Text) (s : CompareStop) → IsSorted place_cmp qs → All IsPlace qs → b ≡ lines_text (map as_object qs)
    → IfSome n (λ t. StopsRightly b t s) → IfSome n (λ t. ReportStops t s)
known_stops qs b None s sorted names e h = tt
known_stops qs b (Some t) s sorted names e h = list_stops b t (map as_object qs) s (objects_report qs names sorted) e h

-- the list with one more
pub text_more : (start one two : Text) (ps : List Place) (p : Place) → one ≡ start ++ lines_text (map as_object ps) → two ≡ one ++ line_text (as_object p) → two ≡ start ++ lines_text (map as_object (ps ++ p ∷ []))
text_more start one two ps p e f =
    f ∙ ap (λ t. t ++ line_text (as_object p)) e ∙ append_assoc start (lines_text (map as_object ps)) (line_text (as_object p))
    ∙ ap (λ t. start ++ t) (sym (ap lines_text (objects_more ps p) ∙ flat_map-append line_text (map as_object ps) (as_object p ∷ []) ∙ ap (λ t. lines_text (map as_object ps) ++ t) (append-nil (line_text (as_object p)))))
  where
    objects_more : (xs : List Place) (x : Place) → map as_object (xs ++ x ∷ []) ≡ map as_object xs ++ as_object x ∷ []
    objects_more [] x = refl
    objects_more (y ∷ xs) x = ap (λ ls. as_object y ∷ ls) (objects_more xs x)
