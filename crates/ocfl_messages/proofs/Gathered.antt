-- Findings with how many files of their objects are right, as lines come.
use Rattle.std.proofs.Common.{◌≡◌, ℕ, ◌+◌, List, [], ◌∷◌, ◌++◌, All, Bool, true, false, cond, Option, Some, None, length, map, refl, ap, sym, subst, ◌∙◌, append_assoc, length-append}
use Rattle.std.proofs.{lemmas.Bool.{false≢true}, lemmas.List.Elements.{All-cons, All-filter, All-head, All-nil, All-tail, filter-append}}
use Rattle.std.proofs.{lemmas.List.{append-nil, map-append}}
use Rattle.std.specs.{Prelude.{◌&&◌, is_some, not}, List.{filter}}
use Rattle.ocfl_tree.specs.Place.{Place}
use Rattle.ocfl_report.specs.Line.{Line, is_finding_code}
use Rattle.ocfl_codes.specs.{Kinds.{tells_file}, Weight.{weight_of}}
use Rattle.ocfl_codes.proofs.Weights.{weighed}
use Rattle.ocfl_codes.specs.declared.weight.Weight.{Weight}
use Rattle.ocfl_messages.specs.Finding.{Finding, Section, counted, ended_with, filled, found_in, is_other, is_within, lines_within, section_at, section_with}
use Rattle.ocfl_messages.specs.{Gathering.{AreRightIn, IsGathered, section_on, said}, Gravest.{IsOf, of_weight}, Tally.{IsCount, IsPlaces, is_right, is_wrong, places_of, right_in}}
use Rattle.ocfl_messages.specs.declared.{finding.FileCounts.{FileCounts}, gathering.Gathering.{Gathering}, gravest.Gravest.{Gravest}}
use Rattle.ocfl_messages.proofs.Heaps.{filter_more, filter_same, none_more}

-- ---- counted findings

filter_filled : (p : Finding → Bool) (c : FileCounts) (fs : List Finding) → ((f : Finding) → p (filled c f) ≡ p f) → filter p (map (filled c) fs) ≡ map (filled c) (filter p fs)
filter_filled p c [] same = refl
filter_filled p c (f ∷ fs) same =
    let rest = filter_filled p c fs same in
    rw (same f) (by (p f) rest)
  where
    by : (b : Bool) → filter p (map (filled c) fs) ≡ map (filled c) (filter p fs)
        → cond b (filled c f ∷ filter p (map (filled c) fs)) (filter p (map (filled c) fs)) ≡ map (filled c) (cond b (f ∷ filter p fs) (filter p fs))
    by true rest = ap (λ gs. filled c f ∷ gs) rest
    by false rest = rest

pub of_filled : (w : Weight) (c : FileCounts) (fs : List Finding) → of_weight w (map (filled c) fs) ≡ map (filled c) (of_weight w fs)
of_filled w c fs = filter_filled _ c fs (λ f. refl)

said_filled : (p : Line → Bool) (c : FileCounts) (fs : List Finding) → said p (map (filled c) fs) ≡ map (filled c) (said p fs)
said_filled p c fs = filter_filled _ c fs (λ f. refl)

filled_twice : (d c : FileCounts) (fs : List Finding) → map (filled d) (map (filled c) fs) ≡ map (filled c) fs
filled_twice d c [] = refl
filled_twice d c (f ∷ fs) = ap (λ gs. filled c f ∷ gs) (filled_twice d c fs)

-- those of the section are counted, and those before it were
pub all_filled : (p : Line → Bool) (c : FileCounts) (fs gs : List Finding) → map (filled c) fs ≡ fs → map (filled c) (said p (fs ++ gs)) ≡ said p (fs ++ map (filled c) gs)
all_filled p c fs gs e = sym (said_filled p c (fs ++ gs)) ∙ ap (said p) (map-append (filled c) fs gs ∙ ap (λ hs. hs ++ map (filled c) gs) e)

-- ---- one more line

pub within_more : (head : Option Place) (ls : List Line) (l : Line) → is_within head l.place ≡ true → lines_within head (ls ++ l ∷ []) ≡ lines_within head ls ++ l ∷ []
within_more head ls l e = filter_more (λ m. is_within head m.place) ls l e

pub within_same : (head : Option Place) (ls : List Line) (l : Line) → is_within head l.place ≡ false → lines_within head (ls ++ l ∷ []) ≡ lines_within head ls
within_same head ls l e = filter_same (λ m. is_within head m.place) ls l e

found_more : (head : Option Place) (fs : List Finding) (ls : List Line) (l : Line) → fs ++ map (found_in head) (ls ++ l ∷ []) ≡ (fs ++ map (found_in head) ls) ++ found_in head l ∷ []
found_more head fs ls l =
    ap (λ gs. fs ++ gs) (map-append (found_in head) ls (l ∷ [])) ∙ sym (append_assoc fs (map (found_in head) ls) (found_in head l ∷ []))

pub said_more : (p : Line → Bool) (head : Option Place) (fs : List Finding) (ls : List Line) (l : Line) → p l ≡ true
    → said p (fs ++ map (found_in head) (ls ++ l ∷ [])) ≡ said p (fs ++ map (found_in head) ls) ++ found_in head l ∷ []
said_more p head fs ls l e = ap (said p) (found_more head fs ls l) ∙ filter_more (λ f. p f.line) (fs ++ map (found_in head) ls) (found_in head l) e

pub said_same : (p : Line → Bool) (head : Option Place) (fs : List Finding) (ls : List Line) (l : Line) → p l ≡ false
    → said p (fs ++ map (found_in head) (ls ++ l ∷ [])) ≡ said p (fs ++ map (found_in head) ls)
said_same p head fs ls l e = ap (said p) (found_more head fs ls l) ∙ filter_same (λ f. p f.line) (fs ++ map (found_in head) ls) (found_in head l) e

-- a line that is not of another object's head
pub goes_on : (p : Line → Bool) (g : Gathering) (fs : List Finding) (s : Section) (l : Line) → is_other s.head l ≡ false → IsGathered p g fs s
    → IsGathered p g (fs ++ ended_with s l) (section_at s l)
goes_on p g fs s l e h = rw e (subst (λ gs. IsGathered p g gs s) (sym (append-nil fs)) h)

-- and one that is
pub begins_anew : (p : Line → Bool) (old new : Gathering) (fs : List Finding) (s : Section) (l : Line) → is_other s.head l ≡ true → IsGathered p old fs s
    → IsOf new.found (said p (fs ++ counted true s)) → new.heads.last ≡ Some l.place → new.is_begun ≡ true → new.right ≡ 0 → IsPlaces new.wrong []
    → IsGathered p new (fs ++ ended_with s l) (section_at s l)
begins_anew p old new fs s l e h found head begun right wrong =
    let G = counted true s in
    rw e (
    record {
      are_counted = λ c. map-append (filled c) fs G ∙ ap (λ gs. gs ++ map (filled c) G) (h.are_counted c) ∙ ap (λ gs. fs ++ gs) (filled_twice c _ (map (found_in s.head) s.lines));
      found = subst (λ gs. IsOf new.found (said p gs)) (sym (append-nil (fs ++ G))) found;
      head = head;
      begun = begun;
      right = right;
      wrong = wrong;
    }
    )

-- the line itself
pub line_gathered : (p : Line → Bool) (old new : Gathering) (fs : List Finding) (s : Section) (l : Line) → IsGathered p old fs (section_at s l)
    → ((ls : List Line) → IsCount old.right (right_in (lines_within old.heads.last ls)) → IsCount new.right (right_in (lines_within old.heads.last (ls ++ l ∷ []))))
    → ((ls : List Line) → IsPlaces old.wrong (places_of is_wrong (lines_within old.heads.last ls)) → IsPlaces new.wrong (places_of is_wrong (lines_within old.heads.last (ls ++ l ∷ []))))
    → ((gs : List Finding) (ls : List Line) → IsOf old.found (said p (gs ++ map (found_in old.heads.last) ls))
    → IsOf new.found (said p (gs ++ map (found_in old.heads.last) (ls ++ l ∷ []))))
    → new.heads ≡ old.heads → new.is_begun ≡ old.is_begun → IsGathered p new fs (section_with s l)
line_gathered p old new fs s l h rights wrongs keeps heads begun =
    let t = section_at s l in
    record {
      are_counted = h.are_counted;
      found = subst (λ o. IsOf new.found (said p (fs ++ map (found_in o) (t.lines ++ l ∷ [])))) h.head
          (keeps fs t.lines (subst (λ o. IsOf old.found (said p (fs ++ map (found_in o) t.lines))) (sym h.head) h.found));
      head = ap (λ x. x.last) heads ∙ h.head;
      begun = begun ∙ h.begun;
      right = subst (λ o. IsCount new.right (right_in (lines_within o (t.lines ++ l ∷ [])))) h.head
          (rights t.lines (subst (λ o. IsCount old.right (right_in (lines_within o t.lines))) (sym h.head) h.right));
      wrong = subst (λ o. IsPlaces new.wrong (places_of is_wrong (lines_within o (t.lines ++ l ∷ [])))) h.head
          (wrongs t.lines (subst (λ o. IsPlaces old.wrong (places_of is_wrong (lines_within o t.lines))) (sym h.head) h.wrong));
    }

-- ---- files that are right, taken together

filter_all : (p : Line → Bool) (ls : List Line) → All (λ l. p l ≡ true) ls → filter p ls ≡ ls
filter_all p [] h = refl
filter_all p (l ∷ ls) h =
    let e = All-head (λ m. p m ≡ true) l ls h in
    rw e (ap (λ ms. l ∷ ms) (filter_all p ls (All-tail (λ m. p m ≡ true) l ls h)))

filter_none : (p : Line → Bool) (ls : List Line) → All (λ l. p l ≡ false) ls → filter p ls ≡ []
filter_none p [] h = refl
filter_none p (l ∷ ls) h =
    let e = All-head (λ m. p m ≡ false) l ls h in
    rw e (filter_none p ls (All-tail (λ m. p m ≡ false) l ls h))

no_finding : (a b : Bool) → (a && not b) ≡ true → b ≡ false
no_finding true true e = absurd (false≢true e)
no_finding true false e = refl
no_finding false b e = absurd (false≢true e)

not_wrong : (a b : Bool) → (a && not b) ≡ true → (a && b) ≡ false
not_wrong true true e = absurd (false≢true e)
not_wrong true false e = refl
not_wrong false b e = refl

no_weight : {W : Type 0} (o : Option W) → is_some o ≡ false → o ≡ None
no_weight None e = refl
no_weight (Some w) e = absurd (false≢true (sym e))

none_wrong : (ls : List Line) → All (λ l. is_right l ≡ true) ls → All (λ l. is_wrong l ≡ false) ls
none_wrong [] h = All-nil (λ l. is_wrong l ≡ false)
none_wrong (l ∷ ls) h =
    let e = All-head (λ m. is_right m ≡ true) l ls h in
    All-cons (λ m. is_wrong m ≡ false) l ls (not_wrong (tells_file l) (is_finding_code l.code) e) (none_wrong ls (All-tail (λ m. is_right m ≡ true) l ls h))

none_weighed : (head : Option Place) (ls : List Line) → All (λ l. is_right l ≡ true) ls → All (λ f. weight_of f.line.code ≡ None) (map (found_in head) ls)
none_weighed head [] h = All-nil (λ (f : Finding). weight_of f.line.code ≡ None)
none_weighed head (l ∷ ls) h =
    let e = All-head (λ m. is_right m ≡ true) l ls h in
    let none = no_weight (weight_of l.code) (weighed l.code ∙ no_finding (tells_file l) (is_finding_code l.code) e) in
    All-cons (λ (f : Finding). weight_of f.line.code ≡ None) (found_in head l) (map (found_in head) ls) none (none_weighed head ls (All-tail (λ m. is_right m ≡ true) l ls h))

none_kept : (g : Gravest) (fs gs : List Finding) → All (λ f. weight_of f.line.code ≡ None) gs → IsOf g fs → IsOf g (fs ++ gs)
none_kept g fs [] h k = subst (IsOf g) (sym (append-nil fs)) k
none_kept g fs (f ∷ gs) h k =
    subst (IsOf g) (append_assoc fs (f ∷ []) gs)
    (none_kept g (fs ++ f ∷ []) gs (All-tail (λ (x : Finding). weight_of x.line.code ≡ None) f gs h)
    (none_more g fs f (All-head (λ (x : Finding). weight_of x.line.code ≡ None) f gs h) k))

within_on : (head : Option Place) (ls ms : List Line) → All (λ l. is_within head l.place ≡ true) ms → lines_within head (ls ++ ms) ≡ lines_within head ls ++ ms
within_on head ls ms h =
    let p : Line → Bool = λ l. is_within head l.place in
    filter-append p ls ms ∙ ap (λ ns. filter p ls ++ ns) (filter_all p ms h)

pub right_on : (p : Line → Bool) (old new : Gathering) (fs : List Finding) (s : Section) (ls : List Line) → AreRightIn s.head ls → IsGathered p old fs s
    → ((m : ℕ) → IsCount old.right m → IsCount new.right (m + length ls))
    → new.found ≡ old.found → new.wrong ≡ old.wrong → new.heads ≡ old.heads → new.is_begun ≡ old.is_begun → IsGathered p new fs (section_on s ls)
right_on p old new fs s ls are h adds found wrong heads begun =
    let L = lines_within s.head s.lines in
    let G = map (found_in s.head) in
    let all = within_on s.head s.lines ls are.within in
    let rights : right_in (lines_within s.head (s.lines ++ ls)) ≡ right_in L + length ls =
    ap right_in all ∙ ap length (filter-append is_right L ls) ∙ length-append (filter is_right L) (filter is_right ls)
    ∙ ap (λ ms. right_in L + length ms) (filter_all is_right ls are.right) in
    let wrongs : places_of is_wrong (lines_within s.head (s.lines ++ ls)) ≡ places_of is_wrong L =
    ap (places_of is_wrong) all
    ∙ ap (map (λ l. l.place)) (filter-append is_wrong L ls ∙ ap (λ ms. filter is_wrong L ++ ms) (filter_none is_wrong ls (none_wrong ls are.right)) ∙ append-nil (filter is_wrong L)) in
    let says : said p (fs ++ G (s.lines ++ ls)) ≡ said p (fs ++ G s.lines) ++ said p (G ls) =
    ap (said p) (ap (λ gs. fs ++ gs) (map-append (found_in s.head) s.lines ls) ∙ sym (append_assoc fs (G s.lines) (G ls))) ∙ filter-append (λ f. p f.line) (fs ++ G s.lines) (G ls) in
    record {
      are_counted = h.are_counted;
      found = subst (IsOf new.found) (sym says) (subst (λ g. IsOf g (said p (fs ++ G s.lines) ++ said p (G ls))) (sym found)
          (none_kept old.found (said p (fs ++ G s.lines)) (said p (G ls))
          (All-filter (λ f. p f.line) (λ f. weight_of f.line.code ≡ None) (G ls) (none_weighed s.head ls are.right)) h.found));
      head = ap (λ x. x.last) heads ∙ h.head;
      begun = begun ∙ h.begun;
      right = subst (IsCount new.right) (sym rights) (adds (right_in L) h.right);
      wrong = subst (λ w. IsPlaces w (places_of is_wrong (lines_within s.head (s.lines ++ ls)))) (sym wrong) (subst (IsPlaces old.wrong) (sym wrongs) h.wrong);
    }
