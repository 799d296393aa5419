-- Which objects are back, by two searches.
use Rattle.std.proofs.Common.{◌≡◌, ℕ, ◌≤◌, List, [], ◌∷◌, ◌++◌, Bool, true, false, ◌&&◌, cond, Option, Some, Result, Ok, Err, IfOk, IfSome, Vec, Global, map, refl, sym, ap, subst, ◌∙◌, arith}
use Rattle.std.specs.{Prelude.{◌==◌, filter, length, not}, List.{list_any}}
use Rattle.std.proofs.lemmas.{Bool.{eqb-true, false≢true}, List.{nil_from_length}, List.Elements.{All-weaker, filter_agree}}
use Rattle.ocfl_tree.specs.{Place.{Text, Place, place_cmp}, Ascending.{ascending}}
use Rattle.ocfl_tree.proofs.Orders.{among_ascending, ascending_unique, ascends_ascending, ascends_filter, place_cmp_exact, place_cmp_total}
use Rattle.ocfl_report.specs.{Line.{Line}, Text.{IsLine}}
use Rattle.ocfl_report.proofs.{Bytes.{utf8_bytes}, LineTexts.{lines_text_determines}}
use Rattle.ocfl_separators.specs.Splits.{HasText}
use Rattle.ocfl_codes.specs.Kinds.{is_empty, tells_object}
use Rattle.ocfl_compare.specs.{Changes.{is_left, lines_at}, Compared.{IsReport}, Expected.{IsSearched, is_missing, missing, missing_objects}, Seen.{changes_seen}}
use Rattle.ocfl_accounts.specs.{Causes.{HasCause}, Cycle.{Cycle}, Kept.{Kept}, declared.pair.Pair.{Pair}}
use Rattle.ocfl_accounts.specs.declared.closings.ClosingStop.{ClosingStop}
use Rattle.ocfl_accounts.specs.declared.closings.ClosingStop.TheVariants.{Failed, Output, Memory}
use Rattle.ocfl_closed.specs.Back.{AreBack, AreBackOf, AreBackSince, is_back}
use Rattle.ocfl_closed.specs.Internal.Backs.{AreLacking, missing_seen}
use Rattle.ocfl_closed.proofs.Lost.{AreFirst}

-- ---- one search

-- what is missing was kept
missing_are : (ps : List Place) → missing_seen (changes_seen (map missing ps)) ≡ ps
missing_are [] = refl
missing_are (p ∷ ps) = ap (λ qs. p ∷ qs) (missing_are ps)

pub lacking_of : (left objects : List Place) (known : Option Text) (bytes : Text) (old new : List Place) → known ≡ Some bytes → old ≡ []
    → IfSome known (λ b. IsSearched left objects b (λ seen. new ≡ old ++ missing_seen seen)) → AreLacking left objects bytes new
lacking_of left objects known bytes old new e empty searched = of (subst (λ k. IfSome k (λ b. IsSearched left objects b (λ seen. new ≡ old ++ missing_seen seen))) e searched)
  where
    of : IsSearched left objects bytes (λ seen. new ≡ old ++ missing_seen seen) → AreLacking left objects bytes new
    of h = record {
      lines = h.lines;
      report = h.report;
      are = h.taken ∙ ap (λ ps. ps ++ missing_seen (changes_seen (map missing (missing_objects left objects h.lines)))) empty ∙ missing_are (missing_objects left objects h.lines);
    }

-- ---- the bytes of a report have one list of lines

line_of_text : (l : Line) → HasText l → IsLine l
line_of_text l h = record { place = h.place; detail = utf8_bytes l.detail h.detail }

one_report : (b : Text) (ls ms : List Line) → IsReport b ls → IsReport b ms → ls ≡ ms
one_report b ls ms h k =
    lines_text_determines ls ms (All-weaker HasText IsLine line_of_text ls h.are.texts) (All-weaker HasText IsLine line_of_text ms k.are.texts) (sym h.is ∙ k.is)

-- ---- two searches

-- what passes of places in order is in order, each once
sorted_again : (f : Place → Bool) (ps : List Place) → ascending place_cmp (filter f (ascending place_cmp ps)) ≡ filter f (ascending place_cmp ps)
sorted_again f ps =
    let qs = filter f (ascending place_cmp ps) in
    ascending_unique place_cmp_total place_cmp_exact (ascending place_cmp qs) qs (ascends_ascending place_cmp_total qs) (ascends_filter place_cmp f (ascending place_cmp ps) (ascends_ascending place_cmp_total ps))
    (λ p. ((among_ascending place_cmp_exact qs p).1, (among_ascending place_cmp_exact qs p).0))

both_pass : (f g : Place → Bool) (ps : List Place) → filter g (filter f ps) ≡ filter (λ p. f p && g p) ps
both_pass f g [] = refl
both_pass f g (p ∷ ps) = by (f p) (g p) refl refl (both_pass f g ps)
  where
    by : (a b : Bool) → f p ≡ a → g p ≡ b → filter g (filter f ps) ≡ filter (λ p. f p && g p) ps
        → filter g (cond a (p ∷ filter f ps) (filter f ps)) ≡ cond (a && b) (p ∷ filter (λ p. f p && g p) ps) (filter (λ p. f p && g p) ps)
    by true true d e h = ap (λ c. cond c (p ∷ filter g (filter f ps)) (filter g (filter f ps))) e ∙ ap (λ qs. p ∷ qs) h
    by true false d e h = ap (λ c. cond c (p ∷ filter g (filter f ps)) (filter g (filter f ps))) e ∙ h
    by false b d e h = h

-- there was no line of an object, and it is not so that there is none
back_is : (left : List Place) (before now : List Line) (p : Place) → (is_missing left before p && not (is_missing left now p)) ≡ is_back left before now p
back_is left before now p = by (is_left left p) (is_empty p) (list_any tells_object (lines_at p before)) (list_any tells_object (lines_at p now))
  where
    by : (l e a b : Bool) → ((not l && (not e && not a)) && not (not l && (not e && not b))) ≡ ((not l && (not e && not a)) && b)
    by true e a b = refl
    by false true a b = refl
    by false false true b = refl
    by false false false true = refl
    by false false false false = refl

pub none_lacking : (left objects : List Place) (b n : Text) (lacking : List Place) → AreLacking left objects b lacking → lacking ≡ [] → AreBackOf left objects b n lacking
none_lacking left objects b n lacking h none before now is_before is_now =
    let first : Place → Bool = λ p. is_missing left before p in
    let second : Place → Bool = λ p. list_any tells_object (lines_at p now) in
    let same : lacking ≡ filter first (ascending place_cmp objects) = h.are ∙ ap (λ ls. missing_objects left objects ls) (one_report b h.lines before h.report is_before) in
    none ∙ ap (filter second) (sym none ∙ same) ∙ both_pass first second (ascending place_cmp objects)

pub back_between : (left objects : List Place) (b n : Text) (lacking copy still back : List Place) → AreLacking left objects b lacking → copy ≡ lacking → AreLacking left copy n still
    → ((f : Place → Bool) → still ≡ filter f lacking → back ≡ filter (λ p. not (f p)) lacking) → AreBackOf left objects b n back
back_between left objects b n lacking copy still back h same k without before now is_before is_now =
    let first : Place → Bool = λ p. is_missing left before p in
    let again : Place → Bool = λ p. is_missing left now p in
    let all = ascending place_cmp objects in
    let lacks : lacking ≡ filter first all = h.are ∙ ap (λ ls. missing_objects left objects ls) (one_report b h.lines before h.report is_before) in
    let in_order : ascending place_cmp copy ≡ lacking = ap (ascending place_cmp) (same ∙ lacks) ∙ sorted_again first objects ∙ sym lacks in
    let lack : still ≡ filter again lacking = k.are ∙ ap (λ ls. missing_objects left copy ls) (one_report n k.lines now k.report is_now) ∙ ap (filter again) in_order in
    without again lack ∙ ap (filter (λ p. not (again p))) lacks ∙ both_pass first (λ p. not (again p)) all ∙ filter_agree _ _ (back_is left before now) all

-- ---- of a cycle

pub no_items : (n : ℕ) (ps : List Place) → n ≡ length ps → (n == 0) ≡ true → ps ≡ []
no_items n ps long none = nil_from_length ps (sym long ∙ eqb-true n 0 none)

pub moved_lacking : (k j : Kept) (left ls objects ps : List Place) (n m : ℕ) → k ≡ j → left ≡ ls → n ≡ m → AreLacking left objects (k.reports n) ps → AreLacking ls objects (j.reports m) ps
moved_lacking k j left ls objects ps n m same e f h =
    subst (λ (i : Kept). AreLacking ls objects (i.reports m) ps) same (subst (λ x. AreLacking ls objects (k.reports x) ps) f (subst (λ l. AreLacking l objects (k.reports n) ps) e h))

pub none_back : (k : Kept) (now before : Cycle) (places : List Place) → AreFirst k.lists now.cycle places → places ≡ [] → AreBackSince k now (Some before) places
none_back k now before places kept none = (kept.0, (kept.1.0, λ b n is_before is_now. none ∙ ap (λ ps. filter (is_back (now.left ++ before.left) b n) (ascending place_cmp ps)) (sym none ∙ kept.1.1)))

pub back_since : (k : Kept) (now before : Cycle) (places back : List Place) → AreFirst k.lists now.cycle places
    → AreBackOf (now.left ++ before.left) places (k.reports before.cycle) (k.reports now.cycle) back → AreBackSince k now (Some before) back
back_since k now before places back kept are =
    (kept.0, (kept.1.0, subst (λ ps. AreBackOf (now.left ++ before.left) ps (k.reports before.cycle) (k.reports now.cycle) back) kept.1.1 are))

pub none_in_lost : (k : Kept) (pair : Pair) (ps : List Place) → pair.closed.lost ≡ true → ps ≡ [] → AreBack k pair ps
none_in_lost k pair ps lost none = (λ _. none, λ kept. absurd (false≢true (sym kept ∙ lost)))

pub back_in : {E : Type 0} (r : Result (Vec Place Global) E) (k : Kept) (pair : Pair) → pair.closed.lost ≡ false → IfOk r (λ back. AreBackSince k pair.closed pair.before back.items) → IfOk r (λ back. AreBack k pair back.items)
back_in (Ok back) k pair kept are = (λ lost. absurd (false≢true (sym kept ∙ lost)), λ _. are)
back_in (Err why) k pair kept are = tt

-- a call that fails after others fails for its reason
pub cause_later : {T : Type 0} (r : Result T ClosingStop) (a b c : ℕ) → a ≤ b → HasCause b c r → HasCause a c r
cause_later (Ok x) a b c le h = omega (arith, le, h)
cause_later (Err Failed) a b c le h = omega (arith, le, h)
cause_later (Err Output) a b c le h = absurd h
cause_later (Err Memory) a b c le h = omega (arith, le, h)
