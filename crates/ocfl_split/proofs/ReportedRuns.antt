-- A report is cut where the runs of a cycle begin, and each run but the last passes its budget by
-- less than its last file.
use Rattle.std.proofs.Common.{◌≡◌, ◌≢◌, ℕ, zero, suc, ◌+◌, ◌<◌, ◌≤◌, List, [], ◌∷◌, ◌++◌, refl, sym, ◌∙◌, ap, subst, true, false, Bool, arith, map, take, drop, replicate, ltb-true, ltb-false, eqb-true}
use Rattle.std.proofs.{lemmas.Bool.{lt-ltb}, lemmas.List.{take-append-drop}}
use Rattle.std.specs.Prelude.{cond, ◌==◌, ◌||◌, nat_lt}
use Rattle.ocfl_tree.specs.{Place.{Place, place_cmp}, Ascending.{IsAscending}}
use Rattle.ocfl_report.specs.Line.{Line, Item}
use Rattle.ocfl_rules.specs.Audit.{total_cost}
use Rattle.ocfl_rules.specs.Runs.{Limits, runs, joined, FileLimitFits, budget_len, budget_cut, budget_left, budget_runs_after, budget_runs}
use Rattle.ocfl_rules.specs.Parts.{within, parts_of}
use Rattle.ocfl_rules.proofs.{AfterLaws.{places}, RunLaws.{affords, cancel, left_over, same_equal}}
use Rattle.ocfl_separators.specs.Splits.{reported, cuts}
use Rattle.ocfl_separators.proofs.ItemCuts.{item_cuts, cuts_of_items}
use Rattle.ocfl_split.specs.Reported.{first_places, PassesJust}
use Rattle.ocfl_split.proofs.ReportedParts.{AreSome, parts_are_cuts}

false_not_true : false ≡ true → ⊥
false_not_true e = cc

-- where nothing has been spent, any item is
affords_first : (b c : ℕ) → 1 ≤ b → affords b 0 c ≡ true
affords_first b c some = by (c == 0)
  where
    by : (t : Bool) → (t || nat_lt 0 b) ≡ true
    by true = refl
    by false = lt-ltb 0 b (omega (arith, some))

-- what a run takes that has spent s before: a last file that passes the budget, and then what
-- is free
record TakesJust (b s : ℕ) (items : List Item) : Type 0 where
  before : List Item
  file : Item
  after : List Item
  are : items ≡ before ++ file ∷ after
  free : total_cost after ≡ 0
  enough : b ≤ s + total_cost items
  overrun : s + total_cost items < b + file.cost

-- ---- cuts of items

-- of items of which the first begins a part
abbrev cuts_on : ℕ → List Item → List Place
cuts_on b [] = []
cuts_on b (i ∷ items) = i.place ∷ item_cuts b i.cost items

-- the first cut is at what a run leaves
cuts_left : (b s : ℕ) (items : List Item) → item_cuts b s items ≡ cuts_on b (drop (budget_len b s items) items)
cuts_left b s [] = refl
cuts_left b s (i ∷ items) = by (affords b s i.cost) (cuts_left b (s + i.cost) items)
  where
    by : (t : Bool) → item_cuts b (s + i.cost) items ≡ cuts_on b (drop (budget_len b (s + i.cost) items) items)
        → cond t (item_cuts b (s + i.cost) items) (i.place ∷ item_cuts b i.cost items) ≡ cuts_on b (drop (cond t (suc (budget_len b (s + i.cost) items)) 0) (i ∷ items))
    by true e = e
    by false e = refl

-- ---- where runs begin

module _ (b : ℕ) (some : 1 ≤ b) where
  -- a run takes its first item
  takes_first : (i : Item) (items : List Item) (later : List (List Item)) → first_places (budget_cut (i ∷ items) b ∷ later) ≡ i.place ∷ first_places later
  takes_first i items later = by (affords b 0 i.cost) (affords_first b i.cost some)
    where
      by : (t : Bool) → t ≡ true → first_places (take (cond t (suc (budget_len b (0 + i.cost) items)) 0) (i ∷ items) ∷ later) ≡ i.place ∷ first_places later
      by true e = refl
      by false e = absurd (false_not_true e)

  -- and leaves what one leaves that has spent its cost
  leaves_after : (i : Item) (items : List Item) → budget_left (i ∷ items) b ≡ drop (budget_len b i.cost items) items
  leaves_after i items = by (affords b 0 i.cost) (affords_first b i.cost some)
    where
      same : 0 + i.cost ≡ i.cost
      same = omega arith

      by : (t : Bool) → t ≡ true → drop (cond t (suc (budget_len b (0 + i.cost) items)) 0) (i ∷ items) ≡ drop (budget_len b i.cost items) items
      by true e = ap (λ s. drop (budget_len b s items) items) same
      by false e = absurd (false_not_true e)

  begin_after : (n : ℕ) (items : List Item) → joined (budget_runs_after (replicate n b) items) ≡ items → first_places (budget_runs_after (replicate n b) items) ≡ cuts_on b items
  begin_after zero [] h = refl
  begin_after zero (i ∷ items) h = absurd cc
  begin_after (suc n) [] h = refl
  begin_after (suc n) (i ∷ items) h =
      let rest : List Item = budget_left (i ∷ items) b in
      let whole : budget_cut (i ∷ items) b ++ rest ≡ i ∷ items = take-append-drop _ (i ∷ items) in
      let later : joined (budget_runs_after (replicate n b) rest) ≡ rest = cancel (budget_cut (i ∷ items) b) _ _ (h ∙ sym whole) in
      takes_first i items (budget_runs_after (replicate n b) rest)
      ∙ ap (λ l. i.place ∷ l) (begin_after n rest later ∙ ap (cuts_on b) (leaves_after i items) ∙ sym (cuts_left b i.cost items))

  begin_of : (n : ℕ) (items : List Item) → joined (budget_runs items (replicate n b)) ≡ items → item_cuts b 0 items ≡ first_places (drop 1 (budget_runs items (replicate n b)))
  begin_of zero [] h = refl
  begin_of zero (i ∷ items) h = absurd cc
  begin_of (suc n) items h =
      let rest : List Item = budget_left items b in
      let whole : budget_cut items b ++ rest ≡ items = take-append-drop _ items in
      let later : joined (budget_runs_after (replicate n b) rest) ≡ rest = cancel (budget_cut items b) _ _ (h ∙ sym whole) in
      cuts_left b 0 items ∙ sym (begin_after n rest later)

  some_after : (n : ℕ) (items : List Item) → AreSome (budget_runs_after (replicate n b) items)
  some_after zero items = tt
  some_after (suc n) [] = tt
  some_after (suc n) (i ∷ items) = by (affords b 0 i.cost) (affords_first b i.cost some) (some_after n (budget_left (i ∷ items) b))
    where
      later : List (List Item)
      later = budget_runs_after (replicate n b) (budget_left (i ∷ items) b)

      by : (t : Bool) → t ≡ true → AreSome later → AreSome (take (cond t (suc (budget_len b (0 + i.cost) items)) 0) (i ∷ items) ∷ later)
      by true e more = more
      by false e more = absurd (false_not_true e)

  parts_of_budget : (n : ℕ) (items : List Item) → joined (budget_runs items (replicate (suc n) b)) ≡ items → IsAscending place_cmp (places items)
      → map (λ part. within part items) (parts_of (first_places (budget_runs_after (replicate n b) (budget_left items b)))) ≡ budget_runs items (replicate (suc n) b)
  parts_of_budget n items h up =
      let first : List Item = budget_cut items b in
      let later : List (List Item) = budget_runs_after (replicate n b) (budget_left items b) in
      let whole : first ++ joined later ≡ items = h in
      let up_again : IsAscending place_cmp (places (first ++ joined later)) = subst (λ xs. IsAscending place_cmp (places xs)) (sym whole) up in
      subst (λ xs. map (λ part. within part xs) (parts_of (first_places later)) ≡ first ∷ later) whole (parts_are_cuts first later (some_after n (budget_left items b)) up_again)

  -- ---- what runs cost

  -- a run that has spent its budget takes what is free
  takes_free : (s : ℕ) (items : List Item) → b ≤ s → total_cost (take (budget_len b s items) items) ≡ 0
  takes_free s [] h = refl
  takes_free s (i ∷ items) h = by (i.cost == 0) (nat_lt s b) refl refl (takes_free (s + i.cost) items (omega (arith, h)))
    where
      by : (z t : Bool) → i.cost == 0 ≡ z → nat_lt s b ≡ t → total_cost (take (budget_len b (s + i.cost) items) items) ≡ 0
          → total_cost (take (cond (z || t) (suc (budget_len b (s + i.cost) items)) 0) (i ∷ items)) ≡ 0
      by true t e f more = let zero_cost : i.cost ≡ 0 = eqb-true i.cost 0 e in omega (arith, zero_cost, more)
      by false true e f more = let less = ltb-true s b f in absurd (omega (arith, less, h))
      by false false e f more = refl

  -- what a run takes from here on that leaves something
  takes_just : (s : ℕ) (items : List Item) → s < b → drop (budget_len b s items) items ≢ [] → TakesJust b s (take (budget_len b s items) items)
  takes_just s [] l h = absurd (h refl)
  takes_just s (i ∷ items) l h = by (affords b s i.cost) refl h (takes_just (s + i.cost) items)
    where
      taken : List Item
      taken = take (budget_len b (s + i.cost) items) items

      more : (t : Bool) → nat_lt (s + i.cost) b ≡ t → (s + i.cost < b → TakesJust b (s + i.cost) taken) → TakesJust b s (i ∷ taken)
      more true e later =
          let on = later (ltb-true (s + i.cost) b e) in
          let enough = on.enough in
          let overrun = on.overrun in
          record {
            before = i ∷ on.before;
            file = on.file;
            after = on.after;
            are = ap (λ xs. i ∷ xs) on.are;
            free = on.free;
            enough = omega (arith, enough);
            overrun = omega (arith, overrun);
          }
      more false e later =
          let spent = ltb-false (s + i.cost) b e in
          let free = takes_free (s + i.cost) items spent in
          record { before = []; file = i; after = taken; are = refl; free = free; enough = omega (arith, spent); overrun = omega (arith, free, l) }

      by : (t : Bool) → affords b s i.cost ≡ t → drop (cond t (suc (budget_len b (s + i.cost) items)) 0) (i ∷ items) ≢ []
          → (s + i.cost < b → drop (budget_len b (s + i.cost) items) items ≢ [] → TakesJust b (s + i.cost) taken)
          → TakesJust b s (take (cond t (suc (budget_len b (s + i.cost) items)) 0) (i ∷ items))
      by true e g later = more (nat_lt (s + i.cost) b) refl (λ m. later m g)
      by false e g later = let full = (left_over b s i.cost e).1 in absurd (omega (arith, full, l))

  cut_just : (items : List Item) → budget_left items b ≢ [] → PassesJust b (budget_cut items b)
  cut_just items h =
      let just = takes_just 0 items (omega (arith, some)) h in
      let enough = just.enough in
      let overrun = just.overrun in
      record { before = just.before; file = just.file; after = just.after; are = just.are; free = just.free; enough = omega (arith, enough); overrun = omega (arith, overrun) }

  no_runs : (n : ℕ) → budget_runs_after (replicate n b) [] ≡ []
  no_runs zero = refl
  no_runs (suc n) = refl

  -- a run after which another follows left something
  left_some : (n : ℕ) (rest : List Item) (next : List Item) (later : List (List Item)) → budget_runs_after (replicate n b) rest ≡ next ∷ later → rest ≢ []
  left_some n rest next later h e = let two : next ∷ later ≡ [] = sym h ∙ ap (budget_runs_after (replicate n b)) e ∙ no_runs n in cc

  not_nothing : (before : List (List Item)) (run : List Item) (later : List (List Item)) → [] ≡ before ++ run ∷ later → ⊥
  not_nothing [] run later h = cc
  not_nothing (x ∷ before) run later h = cc

  just_after : (n : ℕ) (items : List Item) (before : List (List Item)) (run next : List Item) (later : List (List Item))
      → budget_runs_after (replicate n b) items ≡ before ++ run ∷ next ∷ later → PassesJust b run
  just_after zero items before run next later h = absurd (not_nothing before run (next ∷ later) h)
  just_after (suc n) [] before run next later h = absurd (not_nothing before run (next ∷ later) h)
  just_after (suc n) (i ∷ items) [] run next later h =
      let first : budget_cut (i ∷ items) b ≡ run = cc in
      let others : budget_runs_after (replicate n b) (budget_left (i ∷ items) b) ≡ next ∷ later = cc in
      subst (PassesJust b) first (cut_just (i ∷ items) (left_some n (budget_left (i ∷ items) b) next later others))
  just_after (suc n) (i ∷ items) (x ∷ before) run next later h =
      let others : budget_runs_after (replicate n b) (budget_left (i ∷ items) b) ≡ before ++ run ∷ next ∷ later = cc in
      just_after n (budget_left (i ∷ items) b) before run next later others

  just_of : (n : ℕ) (items : List Item) (before : List (List Item)) (run next : List Item) (later : List (List Item)) → budget_runs items (replicate n b) ≡ before ++ run ∷ next ∷ later → PassesJust b run
  just_of zero items before run next later h = absurd (not_nothing before run (next ∷ later) h)
  just_of (suc n) items [] run next later h =
      let first : budget_cut items b ≡ run = cc in
      let others : budget_runs_after (replicate n b) (budget_left items b) ≡ next ∷ later = cc in
      subst (PassesJust b) first (cut_just items (left_some n (budget_left items b) next later others))
  just_of (suc n) items (x ∷ before) run next later h =
      let others : budget_runs_after (replicate n b) (budget_left items b) ≡ before ++ run ∷ next ∷ later = cc in
      just_after n (budget_left items b) before run next later others

-- ---- the same of limits whose limit on files fits

pub cuts_begin_runs : (lines : List Line) (l : Limits) (n : ℕ) → 1 ≤ l.budget → FileLimitFits (reported lines) l
    → joined (runs (reported lines) (replicate n l)) ≡ reported lines → cuts l.budget lines ≡ first_places (drop 1 (runs (reported lines) (replicate n l)))
cuts_begin_runs lines l n some fit whole =
    let same = same_equal (reported lines) l n fit in
    cuts_of_items l.budget lines
    ∙ begin_of l.budget some n (reported lines) (ap joined (sym same) ∙ whole)
    ∙ ap (λ cuts. first_places (drop 1 cuts)) (sym same)

pub runs_pass_just : (items : List Item) (l : Limits) (n : ℕ) (before : List (List Item)) (run next : List Item) (later : List (List Item)) → 1 ≤ l.budget → FileLimitFits items l
    → runs items (replicate n l) ≡ before ++ run ∷ next ∷ later → PassesJust l.budget run
runs_pass_just items l n before run next later some fit h = just_of l.budget some n items before run next later (sym (same_equal items l n fit) ∙ h)

pub parts_are_runs : (lines : List Line) (l : Limits) (n : ℕ) → 1 ≤ n → 1 ≤ l.budget → FileLimitFits (reported lines) l → joined (runs (reported lines) (replicate n l)) ≡ reported lines
    → IsAscending place_cmp (places (reported lines)) → map (λ part. within part (reported lines)) (parts_of (cuts l.budget lines)) ≡ runs (reported lines) (replicate n l)
parts_are_runs lines l zero one some fit whole up = absurd (omega (arith, one))
parts_are_runs lines l (suc n) one some fit whole up =
    let same = same_equal (reported lines) l (suc n) fit in
    ap (λ seps. map (λ part. within part (reported lines)) (parts_of seps))
    (cuts_begin_runs lines l (suc n) some fit whole ∙ ap (λ cuts. first_places (drop 1 cuts)) same)
    ∙ parts_of_budget l.budget some n (reported lines) (ap joined (sym same) ∙ whole) up
    ∙ sym same
