-- How one more line moves the cuts of a report.
use Rattle.std.proofs.Common.{◌≡◌, ◌⊎◌, inl, inr, ℕ, ◌+◌, ◌-◌, ◌^◌, ◌<◌, ◌≤◌, List, [], ◌∷◌, ◌++◌, Bool, true, false, ◌↔◌, Option, Some, None, length, All, refl, sym, ap, subst, ◌∙◌, append_assoc, append-nil, arith}
use Rattle.std.proofs.lemmas.Bool.{lt-ltb, le-ltb, ltb-true, ltb-false, ne_eqb, or_right}
use Rattle.std.proofs.lemmas.List.Elements.{All-append, All-cons, All-nil}
use Rattle.std.specs.{Prelude.{cond, ◌==◌, ◌||◌, nat_lt, min}, Ordering.{is_eq}}
use Rattle.std.specs.declared.cmp.Ordering.TheVariants.{Less, Equal, Greater}
use Rattle.ocfl_tree.specs.{Place.{Text, Place, place_cmp, place_eq}, Name.{IsPlace}}
use Rattle.ocfl_tree.proofs.Orders.{place_cmp_exact}
use Rattle.ocfl_report.specs.{Line.{Line}, Text.{IsLineText}}
use Rattle.ocfl_separators.specs.{Parts.{max_separators}, Separators.{AreSeparators}}
use Rattle.ocfl_separators.specs.Costs.{line_cost, item_cost}
use Rattle.ocfl_separators.specs.Splits.{items_from, cuts_from, cuts, HasText, IsNotLess, AreInOrder}
use Rattle.ocfl_separators.specs.Internal.Cutting.{last_place, IsCutSoFar, TakesNot, TakesNotPlace, StopsAtEnd}
use Rattle.ocfl_separators.specs.declared.splitting.SplitStop.{SplitStop}
use Rattle.ocfl_separators.specs.declared.splitting.SplitStop.TheVariants.{Line as BadLine, Many, Read, Memory}
use Rattle.ocfl_separators.specs.declared.costs.ItemCost.{ItemCost}
use Rattle.ocfl_report.proofs.LineTexts.{line_text_read}
use Rattle.ocfl_separators.proofs.Orders.{AreSeparators-push, AreSeparators-nil}

-- ---- numbers beyond the budget are alike

-- a part that has spent its budget may have spent any more
pub cuts_capped : (b s t : ℕ) (items : List ItemCost) → b ≤ s → b ≤ t → cuts_from b s items ≡ cuts_from b t items
cuts_capped b s t [] h k = refl
cuts_capped b s t (i ∷ items) h k = by (i.cost == 0) (cuts_capped b (s + i.cost) (t + i.cost) items (omega arith) (omega arith))
  where
    by : (z : Bool) → cuts_from b (s + i.cost) items ≡ cuts_from b (t + i.cost) items
        → cond (z || nat_lt s b) (cuts_from b (s + i.cost) items) (i.place ∷ cuts_from b i.cost items) ≡ cond (z || nat_lt t b) (cuts_from b (t + i.cost) items) (i.place ∷ cuts_from b i.cost items)
    by true more = more
    by false more =
        ap (λ x. cond x (cuts_from b (s + i.cost) items) (i.place ∷ cuts_from b i.cost items)) (le-ltb s b h)
        ∙ sym (ap (λ x. cond x (cuts_from b (t + i.cost) items) (i.place ∷ cuts_from b i.cost items)) (le-ltb t b k))

-- two costs are the same for the budget
abbrev pub AreAlike : ℕ → ℕ → ℕ → Type 0
AreAlike b c d = (c ≡ d) ⊎ ((b ≤ c) × (b ≤ d) × (0 < c) × (0 < d))

spent_alike : (b s c d : ℕ) (items : List ItemCost) → AreAlike b c d → cuts_from b (s + c) items ≡ cuts_from b (s + d) items
spent_alike b s c d items (inl e) = ap (λ x. cuts_from b (s + x) items) e
spent_alike b s c d items (inr h) = cuts_capped b (s + c) (s + d) items (omega arith) (omega arith)

begun_alike : (b c d : ℕ) (items : List ItemCost) → AreAlike b c d → cuts_from b c items ≡ cuts_from b d items
begun_alike b c d items (inl e) = ap (λ x. cuts_from b x items) e
begun_alike b c d items (inr h) = cuts_capped b c d items h.0 h.1

none_alike : (b c d : ℕ) → AreAlike b c d → (c == 0) ≡ (d == 0)
none_alike b c d (inl e) = ap (λ x. x == 0) e
none_alike b c d (inr h) = ne_eqb c 0 (λ e. omega (arith, h.2, e)) ∙ sym (ne_eqb d 0 (λ e. omega (arith, h.3, e)))

item_alike : (b s c d : ℕ) (p : Place) (items : List ItemCost) → AreAlike b c d → cuts_from b s (record { place = p; cost = c } ∷ items) ≡ cuts_from b s (record { place = p; cost = d } ∷ items)
item_alike b s c d p items h = λ i. cond (none_alike b c d h i || nat_lt s b) (spent_alike b s c d items h i) (p ∷ begun_alike b c d items h i)

more_alike : (b c d k : ℕ) → AreAlike b c d → AreAlike b (c + k) (d + k)
more_alike b c d k (inl e) = inl (ap (λ x. x + k) e)
more_alike b c d k (inr h) = inr (omega arith, omega arith, omega arith, omega arith)

-- an item that one more line joins, or that is whole
abbrev joined_or_whole : Bool → Place → ℕ → ℕ → List Line → List ItemCost → List ItemCost
joined_or_whole z p c k more rest = cond z (items_from (Some (record { place = p; cost = c + k })) more) (record { place = p; cost = c } ∷ rest)

step : (b s c d k : ℕ) (p : Place) (z : Bool) (more : List Line) (rest : List ItemCost) → AreAlike b c d
    → cuts_from b s (items_from (Some (record { place = p; cost = c + k })) more) ≡ cuts_from b s (items_from (Some (record { place = p; cost = d + k })) more)
    → cuts_from b s (joined_or_whole z p c k more rest) ≡ cuts_from b s (joined_or_whole z p d k more rest)
step b s c d k p true more rest h e = e
step b s c d k p false more rest h e = item_alike b s c d p rest h

-- and so are items that were begun
begun_capped : (b s c d : ℕ) (p : Place) (more : List Line) → AreAlike b c d
    → cuts_from b s (items_from (Some (record { place = p; cost = c })) more) ≡ cuts_from b s (items_from (Some (record { place = p; cost = d })) more)
begun_capped b s c d p [] h = item_alike b s c d p [] h
begun_capped b s c d p (l ∷ more) h =
    step b s c d (line_cost l.code l.detail) p (place_eq p l.place) more (items_from (Some (item_cost l)) more) h
    (begun_capped b s (c + line_cost l.code l.detail) (d + line_cost l.code l.detail) p more (more_alike b c d (line_cost l.code l.detail) h))

saturated : (b c k d : ℕ) → b < 2 ^ 64 → d ≡ min (c + k) (2 ^ 64 - 1) → AreAlike b (c + k) d
saturated b c k d small e = by (nat_lt (c + k) (2 ^ 64)) refl
  where
    by : (z : Bool) → nat_lt (c + k) (2 ^ 64) ≡ z → AreAlike b (c + k) d
    by true f = let l = ltb-true (c + k) (2 ^ 64) f in inl (omega (arith, e, l))
    by false f = let l = ltb-false (c + k) (2 ^ 64) f in inr (omega (arith, e, l), omega (arith, e, l), omega (arith, e, l), omega (arith, e, l))

-- ---- one item more

-- an item that stays in its part
pub item_stays : (b s t : ℕ) (i : ItemCost) (items : List ItemCost) → b < 2 ^ 64 → (i.cost ≡ 0) ⊎ (s < b) → t ≡ min (s + i.cost) (2 ^ 64 - 1) → cuts_from b s (i ∷ items) ≡ cuts_from b t items
item_stays b s t i items small h e = ap (λ x. cond x (cuts_from b (s + i.cost) items) (i.place ∷ cuts_from b i.cost items)) (stays h)
    ∙ begun_alike b (s + i.cost) t items (saturated b s i.cost t small e)
  where
    stays : (i.cost ≡ 0) ⊎ (s < b) → (i.cost == 0 || nat_lt s b) ≡ true
    stays (inl z) = ap (λ x. x == 0 || nat_lt s b) z
    stays (inr l) = ap (λ x. i.cost == 0 || x) (lt-ltb s b l) ∙ or_right (i.cost == 0) true refl

-- ---- one line more

module _ (b : ℕ) (small : b < 2 ^ 64) (done : List Line) (ps : List Place) (s : ℕ) (l : Line) (has : HasText l) where
  -- what further lines make of it
  done_more : (more : List Line) → (done ++ l ∷ []) ++ more ≡ done ++ (l ∷ more)
  done_more more = append_assoc done (l ∷ []) more

  texts_more : All HasText done → All HasText (done ++ l ∷ [])
  texts_more h = All-append HasText done (l ∷ []) h (All-cons HasText l [] has (All-nil HasText))

  order_more : (item : Option ItemCost) → IsNotLess (last_place item) l.place → ((more : List Line) → AreInOrder (last_place item) more ↔ AreInOrder None (done ++ more))
      → (more : List Line) → AreInOrder (Some l.place) more ↔ AreInOrder None ((done ++ l ∷ []) ++ more)
  order_more item h order more =
      subst (λ ls. AreInOrder (Some l.place) more ↔ AreInOrder None ls) (sym (done_more more)) ((λ k. (order (l ∷ more)).0 (h, k)), (λ k. ((order (l ∷ more)).1 k).1))

  cuts_more : (item : Option ItemCost) (qs : List Place) (t : ℕ) (next : Option ItemCost) → ((more : List Line) → cuts b (done ++ more) ≡ ps ++ cuts_from b s (items_from item more))
      → ((more : List Line) → ps ++ cuts_from b s (items_from item (l ∷ more)) ≡ qs ++ cuts_from b t (items_from next more))
      → (more : List Line) → cuts b ((done ++ l ∷ []) ++ more) ≡ qs ++ cuts_from b t (items_from next more)
  cuts_more item qs t next h k more = ap (cuts b) (done_more more) ∙ h (l ∷ more) ∙ k more

  -- the first line
  begins : IsCutSoFar b done ps s None → IsCutSoFar b (done ++ l ∷ []) ps s (Some (item_cost l))
  begins h = record {
    texts = texts_more h.texts;
    order = order_more None tt h.order;
    cuts = cuts_more None ps s (Some (item_cost l)) h.cuts (λ more. refl);
    below = subst (λ xs. AreSeparators (xs ++ l.place ∷ [])) (sym h.below) (AreSeparators-push [] l.place AreSeparators-nil has.place (tt, tt));
    few = h.few;
  }

  -- a line of the same place
  joins : (i : ItemCost) (cost : ℕ) → place_cmp i.place l.place ≡ Equal → cost ≡ min (i.cost + line_cost l.code l.detail) (2 ^ 64 - 1) → IsCutSoFar b done ps s (Some i)
      → IsCutSoFar b (done ++ l ∷ []) ps s (Some (record { place = i.place; cost = cost }))
  joins i cost e f h = record {
    texts = texts_more h.texts;
    order = subst (λ p. (more : List Line) → AreInOrder (Some p) more ↔ AreInOrder None ((done ++ l ∷ []) ++ more)) (sym (place_cmp_exact i.place l.place e))
        (order_more (Some i) (λ g. let two : Equal ≡ Greater = sym e ∙ g in cc) h.order);
    cuts = cuts_more (Some i) ps s (Some (record { place = i.place; cost = cost })) h.cuts (λ more. ap (λ xs. ps ++ xs) (same more));
    below = h.below;
    few = h.few;
  }
    where
      same : (more : List Line) → cuts_from b s (items_from (Some i) (l ∷ more)) ≡ cuts_from b s (items_from (Some (record { place = i.place; cost = cost })) more)
      same more =
          ap (λ o. cuts_from b s (cond (is_eq o) (items_from (Some (record { place = i.place; cost = i.cost + line_cost l.code l.detail })) more) (i ∷ items_from (Some (item_cost l)) more))) e
          ∙ begun_capped b s (i.cost + line_cost l.code l.detail) cost i.place more (saturated b i.cost (line_cost l.code l.detail) cost small f)

  -- a line of a later place
  goes_on : (i : ItemCost) (qs : List Place) (t : ℕ) → place_cmp i.place l.place ≡ Less → ((items : List ItemCost) → ps ++ cuts_from b s (i ∷ items) ≡ qs ++ cuts_from b t items)
      → ((p : Place) → IsPlace p → place_cmp i.place p ≡ Less → AreSeparators (qs ++ p ∷ [])) → (length ps ≤ max_separators → length qs ≤ max_separators) → IsCutSoFar b done ps s (Some i)
      → IsCutSoFar b (done ++ l ∷ []) qs t (Some (item_cost l))
  goes_on i qs t e closes above few h = record {
    texts = texts_more h.texts;
    order = order_more (Some i) (λ g. let two : Less ≡ Greater = sym e ∙ g in cc) h.order;
    cuts = cuts_more (Some i) qs t (Some (item_cost l)) h.cuts (λ more. apart more ∙ closes (items_from (Some (item_cost l)) more));
    below = above l.place has.place e;
    few = few h.few;
  }
    where
      apart : (more : List Line) → ps ++ cuts_from b s (items_from (Some i) (l ∷ more)) ≡ ps ++ cuts_from b s (i ∷ items_from (Some (item_cost l)) more)
      apart more = ap (λ o. ps ++ cuts_from b s
          (cond (is_eq o) (items_from (Some (record { place = i.place; cost = i.cost + line_cost l.code l.detail })) more) (i ∷ items_from (Some (item_cost l)) more))) e

-- ---- as the code has it

module _ (b : ℕ) (small : b < 2 ^ 64) (done : List Line) (ps : List Place) (s : ℕ) (item : Option ItemCost) (h : IsCutSoFar b done ps s item) where
  pub first_taken : (said : ItemCost) → item ≡ None → (l : Line) → HasText l → said ≡ item_cost l → IsCutSoFar b (done ++ l ∷ []) ps s (Some said)
  first_taken said e l has f = subst (λ t. IsCutSoFar b (done ++ l ∷ []) ps s (Some t)) (sym f) (begins b small done ps s l has (subst (IsCutSoFar b done ps s) e h))

  pub same_taken : (i said : ItemCost) (cost : ℕ) → item ≡ Some i → place_cmp i.place said.place ≡ Equal → cost ≡ min (i.cost + said.cost) (2 ^ 64 - 1) → (l : Line) → HasText l → said ≡ item_cost l
      → IsCutSoFar b (done ++ l ∷ []) ps s (Some (record { place = i.place; cost = cost }))
  same_taken i said cost e o f l has g =
      joins b small done ps s l has i cost (ap (λ t. place_cmp i.place t.place) (sym g) ∙ o) (f ∙ ap (λ t. min (i.cost + t.cost) (2 ^ 64 - 1)) g) (subst (IsCutSoFar b done ps s) e h)

  pub later_taken : (i said : ItemCost) (qs : List Place) (t : ℕ) → item ≡ Some i → place_cmp i.place said.place ≡ Less
      → ((items : List ItemCost) → ps ++ cuts_from b s (i ∷ items) ≡ qs ++ cuts_from b t items)
      → ((p : Place) → IsPlace p → place_cmp i.place p ≡ Less → AreSeparators (qs ++ p ∷ [])) → (length ps ≤ max_separators → length qs ≤ max_separators)
      → (l : Line) → HasText l → said ≡ item_cost l → IsCutSoFar b (done ++ l ∷ []) qs t (Some said)
  later_taken i said qs t e o closes above few l has g =
      subst (λ x. IsCutSoFar b (done ++ l ∷ []) qs t (Some x)) (sym g)
      (goes_on b small done ps s l has i qs t (ap (λ x. place_cmp i.place x.place) (sym g) ∙ o) closes above few (subst (IsCutSoFar b done ps s) e h))

  -- all cuts, if no line follows
  cuts_whole : cuts b done ≡ ps ++ cuts_from b s (items_from item [])
  cuts_whole = ap (cuts b) (sym (append-nil done)) ∙ h.cuts []

  pub none_left : item ≡ None → ps ≡ cuts b done
  none_left e = sym (cuts_whole ∙ ap (λ x. ps ++ cuts_from b s (items_from x [])) e ∙ append-nil ps)

  pub last_closed : (i : ItemCost) (qs : List Place) (t : ℕ) → item ≡ Some i → ((items : List ItemCost) → ps ++ cuts_from b s (i ∷ items) ≡ qs ++ cuts_from b t items) → qs ≡ cuts b done
  last_closed i qs t e closes = sym (cuts_whole ∙ ap (λ x. ps ++ cuts_from b s (items_from x [])) e ∙ closes [] ∙ append-nil qs)

  -- one separator too many
  too_many : (i : ItemCost) → item ≡ Some i → max_separators < length (ps ++ cuts_from b s (i ∷ [])) → max_separators < length (cuts b done)
  too_many i e l = subst (λ xs. max_separators < length xs) (sym (cuts_whole ∙ ap (λ x. ps ++ cuts_from b s (items_from x [])) e)) l

  pub close_refused : (i : ItemCost) (number : ℕ) (p : Place) (stop : SplitStop) → item ≡ Some i → (stop ≡ Many) ⊎ (stop ≡ Memory)
      → (stop ≡ Many → max_separators < length (ps ++ cuts_from b s (i ∷ []))) → TakesNotPlace b done number p stop
  close_refused i number p (BadLine n) e (inl f) many = cc
  close_refused i number p (BadLine n) e (inr f) many = cc
  close_refused i number p Many e d many = too_many i e (many refl)
  close_refused i number p Read e d many = tt
  close_refused i number p Memory e d many = tt

  pub end_refused : (i : ItemCost) (stop : SplitStop) → item ≡ Some i → (stop ≡ Many) ⊎ (stop ≡ Memory) → (stop ≡ Many → max_separators < length (ps ++ cuts_from b s (i ∷ []))) → StopsAtEnd b done stop
  end_refused i (BadLine n) e (inl f) many = cc
  end_refused i (BadLine n) e (inr f) many = cc
  end_refused i Many e d many = too_many i e (many refl)
  end_refused i Read e d many = tt
  end_refused i Memory e d many = tt

-- no line is taken yet
pub none_taken : (b : ℕ) (ps : List Place) → ps ≡ [] → IsCutSoFar b [] ps 0 None
none_taken b ps e = record {
  texts = All-nil HasText;
  order = λ more. (λ k. k, λ k. k);
  cuts = λ more. ap (λ xs. xs ++ cuts b more) (sym e);
  below = e;
  few = omega (arith, ap length e);
}

-- a line that may not follow at its place may not follow
pub place_refused : (b : ℕ) (done : List Line) (number : ℕ) (text : Text) (p : Place) (l : Line) (stop : SplitStop) → IsLineText text l → p ≡ l.place
    → TakesNotPlace b done number p stop → TakesNot b done number text stop
place_refused b done number text p l (BadLine n) it e h = (h.0, λ m is order. h.1 m (ap (λ x. x.place) (line_text_read text m l is it) ∙ sym e) order)
place_refused b done number text p l Many it e h = h
place_refused b done number text p l Read it e h = tt
place_refused b done number text p l Memory it e h = tt

pub text_of_line : (text : Text) (l : Line) → IsLineText text l → HasText l
text_of_line text l h = record { place = h.place; detail = h.detail }
