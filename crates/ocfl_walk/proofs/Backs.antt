-- Lists that are kept from the last to the first.
use Rattle.std.proofs.Common.{◌≡◌, ◌≢◌, ℕ, zero, suc, ◌-◌, ◌+◌, Bool, true, false, List, [], ◌∷◌, ◌++◌, Option, Some, None, length, refl, ap, ◌∙◌, sym, subst, arith, vec_len}
use Rattle.std.proofs.{lemmas.Bool.{eqb-true, eqb-false}, lemmas.List.{nil_from_length}}
use Rattle.std.specs.Prelude.{cond, filter, slice_get, option_map, MatchOption, ◌==◌}
use Rattle.std.specs.Option.{option_to_list}
use Rattle.ocfl_tree.specs.declared.store.Entry.{Entry}
use Rattle.ocfl_walk.specs.Standing.{back, back_onto, piles_of, pile_of}
use Rattle.ocfl_walk.specs.Internal.Standing.{IsTaken, next_in, next_of, trimmed, trimmed_from}
use Rattle.ocfl_item.specs.declared.folder.Folder.{Folder}

module _ {A B : Type 0} (f : A → B) where
  back_onto_push : (xs : List A) (x : A) (ys : List B) → back_onto f (xs ++ x ∷ []) ys ≡ f x ∷ back_onto f xs ys
  back_onto_push [] x ys = refl
  back_onto_push (z ∷ xs) x ys = back_onto_push xs x (f z ∷ ys)

  pub back_push : (xs : List A) (x : A) → back f (xs ++ x ∷ []) ≡ f x ∷ back f xs
  back_push xs x = back_onto_push xs x []

  pub back_same : (xs ys : List A) (x : A) → ys ≡ xs ++ x ∷ [] → back f ys ≡ f x ∷ back f xs
  back_same xs ys x e = ap (back f) e ∙ back_push xs x

module _ {A : Type 0} (test : A → Bool) where
  filter_onto : (xs ys : List A) → back_onto (λ x. x) (filter test xs) (filter test ys) ≡ filter test (back_onto (λ x. x) xs ys)
  filter_onto [] ys = refl
  filter_onto (x ∷ xs) ys = by (test x) refl (filter_onto xs (x ∷ ys))
    where
      by : (b : Bool) → test x ≡ b → back_onto (λ x. x) (filter test xs) (filter test (x ∷ ys)) ≡ filter test (back_onto (λ x. x) xs (x ∷ ys))
          → back_onto (λ x. x) (cond b (x ∷ filter test xs) (filter test xs)) (filter test ys) ≡ filter test (back_onto (λ x. x) xs (x ∷ ys))
      by true e h = ap (λ b. back_onto (λ x. x) (filter test xs) (cond b (x ∷ filter test ys) (filter test ys))) (sym e) ∙ h
      by false e h = ap (λ b. back_onto (λ x. x) (filter test xs) (cond b (x ∷ filter test ys) (filter test ys))) (sym e) ∙ h

  -- what passes a test, from the last to the first
  pub back_filter : (xs : List A) → back (λ x. x) (filter test xs) ≡ filter test (back (λ x. x) xs)
  back_filter xs = filter_onto xs []

pub piles_push : (fs gs : List Folder) (f : Folder) → gs ≡ fs ++ f ∷ [] → piles_of gs ≡ pile_of f ∷ piles_of fs
piles_push fs gs f e = back_same pile_of fs gs f e

module _ {A : Type 0} where
  -- a list with an item has a last
  pub snoc : (xs : List A) → (xs ≢ []) → (ys : List A) × (x : A) × (xs ≡ ys ++ x ∷ [])
  snoc [] n = absurd (n refl)
  snoc (x ∷ []) n = ([], x, refl)
  snoc (x ∷ y ∷ xs) n = let k = snoc (y ∷ xs) (λ g. cc) in (x ∷ k.0, k.1, ap (λ zs. x ∷ zs) k.2)

  split_at_last : (n : ℕ) (xs : List A) (x : A) → length xs ≡ suc n → slice_get xs n ≡ Some x → (ys : List A) × (xs ≡ ys ++ x ∷ [])
  split_at_last zero [] x h e = absurd (omega (arith, h))
  split_at_last zero (y ∷ []) x h e = ([], let same : y ≡ x = cc in ap (λ z. z ∷ []) same)
  split_at_last zero (y ∷ z ∷ ys) x h e = absurd (omega (arith, h))
  split_at_last (suc n) [] x h e = absurd (omega (arith, h))
  split_at_last (suc n) (y ∷ ys) x h e = let k = split_at_last n ys x (omega (arith, h)) e in (y ∷ k.0, ap (λ zs. y ∷ zs) k.1)

  pub last_split : (xs : List A) (o : Option A) → o ≡ slice_get xs (length xs - 1) → MatchOption o (xs ≡ []) (λ x. (ys : List A) × (xs ≡ ys ++ x ∷ []))
  last_split [] None e = refl
  last_split [] (Some x) e = absurd cc
  last_split (y ∷ ys) None e = absurd (some_at (length ys) (y ∷ ys) refl (subst (λ k. None ≡ slice_get (y ∷ ys) k) (omega arith) e))
    where
      some_at : (n : ℕ) (xs : List A) → length xs ≡ suc n → None ≡ slice_get xs n → ⊥
      some_at zero [] h g = omega (arith, h)
      some_at zero (z ∷ zs) h g = cc
      some_at (suc n) [] h g = omega (arith, h)
      some_at (suc n) (z ∷ zs) h g = some_at n zs (omega (arith, h)) g
  last_split (y ∷ ys) (Some x) e = split_at_last (length ys) (y ∷ ys) x refl (subst (λ k. slice_get (y ∷ ys) k ≡ Some x) (omega arith) (sym e))

pub next_of_last : (fs gs : List Folder) (f : Folder) (o : Option Entry) → gs ≡ fs ++ f ∷ [] → o ≡ slice_get f.entries.items (length f.entries.items - 1)
    → next_of (piles_of gs) ≡ option_map (λ e. f.place ++ e.name ∷ []) o
next_of_last fs gs f o h k = ap next_of (piles_push fs gs f h) ∙ by o (last_split f.entries.items o k)
  where
    by : (o : Option Entry) → MatchOption o (f.entries.items ≡ []) (λ x. (ys : List Entry) × (f.entries.items ≡ ys ++ x ∷ []))
        → next_in f.place (back (λ e. e) f.entries.items) ≡ option_map (λ e. f.place ++ e.name ∷ []) o
    by None e = ap (λ xs. next_in f.place (back (λ x. x) xs)) e
    by (Some e) w = ap (next_in f.place) (back_same (λ x. x) w.0 f.entries.items e w.1)

-- ---- popping

pub trim_keeps : (fs gs : List Folder) (f : Folder) → gs ≡ fs ++ f ∷ [] → f.entries.items ≢ [] → trimmed (piles_of gs) ≡ piles_of gs
trim_keeps fs gs f e n = ap trimmed (piles_push fs gs f e) ∙ by f.entries.items n ∙ sym (piles_push fs gs f e)
  where
    by : (xs : List Entry) → (xs ≢ []) → trimmed_from f.place (back (λ e. e) xs) (trimmed (piles_of fs)) (piles_of fs) ≡ (f.place, back (λ e. e) xs) ∷ piles_of fs
    by xs n =
        let k = snoc xs n in
        let b : back (λ e. e) xs ≡ k.1 ∷ back (λ e. e) k.0 = back_same (λ e. e) k.0 xs k.1 k.2 in
        subst (λ zs. trimmed_from f.place zs (trimmed (piles_of fs)) (piles_of fs) ≡ (f.place, zs) ∷ piles_of fs) (sym b) refl

pub trim_drops : (fs gs : List Folder) (f : Folder) → gs ≡ fs ++ f ∷ [] → f.entries.items ≡ [] → trimmed (piles_of gs) ≡ trimmed (piles_of fs)
trim_drops fs gs f e n = ap trimmed (piles_push fs gs f e) ∙ ap (λ xs. trimmed_from f.place (back (λ e. e) xs) (trimmed (piles_of fs)) (piles_of fs)) n

pub taken : (fs old new : List Folder) (f g : Folder) (entry : Entry) → old ≡ fs ++ f ∷ [] → new ≡ fs ++ g ∷ [] → g.place ≡ f.place → f.entries.items ≡ g.entries.items ++ entry ∷ []
    → IsTaken (piles_of old) (piles_of new) entry
taken fs old new f g entry h k p e = record {
  place = f.place;
  rest = back (λ x. x) g.entries.items;
  others = piles_of fs;
  old_is = piles_push fs old f h ∙ ap (λ xs. (f.place, xs) ∷ piles_of fs) (back_same (λ x. x) g.entries.items f.entries.items entry e);
  new_is = piles_push fs new g k ∙ ap (λ d. (d, back (λ x. x) g.entries.items) ∷ piles_of fs) p;
}

pub none_taken : (fs old : List Folder) (f : Folder) → old ≡ fs ++ f ∷ [] → f.entries.items ≡ [] → next_of (piles_of old) ≡ None
none_taken fs old f h e = ap next_of (piles_push fs old f h) ∙ ap (λ xs. next_in f.place (back (λ x. x) xs)) e

some_items : (f : Folder) → (vec_len f.entries == 0) ≡ false → f.entries.items ≢ []
some_items f n = λ e. eqb-false (vec_len f.entries) 0 n (omega (arith, ap length e, f.entries.ok.0))

no_items : (f : Folder) → (vec_len f.entries == 0) ≡ true → f.entries.items ≡ []
no_items f n = let none : vec_len f.entries ≡ 0 = eqb-true (vec_len f.entries) 0 n in nil_from_length f.entries.items (omega (arith, none, f.entries.ok.0))

pub trim_keeps_by : (fs old new : List Folder) (f : Folder) (b : Bool) → old ≡ fs ++ f ∷ [] → new ≡ fs ++ f ∷ [] → b ≡ (vec_len f.entries == 0) → b ≡ false → piles_of new ≡ trimmed (piles_of old)
trim_keeps_by fs old new f b h k e n = ap piles_of (k ∙ sym h) ∙ sym (trim_keeps fs old f h (some_items f (sym e ∙ n)))

pub trim_drops_by : (fs old : List Folder) (f : Folder) (b : Bool) → old ≡ fs ++ f ∷ [] → b ≡ (vec_len f.entries == 0) → b ≡ true → trimmed (piles_of fs) ≡ trimmed (piles_of old)
trim_drops_by fs old f b h e n = sym (trim_drops fs old f h (no_items f (sym e ∙ n)))

pub taken_at : (fs old new : List Folder) (f g : Folder) (o : Option Entry) → old ≡ fs ++ f ∷ [] → new ≡ fs ++ g ∷ [] → g.place ≡ f.place
    → f.entries.items ≡ g.entries.items ++ option_to_list o → MatchOption o ((vec_len f.entries ≡ 0) × (vec_len g.entries ≡ 0)) (λ _. vec_len g.entries + 1 ≡ vec_len f.entries)
    → MatchOption o (next_of (piles_of old) ≡ None) (λ entry. IsTaken (piles_of old) (piles_of new) entry)
taken_at fs old new f g None h k p e v = none_taken fs old f h (nil_from_length f.entries.items (omega (arith, v.0, f.entries.ok.0)))
taken_at fs old new f g (Some entry) h k p e v = taken fs old new f g entry h k p e
