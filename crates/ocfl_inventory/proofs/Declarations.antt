-- Looking for declarations among entries, one after the other.
use Rattle.std.proofs.Common.{◌≡◌, ℕ, suc, ◌+◌, ◌≤◌, ◌<◌, List, [], ◌∷◌, ◌++◌, Bool, true, false, refl, sym, ◌∙◌, ap, cond, map, filter, drop, length, get_or, add-one, drop-cons, arith, Option, Some, None, subst}
use Rattle.std.proofs.lemmas.Option.{slice_get-get_or, get_or_from_slice_get}
use Rattle.std.proofs.{lemmas.List.{length-append}, lemmas.Slice.Eq.{starts_is}}
use Rattle.std.proofs.{lemmas.Bool.Decides.{Decides-eqb}, lemmas.List.Elements.{All-cons}}
use Rattle.std.proofs.lemmas.List.Sorted.{sum_by-IsPermutation, All-permutation}
use Rattle.std.specs.{Prelude.{◌&&◌, nat_eq, slice_get, is_some, All}, List.{starts_with}}
use Rattle.std.specs.List.Sorted.{IsPermutation}
use Rattle.ocfl_tree.specs.{Place.{Text}, declared.store.Entry.{Entry}, declared.store.Kind.{Kind}}
use Rattle.ocfl_tree.specs.declared.store.Kind.TheVariants.{File, Dir, Other}
use Rattle.ocfl_tree.proofs.{Bools.{and_first}, Orders.{true_not_false}}
use Rattle.ocfl_inventory.proofs.Runs.{tally, tally_is}
use Rattle.ocfl_inventory.specs.Declaration.{prefix, after_prefix, is_declaration, undeclared, known, several, declared, declared_by, version_named}
use Rattle.ocfl_inventory.specs.Entries.{is_file, file_names, is_counted, unknown_by, IsNext, IsVersionOf}
use Rattle.ocfl_inventory.specs.declared.declaration.Level.{Level}
use Rattle.ocfl_inventory.specs.declared.declaration.Version.{Version}

module _ (level : Level) where
  -- the names that count are those of the entries that count
  pub counted_names : (es : List Entry) → filter (is_declaration level) (file_names es) ≡ map (λ e. e.name) (filter (is_counted level) es)
  counted_names [] = refl
  counted_names (e ∷ es) = by e.kind (counted_names es)
    where
      keep : (b : Bool) → filter (is_declaration level) (file_names es) ≡ map (λ x. x.name) (filter (is_counted level) es)
          → cond b (e.name ∷ filter (is_declaration level) (file_names es)) (filter (is_declaration level) (file_names es)) ≡ map (λ x. x.name)
          (cond b (e ∷ filter (is_counted level) es) (filter (is_counted level) es))
      keep true h = ap (λ ns. e.name ∷ ns) h
      keep false h = h

      by : (k : Kind) → filter (is_declaration level) (file_names es) ≡ map (λ x. x.name) (filter (is_counted level) es)
          → filter (is_declaration level) (cond (is_file k) (e.name ∷ file_names es) (file_names es)) ≡ map (λ x. x.name)
          (cond (is_file k && is_declaration level e.name) (e ∷ filter (is_counted level) es) (filter (is_counted level) es))
      by File h = keep (is_declaration level e.name) h
      by Dir h = h
      by Other h = h

  pub next_found : (es : List Entry) (from i : ℕ) (e : Entry) → i < length es → e ≡ get_or es i e → is_counted level e ≡ true
      → filter (is_counted level) (drop from es) ≡ filter (is_counted level) (drop i es) → IsNext level es from (Some i)
  next_found es from i e h is counts so_far =
      let one : drop i es ≡ e ∷ drop (i + 1) es = drop-cons es i e h ∙ (λ j. sym is j ∷ drop (sym (add-one i) j) es) in
      let two : filter (is_counted level) (drop i es) ≡ e ∷ filter (is_counted level) (drop (i + 1) es) =
      ap (filter (is_counted level)) one ∙ ap (λ b. cond b (e ∷ filter (is_counted level) (drop (i + 1) es)) (filter (is_counted level) (drop (i + 1) es))) counts in
      (e, h, slice_get-get_or es i e h ∙ ap Some (sym is), counts, so_far ∙ two)

  pub none_declared : (es : List Entry) → IsNext level es 0 None → undeclared ≡ declared level (file_names es)
  none_declared es h = sym (ap (declared_by level) (counted_names es ∙ ap (map (λ e. e.name)) h))

  several_left : (es : List Entry) (e : Entry) (rest : List Entry) (f : Entry) (more : List Entry) → filter (is_counted level) es ≡ e ∷ rest → rest ≡ f ∷ more
      → several ≡ declared level (file_names es)
  several_left es e rest f more h k = sym (ap (declared_by level) (counted_names es ∙ ap (map (λ x. x.name)) (h ∙ ap (λ xs. e ∷ xs) k)))

  pub several_declared : (es : List Entry) (i j : ℕ) → IsNext level es 0 (Some i) → IsNext level es (i + 1) (Some j) → several ≡ declared level (file_names es)
  several_declared es i j h k = several_left es h.0 (filter (is_counted level) (drop (i + 1) es)) k.0 (filter (is_counted level) (drop (j + 1) es)) h.4 k.4

  pub one_declared : (es : List Entry) (i : ℕ) (h : IsNext level es 0 (Some i)) → IsNext level es (i + 1) None → declared level (file_names es) ≡ version_named (after_prefix level h.0.name)
  one_declared es i h k = ap (declared_by level) (counted_names es ∙ ap (map (λ x. x.name)) (h.4 ∙ ap (λ xs. h.0 ∷ xs) k))

  pub prefix_fits : (n : Text) → is_declaration level n ≡ true → length (prefix level) ≤ length n
  prefix_fits n h =
      let one : n ≡ prefix level ++ drop (length (prefix level)) n = (starts_is Decides-eqb n (prefix level) (starts_with nat_eq n (prefix level)) refl).0 (and_first _ _ h) in
      let two : length n ≡ length (prefix level) + length (drop (length (prefix level)) n) = ap length one ∙ length-append (prefix level) (drop (length (prefix level)) n) in
      omega (arith, two)

  pub counted_fits : (e : Entry) → is_counted level e ≡ true → length (prefix level) ≤ length e.name
  counted_fits e h = prefix_fits e.name (by e.kind h)
    where
      by : (k : Kind) → is_file k && is_declaration level e.name ≡ true → is_declaration level e.name ≡ true
      by File g = g
      by Dir g = absurd (true_not_false (sym g))
      by Other g = absurd (true_not_false (sym g))

  pub index_fits : (es : List Entry) (from : ℕ) (o : Option ℕ) (i : ℕ) → IsNext level es from o → o ≡ Some i → i < length es
  index_fits es from o i h e = (subst (IsNext level es from) e h).1

  pub none_is : (es : List Entry) (o : Option ℕ) → IsNext level es 0 o → o ≡ None → undeclared ≡ declared level (file_names es)
  none_is es o h e = none_declared es (subst (IsNext level es 0) e h)

  pub several_is : (es : List Entry) (o p : Option ℕ) (i : ℕ) → IsNext level es 0 o → o ≡ Some i → IsNext level es (i + 1) p → is_some p ≡ true → several ≡ declared level (file_names es)
  several_is es o None i h e k s = absurd (true_not_false (sym s))
  several_is es o (Some j) i h e k s = several_declared es i j (subst (IsNext level es 0) e h) k

  pub entry_counts : (es : List Entry) (o : Option ℕ) (i : ℕ) (x : Entry) → IsNext level es 0 o → o ≡ Some i → x ≡ get_or es i x → is_counted level x ≡ true
  entry_counts es o i x h e is =
      let w : IsNext level es 0 (Some i) = subst (IsNext level es 0) e h in
      let same : x ≡ w.0 = is ∙ get_or_from_slice_get es i w.0 x w.2 in
      ap (is_counted level) same ∙ w.3

  pub one_is : (es : List Entry) (o p : Option ℕ) (i : ℕ) (x : Entry) → IsNext level es 0 o → o ≡ Some i → x ≡ get_or es i x → IsNext level es (i + 1) p → is_some p ≡ false
      → declared level (file_names es) ≡ version_named (after_prefix level x.name)
  one_is es o (Some j) i x h e is k s = absurd (true_not_false s)
  one_is es o None i x h e is k s =
      let w : IsNext level es 0 (Some i) = subst (IsNext level es 0) e h in
      let same : x ≡ w.0 = is ∙ get_or_from_slice_get es i w.0 x w.2 in
      one_declared es i w k ∙ ap (λ (y : Entry). version_named (after_prefix level y.name)) (sym same)

  pub known_is : (es : List Entry) (x : Entry) (r : Option Version) (v : Version) → declared level (file_names es) ≡ version_named (after_prefix level x.name)
      → IsVersionOf (after_prefix level x.name) r → r ≡ Some v
      → known v ≡ declared level (file_names es)
  known_is es x r v h k e = sym (h ∙ subst (IsVersionOf (after_prefix level x.name)) e k)

  pub unknown_is : (es : List Entry) (i : ℕ) (x : Entry) (r : Option Version) → i < length es → x ≡ get_or es i x
      → declared level (file_names es) ≡ version_named (after_prefix level x.name) → IsVersionOf (after_prefix level x.name) r → r ≡ None
      → unknown_by level (slice_get es i) ≡ declared level (file_names es)
  unknown_is es i x r n is h k e = ap (unknown_by level) (slice_get-get_or es i x n ∙ ap Some (sym is)) ∙ sym (h ∙ subst (IsVersionOf (after_prefix level x.name)) e k)

-- ---- the order of the names

module _ {A : Type 0} (test : A → Bool) where
  many : (xs : List A) → length (filter test xs) ≡ tally test xs
  many [] = refl
  many (x ∷ xs) = by (test x) (many xs)
    where
      by : (b : Bool) → length (filter test xs) ≡ tally test xs → length (cond b (x ∷ filter test xs) (filter test xs)) ≡ cond b (1 + tally test xs) (tally test xs)
      by true h = let e : length (x ∷ filter test xs) ≡ suc (length (filter test xs)) = refl in omega (arith, e, h)
      by false h = h

  pub as_many : (xs ys : List A) → IsPermutation xs ys → length (filter test ys) ≡ length (filter test xs)
  as_many xs ys p = many ys ∙ tally_is test ys ∙ sum_by-IsPermutation (λ x. cond (test x) 1 0) xs ys p ∙ sym (tally_is test xs) ∙ sym (many xs)

  none_pass : (xs : List A) → filter test xs ≡ [] → All (λ x. test x ≡ true → ⊥) xs
  none_pass [] e = λ k d l. absurd (omega (arith, l))
  none_pass (x ∷ xs) e = by (test x) refl e (λ f. none_pass xs f)
    where
      by : (b : Bool) → test x ≡ b → cond b (x ∷ filter test xs) (filter test xs) ≡ [] → (filter test xs ≡ [] → All (λ y. test y ≡ true → ⊥) xs) → All (λ y. test y ≡ true → ⊥) (x ∷ xs)
      by true h f more = absurd cc
      by false h f more = All-cons (λ y. test y ≡ true → ⊥) x xs (λ g. true_not_false (sym g ∙ h)) (more f)

  only_one : (z : A) (xs : List A) → filter test xs ≡ z ∷ [] → All (λ x. test x ≡ true → x ≡ z) xs
  only_one z [] e = λ k d l. absurd (omega (arith, l))
  only_one z (x ∷ xs) e = by (test x) refl e (λ f. only_one z xs f)
    where
      by : (b : Bool) → test x ≡ b → cond b (x ∷ filter test xs) (filter test xs) ≡ z ∷ [] → (filter test xs ≡ z ∷ [] → All (λ y. test y ≡ true → y ≡ z) xs) → All (λ y. test y ≡ true → y ≡ z) (x ∷ xs)
      by true h f more = All-cons (λ y. test y ≡ true → y ≡ z) x xs (λ g. cc) (λ k d l g. absurd (none_pass xs (cc) k d l g))
      by false h f more = All-cons (λ y. test y ≡ true → y ≡ z) x xs (λ g. absurd (true_not_false (sym g ∙ h))) (more f)

  one_has : (P : A → Type 0) (z : A) (xs : List A) → filter test xs ≡ z ∷ [] → All (λ x. test x ≡ true → P x) xs → P z
  one_has P z [] e all = absurd cc
  one_has P z (x ∷ xs) e all = by (test x) refl e (λ f. one_has P z xs f (λ k d l. all (suc k) d (omega arith)))
    where
      by : (b : Bool) → test x ≡ b → cond b (x ∷ filter test xs) (filter test xs) ≡ z ∷ [] → (filter test xs ≡ z ∷ [] → P z) → P z
      by true h f more = let same : x ≡ z = cc in subst P same (all 0 x (omega arith) h)
      by false h f more = more f

  pub same_one : (xs ys : List A) (y z : A) → IsPermutation xs ys → filter test xs ≡ z ∷ [] → filter test ys ≡ y ∷ [] → y ≡ z
  same_one xs ys y z p e f = one_has (λ x. x ≡ z) y ys f (All-permutation (λ x. test x ≡ true → x ≡ z) xs ys p (only_one z xs e))

-- what entries declare depends on no order of theirs
pub declared_permuted : (level : Level) (es fs : List Entry) → IsPermutation es fs → declared level (file_names es) ≡ declared level (file_names fs)
declared_permuted level es fs p =
    ap (declared_by level) (counted_names level es)
    ∙ by (filter (is_counted level) es) (filter (is_counted level) fs) (as_many (is_counted level) es fs p) (λ y z. same_one (is_counted level) es fs y z p)
    ∙ sym (ap (declared_by level) (counted_names level fs))
  where
    by : (xs ys : List Entry) → length ys ≡ length xs → ((y z : Entry) → xs ≡ z ∷ [] → ys ≡ y ∷ [] → y ≡ z) → declared_by level (map (λ e. e.name) xs) ≡ declared_by level (map (λ e. e.name) ys)
    by [] [] e same = refl
    by [] (y ∷ ys) e same = absurd (omega (arith, e))
    by (x ∷ []) [] e same = absurd (omega (arith, e))
    by (x ∷ []) (y ∷ []) e same = ap (λ (w : Entry). declared_by level (w.name ∷ [])) (sym (same y x refl refl))
    by (x ∷ []) (y ∷ z ∷ ys) e same = absurd (omega (arith, e))
    by (x ∷ w ∷ xs) [] e same = absurd (omega (arith, e))
    by (x ∷ w ∷ xs) (y ∷ []) e same = absurd (omega (arith, e))
    by (x ∷ w ∷ xs) (y ∷ z ∷ ys) e same = refl
