-- Comparing paths by their bytes compares them by their elements.
use Rattle.std.proofs.Common.{◌≡◌, ◌≢◌, ◌⊎◌, inl, inr, ℕ, zero, suc, ◌-◌, ◌≤◌, [], ◌∷◌, Bool, true, false, refl, sym, ◌∙◌, ap, subst, cond, drop, take, length, arith, length-drop, leb-true}
use Prim.Native.Nat.{min}
use Rattle.std.specs.{Prelude.{◌==◌, ◌&&◌, nat_eq, nat_le}, List.{starts_with, onto_first}}
use Rattle.std.specs.Ordering.{nat_cmp, ordering_then, ordering_reverse, is_eq}
use Rattle.std.specs.declared.cmp.Ordering.{Ordering}
use Rattle.std.specs.declared.cmp.Ordering.TheVariants.{Less, Equal, Greater}
use Rattle.std.specs.{FinMap.{nat_cmp-IsAntisymmetric}, Cmp.Lexicographic.{pointwise}}
use Rattle.std.proofs.{lemmas.Bool.Decides.{eqb_tells, nat_tests}, lemmas.Cmp.{nat_cmp_total}}
use Rattle.std.proofs.lemmas.List.{drop_all}
use Rattle.ocfl_tree.specs.Place.{Text, Place, text_cmp, place_cmp, begins}
use Rattle.ocfl_tree.specs.Path.{elements, names_of, byte_cmp, path_cmp, is_ended, path_begins}
use Rattle.ocfl_tree.proofs.Orders.{true_not_false}

-- ---- an element at the front of a path

pub some_element : (t : Text) → elements t ≡ [] → ⊥
some_element [] e = cc
some_element (c ∷ t) e = by (c == 47) (elements t) (some_element t) e
  where
    by : (b : Bool) (es : Place) → (es ≡ [] → ⊥) → cond b ([] ∷ es) (onto_first c es) ≡ [] → ⊥
    by true es h f = cc
    by false [] h f = h refl
    by false (x ∷ es) h f = cc

equal_bytes : (c : ℕ) → nat_cmp c c ≡ Equal
equal_bytes c = by (nat_cmp c c) (nat_cmp_total.antisymm c c)
  where
    by : (r : Ordering) → r ≡ ordering_reverse r → r ≡ Equal
    by Less e = cc
    by Equal e = refl
    by Greater e = cc

pub slash_is : (c : ℕ) → (c == 47) ≡ true → c ≡ 47
slash_is c h = find (eqb_tells c 47)
  where
    find : (((c == 47) ≡ true) × (c ≡ 47)) ⊎ (((c == 47) ≡ false) × (c ≢ 47)) → c ≡ 47
    find (inl w) = w.1
    find (inr w) = absurd (true_not_false (sym h ∙ w.0))

-- ---- two paths by their first bytes

-- `of` compares two places name by name: it goes on if the names are equal, and answers `less`
-- or `greater` if they
-- are not, so `differ` for two bytes that are not the same; if one place ends first it answers
-- `short` or `long`
record ByNames {R : Type 0} (of : Place → Place → R) (less greater short long : R) (differ : ℕ → ℕ → R) : Type 0 where
  step : Ordering → R → R
  goes : (x y : Text) (xs ys : Place) → of (x ∷ xs) (y ∷ ys) ≡ step (text_cmp x y) (of xs ys)
  equal : (r : R) → step Equal r ≡ r
  below : (r : R) → step Less r ≡ less
  above : (r : R) → step Greater r ≡ greater
  ends : (y : Text) (ys : Place) → of [] (y ∷ ys) ≡ short
  outlasts : (x : Text) (xs : Place) → of (x ∷ xs) [] ≡ long
  differs : (a b : ℕ) (o : Ordering) (r : R) → a ≢ b → differ a b ≡ step (ordering_then (nat_cmp a b) o) r

module _ {R : Type 0} {of : Place → Place → R} {less greater short long : R} {differ : ℕ → ℕ → R} (n : ByNames of less greater short long differ) where
  behind : (a b : ℕ) (xs ys : Place) → (xs ≡ [] → ⊥) → (ys ≡ [] → ⊥) → a ≡ b → of xs ys ≡ of (onto_first a xs) (onto_first b ys)
  behind a b [] ys h k e = absurd (h refl)
  behind a b (x ∷ xs) [] h k e = absurd (k refl)
  behind a b (x ∷ xs) (y ∷ ys) h k e = n.goes x y xs ys
      ∙ sym (ap (λ r. n.step (ordering_then r (text_cmp x y)) (of xs ys)) (ap (λ c. nat_cmp c b) e ∙ equal_bytes b))
      ∙ sym (n.goes (a ∷ x) (b ∷ y) xs ys)

  apart : (a b : ℕ) (xs ys : Place) → (xs ≡ [] → ⊥) → (ys ≡ [] → ⊥) → a ≢ b → differ a b ≡ of (onto_first a xs) (onto_first b ys)
  apart a b [] ys h k e = absurd (h refl)
  apart a b (x ∷ xs) [] h k e = absurd (k refl)
  apart a b (x ∷ xs) (y ∷ ys) h k e = n.differs a b (text_cmp x y) (of xs ys) e ∙ sym (n.goes (a ∷ x) (b ∷ y) xs ys)

  slash_first : (b : ℕ) (xs ys : Place) → (ys ≡ [] → ⊥) → less ≡ of ([] ∷ xs) (onto_first b ys)
  slash_first b xs [] k = absurd (k refl)
  slash_first b xs (y ∷ ys) k = sym (n.goes [] (b ∷ y) xs ys ∙ n.below (of xs ys))

  slash_second : (a : ℕ) (xs ys : Place) → (xs ≡ [] → ⊥) → greater ≡ of (onto_first a xs) ([] ∷ ys)
  slash_second a [] ys k = absurd (k refl)
  slash_second a (x ∷ xs) ys k = sym (n.goes (a ∷ x) [] xs ys ∙ n.above (of xs ys))

  -- the first path is empty, and so one empty element
  end_first : (b : ℕ) (e : Bool) (ys : Place) → (ys ≡ [] → ⊥) → cond e short less ≡ of ([] ∷ []) (cond e ([] ∷ ys) (onto_first b ys))
  end_first b e [] k = absurd (k refl)
  end_first b true (y ∷ ys) k = sym (n.goes [] [] [] (y ∷ ys) ∙ n.equal (of [] (y ∷ ys)) ∙ n.ends y ys)
  end_first b false (y ∷ ys) k = slash_first b [] (y ∷ ys) k

  -- or the second is
  end_second : (a : ℕ) (e : Bool) (xs : Place) → (xs ≡ [] → ⊥) → cond e long greater ≡ of (cond e ([] ∷ xs) (onto_first a xs)) ([] ∷ [])
  end_second a e [] k = absurd (k refl)
  end_second a true (x ∷ xs) k = sym (n.goes [] [] (x ∷ xs) [] ∙ n.equal (of (x ∷ xs) []) ∙ n.outlasts x xs)
  end_second a false (x ∷ xs) k = slash_second a (x ∷ xs) [] k

  -- both have a first byte, and r is what is said of the rest of both
  firsts : (a b : ℕ) (t u : Text) (r : R) → r ≡ of (elements t) (elements u)
      → cond (a == b) r (cond (a == 47) less (cond (b == 47) greater (differ a b))) ≡ of (elements (a ∷ t)) (elements (b ∷ u))
  firsts a b t u r is = by (eqb_tells a b)
    where
      Goal : Bool → Bool → Bool → Type 0
      Goal s e f = cond s r (cond e less (cond f greater (differ a b))) ≡ of (cond e ([] ∷ elements t) (onto_first a (elements t))) (cond f ([] ∷ elements u) (onto_first b (elements u)))

      alike : a ≡ b → (e f : Bool) → (a == 47) ≡ e → (b == 47) ≡ f → Goal true e f
      alike h true true g k = is ∙ sym (n.goes [] [] (elements t) (elements u) ∙ n.equal (of (elements t) (elements u)))
      alike h false false g k = is ∙ behind a b (elements t) (elements u) (some_element t) (some_element u) h
      alike h true false g k = absurd (true_not_false (sym g ∙ ap (λ c. c == 47) h ∙ k))
      alike h false true g k = absurd (true_not_false (sym k ∙ ap (λ c. c == 47) (sym h) ∙ g))

      unlike : a ≢ b → (e f : Bool) → (a == 47) ≡ e → (b == 47) ≡ f → Goal false e f
      unlike h true true g k = absurd (h (slash_is a g ∙ sym (slash_is b k)))
      unlike h true false g k = slash_first b (elements t) (elements u) (some_element u)
      unlike h false true g k = slash_second a (elements t) (elements u) (some_element t)
      unlike h false false g k = apart a b (elements t) (elements u) (some_element t) (some_element u) h

      by : (((a == b) ≡ true) × (a ≡ b)) ⊎ (((a == b) ≡ false) × (a ≢ b)) → Goal (a == b) (a == 47) (b == 47)
      by (inl w) = subst (λ s. Goal s (a == 47) (b == 47)) (sym w.0) (alike w.1 (a == 47) (b == 47) refl refl)
      by (inr w) = subst (λ s. Goal s (a == 47) (b == 47)) (sym w.0) (unlike w.1 (a == 47) (b == 47) refl refl)

-- the answer is the same whatever the test says
whatever : {R : Type 0} (e : Bool) (r : R) → r ≡ cond e r r
whatever true r = refl
whatever false r = refl

-- ---- the order

by_order : ByNames place_cmp Less Greater Less Greater nat_cmp
by_order = record {
  step = ordering_then;
  goes = λ x y xs ys. refl;
  equal = λ r. refl;
  below = λ r. refl;
  above = λ r. refl;
  ends = λ y ys. refl;
  outlasts =
      λ x xs. refl;
  differs = λ a b o r e. by a b o r e (nat_cmp a b) refl;
}
  where
    by : (a b : ℕ) (o r : Ordering) → a ≢ b → (c : Ordering) → nat_cmp a b ≡ c → c ≡ ordering_then (ordering_then c o) r
    by a b o r e Less f = refl
    by a b o r e Equal f = absurd (e (nat_cmp-IsAntisymmetric a b f))
    by a b o r e Greater f = refl

pub path_cmp_is : (t u : Text) → path_cmp t u ≡ place_cmp (elements t) (elements u)
path_cmp_is [] [] = refl
path_cmp_is [] (b ∷ u) = whatever (b == 47) Less ∙ end_first by_order b (b == 47) (elements u) (some_element u)
path_cmp_is (a ∷ t) [] = whatever (a == 47) Greater ∙ end_second by_order a (a == 47) (elements t) (some_element t)
path_cmp_is (a ∷ t) (b ∷ u) = firsts by_order a b t u (path_cmp t u) (path_cmp_is t u)

-- ---- where the loop ends

pub none_less : (n : ℕ) → Less ≡ nat_cmp 0 (suc n)
none_less n = grind (arith, nat_tests)

pub some_greater : (n : ℕ) → Greater ≡ nat_cmp (suc n) 0
some_greater n = grind (arith, nat_tests)

ends_cmp : (x y : Text) → (length x ≡ 0) ⊎ (length y ≡ 0) → path_cmp x y ≡ nat_cmp (length x) (length y)
ends_cmp [] [] h = refl
ends_cmp [] (b ∷ u) h = none_less (length u)
ends_cmp (a ∷ t) [] h = some_greater (length t)
ends_cmp (a ∷ t) (b ∷ u) (inl e) = absurd (omega (arith, e))
ends_cmp (a ∷ t) (b ∷ u) (inr e) = absurd (omega (arith, e))

less_by : (i m n : ℕ) → i ≤ m → i ≤ n → nat_cmp (m - i) (n - i) ≡ nat_cmp m n
less_by i m n h k = grind (arith, nat_tests)

-- a comparison that goes on until the end of one text answers by the lengths
module _ (cmp : Text → Text → Ordering) (ends : (x y : Text) → (length x ≡ 0) ⊎ (length y ≡ 0) → cmp x y ≡ nat_cmp (length x) (length y)) where
  pub compared_all : (t u : Text) (i s : ℕ) → s ≡ min (length t) (length u) → i ≤ s → s ≤ i → cmp (drop i t) (drop i u) ≡ nat_cmp (length t) (length u)
  compared_all t u i s e h k = ends (drop i t) (drop i u) (by (nat_le (length t) (length u)) refl) ∙ (λ j. nat_cmp (length-drop i t j) (length-drop i u j))
      ∙ less_by i (length t) (length u) (omega arith) (omega arith)
    where
      by : (b : Bool) → nat_le (length t) (length u) ≡ b → (length (drop i t) ≡ 0) ⊎ (length (drop i u) ≡ 0)
      by true f = let g : length t ≤ length u = leb-true _ _ f in inl (ap length (drop_all i t (omega arith)))
      by false f = let g : length u ≤ length t = grind (arith, nat_tests) in inr (ap length (drop_all i u (omega arith)))

pub shared_done : (t u : Text) (i s : ℕ) → s ≡ min (length t) (length u) → i ≤ s → s ≤ i → path_cmp (drop i t) (drop i u) ≡ nat_cmp (length t) (length u)
shared_done = compared_all path_cmp ends_cmp

-- ---- steps over many bytes

pub front_alike : (n : ℕ) (x y : Text) → n ≤ length x → n ≤ length y → pointwise nat_eq (take n x) (take n y) ≡ true → path_cmp (drop n x) (drop n y) ≡ path_cmp x y
front_alike zero x y h k e = refl
front_alike (suc n) [] y h k e = absurd (omega (arith, h))
front_alike (suc n) (a ∷ x) [] h k e = absurd (omega (arith, k))
front_alike (suc n) (a ∷ x) (b ∷ y) h k e = by (nat_eq a b) e (front_alike n x y (omega arith) (omega arith))
  where
    by : (s : Bool) → s && pointwise nat_eq (take n x) (take n y) ≡ true → (pointwise nat_eq (take n x) (take n y) ≡ true → path_cmp (drop n x) (drop n y) ≡ path_cmp x y)
        → path_cmp (drop n x) (drop n y) ≡ cond s (path_cmp x y) (byte_cmp a b)
    by true f more = more f
    by false f more = absurd (true_not_false (sym f))

pub same_front : (n m : ℕ) (x y : Text) (b : Bool) → n ≤ length x → n ≤ length y → m ≡ n → b ≡ pointwise nat_eq (take m x) (take m y) → b ≡ true → path_cmp (drop n x) (drop n y) ≡ path_cmp x y
same_front n m x y b h k e is f = front_alike n x y h k (ap (λ l. pointwise nat_eq (take l x) (take l y)) (sym e) ∙ sym is ∙ f)

-- ---- beginnings

by_beginning : ByNames begins false false true false (λ a b. false)
by_beginning = record {
  step = λ o r. is_eq o && r;
  goes = λ x y xs ys. refl;
  equal = λ r. refl;
  below = λ r. refl;
  above = λ r. refl;
  ends =
      λ y ys. refl;
  outlasts = λ x xs. refl;
  differs = λ a b o r e. by a b o r e (nat_cmp a b) refl;
}
  where
    by : (a b : ℕ) (o : Ordering) (r : Bool) → a ≢ b → (c : Ordering) → nat_cmp a b ≡ c → false ≡ is_eq (ordering_then c o) && r
    by a b o r e Less f = refl
    by a b o r e Equal f = absurd (e (nat_cmp-IsAntisymmetric a b f))
    by a b o r e Greater f = refl

-- a test is what it says, and what comes after a test that fails says nothing
test_is : (e : Bool) → e ≡ cond e true false
test_is true = refl
test_is false = refl

tests_are : (s e f x y : Bool) → (s && x) && y ≡ cond s (x && y) (cond e false (cond f false false))
tests_are true e f x y = refl
tests_are false true f x y = refl
tests_are false false f x y = whatever f false

pub path_begins_is : (t u : Text) → path_begins t u ≡ begins (elements t) (elements u)
path_begins_is [] [] = refl
path_begins_is [] (b ∷ u) = test_is (b == 47) ∙ end_first by_beginning b (b == 47) (elements u) (some_element u)
path_begins_is (a ∷ t) [] = whatever (a == 47) false ∙ end_second by_beginning a (a == 47) (elements t) (some_element t)
path_begins_is (a ∷ t) (b ∷ u) = tests_are (a == b) (a == 47) (b == 47) (starts_with nat_eq u t) (is_ended (drop (length t) u)) ∙ firsts by_beginning a b t u (path_begins t u) (path_begins_is t u)

-- ---- the same of the names, of which the storage root has none

pub names_cmp : (t u : Text) → path_cmp t u ≡ place_cmp (names_of t) (names_of u)
names_cmp [] [] = refl
names_cmp [] (b ∷ u) = some_below (elements (b ∷ u)) (some_element (b ∷ u))
  where
    some_below : (xs : Place) → (xs ≡ [] → ⊥) → Less ≡ place_cmp [] xs
    some_below [] h = absurd (h refl)
    some_below (x ∷ xs) h = refl
names_cmp (a ∷ t) [] = some_above (elements (a ∷ t)) (some_element (a ∷ t))
  where
    some_above : (xs : Place) → (xs ≡ [] → ⊥) → Greater ≡ place_cmp xs []
    some_above [] h = absurd (h refl)
    some_above (x ∷ xs) h = refl
names_cmp (a ∷ t) (b ∷ u) = path_cmp_is (a ∷ t) (b ∷ u)

pub elements_cmp : (t u : Text) → place_cmp (elements t) (elements u) ≡ place_cmp (names_of t) (names_of u)
elements_cmp t u = sym (path_cmp_is t u) ∙ names_cmp t u

pub names_begin : (t u : Text) → (length t == 0) ≡ false → path_begins t u ≡ begins (names_of t) (names_of u)
names_begin [] u h = absurd (true_not_false h)
names_begin (c ∷ t) [] h = none_begins (elements (c ∷ t)) (some_element (c ∷ t))
  where
    none_begins : (xs : Place) → (xs ≡ [] → ⊥) → false ≡ begins xs []
    none_begins [] h = absurd (h refl)
    none_begins (x ∷ xs) h = refl
names_begin (c ∷ t) (b ∷ u) h = path_begins_is (c ∷ t) (b ∷ u)
