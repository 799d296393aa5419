-- The directories at which a level is cut.
use Rattle.std.proofs.Common.{◌≡◌, ℕ, zero, suc, ◌+◌, ◌-◌, ◌*◌, ◌/◌, ◌<◌, ◌≤◌, List, [], ◌∷◌, ◌++◌, Some, refl, true, false, Bool, sym, ◌∙◌, ap, subst, length, drop, get_or, arith, append_assoc}
use Rattle.std.proofs.{Math.Nat.{div-mul-le_self, mul-le-mul_right}, Math.Seq.{drop-nil}}
use Rattle.std.proofs.lemmas.Nat.{div-add-mod', div_below, le-div}
use Rattle.std.proofs.{lemmas.Option.{slice_get-get_or}, lemmas.List.{length-append}}
use Rattle.std.proofs.lemmas.Bool.{leb-true, leb-false}
use Rattle.std.specs.{Prelude.{slice_get, min, nat_le}, Option.{option_to_list}}
use Rattle.ocfl_tree.specs.{Place.{Place, place_cmp}, StorageRoot.{StorageRoot}}
use Rattle.ocfl_tree.specs.Ascending.{IsAscending, IsBeforeAll}
use Rattle.ocfl_tree.proofs.Lists.{drop_item}
use Rattle.ocfl_split.specs.Splitting.{firsts, cut_evenly, split_level, separators_of}

-- ---- where the parts begin

-- part i of m begins within n directories
pub index_within : (i m n : ℕ) → i < m → m ≤ n → i * n / m < n
index_within i m n l h =
    let some : suc i ≤ m = omega arith in
    div_below (i * n) m n (omega arith) (omega (arith, mul-le-mul_right n some))

-- and before the next part does
pub index_grows : (i m n : ℕ) → 0 < m → m ≤ n → i * n / m + 1 ≤ (i + 1) * n / m
index_grows i m n l h = le-div (i * n / m + 1) ((i + 1) * n) m l (omega (arith, div-mul-le_self (i * n) m))

-- from one to the next there are as many directories as an even division gives, or one more
pub even_parts : (n m i : ℕ) → 0 < m → (i * n / m + n / m ≤ (i + 1) * n / m) × ((i + 1) * n / m ≤ i * n / m + n / m + 1)
even_parts n m i l =
    let low = le-div (i * n / m + n / m) ((i + 1) * n) m l (omega (arith, div-mul-le_self (i * n) m, div-mul-le_self n m)) in
    let first : i * n < (i * n / m + 1) * m = omega (arith, div-add-mod' (i * n) m) in
    let one : n < (n / m + 1) * m = omega (arith, div-add-mod' n m) in
    let high : (i + 1) * n / m < i * n / m + n / m + 2 = div_below ((i + 1) * n) m (i * n / m + n / m + 2) l (omega (arith, first, one)) in
    (low, omega (arith, high))

-- ---- fewer of some places in order

before_drop : (x : Place) (k : ℕ) (ys : List Place) → IsBeforeAll place_cmp x ys → IsBeforeAll place_cmp x (drop k ys)
before_drop x zero ys h = h
before_drop x (suc k) [] h = tt
before_drop x (suc k) (y ∷ ys) h = before_drop x k ys h.1

ascend_drop : (k : ℕ) (ys : List Place) → IsAscending place_cmp ys → IsAscending place_cmp (drop k ys)
ascend_drop zero ys h = h
ascend_drop (suc k) [] h = tt
ascend_drop (suc k) (y ∷ ys) h = ascend_drop k ys h.1

pub begins : (xs ys : List Place) (k : ℕ) → xs ≡ [] → IsAscending place_cmp ys → IsAscending place_cmp (xs ++ drop k ys)
begins xs ys k e h = subst (λ zs. IsAscending place_cmp (zs ++ drop k ys)) (sym e) (ascend_drop k ys h)

before_both : (x : Place) (k : ℕ) (xs ys : List Place) → IsBeforeAll place_cmp x (xs ++ ys) → IsBeforeAll place_cmp x (xs ++ drop k ys)
before_both x k [] ys h = before_drop x k ys h
before_both x k (y ∷ xs) ys h = (h.0, before_both x k xs ys h.1)

ascend_both : (k : ℕ) (xs ys : List Place) → IsAscending place_cmp (xs ++ ys) → IsAscending place_cmp (xs ++ drop k ys)
ascend_both k [] ys h = ascend_drop k ys h
ascend_both k (x ∷ xs) ys h = (before_both x k xs ys h.0, ascend_both k xs ys h.1)

before_one : (x p : Place) (xs ys : List Place) → IsBeforeAll place_cmp x (xs ++ p ∷ ys) → IsBeforeAll place_cmp x (xs ++ p ∷ [])
before_one x p [] ys h = (h.0, tt)
before_one x p (y ∷ xs) ys h = (h.0, before_one x p xs ys h.1)

ascend_one : (p : Place) (xs ys : List Place) → IsAscending place_cmp (xs ++ p ∷ ys) → IsAscending place_cmp (xs ++ p ∷ [])
ascend_one p [] ys h = (tt, tt)
ascend_one p (x ∷ xs) ys h = (before_one x p xs ys h.0, ascend_one p xs ys h.1)

-- ---- one part more

module _ (ds xs : List Place) (j : ℕ) (p : Place) (l : j < length ds) (is : p ≡ get_or ds j p) (h : IsAscending place_cmp (xs ++ drop j ds)) where
  here : IsAscending place_cmp (xs ++ p ∷ drop (j + 1) ds)
  here = subst (λ ys. IsAscending place_cmp (xs ++ ys)) (drop_item ds j p l is) h

  pub cut_above : IsAscending place_cmp (xs ++ p ∷ [])
  cut_above = ascend_one p xs (drop (j + 1) ds) here

  pub cut_on : (ys : List Place) (k : ℕ) → ys ≡ xs ++ p ∷ [] → j + 1 ≤ k → IsAscending place_cmp (ys ++ drop k ds)
  cut_on ys k e m =
      let rest : IsAscending place_cmp ((xs ++ p ∷ []) ++ drop (j + 1) ds) = subst (IsAscending place_cmp) (sym (append_assoc xs (p ∷ []) (drop (j + 1) ds))) here in
      let further : drop (k - (j + 1)) (drop (j + 1) ds) ≡ drop k ds = dropped (k - (j + 1)) (j + 1) ds ∙ ap (λ i. drop i ds) (omega (arith, m)) in
      subst (λ zs. IsAscending place_cmp (zs ++ drop k ds)) (sym e)
      (subst (λ zs. IsAscending place_cmp ((xs ++ p ∷ []) ++ zs)) further (ascend_both (k - (j + 1)) (xs ++ p ∷ []) (drop (j + 1) ds) rest))
    where
      dropped : (a b : ℕ) (zs : List Place) → drop a (drop b zs) ≡ drop (a + b) zs
      dropped a zero zs = ap (λ i. drop i zs) (omega arith)
      dropped a (suc b) [] = drop-nil a ∙ sym (drop-nil (a + suc b))
      dropped a (suc b) (z ∷ zs) =
          let more : a + suc b ≡ suc (a + b) = omega arith in
          dropped a b zs ∙ ap (λ i. drop i (z ∷ zs)) (sym more)

pub got : (ds : List Place) (j : ℕ) (p : Place) → j < length ds → p ≡ get_or ds j p → slice_get ds j ≡ Some p
got ds j p l is = slice_get-get_or ds j p l ∙ ap Some (sym is)

pub firsts_more : (ds xs ys : List Place) (m k : ℕ) (p : Place) → 1 ≤ k → slice_get ds (k * length ds / m) ≡ Some p → xs ≡ firsts ds m (k - 1) → ys ≡ xs ++ p ∷ [] → ys ≡ firsts ds m (k + 1 - 1)
firsts_more ds xs ys m zero p l g e f = absurd (omega (arith, l))
firsts_more ds xs ys m (suc k) p l g e f =
    let one : suc k - 1 ≡ k = omega arith in
    let two : suc k + 1 - 1 ≡ suc k = omega arith in
    let same : suc k ≡ k + 1 = omega arith in
    let found : slice_get ds ((k + 1) * length ds / m) ≡ Some p = subst (λ i. slice_get ds (i * length ds / m) ≡ Some p) same g in
    f ∙ ap (λ zs. zs ++ p ∷ []) (e ∙ ap (firsts ds m) one) ∙ ap (λ o. firsts ds m k ++ option_to_list o) (sym found) ∙ ap (firsts ds m) (sym two)

-- ---- the separators

-- a part begins at one of the directories
first_is : (ds : List Place) (j : ℕ) → j < length ds → (p : Place) × (slice_get ds j ≡ Some p)
first_is [] j l = absurd (omega (arith, l))
first_is (d ∷ ds) zero l = (d, refl)
first_is (d ∷ ds) (suc j) l = first_is ds j (omega (arith, l))

-- the first k + 1 parts but the very first: one more than the first k
one_first : (ds : List Place) (m k : ℕ) → suc k < m → m ≤ length ds → (p : Place) × (slice_get ds ((k + 1) * length ds / m) ≡ Some p) × (firsts ds m (suc k) ≡ firsts ds m k ++ p ∷ [])
one_first ds m k l few =
    let less : k + 1 < m = omega (arith, l) in
    let f = first_is ds ((k + 1) * length ds / m) (index_within (k + 1) m (length ds) less few) in
    (f.0, f.1, ap (λ o. firsts ds m k ++ option_to_list o) f.1)

firsts_long : (ds : List Place) (m k : ℕ) → k < m → m ≤ length ds → length (firsts ds m k) ≡ k
firsts_long ds m zero l few = refl
firsts_long ds m (suc k) l few =
    let f = one_first ds m k l few in
    let before = firsts_long ds m k (omega (arith, l)) few in
    ap length f.2 ∙ omega (arith, length-append (firsts ds m k) (f.0 ∷ []), before)

get_front : (xs ys : List Place) (k : ℕ) → k < length xs → slice_get (xs ++ ys) k ≡ slice_get xs k
get_front [] ys k l = absurd (omega (arith, l))
get_front (x ∷ xs) ys zero l = refl
get_front (x ∷ xs) ys (suc k) l = get_front xs ys k (omega (arith, l))

get_last : (xs : List Place) (p : Place) (k : ℕ) → k ≡ length xs → slice_get (xs ++ p ∷ []) k ≡ Some p
get_last [] p zero e = refl
get_last [] p (suc k) e = absurd (omega (arith, e))
get_last (x ∷ xs) p zero e = absurd (omega (arith, e))
get_last (x ∷ xs) p (suc k) e = get_last xs p k (omega (arith, e))

first_at : (ds : List Place) (m k i : ℕ) → k < m → m ≤ length ds → i < k → slice_get (firsts ds m k) i ≡ slice_get ds ((i + 1) * length ds / m)
first_at ds m zero i l few j = absurd (omega (arith, j))
first_at ds m (suc k) i l few j = by (nat_le (suc i) k) refl (first_at ds m k i (omega (arith, l)) few)
  where
    long : length (firsts ds m k) ≡ k
    long = firsts_long ds m k (omega (arith, l)) few

    f : (p : Place) × (slice_get ds ((k + 1) * length ds / m) ≡ Some p) × (firsts ds m (suc k) ≡ firsts ds m k ++ p ∷ [])
    f = one_first ds m k l few

    by : (b : Bool) → nat_le (suc i) k ≡ b → (i < k → slice_get (firsts ds m k) i ≡ slice_get ds ((i + 1) * length ds / m)) → slice_get (firsts ds m (suc k)) i ≡ slice_get ds ((i + 1) * length ds / m)
    by true e before =
        let less : i < k = leb-true (suc i) k e in
        ap (λ xs. slice_get xs i) f.2 ∙ get_front (firsts ds m k) (f.0 ∷ []) i (omega (arith, less, long)) ∙ before less
    by false e before =
        let past : k < suc i = leb-false (suc i) k e in
        let same : k ≡ i = omega (arith, past, j) in
        ap (λ xs. slice_get xs i) f.2 ∙ get_last (firsts ds m k) f.0 i (omega (arith, same, long)) ∙ sym f.1 ∙ ap (λ x. slice_get ds ((x + 1) * length ds / m)) same

cut_count : (count : ℕ) (ds : List Place) → length (cut_evenly count ds) ≡ min count (length ds) - 1
cut_count count ds = by (min count (length ds)) refl
  where
    by : (m : ℕ) → min count (length ds) ≡ m → length (firsts ds m (m - 1)) ≡ m - 1
    by zero e = let none : 0 - 1 ≡ 0 = omega arith in ap (λ k. length (firsts ds 0 k)) none ∙ sym none
    by (suc m) e = firsts_long ds (suc m) (suc m - 1) (omega arith) (omega (arith, sym e))

cut_at : (count k : ℕ) (ds : List Place) → k < length (cut_evenly count ds) → slice_get (cut_evenly count ds) k ≡ slice_get ds ((k + 1) * length ds / min count (length ds))
cut_at count k ds l =
    let less : k < min count (length ds) - 1 = omega (arith, l, cut_count count ds) in
    first_at ds (min count (length ds)) (min count (length ds) - 1) k (omega (arith, less)) (omega arith) less

pub separators_count : (root : StorageRoot) (count : ℕ) → length (separators_of root count) ≡ min count (length (split_level root count)) - 1
separators_count root count = cut_count count (split_level root count)

pub separator_at : (root : StorageRoot) (count k : ℕ) → k < length (separators_of root count)
    → slice_get (separators_of root count) k ≡ slice_get (split_level root count) ((k + 1) * length (split_level root count) / min count (length (split_level root count)))
separator_at root count k l = cut_at count k (split_level root count) l

-- ---- they ascend

is_item : (ds : List Place) (j : ℕ) (p : Place) → j < length ds → slice_get ds j ≡ Some p → p ≡ get_or ds j p
is_item ds j p l e =
    let found : Some p ≡ Some (get_or ds j p) = sym e ∙ slice_get-get_or ds j p l in
    cc

module _ (ds : List Place) (m : ℕ) (few : m ≤ length ds) (up : IsAscending place_cmp ds) where
  -- where the part after the next k begins
  abbrev start : ℕ → ℕ
  start k = (k + 1) * length ds / m

  starts_within : (k : ℕ) → suc k < m → start k < length ds
  starts_within k l = index_within (k + 1) m (length ds) (omega (arith, l)) few

  starts_rise : (k : ℕ) → suc k < m → start k + 1 ≤ start (suc k)
  starts_rise k l =
      let next : k + 1 + 1 ≡ suc k + 1 = omega arith in
      subst (λ i. start k + 1 ≤ i * length ds / m) next (index_grows (k + 1) m (length ds) (omega (arith, l)) few)

  -- the first k, and then the directories from the next one on
  firsts_rise : (k : ℕ) → k < m → IsAscending place_cmp (firsts ds m k ++ drop (start k) ds)
  firsts_rise zero l = begins [] ds (start 0) refl up
  firsts_rise (suc k) l =
      let f = one_first ds m k l few in
      let before : IsAscending place_cmp (firsts ds m k ++ drop (start k) ds) = firsts_rise k (omega (arith, l)) in
      cut_on ds (firsts ds m k) (start k) f.0 (starts_within k l) (is_item ds (start k) f.0 (starts_within k l) f.1) before (firsts ds m (suc k)) (start (suc k)) f.2 (starts_rise k l)

  firsts_ascend : (k : ℕ) → k < m → IsAscending place_cmp (firsts ds m k)
  firsts_ascend zero l = tt
  firsts_ascend (suc k) l =
      let f = one_first ds m k l few in
      subst (IsAscending place_cmp) (sym f.2)
      (cut_above ds (firsts ds m k) (start k) f.0 (starts_within k l) (is_item ds (start k) f.0 (starts_within k l) f.1) (firsts_rise k (omega (arith, l))))

pub cut_ascends : (count : ℕ) (ds : List Place) → IsAscending place_cmp ds → IsAscending place_cmp (cut_evenly count ds)
cut_ascends count ds up = by (min count (length ds)) refl
  where
    by : (m : ℕ) → min count (length ds) ≡ m → IsAscending place_cmp (firsts ds m (m - 1))
    by zero e = let none : 0 - 1 ≡ 0 = omega arith in subst (λ k. IsAscending place_cmp (firsts ds 0 k)) (sym none) tt
    by (suc m) e = firsts_ascend ds (suc m) (omega (arith, sym e)) up (suc m - 1) (omega arith)
