-- The names of a path.
use Rattle.std.proofs.Common.{◌≡◌, ◌≢◌, ◌⊎◌, inl, inr, ℕ, zero, suc, ◌+◌, ◌<◌, [], ◌∷◌, ◌++◌, Bool, true, false, refl, sym, ◌∙◌, ap, cond, length, get_or, arith, Bor, Option, Some, None, MatchOption, Result, Ok, Err, OnOk, OnErr, subst, length-append, append-nil, ◌≤◌, take, drop}
use Rattle.std.proofs.{lemmas.Bool.Decides.{eqb_tells}, lemmas.Slice.Eq.{bytes_eq-Decides}}
use Rattle.std.proofs.lemmas.List.Splits.{length-slice_split}
use Rattle.std.proofs.lemmas.Str.Pattern.{NoCharPasses-char, drop_at_char, IsSplitOnceResult, split_parts}
use Rattle.std.proofs.lemmas.List.{take-append-drop, drop-drop, drop_all, length-drop, take-take, take_more, take_all, same_from_push, get_or_push}
use Rattle.std.proofs.lemmas.List.Elements.{All-head, All-tail, All-nil, All-append, All-cons, All-take, All-drop}
use Rattle.std.specs.{Prelude.{◌==◌, nat_eq}, List.{onto_first, count_by}}
use Rattle.std.specs.{Cmp.Lexicographic.{pointwise}, Str.Pattern.{RFindsChar}}
use Rattle.ocfl_tree.specs.{Place.{Text, Place}, Path.{elements, names_of, slashed, below, joined}}
use Rattle.ocfl_tree.specs.Name.{IsName, IsPlace}
use Rattle.ocfl_tree.proofs.{Names.{place_push}, Orders.{true_not_false}}
use Rattle.ocfl_tree.proofs.Places.{path_eq-Decides, not_decided}
use Rattle.ocfl_tree.proofs.PathOrders.{some_element, slash_is}

-- ---- a path is known by its elements

slashed_behind : (c : ℕ) (xs : Place) → (xs ≡ [] → ⊥) → slashed (onto_first c xs) ≡ c ∷ slashed xs
slashed_behind c [] h = absurd (h refl)
slashed_behind c (x ∷ []) h = refl
slashed_behind c (x ∷ y ∷ xs) h = refl

slashed_slash : (xs : Place) → (xs ≡ [] → ⊥) → slashed ([] ∷ xs) ≡ 47 ∷ slashed xs
slashed_slash [] h = absurd (h refl)
slashed_slash (x ∷ xs) h = refl

pub slashed_elements : (t : Text) → slashed (elements t) ≡ t
slashed_elements [] = refl
slashed_elements (c ∷ t) = by (c == 47) refl (slashed_elements t)
  where
    by : (b : Bool) → (c == 47) ≡ b → slashed (elements t) ≡ t → slashed (cond b ([] ∷ elements t) (onto_first c (elements t))) ≡ c ∷ t
    by true h e = slashed_slash (elements t) (some_element t) ∙ (λ i. sym (slash_is c h) i ∷ e i)
    by false h e = slashed_behind c (elements t) (some_element t) ∙ ap (λ u. c ∷ u) e

pub slashed_names : (t : Text) → slashed (names_of t) ≡ t
slashed_names [] = refl
slashed_names (c ∷ t) = slashed_elements (c ∷ t)

pub names_once : (t u : Text) → names_of t ≡ names_of u → t ≡ u
names_once t u e = sym (slashed_names t) ∙ ap slashed e ∙ slashed_names u

-- places are equal if their paths are
pub names_eq : (t u : Text) → pointwise nat_eq t u ≡ pointwise (pointwise nat_eq) (names_of t) (names_of u)
names_eq t u = by (pointwise nat_eq t u) refl
  where
    by : (b : Bool) → pointwise nat_eq t u ≡ b → b ≡ pointwise (pointwise nat_eq) (names_of t) (names_of u)
    by true e = sym ((path_eq-Decides (names_of t) (names_of u)).1 (ap names_of ((bytes_eq-Decides t u).0 e)))
    by false e = sym (not_decided _ _ (path_eq-Decides (names_of t) (names_of u)) (λ same. let h = (bytes_eq-Decides t u).1 (names_once t u same) in cc))

-- ---- one more name

-- no byte is a slash
abbrev pub Lacks : Text → Type 0
Lacks n = (i : ℕ) → i < length n → get_or n i 0 ≢ 47

pub elements-append : (t u : Text) → elements (t ++ 47 ∷ u) ≡ elements t ++ elements u
elements-append [] u = refl
elements-append (c ∷ t) u = by (c == 47) (elements t) (some_element t) (elements-append t u)
  where
    by : (b : Bool) (xs : Place) → (xs ≡ [] → ⊥) → elements (t ++ 47 ∷ u) ≡ xs ++ elements u
        → cond b ([] ∷ elements (t ++ 47 ∷ u)) (onto_first c (elements (t ++ 47 ∷ u))) ≡ cond b ([] ∷ xs) (onto_first c xs) ++ elements u
    by true xs h e = ap (λ ys. [] ∷ ys) e
    by false [] h e = absurd (h refl)
    by false (x ∷ xs) h e = ap (onto_first c) e

pub lone_element : (n : Text) → Lacks n → elements n ≡ n ∷ []
lone_element [] h = refl
lone_element (c ∷ n) h = by (eqb_tells c 47) (lone_element n (λ i l. h (suc i) (omega arith)))
  where
    by : (((c == 47) ≡ true) × (c ≡ 47)) ⊎ (((c == 47) ≡ false) × (c ≢ 47)) → elements n ≡ n ∷ [] → cond (c == 47) ([] ∷ elements n) (onto_first c (elements n)) ≡ (c ∷ n) ∷ []
    by (inl w) e = absurd (h 0 (omega arith) w.1)
    by (inr w) e = rw (w.0, e) refl

pub names_alone : (n : Text) → n ≢ [] → Lacks n → names_of n ≡ n ∷ []
names_alone [] some h = absurd (some refl)
names_alone (c ∷ n) some h = lone_element (c ∷ n) h

pub names_below : (t n : Text) → n ≢ [] → Lacks n → names_of (below t n) ≡ names_of t ++ n ∷ []
names_below [] n some h = names_alone n some h
names_below (c ∷ t) n some h = elements-append (c ∷ t) n ∙ ap (λ ns. elements (c ∷ t) ++ ns) (lone_element n h)

pub name_pushed : {E : Type 0} (r : Result (Unit {0}) E) (t u n : Text) → OnOk r (u ≡ below t n) → IsName n → OnOk r (names_of u ≡ names_of t ++ n ∷ [])
name_pushed (Ok x) t u n e h = ap names_of e ∙ names_below t n h.fits.not_empty (λ i l. (h.fits.plain i 0 l).0)
name_pushed (Err x) t u n e h = tt

pub place_pushed : {E : Type 0} (r : Result (Unit {0}) E) (t u n : Text) → OnOk r (u ≡ below t n) → OnErr r (u ≡ t) → IsPlace (names_of t) → IsName n → IsPlace (names_of u)
place_pushed {E} (Ok x) t u n e f h k = subst IsPlace (sym (name_pushed {E = E} (Ok x) t u n e k)) (place_push (names_of t) n h k)
place_pushed (Err x) t u n e f h k = subst IsPlace (ap names_of (sym f)) h

-- ---- the last name

last_is : (p : Place) (n : Text) → IsPlace (p ++ n ∷ []) → IsName n
last_is p n h = subst IsName (get_or_push p n n (length p) refl) (h (length p) n (omega (arith, length-append p (n ∷ []))))

abbrev IsLast : Text → Text → Text → Type 0
IsLast t front n = (names_of t ≡ names_of front ++ n ∷ []) × IsName n

last_name : (t front n : Text) → t ≡ front ++ 47 ∷ n → Lacks n → IsPlace (names_of t) → IsLast t front n
last_name t [] n e h k = absurd ((All-head IsName [] (elements n) (subst (λ u. IsPlace (names_of u)) e k)).fits.not_empty refl)
last_name t (c ∷ front) n e h k =
    let names : names_of t ≡ elements (c ∷ front) ++ n ∷ [] = ap names_of e ∙ elements-append (c ∷ front) n ∙ ap (λ ns. elements (c ∷ front) ++ ns) (lone_element n h) in
    (names, last_is (elements (c ∷ front)) n (subst IsPlace names k))

only_element : (t : Text) → (length t == 0) ≡ false → Lacks t → names_of t ≡ t ∷ []
only_element [] some h = absurd (true_not_false some)
only_element (c ∷ t) some h = lone_element (c ∷ t) h

only_name : (t : Text) → (length t == 0) ≡ false → Lacks t → IsPlace (names_of t) → IsLast t [] t
only_name t some h k = let names = only_element t some h in (names, last_is [] t (subst IsPlace names k))

abbrev Parts : Type 0
Parts = Option (Bor Text × Bor Text)

-- the clause of `rsplit_once` at a slash
abbrev IsSplit : Text → Parts → Type 0
IsSplit t r = MatchOption r (RFindsChar 47 t None)
    (λ x. (i : ℕ) × (j : ℕ) × RFindsChar 47 t (Some (i, j)) × (x.0.now ≡ take i t) × (x.1.now ≡ drop j t) × (i ≤ j) × (length x.0.now ≡ i) × (length x.1.now + j ≡ length t))

parts_of : (t : Text) (r : Parts) → IsSplit t r → MatchOption r (Lacks t) (λ x. (t ≡ x.0.now ++ 47 ∷ x.1.now) × Lacks x.1.now)
parts_of t None h = λ i l. NoCharPasses-char 47 t i h (omega arith) l
parts_of t (Some x) h =
    let i = h.0 in
    let j = h.1 in
    let cut : drop i t ≡ 47 ∷ drop j t = drop_at_char 47 t i j h.2.1 (omega arith) in
    let lacks : Lacks (drop j t) = λ k l. NoCharPasses-char 47 (drop j t) k h.2.0 (omega arith) l in
    (sym (take-append-drop i t) ∙ (λ k. sym h.3 k ++ cut k) ∙ ap (λ u. x.0.now ++ 47 ∷ u) (sym h.4), subst Lacks (sym h.4) lacks)

abbrev IfParts : Text → Parts → Type 0
IfParts t r = MatchOption r (Lacks t) (λ x. (t ≡ x.0.now ++ 47 ∷ x.1.now) × Lacks x.1.now)

pub last_of_some : (t : Text) (r : Parts) (x : Bor Text × Bor Text) → r ≡ Some x → IsSplit t r → IsPlace (names_of t) → IsLast t x.0.now x.1.now
last_of_some t r x is e k =
    let parts = subst (IfParts t) is (parts_of t r e) in
    last_name t x.0.now x.1.now parts.0 parts.1 k

pub last_of_none : (t : Text) (r : Parts) → r ≡ None → IsSplit t r → (length t == 0) ≡ false → IsPlace (names_of t) → IsLast t [] t
last_of_none t r is e some k = only_name t some (subst (IfParts t) is (parts_of t r e)) k

-- ---- the first name

-- a path whose first slash is known
names_seam : (t u : Text) → names_of (t ++ 47 ∷ u) ≡ elements t ++ elements u
names_seam [] u = refl
names_seam (c ∷ t) u = elements-append (c ∷ t) u

abbrev IsFirst : Text → Text → Text → Type 0
IsFirst t n rest = names_of t ≡ n ∷ names_of rest

first_name : (t n rest : Text) → t ≡ n ++ 47 ∷ rest → Lacks n → IsPlace (names_of t) → IsFirst t n rest
first_name t n [] e h k =
    let names : names_of t ≡ n ∷ [] ∷ [] = ap names_of e ∙ names_seam n [] ∙ ap (λ ns. ns ++ [] ∷ []) (lone_element n h) in
    absurd ((All-head IsName [] [] (All-tail IsName n ([] ∷ []) (subst IsPlace names k))).fits.not_empty refl)
first_name t n (c ∷ rest) e h k =
    ap names_of e ∙ names_seam n (c ∷ rest) ∙ ap (λ ns. ns ++ elements (c ∷ rest)) (lone_element n h)

abbrev IfSplit : Text → Parts → Type 0
IfSplit t r = MatchOption r (Lacks t) (λ x. (t ≡ x.0.now ++ 47 ∷ x.1.now) × Lacks x.0.now)

pub first_of_some : (t : Text) (r : Parts) (x : Bor Text × Bor Text) → r ≡ Some x → IsSplitOnceResult 47 t r → IsPlace (names_of t) → IsFirst t x.0.now x.1.now
first_of_some t r x is e k =
    let parts : IfSplit t (Some x) = subst (IfSplit t) is (split_parts 47 t r e (omega arith)) in
    first_name t x.0.now x.1.now parts.0 parts.1 k

pub first_of_none : (t : Text) (r : Parts) → r ≡ None → IsSplitOnceResult 47 t r → (length t == 0) ≡ false → IsFirst t t []
first_of_none t r is e some = only_element t some (subst (IfSplit t) is (split_parts 47 t r e (omega arith)))

-- ---- one path after another

pub names_joined : (t u : Text) → names_of (joined t u) ≡ names_of t ++ names_of u
names_joined [] u = refl
names_joined (b ∷ t) [] = sym (append-nil (elements (b ∷ t)))
names_joined (b ∷ t) (c ∷ u) = elements-append (b ∷ t) (c ∷ u)

pub names_of_name : (n : Text) → IsName n → names_of n ≡ n ∷ []
names_of_name n h = names_alone n h.fits.not_empty (λ i l. (h.fits.plain i 0 l).0)

pub place_joined : (t u w : Text) → w ≡ joined t u → IsPlace (names_of t) → IsPlace (names_of u) → IsPlace (names_of w)
place_joined t u w e h k = subst IsPlace (sym (ap names_of e ∙ names_joined t u)) (All-append IsName (names_of t) (names_of u) h k)

pub names_child : (t n : Text) → IsName n → names_of (joined t n) ≡ names_of t ++ n ∷ []
names_child t n h = names_joined t n ∙ ap (λ ns. names_of t ++ ns) (names_of_name n h)

pub place_child : (t n w : Text) → w ≡ joined t n → IsPlace (names_of t) → IsName n → IsPlace (names_of w)
place_child t n w e h k = place_joined t n w e h (subst IsPlace (sym (names_of_name n k)) (All-cons IsName n [] k (All-nil IsName)))

-- ---- the first n names, and what follows them

pub place_behind : (t u : Text) (i : ℕ) → names_of u ≡ drop i (names_of t) → IsPlace (names_of t) → IsPlace (names_of u)
place_behind t u i e h = subst IsPlace (sym e) (All-drop IsName i (names_of t) h)

pub place_front : (t u : Text) (i : ℕ) → names_of u ≡ take i (names_of t) → IsPlace (names_of t) → IsPlace (names_of u)
place_front t u i e h = subst IsPlace (sym e) (All-take IsName i (names_of t) h)

pub drop_one_more : (ns : Place) (i : ℕ) (n : Text) (rest : Place) → drop i ns ≡ n ∷ rest → drop (i + 1) ns ≡ rest
drop_one_more ns i n rest e = sym (drop-drop 1 i ns) ∙ ap (drop 1) e

pub drop_past : (ns : Place) (i j : ℕ) → drop i ns ≡ [] → i ≤ j → drop j ns ≡ []
drop_past ns i j e h = drop_all j ns (omega (arith, length-drop i ns, ap length e))

pub take_one_less : (ns front : Place) (i : ℕ) (n : Text) → i < length ns → take (i + 1) ns ≡ front ++ n ∷ [] → take i ns ≡ front
take_one_less ns front i n h e = (same_from_push (take i ns) front (get_or ns i n) n (sym (take_more ns i n h) ∙ e)).0

take_nil : (j : ℕ) → take {A = Text} j [] ≡ []
take_nil zero = refl
take_nil (suc j) = refl

pub take_more_than_all : (ns : Place) (i j : ℕ) → length ns ≤ i → length ns ≤ j → take i ns ≡ take j ns
take_more_than_all ns i j h k = take_all i ns h ∙ sym (take_all j ns k)

pub take_none : (ns : Place) (i j : ℕ) → take i ns ≡ [] → j ≤ i → take j ns ≡ []
take_none ns i j e h = sym (take-take j i ns h) ∙ ap (take j) e ∙ take_nil j

-- ---- how many they are

pub names_length : (t : Text) → (length t == 0) ≡ false → length (names_of t) ≡ count_by (λ b. b == 47) t + 1
names_length [] h = absurd (true_not_false h)
names_length (c ∷ t) h = length-slice_split (λ b. b == 47) (c ∷ t)
