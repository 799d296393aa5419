-- Looking up entries by their places.
use Rattle.std.proofs.Common.{◌≡◌, ◌≤◌, ◌<◌, ◌+◌, ℕ, suc, List, [], ◌∷◌, Bool, true, false, ◌&&◌, ◌||◌, refl, sym, ◌∙◌, ap, ap₂, subst, length, take, get_or, leb-true, arith}
use Rattle.std.proofs.{lemmas.Bool.{and_parts, and_right, or_from, or_parts, or_right}, lemmas.Bool.Decides.{nat_tests}, lemmas.List.{get_or_default, take_all}, lemmas.List.Elements.{AllWithin-more}}
use Rattle.std.proofs.lemmas.List.Sorted.{sorted_far, list_any-IsPermutation}
use Rattle.std.proofs.lemmas.List.MinMax.{ranks_by}
use Rattle.std.specs.{Prelude.{nat_le}, List.{AllWithin, list_any}, List.Sorted.{IsPartitionPoint, IsPermutation, IsSorted}, Cmp.{IsStrictWeakOrder}}
use Rattle.std.specs.{Ordering.{is_lt, is_eq}, declared.cmp.Ordering.{Ordering}}
use Rattle.std.specs.declared.cmp.Ordering.TheVariants.{Less, Equal, Greater}
use Rattle.ocfl_tree.specs.Place.{Place, begins, place_cmp, place_eq, text_eq}
use Rattle.ocfl_tree.proofs.Orders.{below_from_greater, less_from, place_cmp_exact, place_cmp_total, true_not_false}
use Rattle.ocfl_tree.proofs.Places.{begins-itself, place_eq-Decides, text_eq-Decides}
use Rattle.ocfl_report.specs.Line.{Line, line_of}
use Rattle.ocfl_messages.specs.Known.{code_eq, entry_cmp, is_known, names, names_at, reaches}
use Rattle.ocfl_messages.specs.{declared.known.KnownEntry.{KnownEntry}, declared.known.Reach.{Reach}}
use Rattle.ocfl_messages.specs.declared.known.Reach.TheVariants as reach

pub known_in_any_order : (es fs : List KnownEntry) (l : Line) → IsPermutation es fs → is_known es l ≡ is_known fs l
known_in_any_order es fs l h = list_any-IsPermutation (names l) es fs h

-- ---- entries that name a line are of its place or of one above it

begun : (q p : Place) → begins q p ≡ true → (q ≡ take (length q) p) × (length q ≤ length p)
begun [] p h = (refl, omega arith)
begun (n ∷ q) [] h = absurd cc
begun (n ∷ q) (m ∷ p) h = by (text_eq n m) refl h (begun q p)
  where
    by : (b : Bool) → text_eq n m ≡ b → (b && begins q p) ≡ true → (begins q p ≡ true → (q ≡ take (length q) p) × (length q ≤ length p))
        → (n ∷ q ≡ take (length (n ∷ q)) (m ∷ p)) × (length (n ∷ q) ≤ length (m ∷ p))
    by true t k more =
        let r = more k in
        let s : n ≡ m = (text_eq-Decides n m).0 t in
        (λ i. s i ∷ r.0 i, omega (arith, r.1))
    by false t k more = absurd cc

named_begins : (l : Line) (e : KnownEntry) → names l e ≡ true → begins e.line.place l.place ≡ true
named_begins l e h = by e.reach (and_parts (code_eq e.line.code l.code) (reaches e.reach (line_of e.line) l) h).1
  where
    same : place_eq e.line.place l.place ≡ true → begins e.line.place l.place ≡ true
    same k = subst (λ q. begins e.line.place q ≡ true) ((place_eq-Decides e.line.place l.place).0 k) (begins-itself e.line.place)

    by : (r : Reach) → reaches r (line_of e.line) l ≡ true → begins e.line.place l.place ≡ true
    by reach.One k = same (and_parts _ _ k).0
    by reach.Place k = same k
    by reach.Branch k = k

at_place : (q : Place) (l : Line) (e : KnownEntry) → e.line.place ≡ q → names l e ≡ true → names_at q l e ≡ true
at_place q l e s i = ap₂ (λ a b. a && b) ((place_eq-Decides e.line.place q).1 s) i

one_along : (l : Line) (e : KnownEntry) → ((m : ℕ) → m < length l.place → names_at (take m l.place) l e ≡ false) → names_at l.place l e ≡ names l e
one_along l e h = by (names l e) refl
  where
    whole : names l e ≡ true → (q : Place) → e.line.place ≡ take (length q) l.place → length q ≤ length l.place → q ≡ e.line.place → (b : Bool) → nat_le (length l.place) (length q) ≡ b
        → names_at l.place l e ≡ true
    whole i q s k w true t = at_place l.place l e (s ∙ take_all (length q) l.place (leb-true _ _ t)) i
    whole i q s k w false t =
        let less : length q < length l.place = grind (arith, nat_tests) in
        absurd (true_not_false (sym (at_place (take (length q) l.place) l e s i) ∙ h (length q) less))

    by : (b : Bool) → names l e ≡ b → names_at l.place l e ≡ names l e
    by false i = and_right (place_eq e.line.place l.place) (names l e) i ∙ sym i
    by true i =
        let s = begun e.line.place l.place (named_begins l e i) in
        whole i e.line.place s.0 s.1 refl (nat_le (length l.place) (length e.line.place)) refl ∙ sym i

pub known_along : (l : Line) (es : List KnownEntry) → ((m : ℕ) → m < length l.place → list_any (names_at (take m l.place) l) es ≡ false)
    → list_any (names_at l.place l) es ≡ is_known es l
known_along l [] h = refl
known_along l (e ∷ es) h =
    ap₂ (λ a b. a || b) (one_along l e (λ m k. (or_parts _ _ (h m k)).0)) (known_along l es (λ m k. (or_parts _ _ (h m k)).1))

pub known_at : (q : Place) (l : Line) (es : List KnownEntry) → list_any (names_at q l) es ≡ true → is_known es l ≡ true
known_at q l [] h = h
known_at q l (e ∷ es) h = by (names_at q l e) refl h (known_at q l es)
  where
    by : (b : Bool) → names_at q l e ≡ b → (b || list_any (names_at q l) es) ≡ true → (list_any (names_at q l) es ≡ true → is_known es l ≡ true)
        → (names l e || is_known es l) ≡ true
    by true i k more = ap (λ b. b || is_known es l) (and_parts (place_eq e.line.place q) (names l e) i).1
    by false i k more = or_right (names l e) (is_known es l) (more k)

-- ---- the entries of a place lie together

entry_orders : IsStrictWeakOrder (λ (e f : KnownEntry). is_lt (entry_cmp e f))
entry_orders = ranks_by place_cmp_total (λ (e : KnownEntry). e.line.place)

below_too : (p q r : Place) → is_lt (place_cmp q p) ≡ false → is_lt (place_cmp q r) ≡ true → is_lt (place_cmp p r) ≡ true
below_too p q r h k = by (place_cmp p q) refl
  where
    by : (o : Ordering) → place_cmp p q ≡ o → is_lt (place_cmp p r) ≡ true
    by Less e = ap is_lt (place_cmp_total.trans p q r e (less_from _ k))
    by Equal e = ap (λ s. is_lt (place_cmp s r)) (place_cmp_exact p q e) ∙ k
    by Greater e = absurd (true_not_false (sym (ap is_lt (below_from_greater place_cmp_total p q e)) ∙ h))

pub parted_from : (es : List KnownEntry) (q : Place) → IsSorted entry_cmp es → (i j : ℕ) (d : KnownEntry) → i ≤ j → j < length es
    → is_lt (place_cmp (get_or es j d).line.place q) ≡ true → is_lt (place_cmp (get_or es i d).line.place q) ≡ true
parted_from es q up i j d k l h = below_too (get_or es i d).line.place (get_or es j d).line.place q (sorted_far _ entry_orders es up i j d k l) h

abbrev pub IsLow : Place → List KnownEntry → ℕ → Type 0
IsLow q es i = IsPartitionPoint (λ e. is_lt (place_cmp e.line.place q) ≡ true) (λ e. is_lt (place_cmp e.line.place q) ≡ false) es i

-- none of the first i entries is of the place and names the line
abbrev pub AreOther : Place → Line → List KnownEntry → ℕ → Type 0
AreOther q l es i = AllWithin (λ e. names_at q l e ≡ false) es 0 i

above_apart : (x y q : Place) → is_lt (place_cmp y x) ≡ false → place_cmp q x ≡ Less → place_eq y q ≡ false
above_apart x y q h l = by (place_cmp y q) refl
  where
    by : (o : Ordering) → place_cmp y q ≡ o → is_eq o ≡ false
    by Less e = refl
    by Equal e = absurd (true_not_false (sym (ap is_lt (ap (λ p. place_cmp p x) (place_cmp_exact y q e) ∙ l)) ∙ h))
    by Greater e = refl

past : (x q : Place) → is_lt (place_cmp x q) ≡ false → place_eq x q ≡ false → place_cmp q x ≡ Less
past x q h k = by (place_cmp x q) refl h k
  where
    by : (o : Ordering) → place_cmp x q ≡ o → is_lt o ≡ false → is_eq o ≡ false → place_cmp q x ≡ Less
    by Less e a b = absurd (true_not_false a)
    by Equal e a b = absurd (true_not_false b)
    by Greater e a b = below_from_greater place_cmp_total x q e

pub none_from_each : (test : KnownEntry → Bool) (es : List KnownEntry) → ((k : ℕ) (d : KnownEntry) → k < length es → test (get_or es k d) ≡ false) → list_any test es ≡ false
none_from_each test [] h = refl
none_from_each test (e ∷ es) h = or_from _ _ (h 0 e (omega arith)) (none_from_each test es (λ k d a. h (suc k) d (omega arith)))

pub others_all : (q : Place) (l : Line) (es : List KnownEntry) (i : ℕ) → length es ≤ i → AreOther q l es i → list_any (names_at q l) es ≡ false
others_all q l es i a h = none_from_each (names_at q l) es (λ k d b. h k d (omega arith) (omega arith))

pub others_more : (q : Place) (l : Line) (es : List KnownEntry) (i : ℕ) (x : KnownEntry) → i < length es → x ≡ get_or es i x → names l x ≡ false
    → AreOther q l es i → AreOther q l es (i + 1)
others_more q l es i x within is apart h =
    AllWithin-more (λ e. names_at q l e ≡ false) es 0 i h (λ d. and_right _ _ (ap (names l) (sym (is ∙ get_or_default es i x d within)) ∙ apart))

-- the entry at an index is of a place after this one
pub others_end : (q : Place) (l : Line) (es : List KnownEntry) (first i : ℕ) (x : KnownEntry) → IsSorted entry_cmp es → IsLow q es first → first ≤ i
    → i < length es → x ≡ get_or es i x → place_eq x.line.place q ≡ false → AreOther q l es i → list_any (names_at q l) es ≡ false
others_end q l es first i x up low a within is apart h = none_from_each (names_at q l) es (λ k d b. by k d b (nat_le i k) refl)
  where
    by : (k : ℕ) (d : KnownEntry) → k < length es → (c : Bool) → nat_le i k ≡ c → names_at q l (get_or es k d) ≡ false
    by k d b true t =
        let here : i ≤ k = leb-true _ _ t in
        let same : x ≡ get_or es i d = is ∙ get_or_default es i x d within in
        let high : place_cmp q (get_or es i d).line.place ≡ Less = past _ q (low.1 i d a (omega (arith, here, b))) (subst (λ (e : KnownEntry). place_eq e.line.place q ≡ false) same apart) in
        ap (λ c. c && names l (get_or es k d)) (above_apart _ _ q (sorted_far _ entry_orders es up i k d here b) high)
    by k d b false t = h k d (omega arith) (grind (arith, nat_tests))
