-- A listing that is sorted backwards, and taken from its end.
use Rattle.std.proofs.Common.{◌≡◌, inl, inr, ℕ, suc, ◌+◌, ◌≤◌, List, [], ◌∷◌, ◌++◌, refl, sym, ◌∙◌, ap, subst, true, false, Bool, Option, Some, None, arith, length, IsPermutation}
use Rattle.std.proofs.lemmas.List.Elements.{All-from_recursion, recursion_from_All}
use Rattle.std.proofs.lemmas.List.Sorted.{All-permutation, IsPermutation-sym, length_permutation}
use Rattle.std.specs.Prelude.{cond, option_map, slice_index_or, ⊤}
use Rattle.std.specs.{List.{AllByRecursion, IsDistinct}, List.Sorted.{IsSorted}, Ordering.{is_lt}}
use Rattle.std.specs.declared.cmp.Ordering.{Ordering}
use Rattle.std.specs.declared.cmp.Ordering.TheVariants.{Less, Equal, Greater}
use Rattle.ocfl_tree.specs.Place.{Place, Text, text_cmp, text_eq}
use Rattle.ocfl_tree.specs.Ascending.{IsAscending, IsAmong, IsBeforeAll}
use Rattle.ocfl_tree.specs.StorageRoot.{StorageRoot, Leaf, at, names_in}
use Rattle.ocfl_tree.specs.Listing.{AreApart, IsListing, IsOrdinary, kind_at, kind_in, kind_of}
use Rattle.ocfl_tree.specs.{declared.store.Entry.{Entry}, declared.store.Kind.{Kind}}
use Rattle.ocfl_tree.proofs.Places.{text_eq-Decides, text_eq-same, not_decided, differ}
use Rattle.ocfl_tree.proofs.Orders.{below_from_greater}
use Rattle.ocfl_walk.specs.Standing.{AreEntries, back, back_onto}
use Rattle.ocfl_rules.proofs.AuditExists.{some_not_none}
use Rattle.ocfl_rules.proofs.{BelowLaws.{text_cmp_total, text_cmp_exact}, WayLaws.{entry_named}}
use Rattle.ocfl_rules.proofs.StackLaws.{names_sorted}
use Rattle.ocfl_item.proofs.{LooksEntries.{name_there}, NameLaws.{names_of, names_differ}}

abbrev backward : List Entry → List Entry → List Entry
backward es later = back_onto (λ e. e) es later

-- ---- all of the entries, from the last to the first

module _ (P : Entry → Type 0) where
  all_onto : (es later : List Entry) → AllByRecursion P es → AllByRecursion P later → AllByRecursion P (backward es later)
  all_onto [] later h k = k
  all_onto (e ∷ es) later h k = all_onto es (e ∷ later) h.1 (h.0, k)

  all_back : (es : List Entry) → AllByRecursion P es → AllByRecursion P (back (λ e. e) es)
  all_back es h = all_onto es [] h tt

  all_moved : (es fs : List Entry) → IsPermutation es fs → AllByRecursion P es → AllByRecursion P fs
  all_moved es fs moved h = recursion_from_All P fs (All-permutation P es fs moved (All-from_recursion P es h))

length_onto : (es later : List Entry) → length (backward es later) ≡ length es + length later
length_onto [] later = omega arith
length_onto (e ∷ es) later = let k = length_onto es (e ∷ later) in omega (arith, k)

pub few_back : (es fs : List Entry) (limit : ℕ) → IsPermutation es fs → length es ≤ limit → length (back (λ e. e) fs) ≤ limit
few_back es fs limit moved h = let long = length_onto fs [] in let same = length_permutation es fs moved in omega (arith, long, same, h)

-- ---- in order

abbrev Falls : List Entry → Type 0
Falls [] = ⊤
Falls (e ∷ es) = AllByRecursion (λ f. text_cmp f.name e.name ≡ Less) es × Falls es

falls : (es : List Entry) → IsSorted (λ e f. text_cmp f.name e.name) es → IsDistinct text_eq (names_of es) → Falls es
unfolding IsDistinct
falls [] s d = tt
falls (x ∷ []) s d = (tt, tt)
falls (x ∷ y ∷ es) s d =
    let rest : Falls (y ∷ es) = falls (y ∷ es) (later s) d.1 in
    let below : text_cmp y.name x.name ≡ Less = by (text_cmp x.name y.name) refl (s 0 x (omega arith) (omega arith)) in
    ((below, further es below rest.0), rest)
  where
    later : IsSorted (λ e f. text_cmp f.name e.name) (x ∷ y ∷ es) → IsSorted (λ e f. text_cmp f.name e.name) (y ∷ es)
    later s k e l h =
        let same : suc k + 1 ≡ suc (k + 1) = omega arith in
        subst (λ j. is_lt (text_cmp (slice_index_or (y ∷ es) k e).name (slice_index_or (x ∷ y ∷ es) j e).name) ≡ false) same (s (suc k) e (omega arith) (omega (arith, h)))

    by : (r : Ordering) → text_cmp x.name y.name ≡ r → is_lt r ≡ false → text_cmp y.name x.name ≡ Less
    by Less e h = absurd cc
    by Equal e h = absurd (differ _ _ (text_eq-Decides x.name y.name) d.0.0 (text_cmp_exact x.name y.name e))
    by Greater e h = below_from_greater text_cmp_total x.name y.name e

    further : (fs : List Entry) → text_cmp y.name x.name ≡ Less → AllByRecursion (λ f. text_cmp f.name y.name ≡ Less) fs → AllByRecursion (λ f. text_cmp f.name x.name ≡ Less) fs
    further [] b h = tt
    further (f ∷ fs) b h = (text_cmp_total.trans f.name y.name x.name h.0 b, further fs b h.1)

abbrev IsBelowEach : List Entry → List Entry → Type 0
IsBelowEach es later = AllByRecursion (λ e. IsBeforeAll text_cmp e.name (names_of later)) es

rises_onto : (es later : List Entry) → Falls es → IsAscending text_cmp (names_of later) → IsBelowEach es later → IsAscending text_cmp (names_of (backward es later))
rises_onto [] later h k b = k
rises_onto (e ∷ es) later h k b = rises_onto es (e ∷ later) h.1 (b.0, k) (both es h.0 b.1)
  where
    both : (fs : List Entry) → AllByRecursion (λ f. text_cmp f.name e.name ≡ Less) fs → IsBelowEach fs later → IsBelowEach fs (e ∷ later)
    both [] l c = tt
    both (f ∷ fs) l c = ((l.0, c.0), both fs l.1 c.1)

below_nothing : (es : List Entry) → IsBelowEach es []
below_nothing [] = tt
below_nothing (e ∷ es) = (tt, below_nothing es)

pub rises_back : (es fs : List Entry) → IsOrdinary es → IsPermutation es fs → IsSorted (λ e f. text_cmp f.name e.name) fs → IsAscending text_cmp (names_of (back (λ e. e) fs))
rises_back es fs ordinary moved sorted =
    rises_onto fs [] (falls fs sorted (names_differ es fs ordinary moved)) tt (below_nothing fs)

-- ---- what the names lead to

own_kinds : (es : List Entry) → AreApart es → AllByRecursion (λ e. kind_in es e.name ≡ Some e.kind) es
own_kinds [] h = tt
own_kinds (e ∷ es) h = (ap (λ b. cond b (Some e.kind) (kind_in es e.name)) (text_eq-same e.name), more es (own_kinds es h.1))
  where
    more : (fs : List Entry) → AllByRecursion (λ f. kind_in es f.name ≡ Some f.kind) fs → AllByRecursion (λ f. kind_in (e ∷ es) f.name ≡ Some f.kind) fs
    more [] k = tt
    more (f ∷ fs) k =
        let apart : text_eq e.name f.name ≡ false = not_decided _ _ (text_eq-Decides e.name f.name) (λ same. some_not_none f.kind (sym h.0 ∙ ap (kind_in es) same ∙ k.0)) in
        (ap (λ b. cond b (Some e.kind) (kind_in es f.name)) apart ∙ k.0, more fs k.1)

told_kinds : (root : StorageRoot) (d : Place) (es fs : List Entry) → IsListing root d es → AllByRecursion (λ e. kind_in es e.name ≡ Some e.kind) fs → AreEntries root d fs
told_kinds root d es [] h k = tt
told_kinds root d es (f ∷ fs) h k = (sym (h.each f.name) ∙ k.0, told_kinds root d es fs h k.1)

pub entries_back : (root : StorageRoot) (d : Place) (es fs : List Entry) → IsOrdinary es → IsListing root d es → IsPermutation es fs → AreEntries root d (back (λ e. e) fs)
entries_back root d es fs ordinary h moved =
    all_back (λ e. kind_at root d e.name ≡ Some e.kind) fs (all_moved (λ e. kind_at root d e.name ≡ Some e.kind) es fs moved (told_kinds root d es es h (own_kinds es ordinary.once)))

name_leads : (root : StorageRoot) (d : Place) (es : List Entry) (n : Text) → AreEntries root d es → IsAmong (names_of es) n → IsAmong (names_in root d) n
name_leads root d [] n h i = absurd i
name_leads root d (e ∷ es) n h (inr j) = name_leads root d es n h.1 j
name_leads root d (e ∷ es) n h (inl same) = by (at root (d ++ n ∷ [])) refl (ap (kind_at root d) same ∙ h.0)
  where
    by : (o : Option Leaf) → at root (d ++ n ∷ []) ≡ o → option_map kind_of o ≡ Some e.kind → IsAmong (names_in root d) n
    by None is k = absurd (some_not_none e.kind k)
    by (Some leaf) is k = entry_named root d n leaf is

among_later : (es later : List Entry) (n : Text) → IsAmong (names_of later) n → IsAmong (names_of (backward es later)) n
among_later [] later n i = i
among_later (e ∷ es) later n i = among_later es (e ∷ later) n (inr i)

among_onto : (es later : List Entry) → AllByRecursion (λ e. IsAmong (names_of (backward es later)) e.name) es
among_onto [] later = tt
among_onto (e ∷ es) later = (among_later es (e ∷ later) e.name (inl refl), among_onto es (e ∷ later))

kind_among : (ns : List Text) (es : List Entry) (n : Text) (k : Kind) → AllByRecursion (λ e. IsAmong ns e.name) es → kind_in es n ≡ Some k → IsAmong ns n
kind_among ns [] n k h is = absurd (some_not_none k is)
kind_among ns (e ∷ es) n k h is = by (text_eq e.name n) refl is (kind_among ns es n k h.1)
  where
    by : (b : Bool) → text_eq e.name n ≡ b → cond b (Some e.kind) (kind_in es n) ≡ Some k → (kind_in es n ≡ Some k → IsAmong ns n) → IsAmong ns n
    by true t j more = subst (IsAmong ns) ((text_eq-Decides e.name n).0 t) h.0
    by false t j more = more j

pub names_back : (root : StorageRoot) (d : Place) (es fs : List Entry) → IsOrdinary es → IsListing root d es → IsPermutation es fs
    → IsSorted (λ e f. text_cmp f.name e.name) fs → names_of (back (λ e. e) fs) ≡ names_in root d
names_back root d es fs ordinary h moved sorted =
    names_sorted root d (names_of (back (λ e. e) fs)) (rises_back es fs ordinary moved sorted)
    (λ n. (name_leads root d (back (λ e. e) fs) n (entries_back root d es fs ordinary h moved), named n))
  where
    named : (n : Text) → IsAmong (names_in root d) n → IsAmong (names_of (back (λ e. e) fs)) n
    named n i =
        let leaf = name_there root d n h.directory i in
        let all = all_moved (λ e. IsAmong (names_of (back (λ x. x) fs)) e.name) fs es (IsPermutation-sym es fs moved) (among_onto fs []) in
        kind_among (names_of (back (λ e. e) fs)) es n (kind_of leaf.0) all (h.each n ∙ ap (option_map kind_of) leaf.1)
