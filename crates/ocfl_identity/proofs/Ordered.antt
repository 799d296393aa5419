-- A sorted listing is the entries of the directory.
use Rattle.std.proofs.Common.{◌≡◌, inl, inr, List, [], ◌∷◌, ◌++◌, refl, sym, ◌∙◌, ap, subst, Bool, true, false, Option, Some, None, arith, IsPermutation}
use Rattle.std.proofs.lemmas.List.Elements.{All-from_recursion, recursion_from_All}
use Rattle.std.proofs.lemmas.List.Sorted.{All-permutation, IsPermutation-sym, IsPermutation-map}
use Rattle.std.proofs.lemmas.Map.Keys.{IsDistinct-IsPermutation}
use Rattle.std.specs.Prelude.{cond, filter, filter_map, option_and_then, option_map}
use Rattle.std.specs.{List.{AllByRecursion, IsDistinct, cons_option}, List.Sorted.{IsSorted}}
use Rattle.std.specs.Ordering.{is_eq}
use Rattle.sha2.specs.Sha256.{sha256}
use Rattle.hex.specs.Hex.{encode_lower}
use Rattle.ocfl_tree.specs.Place.{Place, Text, child_name, text_cmp, text_eq}
use Rattle.ocfl_tree.specs.Ascending.{IsAscending, IsAmong, IsBeforeAll}
use Rattle.ocfl_tree.specs.StorageRoot.{StorageRoot, Leaf, file, dir, other, at, bytes_of, file_at, names_in}
use Rattle.ocfl_tree.specs.Listing.{IsListing, IsOrdinary, entries_in, entry_at, kind_at, kind_of}
use Rattle.ocfl_tree.specs.{declared.store.Entry.{Entry}, declared.store.Kind.{Kind}}
use Rattle.ocfl_tree.specs.declared.store.Kind.TheVariants.{Other}
use Rattle.ocfl_tree.proofs.{Bools.{and_first}, Orders.{ascending_unique, ascends_ascending, true_not_false}}
use Rattle.ocfl_tree.proofs.{Places.{text_cmp_exact, text_cmp_total, text_eq_turns}, Listings.{listing_permutes}}
use Rattle.ocfl_inventory.specs.{Declaration.{is_declaration}, Entries.{is_counted, is_file}}
use Rattle.ocfl_inventory.specs.declared.declaration.Level.TheVariants.{Root}
use Rattle.ocfl_inventory.proofs.Once.{apart_up, up_from_sorted}
use Rattle.ocfl_identity.specs.Identity.{before_lines, declarations_among, declared_by, digits_of, names_of, sum_line, sum_lines}

-- ---- names that ascend are distinct, and so are they in any order

distinct : (ns : List Text) → IsAscending text_cmp ns → IsDistinct text_eq ns
unfolding IsDistinct
distinct [] h = tt
distinct (n ∷ ns) h = (apart ns h.0, distinct ns h.1)
  where
    apart : (ms : List Text) → IsBeforeAll text_cmp n ms → AllByRecursion (λ m. text_eq n m ≡ false) ms
    apart [] b = tt
    apart (m ∷ ms) b = (ap is_eq b.0, apart ms b.1)

-- ---- a sorted list of distinct names ascends

rises : (es : List Entry) → IsSorted (λ e f. text_cmp e.name f.name) es → IsDistinct text_eq (names_of es) → IsAscending text_cmp (names_of es)
rises es s = apart_up text_cmp_total text_cmp_exact (names_of es) (up_from_sorted text_cmp_total text_cmp_exact (λ e. e.name) es (λ k d h. s k d (omega arith) h))

-- ---- the entries of a directory

module _ (root : StorageRoot) (d : Place) where
  abbrev named : Text → Option Entry
  named n = entry_at root d n

  abbrev Are : List Entry → Type 0
  Are es = AllByRecursion (λ e. named e.name ≡ Some e) es

  abbrev of : Text → Option Kind → List Entry → List Entry
  of n kind es = cons_option (option_map (λ k. record { name = n; kind = k }) kind) es

  own : (ns : List Text) → Are (filter_map named ns)
  own [] = tt
  own (n ∷ ns) = by (kind_at root d n) refl (own ns)
    where
      by : (o : Option Kind) → kind_at root d n ≡ o → Are (filter_map named ns) → Are (of n o (filter_map named ns))
      by None e more = more
      by (Some k) e more = (ap (option_map (λ j. record { name = n; kind = j })) e, more)

  before : (n : Text) (ns : List Text) → IsBeforeAll text_cmp n ns → IsBeforeAll text_cmp n (names_of (filter_map named ns))
  before n [] h = tt
  before n (m ∷ ns) h = by (kind_at root d m) (before n ns h.1)
    where
      by : (o : Option Kind) → IsBeforeAll text_cmp n (names_of (filter_map named ns)) → IsBeforeAll text_cmp n (names_of (of m o (filter_map named ns)))
      by None more = more
      by (Some k) more = (h.0, more)

  ascend : (ns : List Text) → IsAscending text_cmp ns → IsAscending text_cmp (names_of (filter_map named ns))
  ascend [] h = tt
  ascend (n ∷ ns) h = by (kind_at root d n) (ascend ns h.1)
    where
      by : (o : Option Kind) → IsAscending text_cmp (names_of (filter_map named ns)) → IsAscending text_cmp (names_of (of n o (filter_map named ns)))
      by None more = more
      by (Some k) more = (before n ns h.0, more)

  entries_ascend : IsAscending text_cmp (names_of (entries_in root d))
  entries_ascend = ascend (names_in root d) (ascends_ascending text_cmp_total (filter_map (λ e. child_name d e.0) root))

  from_names : (es : List Entry) → Are es → es ≡ filter_map named (names_of es)
  from_names [] h = refl
  from_names (e ∷ es) h = ap (λ fs. e ∷ fs) (from_names es h.1) ∙ ap (λ o. cons_option o (filter_map named (names_of es))) (sym h.0)

-- ---- what permutations keep

module _ {A : Type 0} (P : A → Type 0) where
  moved : (xs ys : List A) → IsPermutation xs ys → AllByRecursion P xs → AllByRecursion P ys
  moved xs ys m h = recursion_from_All P ys (All-permutation P xs ys m (All-from_recursion P xs h))

  one_of : (xs : List A) (z : A) → AllByRecursion P xs → IsAmong xs z → P z
  one_of [] z h i = absurd i
  one_of (x ∷ xs) z h (inl e) = subst P (sym e) h.0
  one_of (x ∷ xs) z h (inr i) = one_of xs z h.1 i

module _ {A : Type 0} where
  all_among : (xs : List A) → AllByRecursion (IsAmong xs) xs
  all_among [] = tt
  all_among (x ∷ xs) = (inl refl, later xs (all_among xs))
    where
      later : (ys : List A) → AllByRecursion (IsAmong xs) ys → AllByRecursion (IsAmong (x ∷ xs)) ys
      later [] h = tt
      later (y ∷ ys) h = (inr h.0, later ys h.1)

  among_moved : (xs ys : List A) (z : A) → IsPermutation xs ys → IsAmong xs z → IsAmong ys z
  among_moved xs ys z m i = one_of (IsAmong ys) xs z (moved (IsAmong ys) ys xs (IsPermutation-sym xs ys m) (all_among ys)) i

-- a listing in order is the entries of the directory
pub sorted_listing : (root : StorageRoot) (d : Place) (es fs : List Entry) → IsOrdinary es → IsListing root d es → IsPermutation es fs → IsSorted (λ e f. text_cmp e.name f.name) fs → fs ≡ entries_in root d
sorted_listing root d es fs ordinary h m sorted =
    from_names root d fs (moved (λ e. entry_at root d e.name ≡ Some e) es fs m (moved (λ e. entry_at root d e.name ≡ Some e) _ es here (own root d (names_in root d))))
    ∙ ap (filter_map (entry_at root d)) names
    ∙ sym (from_names root d (entries_in root d) (own root d (names_in root d)))
  where
    there : IsPermutation es (entries_in root d)
    there = listing_permutes root d es ordinary h

    here : IsPermutation (entries_in root d) es
    here = IsPermutation-sym es (entries_in root d) there

    of_name : (xs ys : List Entry) → IsPermutation xs ys → IsPermutation (names_of xs) (names_of ys)
    of_name xs ys k = IsPermutation-map (λ e. e.name) xs ys k

    apart : IsDistinct text_eq (names_of fs)
    apart = IsDistinct-IsPermutation text_eq text_eq_turns (names_of es) (names_of fs) (of_name es fs m)
        (IsDistinct-IsPermutation text_eq text_eq_turns (names_of (entries_in root d)) (names_of es) (of_name _ es here) (distinct _ (entries_ascend root d)))

    names : names_of fs ≡ names_of (entries_in root d)
    names = ascending_unique text_cmp_total text_cmp_exact (names_of fs) (names_of (entries_in root d)) (rises fs sorted apart) (entries_ascend root d)
        (λ n. (
          λ i. among_moved (names_of es) _ n (of_name es _ there) (among_moved (names_of fs) (names_of es) n (of_name fs es (IsPermutation-sym es fs m)) i),
          λ i. among_moved (names_of es) (names_of fs) n (of_name es fs m) (among_moved _ (names_of es) n (of_name _ es here) i),
        ))

-- ---- the declarations among the entries of a directory are there

kind_or : Option Entry → Kind
kind_or None = Other
kind_or (Some e) = e.kind

counted_there : (root : StorageRoot) (e : Entry) → entry_at root [] e.name ≡ Some e → is_counted Root e ≡ true → (bytes : Text) × (file_at root (e.name ∷ []) ≡ Some bytes)
unfolding kind_or
counted_there root e mine counted = by (at root (e.name ∷ [])) refl
  where
    is_listed : Option Leaf → Bool
    is_listed o = is_file (kind_or (option_map (λ k. record { name = e.name; kind = k }) (option_map kind_of o)))

    listed : true ≡ is_listed (at root (e.name ∷ []))
    listed = sym (and_first (is_file e.kind) (is_declaration Root e.name) counted) ∙ sym (ap (λ o. is_file (kind_or o)) mine)

    by : (o : Option Leaf) → at root (e.name ∷ []) ≡ o → (bytes : Text) × (file_at root (e.name ∷ []) ≡ Some bytes)
    by None a = absurd (true_not_false (listed ∙ ap is_listed a))
    by (Some (file bytes)) a = (bytes, ap (option_and_then bytes_of) a)
    by (Some dir) a = absurd (true_not_false (listed ∙ ap is_listed a))
    by (Some other) a = absurd (true_not_false (listed ∙ ap is_listed a))

lines_there : (root : StorageRoot) (es : List Entry) → Are root [] es → (lines : Text) × (sum_lines root (declarations_among es) ≡ Some lines)
lines_there root [] h = ([], refl)
lines_there root (e ∷ es) h = by (is_counted Root e) refl (lines_there root es h.1)
  where
    line : Text → Option Text
    line bytes = option_map (λ digits. sum_line digits e.name) (digits_of (Some bytes))

    by : (b : Bool) → is_counted Root e ≡ b → (lines : Text) × (sum_lines root (declarations_among es) ≡ Some lines)
        → (lines : Text) × (sum_lines root (names_of (cond b (e ∷ filter (is_counted Root) es) (filter (is_counted Root) es))) ≡ Some lines)
    by false c more = more
    by true c more =
        let there = counted_there root e h.0 c in (
          sum_line (encode_lower (sha256 there.0)) e.name ++ more.0,
          ap (λ o. before_lines (option_map (λ digits. sum_line digits e.name) (digits_of o)) (sum_lines root (declarations_among es))) there.1
              ∙ ap (before_lines (line there.0)) more.1,
        )

pub declared_there : (root : StorageRoot) → declared_by root (declarations_among (entries_in root [])) ≡ None → ⊥
declared_there root none = let both = sym (ap (option_map sha256) lines.1) ∙ none in cc
  where
    lines : (lines : Text) × (sum_lines root (declarations_among (entries_in root [])) ≡ Some lines)
    lines = lines_there root (entries_in root []) (own root [] (names_in root []))
