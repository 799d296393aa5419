-- The entries that are kept of a directory, those of the model, and what a listing gives.
use Rattle.std.proofs.Common.{◌≡◌, ◌⊎◌, inl, inr, Bool, true, false, cond, not, List, [], ◌∷◌, ◌++◌, filter, Option, Some, None, sym, ◌∙◌, ap, subst, refl}
use Rattle.std.proofs.lemmas.List.Sorted.{IsPermutation-refl, IsPermutation-sym, IsPermutation-cons, IsPermutation-trans, IsPermutation-middle}
use Rattle.std.specs.{Prelude.{filter_map}, List.{cons_option}, Option.{option_map}}
use Rattle.std.specs.List.Sorted.{IsPermutation}
use Rattle.ocfl_tree.specs.Place.{Text, Place, text_cmp, text_eq, place_eq, child_name}
use Rattle.ocfl_tree.specs.Ascending.{IsAmong, IsBeforeAll, IsAscending}
use Rattle.ocfl_tree.specs.StorageRoot.{StorageRoot, Leaf, dir, lookup, at, names_in}
use Rattle.ocfl_tree.specs.Listing.{kind_of, kind_at, entry_at, entries_in, kind_in, AreApart, IsOrdinary, IsListing}
use Rattle.ocfl_tree.specs.{declared.store.Kind.{Kind}, declared.store.Entry.{Entry}}
use Rattle.ocfl_tree.proofs.Orders.{among_ascending, ascends_ascending, not_below_itself}
use Rattle.ocfl_tree.proofs.Places.{text_eq-Decides, text_eq-same, text_cmp_exact, text_cmp_total, place_eq-Decides, not_decided, differ, child_name-append}
use Rattle.ocfl_tree.proofs.Trees.{some_not_none, at_in_dir}

abbrev entry_of : Text → Kind → Entry
entry_of n k = record { name = n; kind = k }

-- ---- a listing is a permutation of the model's entries

-- the entries but those of a name
abbrev without : Text → List Entry → List Entry
without n es = filter (λ e. not (text_eq e.name n)) es

without_none : (es : List Entry) (n : Text) → kind_in es n ≡ None → without n es ≡ es
without_none [] n h = refl
without_none (e ∷ es) n h = by (text_eq e.name n) h (without_none es n)
  where
    by : (b : Bool) → cond b (Some e.kind) (kind_in es n) ≡ None → (kind_in es n ≡ None → without n es ≡ es) → cond (not b) (e ∷ without n es) (without n es) ≡ e ∷ es
    by true k more = absurd (some_not_none e.kind k)
    by false k more = ap (λ xs. e ∷ xs) (more k)

kind_in-without : (es : List Entry) (n m : Text) → kind_in (without n es) m ≡ cond (text_eq n m) None (kind_in es m)
kind_in-without [] n m = none (text_eq n m)
  where
    none : (b : Bool) → ◌≡◌ {A = Option Kind} None (cond b None None)
    none true = refl
    none false = refl
kind_in-without (e ∷ es) n m = by (text_eq e.name n) (text_eq e.name m) refl refl (kind_in-without es n m)
  where
    by : (b c : Bool) → text_eq e.name n ≡ b → text_eq e.name m ≡ c → kind_in (without n es) m ≡ cond (text_eq n m) None (kind_in es m)
        → kind_in (cond (not b) (e ∷ without n es) (without n es)) m ≡ cond (text_eq n m) None (cond c (Some e.kind) (kind_in es m))
    by true true h k more =
        let same : text_eq n m ≡ true = ap (λ x. text_eq x m) (sym ((text_eq-Decides e.name n).0 h)) ∙ k in
        more ∙ ap (λ b. cond b None (kind_in es m)) same ∙ sym (ap (λ b. cond b None (Some e.kind)) same)
    by true false h k more = more
    by false true h k more =
        let apart : text_eq n m ≡ false = not_decided _ _ (text_eq-Decides n m) (λ same. differ _ _ (text_eq-Decides e.name n) h ((text_eq-Decides e.name m).0 k ∙ sym same)) in
        ap (λ b. cond b (Some e.kind) (kind_in (without n es) m)) k ∙ sym (ap (λ b. cond b None (Some e.kind)) apart)
    by false false h k more = ap (λ b. cond b (Some e.kind) (kind_in (without n es) m)) k ∙ more

apart_without : (es : List Entry) (n : Text) → AreApart es → AreApart (without n es)
apart_without [] n h = tt
apart_without (e ∷ es) n h = by (text_eq e.name n) (apart_without es n h.1)
  where
    none : (b : Bool) (o : Option Kind) → o ≡ None → cond b None o ≡ None
    none true o k = refl
    none false o k = k

    by : (b : Bool) → AreApart (without n es) → AreApart (cond (not b) (e ∷ without n es) (without n es))
    by true more = more
    by false more = (kind_in-without es n e.name ∙ none (text_eq n e.name) (kind_in es e.name) h.0, more)

-- the entry of a name comes to the front
fronted : (es : List Entry) (n : Text) (k : Kind) → AreApart es → kind_in es n ≡ Some k → IsPermutation es (entry_of n k ∷ without n es)
fronted [] n k h is = absurd (some_not_none k (sym is))
fronted (e ∷ es) n k h is = by (text_eq e.name n) refl is (fronted es n k h.1)
  where
    by : (b : Bool) → text_eq e.name n ≡ b → cond b (Some e.kind) (kind_in es n) ≡ Some k → (kind_in es n ≡ Some k → IsPermutation es (entry_of n k ∷ without n es))
        → IsPermutation (e ∷ es) (entry_of n k ∷ cond (not b) (e ∷ without n es) (without n es))
    by true t j more =
        let name : e.name ≡ n = (text_eq-Decides e.name n).0 t in
        let kind : e.kind ≡ k = cc in
        let rest : without n es ≡ es = without_none es n (ap (kind_in es) (sym name) ∙ h.0) in
        let all : e ∷ es ≡ entry_of n k ∷ without n es = (λ i. record { name = name i; kind = kind i } ∷ (sym rest) i) in
        subst (λ xs. IsPermutation (e ∷ es) xs) all (IsPermutation-refl (e ∷ es))
    by false t j more =
        IsPermutation-trans (e ∷ es) (e ∷ entry_of n k ∷ without n es) (entry_of n k ∷ e ∷ without n es)
        (IsPermutation-cons e es (entry_of n k ∷ without n es) (more j))
        (IsPermutation-middle (e ∷ []) (entry_of n k) (without n es))

-- entries of distinct names are known by the kind of each name
pub same_kinds : (xs ys : List Entry) → AreApart xs → AreApart ys → ((n : Text) → kind_in xs n ≡ kind_in ys n) → IsPermutation xs ys
same_kinds [] [] h k same = IsPermutation-refl []
same_kinds [] (y ∷ ys) h k same = absurd (some_not_none y.kind (sym (ap (λ b. cond b (Some y.kind) (kind_in ys y.name)) (text_eq-same y.name)) ∙ sym (same y.name)))
same_kinds (x ∷ xs) ys h k same =
    let here : kind_in ys x.name ≡ Some x.kind = sym (same x.name) ∙ ap (λ b. cond b (Some x.kind) (kind_in xs x.name)) (text_eq-same x.name) in
    let rest : IsPermutation xs (without x.name ys) = same_kinds xs (without x.name ys) h.1 (apart_without ys x.name k)
    (λ n. by n (text_eq x.name n) refl (same n) ∙ sym (kind_in-without ys x.name n)) in
    IsPermutation-trans (x ∷ xs) (x ∷ without x.name ys) ys (IsPermutation-cons x xs (without x.name ys) rest)
    (IsPermutation-sym ys (x ∷ without x.name ys) (fronted ys x.name x.kind k here))
  where
    by : (n : Text) (b : Bool) → text_eq x.name n ≡ b → cond (text_eq x.name n) (Some x.kind) (kind_in xs n) ≡ kind_in ys n → kind_in xs n ≡ cond (text_eq x.name n) None (kind_in ys n)
    by n true t s = ap (kind_in xs) (sym ((text_eq-Decides x.name n).0 t)) ∙ h.0 ∙ sym (ap (λ b. cond b None (kind_in ys n)) t)
    by n false t s = sym (ap (λ b. cond b (Some x.kind) (kind_in xs n)) t) ∙ s ∙ sym (ap (λ b. cond b None (kind_in ys n)) t)

module _ (root : StorageRoot) (d : Place) where
  kind_in_none : (ns : List Text) (n : Text) → kind_at root d n ≡ None → kind_in (filter_map (entry_at root d) ns) n ≡ None
  kind_in_none [] n h = refl
  kind_in_none (m ∷ ns) n h = by (kind_at root d m) refl (kind_in_none ns n h)
    where
      by : (o : Option Kind) → kind_at root d m ≡ o → kind_in (filter_map (entry_at root d) ns) n ≡ None → kind_in (cons_option (option_map (entry_of m) o) (filter_map (entry_at root d) ns)) n ≡ None
      by None is more = more
      by (Some k) is more =
          let apart : text_eq m n ≡ false = not_decided _ _ (text_eq-Decides m n) (λ same. some_not_none k (sym is ∙ ap (kind_at root d) same ∙ h)) in
          ap (λ b. cond b (Some k) (kind_in (filter_map (entry_at root d) ns) n)) apart ∙ more

  kind_in_some : (ns : List Text) (n : Text) → IsAmong ns n → kind_in (filter_map (entry_at root d) ns) n ≡ kind_at root d n
  kind_in_some [] n i = absurd i
  kind_in_some (m ∷ ns) n i = by (kind_at root d m) refl (text_eq m n) refl i (kind_in_some ns n)
    where
      by : (o : Option Kind) → kind_at root d m ≡ o → (b : Bool) → text_eq m n ≡ b → (n ≡ m) ⊎ IsAmong ns n → (IsAmong ns n → kind_in (filter_map (entry_at root d) ns) n ≡ kind_at root d n)
          → kind_in (cons_option (option_map (entry_of m) o) (filter_map (entry_at root d) ns)) n ≡ kind_at root d n
      by None is b t (inl same) more = let none : kind_at root d n ≡ None = ap (kind_at root d) same ∙ is in kind_in_none ns n none ∙ sym none
      by None is b t (inr j) more = more j
      by (Some k) is true t j more = ap (λ b. cond b (Some k) (kind_in (filter_map (entry_at root d) ns) n)) t ∙ sym is ∙ ap (kind_at root d) ((text_eq-Decides m n).0 t)
      by (Some k) is false t (inl same) more = absurd (differ _ _ (text_eq-Decides m n) t (sym same))
      by (Some k) is false t (inr j) more = ap (λ b. cond b (Some k) (kind_in (filter_map (entry_at root d) ns) n)) t ∙ more j

among_names : (root : StorageRoot) (d : Place) (n : Text) (x : Leaf) → lookup root (d ++ n ∷ []) ≡ Some x → IsAmong (filter_map (λ e. child_name d e.0) root) n
among_names [] d n x h = absurd (some_not_none x (sym h))
among_names (e ∷ root) d n x h = by (place_eq e.0 (d ++ n ∷ [])) refl h (among_names root d n x)
  where
    further : (o : Option Text) → IsAmong (filter_map (λ e. child_name d e.0) root) n → IsAmong (cons_option o (filter_map (λ e. child_name d e.0) root)) n
    further None i = i
    further (Some m) i = inr i

    by : (b : Bool) → place_eq e.0 (d ++ n ∷ []) ≡ b → cond b (Some e.1) (lookup root (d ++ n ∷ [])) ≡ Some x
        → (lookup root (d ++ n ∷ []) ≡ Some x → IsAmong (filter_map (λ e. child_name d e.0) root) n)
        → IsAmong (cons_option (child_name d e.0) (filter_map (λ e. child_name d e.0) root)) n
    by true t k more =
        let name : child_name d e.0 ≡ Some n = ap (child_name d) ((place_eq-Decides e.0 (d ++ n ∷ [])).0 t) ∙ child_name-append d n in
        subst (λ o. IsAmong (cons_option o (filter_map (λ e. child_name d e.0) root)) n) (sym name) (inl refl)
    by false t k more = further (child_name d e.0) (more k)

pub kind_in-entries_in : (root : StorageRoot) (d : Place) (n : Text) → at root d ≡ Some dir → kind_in (entries_in root d) n ≡ kind_at root d n
kind_in-entries_in root d n is = by (lookup root (d ++ n ∷ [])) refl
  where
    by : (o : Option Leaf) → lookup root (d ++ n ∷ []) ≡ o → kind_in (entries_in root d) n ≡ kind_at root d n
    by None h = let none : kind_at root d n ≡ None = ap (option_map kind_of) (at_in_dir root d n is ∙ h) in kind_in_none root d (names_in root d) n none ∙ sym none
    by (Some x) h = kind_in_some root d (names_in root d) n ((among_ascending text_cmp_exact (filter_map (λ e. child_name d e.0) root) n).0 (among_names root d n x h))

apart_entries : (root : StorageRoot) (d : Place) (ns : List Text) → IsAscending text_cmp ns → AreApart (filter_map (entry_at root d) ns)
apart_entries root d [] h = tt
apart_entries root d (n ∷ ns) h = by (kind_at root d n) (apart_entries root d ns h.1)
  where
    none : (ms : List Text) → IsBeforeAll text_cmp n ms → kind_in (filter_map (entry_at root d) ms) n ≡ None
    none [] k = refl
    none (m ∷ ms) k = step (kind_at root d m) (none ms k.1)
      where
        step : (o : Option Kind) → kind_in (filter_map (entry_at root d) ms) n ≡ None → kind_in (cons_option (option_map (entry_of m) o) (filter_map (entry_at root d) ms)) n ≡ None
        step None more = more
        step (Some kind) more =
            let apart : text_eq m n ≡ false = not_decided _ _ (text_eq-Decides m n) (λ same. not_below_itself text_cmp_total n (ap (text_cmp n) (sym same) ∙ k.0)) in
            ap (λ b. cond b (Some kind) (kind_in (filter_map (entry_at root d) ms) n)) apart ∙ more

    by : (o : Option Kind) → AreApart (filter_map (entry_at root d) ns) → AreApart (cons_option (option_map (entry_of n) o) (filter_map (entry_at root d) ns))
    by None more = more
    by (Some k) more = (none ns h.0, more)

-- a listing of distinct names is the model's entries, in some order
pub listing_permutes : (root : StorageRoot) (d : Place) (es : List Entry) → IsOrdinary es → IsListing root d es → IsPermutation es (entries_in root d)
listing_permutes root d es ordinary h =
    same_kinds es (entries_in root d) ordinary.once (apart_entries root d (names_in root d) (ascends_ascending text_cmp_total (filter_map (λ e. child_name d e.0) root)))
    (λ n. h.each n ∙ sym (kind_in-entries_in root d n h.directory))
