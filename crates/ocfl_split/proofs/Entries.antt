-- From a listing to the directories of the hierarchy right below its place.
use Rattle.std.proofs.Common.{◌≡◌, inl, inr, zero, suc, List, [], ◌∷◌, ◌++◌, refl, sym, ◌∙◌, ap, subst, true, false, Bool, Option, Some, None, arith, map, filter, All, IsPermutation}
use Rattle.std.proofs.lemmas.List.Sorted.{All-permutation, IsPermutation-sym}
use Rattle.std.specs.Prelude.{cond, not, ◌&&◌, option_map, filter_map}
use Rattle.std.specs.{List.Sorted.{IsSorted}}
use Rattle.ocfl_tree.specs.Place.{Place, Text, text_cmp, text_eq, place_cmp, child_name}
use Rattle.ocfl_tree.specs.Ascending.{IsAscending, IsAmong, IsBeforeAll}
use Rattle.ocfl_tree.specs.StorageRoot.{StorageRoot, Leaf, file, dir, other, at, is_dir, is_dir_leaf, names_in}
use Rattle.ocfl_tree.specs.Listing.{AreApart, IsListing, IsOrdinary, kind_at, kind_in, kind_of}
use Rattle.ocfl_tree.specs.{declared.store.Entry.{Entry}, declared.store.Kind.{Kind}}
use Rattle.ocfl_tree.specs.declared.store.Kind.TheVariants as kind
use Rattle.ocfl_tree.proofs.Bools.{and_first, and_second, and_both}
use Rattle.ocfl_tree.proofs.Places.{text_eq-Decides, text_eq-same, not_decided}
use Rattle.ocfl_tree.proofs.Orders.{place_cmp_total, place_cmp_exact, ascending_unique, ascends_ascending, ascends_filter, among_filter, among_from_filter, among_map}
use Rattle.ocfl_inventory.proofs.Once.{apart_up, up_from_sorted}
use Rattle.ocfl_rules.proofs.AuditExists.{some_not_none}
use Rattle.ocfl_rules.proofs.BelowLaws.{text_cmp_total, text_cmp_exact, above_name}
use Rattle.ocfl_rules.proofs.WayLaws.{entry_named}
use Rattle.ocfl_item.specs.Ways.{is_dir_kind, is_extensions_name}
use Rattle.ocfl_item.proofs.{LooksZones.{dir_from_leaf}, NameLaws.{names_of, names_differ}}
use Rattle.ocfl_split.specs.Levels.{directories_in}
use Rattle.ocfl_split.specs.Internal.Directories.{is_directory_entry, directories_among, IsBelow}

-- ---- by ascending names

-- a listing that was sorted
pub names_rise : (es fs : List Entry) → IsOrdinary es → IsPermutation es fs → IsSorted (λ e f. text_cmp e.name f.name) fs → IsAscending text_cmp (names_of fs)
names_rise es fs ordinary moved sorted =
    apart_up text_cmp_total text_cmp_exact (names_of fs) (up_from_sorted text_cmp_total text_cmp_exact (λ e. e.name) fs (λ k d h. sorted k d (omega arith) h)) (names_differ es fs ordinary moved)

-- ---- the directories among entries

pub among_from_map : {A B : Type 0} (f : A → B) (xs : List A) (z : B) → IsAmong (map f xs) z → (x : A) × IsAmong xs x × (z ≡ f x)
among_from_map f [] z i = absurd i
among_from_map f (x ∷ xs) z (inl e) = (x, inl refl, e)
among_from_map f (x ∷ xs) z (inr i) = let k = among_from_map f xs z i in (k.0, inr k.1, k.2)

before_names : (d : Place) (x : Text) (ns : List Text) → IsBeforeAll text_cmp x ns → IsBeforeAll place_cmp (d ++ x ∷ []) (map (λ n. d ++ n ∷ []) ns)
before_names d x [] h = tt
before_names d x (n ∷ ns) h = (above_name d x n [] [] h.0, before_names d x ns h.1)

pub children_rise : (d : Place) (ns : List Text) → IsAscending text_cmp ns → IsAscending place_cmp (map (λ n. d ++ n ∷ []) ns)
children_rise d [] h = tt
children_rise d (n ∷ ns) h = (before_names d n ns h.0, children_rise d ns h.1)

before_kept : (test : Entry → Bool) (d : Place) (p : Place) (es : List Entry) → IsBeforeAll place_cmp p (map (λ e. d ++ e.name ∷ []) es)
    → IsBeforeAll place_cmp p (map (λ e. d ++ e.name ∷ []) (filter test es))
before_kept test d p [] h = tt
before_kept test d p (e ∷ es) h = by (test e) (before_kept test d p es h.1)
  where
    by : (b : Bool) → IsBeforeAll place_cmp p (map (λ e. d ++ e.name ∷ []) (filter test es)) → IsBeforeAll place_cmp p (map (λ e. d ++ e.name ∷ []) (cond b (e ∷ filter test es) (filter test es)))
    by true k = (h.0, k)
    by false k = k

kept_rise : (test : Entry → Bool) (d : Place) (es : List Entry) → IsAscending place_cmp (map (λ e. d ++ e.name ∷ []) es) → IsAscending place_cmp (map (λ e. d ++ e.name ∷ []) (filter test es))
kept_rise test d [] h = tt
kept_rise test d (e ∷ es) h = by (test e) (kept_rise test d es h.1)
  where
    by : (b : Bool) → IsAscending place_cmp (map (λ e. d ++ e.name ∷ []) (filter test es)) → IsAscending place_cmp (map (λ e. d ++ e.name ∷ []) (cond b (e ∷ filter test es) (filter test es)))
    by true k = (before_kept test d (d ++ e.name ∷ []) es h.0, k)
    by false k = k

entries_rise : (d : Place) (es : List Entry) → IsAscending text_cmp (names_of es) → IsAscending place_cmp (map (λ e. d ++ e.name ∷ []) es)
entries_rise d [] h = tt
entries_rise d (e ∷ es) h = (before es h.0, entries_rise d es h.1)
  where
    before : (fs : List Entry) → IsBeforeAll text_cmp e.name (names_of fs) → IsBeforeAll place_cmp (d ++ e.name ∷ []) (map (λ f. d ++ f.name ∷ []) fs)
    before [] k = tt
    before (f ∷ fs) k = (above_name d e.name f.name [] [] k.0, before fs k.1)

-- they are in order, and right below
pub among_below : (d : Place) (es : List Entry) → IsAscending text_cmp (names_of es) → IsBelow (d ∷ []) (directories_among d es)
among_below d es h = record {
  ascend = kept_rise (is_directory_entry d) d es (entries_rise d es h);
  under = λ z i.
      let k = among_from_map (λ e. d ++ e.name ∷ []) (filter (is_directory_entry d) es) z i in
      (d, inl refl, (k.0.name, k.2));
}

-- ---- those of the tree

all_among : {A : Type 0} (xs : List A) → All (IsAmong xs) xs
all_among (x ∷ xs) zero d l = inl refl
all_among (x ∷ xs) (suc k) d l = inr (all_among xs k d (omega (arith, l)))
all_among [] k d l = absurd (omega (arith, l))

pub pick_among : {A : Type 0} (P : A → Type 0) (xs : List A) → All P xs → (x : A) → IsAmong xs x → P x
pick_among P [] h x i = absurd i
pick_among P (y ∷ xs) h x (inl e) = subst P (sym e) (h 0 y (omega arith))
pick_among P (y ∷ xs) h x (inr i) = pick_among P xs (λ k d l. h (suc k) d (omega (arith, l))) x i

among_moved : (es fs : List Entry) → IsPermutation es fs → (e : Entry) → IsAmong es e → IsAmong fs e
among_moved es fs moved e i = pick_among (IsAmong fs) es (All-permutation (IsAmong fs) fs es (IsPermutation-sym es fs moved) (all_among fs)) e i

own_kind : (es : List Entry) → AreApart es → (e : Entry) → IsAmong es e → kind_in es e.name ≡ Some e.kind
own_kind [] h e i = absurd i
own_kind (x ∷ es) h e (inl same) = ap (λ b. cond b (Some x.kind) (kind_in es e.name)) (ap (λ y. text_eq x.name y.name) same ∙ text_eq-same x.name) ∙ ap (λ y. Some y.kind) (sym same)
own_kind (x ∷ es) h e (inr i) =
    let more = own_kind es h.1 e i in
    let apart : text_eq x.name e.name ≡ false = not_decided _ _ (text_eq-Decides x.name e.name) (λ same. some_not_none e.kind (sym h.0 ∙ ap (kind_in es) same ∙ more)) in
    ap (λ b. cond b (Some x.kind) (kind_in es e.name)) apart ∙ more

entry_of : (es : List Entry) (n : Text) (k : Kind) → kind_in es n ≡ Some k → (e : Entry) × IsAmong es e × (e.name ≡ n) × (e.kind ≡ k)
entry_of [] n k h = absurd (some_not_none k h)
entry_of (x ∷ es) n k h = by (text_eq x.name n) refl h (entry_of es n k)
  where
    by : (b : Bool) → text_eq x.name n ≡ b → cond b (Some x.kind) (kind_in es n) ≡ Some k
        → (kind_in es n ≡ Some k → (e : Entry) × IsAmong es e × (e.name ≡ n) × (e.kind ≡ k)) → (e : Entry) × IsAmong (x ∷ es) e × (e.name ≡ n) × (e.kind ≡ k)
    by true t j more = (x, inl refl, (text_eq-Decides x.name n).0 t, cc)
    by false t j more = let e = more j in (e.0, inr e.1, e.2, e.3)

kind_is_dir : (k : Kind) → is_dir_kind (Some k) ≡ true → k ≡ kind.Dir
kind_is_dir kind.File h = cc
kind_is_dir kind.Dir h = refl
kind_is_dir kind.Other h = cc

leaf_is_dir : (o : Option Leaf) → option_map kind_of o ≡ Some kind.Dir → is_dir_leaf o ≡ true
leaf_is_dir None h = cc
leaf_is_dir (Some (file bytes)) h = cc
leaf_is_dir (Some dir) h = refl
leaf_is_dir (Some other) h = cc

module _ (root : StorageRoot) (d : Place) (es fs : List Entry) (ordinary : IsOrdinary es) (h : IsListing root d es) (moved : IsPermutation es fs) where
  abbrev of_tree : Text → Bool
  of_tree n = is_dir root (d ++ n ∷ []) && not (is_extensions_name d n)

  to_tree : (z : Place) → IsAmong (directories_among d fs) z → IsAmong (directories_in root d) z
  to_tree z i =
      let k = among_from_map (λ e. d ++ e.name ∷ []) (filter (is_directory_entry d) fs) z i in
      let f = among_from_filter (is_directory_entry d) fs k.0 k.1 in
      let is_kind : k.0.kind ≡ kind.Dir = kind_is_dir k.0.kind (and_first (is_dir_kind (Some k.0.kind)) (not (is_extensions_name d k.0.name)) f.1) in
      let listed : kind_at root d k.0.name ≡ Some kind.Dir = sym (h.each k.0.name) ∙ own_kind es ordinary.once k.0 (among_moved fs es (IsPermutation-sym es fs moved) k.0 f.0) ∙ ap Some is_kind in
      let directory : is_dir root (d ++ k.0.name ∷ []) ≡ true = leaf_is_dir (at root (d ++ k.0.name ∷ [])) listed in
      let named = entry_named root d k.0.name dir (dir_from_leaf (at root (d ++ k.0.name ∷ [])) directory) in
      let kept = among_filter of_tree (names_in root d) k.0.name named
      (and_both (is_dir root (d ++ k.0.name ∷ [])) (not (is_extensions_name d k.0.name)) directory (and_second (is_dir_kind (Some k.0.kind)) (not (is_extensions_name d k.0.name)) f.1)) in
      subst (IsAmong (directories_in root d)) (sym k.2) (among_map (λ n. d ++ n ∷ []) (filter of_tree (names_in root d)) k.0.name kept)

  from_tree : (z : Place) → IsAmong (directories_in root d) z → IsAmong (directories_among d fs) z
  from_tree z i =
      let k = among_from_map (λ n. d ++ n ∷ []) (filter of_tree (names_in root d)) z i in
      let f = among_from_filter of_tree (names_in root d) k.0 k.1 in
      let directory : at root (d ++ k.0 ∷ []) ≡ Some dir = dir_from_leaf (at root (d ++ k.0 ∷ [])) (and_first (is_dir root (d ++ k.0 ∷ [])) (not (is_extensions_name d k.0)) f.1) in
      let e = entry_of es k.0 kind.Dir (h.each k.0 ∙ ap (option_map kind_of) directory) in
      let out : not (is_extensions_name d e.0.name) ≡ true = ap (λ n. not (is_extensions_name d n)) e.2 ∙ and_second (is_dir root (d ++ k.0 ∷ [])) (not (is_extensions_name d k.0)) f.1 in
      let kept = among_filter (is_directory_entry d) fs e.0 (among_moved es fs moved e.0 e.1)
      (and_both (is_dir_kind (Some e.0.kind)) (not (is_extensions_name d e.0.name)) (ap (λ x. is_dir_kind (Some x)) e.3) out) in
      subst (IsAmong (directories_among d fs)) (ap (λ n. d ++ n ∷ []) e.2 ∙ sym k.2) (among_map (λ e. d ++ e.name ∷ []) (filter (is_directory_entry d) fs) e.0 kept)

pub tree_rises : (root : StorageRoot) (d : Place) → IsAscending place_cmp (directories_in root d)
tree_rises root d =
    children_rise d (filter (λ n. is_dir root (d ++ n ∷ []) && not (is_extensions_name d n)) (names_in root d))
    (ascends_filter text_cmp (λ n. is_dir root (d ++ n ∷ []) && not (is_extensions_name d n)) (names_in root d) (ascends_ascending text_cmp_total (filter_map (λ e. child_name d e.0) root)))

-- a listing that was sorted shows the directories of the tree
pub among_tree : (root : StorageRoot) (d : Place) (es fs : List Entry) → IsOrdinary es → IsListing root d es → IsPermutation es fs
    → IsSorted (λ e f. text_cmp e.name f.name) fs → directories_among d fs ≡ directories_in root d
among_tree root d es fs ordinary h moved sorted =
    ascending_unique place_cmp_total place_cmp_exact (directories_among d fs) (directories_in root d)
    (among_below d fs (names_rise es fs ordinary moved sorted)).ascend (tree_rises root d)
    (λ z. (to_tree root d es fs ordinary h moved z, from_tree root d es fs ordinary h moved z))
