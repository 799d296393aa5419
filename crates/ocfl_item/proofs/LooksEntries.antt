-- What a listing tells of a directory.
use Rattle.std.proofs.Common.{◌≡◌, ◌≢◌, ◌⊎◌, inl, inr, ℕ, suc, ◌+◌, ◌<◌, List, [], ◌∷◌, ◌++◌, refl, sym, ◌∙◌, ap, subst, true, false, Bool, filter, Option, Some, None, length, drop, get_or, drop-cons, add-one, arith}
use Rattle.std.proofs.lemmas.Bool.{eqb-true}
use Rattle.std.specs.Prelude.{cond, ◌&&◌, nat_le, ◌==◌, is_some, filter_map, option_and_then, ⊤}
use Rattle.std.specs.List.{cons_option}
use Rattle.std.specs.Option.{option_map}
use Rattle.ocfl_tree.specs.Place.{Text, Place, text_cmp, text_eq, place_eq, child_name}
use Rattle.ocfl_tree.specs.Ascending.{IsAmong, IsAscending}
use Rattle.ocfl_tree.specs.StorageRoot.{StorageRoot, Leaf, file, dir, other, at, bytes_of, file_at, is_dir, is_dir_leaf, lookup, names_in}
use Rattle.ocfl_tree.specs.Listing.{kind_of, kind_at, kind_in, AreApart, IsOrdinary, IsListing}
use Rattle.ocfl_tree.specs.{declared.store.Entry.{Entry}, declared.store.Kind.{Kind}}
use Rattle.ocfl_tree.specs.declared.store.Kind.TheVariants.{File, Dir, Other}
use Rattle.ocfl_inventory.specs.Declaration.{is_declaration, declared, declared_by}
use Rattle.ocfl_inventory.specs.{Entries.{is_file, file_names}, declared.declaration.Level.{Level}}
use Rattle.ocfl_rules.specs.{Zone.{max_listed_depth, files_in}, Lines.{is_empty}}
use Rattle.ocfl_item.specs.{Ways.{is_dir_kind, is_listable}, Internal.Ways.{is_file_kind}}
use Rattle.ocfl_tree.proofs.Orders.{true_not_false, not_below_itself, before_each, ascends_ascending, among_ascending, ascends_filter, among_filter, among_from_filter}
use Rattle.ocfl_tree.proofs.{Places.{append-child_name}, Trees.{at-append}}
use Rattle.ocfl_rules.proofs.AuditExists.{some_not_none}
use Rattle.ocfl_rules.proofs.BelowLaws.{text_cmp_total, text_cmp_exact, text_from_test, text_eq-same, place_eq-same}
use Rattle.ocfl_rules.proofs.{StepLaws.{length_step}, WayLaws.{entry_named}}

-- ---- the entry of a name

kind_at_index : (es : List Entry) (i : ℕ) (e : Entry) (n : Text) → i < length es → e ≡ get_or es i e → kind_in (drop i es) n ≡ cond (text_eq e.name n) (Some e.kind) (kind_in (drop (i + 1) es) n)
kind_at_index es i e n h is =
    let one : drop i es ≡ e ∷ drop (i + 1) es = drop-cons es i e h ∙ (λ j. sym is j ∷ drop (sym (add-one i) j) es) in
    ap (λ xs. kind_in xs n) one

pub kind_found : (es : List Entry) (i : ℕ) (e : Entry) (n : Text) (b : Bool) → i < length es → e ≡ get_or es i e → kind_in es n ≡ kind_in (drop i es) n
    → b ≡ text_eq e.name n → b ≡ true → Some e.kind ≡ kind_in es n
kind_found es i e n b h is so_far test holds = sym (so_far ∙ kind_at_index es i e n h is ∙ ap (λ x. cond x (Some e.kind) (kind_in (drop (i + 1) es) n)) (sym test ∙ holds))

pub kind_goes_on : (es : List Entry) (i : ℕ) (e : Entry) (n : Text) (b : Bool) → i < length es → e ≡ get_or es i e → kind_in es n ≡ kind_in (drop i es) n
    → b ≡ text_eq e.name n → b ≡ false → kind_in es n ≡ kind_in (drop (i + 1) es) n
kind_goes_on es i e n b h is so_far test fails = so_far ∙ kind_at_index es i e n h is ∙ ap (λ x. cond x (Some e.kind) (kind_in (drop (i + 1) es) n)) (sym test ∙ fails)

pub file_kind : (k : Kind) → k ≡ File → is_file_kind (Some k) ≡ true
file_kind k e = ap (λ x. is_file_kind (Some x)) e

pub other_kind : (k : Kind) → (k ≡ Dir) ⊎ (k ≡ Other) → is_file_kind (Some k) ≡ false
other_kind k (inl e) = ap (λ x. is_file_kind (Some x)) e
other_kind k (inr e) = ap (λ x. is_file_kind (Some x)) e

kind_none : (leaf : Option Leaf) → None ≡ option_map kind_of leaf → leaf ≡ None
kind_none None h = refl
kind_none (Some leaf) h = absurd (some_not_none (kind_of leaf) h)

kind_some : (k : Kind) (leaf : Option Leaf) → Some k ≡ option_map kind_of leaf → (l : Leaf) × (leaf ≡ Some l)
kind_some k None h = absurd (some_not_none k (sym h))
kind_some k (Some leaf) h = (leaf, refl)

kind_dir : (leaf : Option Leaf) → is_dir_kind (option_map kind_of leaf) ≡ is_dir_leaf leaf
kind_dir None = refl
kind_dir (Some (file bytes)) = refl
kind_dir (Some dir) = refl
kind_dir (Some other) = refl

pub kind_file : (leaf : Option Leaf) → Some File ≡ option_map kind_of leaf → (bytes : Text) × (leaf ≡ Some (file bytes))
kind_file None h = absurd (some_not_none File (sym h))
kind_file (Some (file bytes)) h = (bytes, refl)
kind_file (Some dir) h = absurd cc
kind_file (Some other) h = absurd cc

-- ---- what is at a name of a listed directory

module _ (root : StorageRoot) (d : Place) (n : Text) (es : List Entry) (h : IsListing root d es) where
  pub nothing_there : None ≡ kind_in es n → at root (d ++ n ∷ []) ≡ None
  nothing_there is = kind_none (at root (d ++ n ∷ [])) (is ∙ h.each n)

  pub dir_there : is_dir_kind (kind_in es n) ≡ is_dir root (d ++ n ∷ [])
  dir_there = ap is_dir_kind (h.each n) ∙ kind_dir (at root (d ++ n ∷ []))

-- or at one of which some entries tell

module _ (root : StorageRoot) (d : Place) (n : Text) (es : List Entry) (h : kind_in es n ≡ kind_at root d n) where
  pub file_there : Some File ≡ kind_in es n → (bytes : Text) × (at root (d ++ n ∷ []) ≡ Some (file bytes))
  file_there is = kind_file (at root (d ++ n ∷ [])) (is ∙ h)

  pub no_file_there : (Some File ≡ kind_in es n → ⊥) → file_at root (d ++ n ∷ []) ≡ None
  no_file_there none = by (at root (d ++ n ∷ [])) refl
    where
      by : (leaf : Option Leaf) → at root (d ++ n ∷ []) ≡ leaf → file_at root (d ++ n ∷ []) ≡ None
      by None e = ap (option_and_then bytes_of) e
      by (Some (file bytes)) e = absurd (none (sym (h ∙ ap (option_map kind_of) e)))
      by (Some dir) e = ap (option_and_then bytes_of) e
      by (Some other) e = ap (option_and_then bytes_of) e

pub listable_is : (root : StorageRoot) (d : Place) (n : Text) (es : List Entry) → IsListing root d es
    → nat_le (suc (length d)) max_listed_depth && is_dir_kind (kind_in es n) ≡ is_listable root (d ++ n ∷ [])
listable_is root d n es h = λ i. nat_le (sym (length_step d n) i) max_listed_depth && dir_there root d n es h i

-- ---- whether a listing is empty

named_from : (root : StorageRoot) (d : Place) (n : Text) → IsAmong (filter_map (λ e. child_name d e.0) root) n → (leaf : Leaf) × (lookup root (d ++ n ∷ []) ≡ Some leaf)
named_from [] d n i = absurd i
named_from (e ∷ root) d n i = by (child_name d e.0) refl i (named_from root d n)
  where
    later : (leaf : Leaf) × (lookup root (d ++ n ∷ []) ≡ Some leaf) → (leaf : Leaf) × (lookup (e ∷ root) (d ++ n ∷ []) ≡ Some leaf)
    later k = go (place_eq e.0 (d ++ n ∷ []))
      where
        go : (b : Bool) → (leaf : Leaf) × (cond b (Some e.1) (lookup root (d ++ n ∷ [])) ≡ Some leaf)
        go true = (e.1, refl)
        go false = k

    by : (o : Option Text) → child_name d e.0 ≡ o → IsAmong (cons_option o (filter_map (λ x. child_name d x.0) root)) n
        → (IsAmong (filter_map (λ x. child_name d x.0) root) n → (leaf : Leaf) × (lookup root (d ++ n ∷ []) ≡ Some leaf))
        → (leaf : Leaf) × (lookup (e ∷ root) (d ++ n ∷ []) ≡ Some leaf)
    by None f j k = later (k j)
    by (Some m) f (inl g) k =
        let there : e.0 ≡ d ++ n ∷ [] = append-child_name d e.0 m f ∙ ap (λ x. d ++ x ∷ []) (sym g) in
        (e.1, ap (λ b. cond b (Some e.1) (lookup root (d ++ n ∷ []))) (ap (λ x. place_eq x (d ++ n ∷ [])) there ∙ place_eq-same (d ++ n ∷ [])))
    by (Some m) f (inr j) k = later (k j)

pub name_there : (root : StorageRoot) (d : Place) (n : Text) → at root d ≡ Some dir → IsAmong (names_in root d) n → (leaf : Leaf) × (at root (d ++ n ∷ []) ≡ Some leaf)
name_there root d n is i =
    let k = named_from root d n ((among_ascending text_cmp_exact (filter_map (λ e. child_name d e.0) root) n).1 i) in
    (k.0, at-append root d n ∙ ap (λ x. cond (is_dir_leaf x) (lookup root (d ++ n ∷ [])) None) is ∙ k.1)

pub emptied : (root : StorageRoot) (d : Place) (es : List Entry) → IsListing root d es → es ≡ [] → is_empty (names_in root d) ≡ true
emptied root d es h e = by (names_in root d) refl
  where
    by : (ns : List Text) → names_in root d ≡ ns → is_empty ns ≡ true
    by [] f = refl
    by (n ∷ ns) f =
        let k = name_there root d n h.directory (subst (λ xs. IsAmong xs n) (sym f) (inl refl)) in
        absurd (some_not_none (kind_of k.0) (sym (ap (λ xs. kind_in xs n) e) ∙ h.each n ∙ ap (option_map kind_of) k.1))

pub not_emptied : (root : StorageRoot) (d : Place) (es : List Entry) → IsListing root d es → es ≢ [] → is_empty (names_in root d) ≡ false
not_emptied root d [] h some = absurd (some refl)
not_emptied root d (e ∷ es) h some =
    let k = kind_some e.kind (at root (d ++ e.name ∷ [])) (sym (ap (λ b. cond b (Some e.kind) (kind_in es e.name)) (text_eq-same e.name)) ∙ h.each e.name) in
    by (names_in root d) (entry_named root d e.name k.0 k.1)
  where
    by : (ns : List Text) → IsAmong ns e.name → is_empty ns ≡ false
    by [] i = absurd i
    by (n ∷ ns) i = refl

-- ---- declarations do not depend on the order of a listing

file_from : (k : Kind) → is_file k ≡ true → k ≡ File
file_from File h = refl
file_from Dir h = absurd (true_not_false (sym h))
file_from Other h = absurd (true_not_false (sym h))

among_files : (es : List Entry) (z : Text) → AreApart es → IsAmong (file_names es) z → Some File ≡ kind_in es z
among_files [] z h i = absurd i
among_files (e ∷ es) z h i = by (is_file e.kind) refl i (among_files es z h.1)
  where
    later : (b : Bool) → text_eq e.name z ≡ b → Some File ≡ kind_in es z → Some File ≡ cond b (Some e.kind) (kind_in es z)
    later true f k = absurd (some_not_none File (sym h.0 ∙ ap (kind_in es) (text_from_test e.name z f) ∙ sym k))
    later false f k = k

    by : (b : Bool) → is_file e.kind ≡ b → IsAmong (cond b (e.name ∷ file_names es) (file_names es)) z → (IsAmong (file_names es) z → Some File ≡ kind_in es z) → Some File ≡ kind_in (e ∷ es) z
    by true f (inl g) k = sym (ap (λ b. cond b (Some e.kind) (kind_in es z)) (ap (text_eq e.name) g ∙ text_eq-same e.name) ∙ ap Some (file_from e.kind f))
    by true f (inr j) k = later (text_eq e.name z) refl (k j)
    by false f j k = later (text_eq e.name z) refl (k j)

file_among : (es : List Entry) (z : Text) → Some File ≡ kind_in es z → IsAmong (file_names es) z
file_among [] z h = absurd (some_not_none File (sym h))
file_among (e ∷ es) z h = by (text_eq e.name z) refl h (file_among es z)
  where
    keep : (b : Bool) → IsAmong (file_names es) z → IsAmong (cond b (e.name ∷ file_names es) (file_names es)) z
    keep true i = inr i
    keep false i = i

    by : (b : Bool) → text_eq e.name z ≡ b → Some File ≡ cond b (Some e.kind) (kind_in es z) → (Some File ≡ kind_in es z → IsAmong (file_names es) z) → IsAmong (file_names (e ∷ es)) z
    by true f g k =
        let here : File ≡ e.kind = cc in
        subst (λ b. IsAmong (cond b (e.name ∷ file_names es) (file_names es)) z) (ap is_file here) (inl (sym (text_from_test e.name z f)))
    by false f g k = keep (is_file e.kind) (k g)

-- no text occurs twice
abbrev Once : List Text → Type 0
Once [] = ⊤
Once (x ∷ xs) = (IsAmong xs x → ⊥) × Once xs

once_filter : (test : Text → Bool) (xs : List Text) → Once xs → Once (filter test xs)
once_filter test [] h = tt
once_filter test (x ∷ xs) h = by (test x) (once_filter test xs h.1)
  where
    by : (b : Bool) → Once (filter test xs) → Once (cond b (x ∷ filter test xs) (filter test xs))
    by true k = ((λ i. h.0 (among_from_filter test xs x i).0), k)
    by false k = k

once_files : (es : List Entry) → AreApart es → Once (file_names es)
once_files [] h = tt
once_files (e ∷ es) h = by (is_file e.kind) (once_files es h.1)
  where
    by : (b : Bool) → Once (file_names es) → Once (cond b (e.name ∷ file_names es) (file_names es))
    by true k = ((λ i. some_not_none File (sym (among_files es e.name h.1 i ∙ h.0))), k)
    by false k = k

once_ascending : (xs : List Text) → IsAscending text_cmp xs → Once xs
once_ascending [] h = tt
once_ascending (x ∷ xs) h = ((λ i. not_below_itself text_cmp_total x (before_each text_cmp x xs h.0 x i)), once_ascending xs h.1)

same_declared : (level : Level) (xs ys : List Text) → Once xs → Once ys → ((z : Text) → IsAmong xs z → IsAmong ys z)
    → ((z : Text) → IsAmong ys z → IsAmong xs z) → declared_by level xs ≡ declared_by level ys
same_declared level [] [] h k to from = refl
same_declared level [] (y ∷ ys) h k to from = absurd (from y (inl refl))
same_declared level (x ∷ xs) [] h k to from = absurd (to x (inl refl))
same_declared level (x ∷ []) (y ∷ []) h k to from = by (to x (inl refl))
  where
    by : IsAmong (y ∷ []) x → declared_by level (x ∷ []) ≡ declared_by level (y ∷ [])
    by (inl e) = ap (λ z. declared_by level (z ∷ [])) e
    by (inr i) = absurd i
same_declared level (x ∷ []) (y ∷ w ∷ ys) h k to from = absurd (by (from y (inl refl)) (from w (inr (inl refl))))
  where
    by : IsAmong (x ∷ []) y → IsAmong (x ∷ []) w → ⊥
    by (inl e) (inl f) = k.0 (inl (e ∙ sym f))
    by (inl e) (inr i) = i
    by (inr i) j = i
same_declared level (x ∷ v ∷ xs) (y ∷ []) h k to from = absurd (by (to x (inl refl)) (to v (inr (inl refl))))
  where
    by : IsAmong (y ∷ []) x → IsAmong (y ∷ []) v → ⊥
    by (inl e) (inl f) = h.0 (inl (e ∙ sym f))
    by (inl e) (inr i) = i
    by (inr i) j = i
same_declared level (x ∷ v ∷ xs) (y ∷ w ∷ ys) h k to from = refl

module _ (root : StorageRoot) (d : Place) (es : List Entry) (ordinary : IsOrdinary es) (h : IsListing root d es) where
  tested_file : (z : Text) (leaf : Option Leaf) → at root (d ++ z ∷ []) ≡ leaf → is_some (file_at root (d ++ z ∷ [])) ≡ true → (bytes : Text) × (leaf ≡ Some (file bytes))
  tested_file z None e f = absurd (true_not_false (sym f ∙ ap (λ x. is_some (option_and_then bytes_of x)) e))
  tested_file z (Some (file bytes)) e f = (bytes, refl)
  tested_file z (Some dir) e f = absurd (true_not_false (sym f ∙ ap (λ x. is_some (option_and_then bytes_of x)) e))
  tested_file z (Some other) e f = absurd (true_not_false (sym f ∙ ap (λ x. is_some (option_and_then bytes_of x)) e))

  listed_to_model : (z : Text) → IsAmong (file_names es) z → IsAmong (files_in root d) z
  listed_to_model z i =
      let k = file_there root d z es (h.each z) (among_files es z ordinary.once i) in
      among_filter (λ n. is_some (file_at root (d ++ n ∷ []))) (names_in root d) z (entry_named root d z (file k.0) k.1)
      (ap (λ x. is_some (option_and_then bytes_of x)) k.1)

  model_to_listed : (z : Text) → IsAmong (files_in root d) z → IsAmong (file_names es) z
  model_to_listed z i =
      let k = among_from_filter (λ n. is_some (file_at root (d ++ n ∷ []))) (names_in root d) z i in
      let f = tested_file z (at root (d ++ z ∷ [])) refl k.1 in
      file_among es z (sym (h.each z ∙ ap (option_map kind_of) f.1))

  pub declared_listing : (level : Level) → declared level (file_names es) ≡ declared level (files_in root d)
  declared_listing level = same_declared level (filter (is_declaration level) (file_names es)) (filter (is_declaration level) (files_in root d))
      (once_filter (is_declaration level) (file_names es) (once_files es ordinary.once))
      (once_filter (is_declaration level) (files_in root d)
      (once_ascending (files_in root d)
      (ascends_filter text_cmp (λ n. is_some (file_at root (d ++ n ∷ []))) (names_in root d) (ascends_ascending text_cmp_total (filter_map (λ e. child_name d e.0) root)))))
      (λ z i. let k = among_from_filter (is_declaration level) (file_names es) z i in among_filter (is_declaration level) (files_in root d) z (listed_to_model z k.0) k.1)
      (λ z i. let k = among_from_filter (is_declaration level) (files_in root d) z i in among_filter (is_declaration level) (file_names es) z (model_to_listed z k.0) k.1)

-- ---- the length that a listing has

pub no_entries : {A : Type 0} (es : List A) (len : ℕ) → len ≡ length es → true ≡ (len == 0) → es ≡ []
no_entries [] len h e = refl
no_entries (x ∷ es) len h e = let zero_long = eqb-true len 0 (sym e) in absurd (omega (arith, h, zero_long))

pub some_entries : {A : Type 0} (es : List A) (len : ℕ) → len ≡ length es → false ≡ (len == 0) → es ≢ []
some_entries es len h e none = true_not_false (sym (e ∙ ap (λ n. n == 0) (h ∙ ap length none)))
