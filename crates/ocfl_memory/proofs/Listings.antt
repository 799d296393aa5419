-- The entries that are kept of a directory, those of the model, and what a listing gives.
use Rattle.std.proofs.Common.{◌≡◌, ◌⊎◌, inl, inr, suc, Bool, true, false, cond, List, [], ◌∷◌, ◌++◌, length, map, Option, Some, None, sym, ◌∙◌, ap, refl}
use Rattle.std.proofs.lemmas.List.{same_from_push}
use Rattle.std.specs.{Prelude.{filter_map}, List.{cons_option}, Option.{option_map}}
use Rattle.std.specs.{Ordering.{match_ordering}, declared.cmp.Ordering.{Ordering}}
use Rattle.std.specs.declared.cmp.Ordering.TheVariants.{Less, Equal, Greater}
use Rattle.ocfl_tree.specs.Place.{Text, Place, text_cmp, text_eq, child_name}
use Rattle.ocfl_tree.specs.Ascending.{insert_once, ascending, IsAmong}
use Rattle.ocfl_tree.specs.StorageRoot.{StorageRoot, dir, lookup, at, names_in}
use Rattle.ocfl_tree.specs.Listing.{kind_of, kind_in, AreApart, IsListing}
use Rattle.ocfl_tree.specs.declared.store.Entry.{Entry}
use Rattle.ocfl_memory.specs.Internal.Nodes.{with_entry, kept_in, AreOnce}
use Rattle.ocfl_tree.proofs.Orders.{among_ascending}
use Rattle.ocfl_tree.proofs.Places.{text_eq-Decides, text_cmp_exact, differ, child_name-append, append-child_name}
use Rattle.ocfl_tree.proofs.{Lists.{lookup_here, lookup_other}, Trees.{some_not_none, at_in_dir}}

pub kind_in-kept_in : (root : StorageRoot) (d : Place) (n : Text) → kind_in (kept_in root d) n ≡ option_map kind_of (lookup root (d ++ n ∷ []))
kind_in-kept_in [] d n = refl
kind_in-kept_in (e ∷ root) d n = by (child_name d e.0) refl (kind_in-kept_in root d n)
  where
    here : (m : Text) (b : Bool) → text_eq m n ≡ b → e.0 ≡ d ++ m ∷ [] → kind_in (kept_in root d) n ≡ option_map kind_of (lookup root (d ++ n ∷ []))
        → cond b (Some (kind_of e.1)) (kind_in (kept_in root d) n) ≡ option_map kind_of (lookup (e ∷ root) (d ++ n ∷ []))
    here m true t there more = ap (option_map kind_of) (sym (lookup_here root e (d ++ n ∷ []) (there ∙ ap (λ x. d ++ x ∷ []) ((text_eq-Decides m n).0 t))))
    here m false t there more = more ∙ ap (option_map kind_of) (sym (lookup_other root e (d ++ n ∷ []) (λ same. differ _ _ (text_eq-Decides m n) t (same_from_push d d m n (sym there ∙ same)).1)))

    by : (o : Option Text) → child_name d e.0 ≡ o → kind_in (kept_in root d) n ≡ option_map kind_of (lookup root (d ++ n ∷ []))
        → kind_in (with_entry o e.1 (kept_in root d)) n ≡ option_map kind_of (lookup (e ∷ root) (d ++ n ∷ []))
    by None is more = more ∙ ap (option_map kind_of) (sym (lookup_other root e (d ++ n ∷ []) (λ same. some_not_none n (sym (sym is ∙ ap (child_name d) same ∙ child_name-append d n)))))
    by (Some m) is more = here m (text_eq m n) refl (append-child_name d e.0 m is) more

-- if each place occurs once, so does each name
pub apart_kept : (root : StorageRoot) (d : Place) → AreOnce root → AreApart (kept_in root d)
apart_kept [] d h = tt
apart_kept (e ∷ root) d h = by (child_name d e.0) refl (apart_kept root d h.1)
  where
    by : (o : Option Text) → child_name d e.0 ≡ o → AreApart (kept_in root d) → AreApart (with_entry o e.1 (kept_in root d))
    by None is more = more
    by (Some m) is more =
        let there : e.0 ≡ d ++ m ∷ [] = append-child_name d e.0 m is in
        (kind_in-kept_in root d m ∙ ap (λ p. option_map kind_of (lookup root p)) (sym there) ∙ ap (option_map kind_of) h.0, more)

pub kept_is_listing : (root : StorageRoot) (d : Place) → at root d ≡ Some dir → IsListing root d (kept_in root d)
kept_is_listing root d is = record {
  directory = is;
  each = λ n. kind_in-kept_in root d n ∙ ap (option_map kind_of) (sym (at_in_dir root d n is));
}

-- ---- how many names there are

abbrev pub names_of : List Entry → List Text
names_of es = map (λ e. e.name) es

names_of-kept_in : (root : StorageRoot) (d : Place) → names_of (kept_in root d) ≡ filter_map (λ e. child_name d e.0) root
names_of-kept_in [] d = refl
names_of-kept_in (e ∷ root) d = by (child_name d e.0) (names_of-kept_in root d)
  where
    by : (o : Option Text) → names_of (kept_in root d) ≡ filter_map (λ e. child_name d e.0) root
        → names_of (with_entry o e.1 (kept_in root d)) ≡ cons_option o (filter_map (λ e. child_name d e.0) root)
    by None more = more
    by (Some m) more = ap (λ ns. m ∷ ns) more

length-insert_once : (x : Text) (ys : List Text) → (IsAmong ys x → ⊥) → length (insert_once text_cmp x ys) ≡ suc (length ys)
length-insert_once x [] h = refl
length-insert_once x (y ∷ ys) h = by (text_cmp x y) refl (length-insert_once x ys (λ i. h (inr i)))
  where
    by : (r : Ordering) → text_cmp x y ≡ r → length (insert_once text_cmp x ys) ≡ suc (length ys)
        → length (match_ordering r (x ∷ y ∷ ys) (y ∷ ys) (y ∷ insert_once text_cmp x ys)) ≡ suc (suc (length ys))
    by Less e more = refl
    by Equal e more = absurd (h (inl (text_cmp_exact x y e)))
    by Greater e more = ap suc more

pub not_among_names : (es : List Entry) (n : Text) → kind_in es n ≡ None → IsAmong (names_of es) n → ⊥
not_among_names [] n h i = i
not_among_names (e ∷ es) n h i = by (text_eq e.name n) refl h i (not_among_names es n)
  where
    by : (b : Bool) → text_eq e.name n ≡ b → cond b (Some e.kind) (kind_in es n) ≡ None → (n ≡ e.name) ⊎ IsAmong (names_of es) n → (kind_in es n ≡ None → IsAmong (names_of es) n → ⊥) → ⊥
    by true t k j more = some_not_none e.kind k
    by false t k (inl same) more = differ _ _ (text_eq-Decides e.name n) t (sym same)
    by false t k (inr j) more = more k j

length-ascending : (es : List Entry) → AreApart es → length (ascending text_cmp (names_of es)) ≡ length es
length-ascending [] h = refl
length-ascending (e ∷ es) h =
    length-insert_once e.name (ascending text_cmp (names_of es)) (λ i. not_among_names es e.name h.0 ((among_ascending text_cmp_exact (names_of es) e.name).1 i))
    ∙ ap suc (length-ascending es h.1)

pub length-names_in : (root : StorageRoot) (d : Place) → AreOnce root → length (names_in root d) ≡ length (kept_in root d)
length-names_in root d once = ap (λ ns. length (ascending text_cmp ns)) (sym (names_of-kept_in root d)) ∙ length-ascending (kept_in root d) (apart_kept root d once)
