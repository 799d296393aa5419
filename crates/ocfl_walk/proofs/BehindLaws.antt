-- What is left of a listing behind its next entry is what comes after that in its directory.
use Rattle.std.proofs.Common.{◌≡◌, ◌⊎◌, ◌+◌, ◌≤◌, inl, inr, List, [], ◌∷◌, ◌++◌, refl, sym, ◌∙◌, ap, subst, true, false, Bool, Option, Some, None, arith, filter, length, map}
use Rattle.std.proofs.lemmas.List.{append-nil, append_cancel_left, length-append, length_push}
use Rattle.std.specs.{Prelude.{cond, option_map}, Ordering.{is_lt}, List.{AllByRecursion}}
use Rattle.std.specs.declared.cmp.Ordering.TheVariants.{Less}
use Rattle.ocfl_tree.specs.Place.{Place, Text, text_cmp, text_eq, place_cmp, begins}
use Rattle.ocfl_tree.specs.{Ascending.{IsAmong}, StorageRoot.{StorageRoot, Leaf, at}}
use Rattle.ocfl_tree.specs.{Listing.{kind_at, kind_in, kind_of}, declared.store.Entry.{Entry}}
use Rattle.ocfl_tree.proofs.Orders.{among_filter, among_from_filter, among_map, before_each, not_below_itself, place_cmp_total, true_not_false}
use Rattle.ocfl_tree.proofs.Places.{text_eq-same}
use Rattle.ocfl_report.specs.declared.further.Further.{Further}
use Rattle.ocfl_report.specs.declared.further.Further.TheVariants.{Nothing, Inventories}
use Rattle.ocfl_digest.specs.declared.algorithm.Algorithm.TheVariants.{Sha256, Sha512}
use Rattle.ocfl_rules.specs.{Head.{sidecar_name}, Walk.{is_reached, seen_names}, Zone.{seen}}
use Rattle.ocfl_rules.specs.Stack.{Frame, IsStack, seen_in, seen_left, seen_places}
use Rattle.ocfl_rules.proofs.BelowLaws.{above, above_name, above_self, begins_front, begins_name, begins_rest, from_append, from_flat_map, text_from_test}
use Rattle.ocfl_rules.proofs.{NextLaws.{seen_to}, StepLaws.{seen_step}}
use Rattle.ocfl_item.specs.{Around.{AreBehind}, declared.meeting.Around.{Around}}
use Rattle.ocfl_walk.specs.Standing.{AreEntries, Pile, back, back_onto, frames_of}
use Rattle.ocfl_walk.specs.Internal.Standing.{IsChain, IsOrderly, IsTaken, popped}
use Rattle.ocfl_walk.proofs.OrderlyLaws.{above_longer, begins_on, old_chain}

-- ---- lists from the last to the first

module _ (P : Entry → Type 0) where
  all_from_onto : (xs ys : List Entry) → AllByRecursion P (back_onto (λ e. e) xs ys) → AllByRecursion P xs × AllByRecursion P ys
  all_from_onto [] ys h = (tt, h)
  all_from_onto (x ∷ xs) ys h = let k = all_from_onto xs (x ∷ ys) h in ((k.1.0, k.0), k.1.1)

abbrev names : List Entry → List Text
names es = map (λ e. e.name) es

name_from_onto : (xs ys : List Entry) (n : Text) → IsAmong (names (back_onto (λ e. e) xs ys)) n → IsAmong (names xs) n ⊎ IsAmong (names ys) n
name_from_onto [] ys n i = inr i
name_from_onto (x ∷ xs) ys n i = by (name_from_onto xs (x ∷ ys) n i)
  where
    by : IsAmong (names xs) n ⊎ IsAmong (names (x ∷ ys)) n → IsAmong (names (x ∷ xs)) n ⊎ IsAmong (names ys) n
    by (inl j) = inl (inr j)
    by (inr (inl e)) = inl (inl e)
    by (inr (inr j)) = inr j

name_from_back : (xs : List Entry) (n : Text) → IsAmong (names (back (λ e. e) xs)) n → IsAmong (names xs) n
name_from_back xs n i = by (name_from_onto xs [] n i)
  where
    by : IsAmong (names xs) n ⊎ IsAmong (names []) n → IsAmong (names xs) n
    by (inl j) = j
    by (inr j) = absurd j

-- ---- right entries that have a name, if it leads to anything

kind_known : (root : StorageRoot) (d : Place) (es : List Entry) (n : Text) → AreEntries root d es → ((leaf : Leaf) → at root (d ++ n ∷ []) ≡ Some leaf → IsAmong (names es) n)
    → kind_in es n ≡ kind_at root d n
kind_known root d [] n h k = by (at root (d ++ n ∷ [])) refl
  where
    by : (o : Option Leaf) → at root (d ++ n ∷ []) ≡ o → None ≡ kind_at root d n
    by None e = sym (ap (option_map kind_of) e)
    by (Some leaf) e = absurd (k leaf e)
kind_known root d (x ∷ es) n h k = by (text_eq x.name n) refl (λ m. kind_known root d es n h.1 m)
  where
    later : text_eq x.name n ≡ false → IsAmong (names (x ∷ es)) n → IsAmong (names es) n
    later f (inl same) = absurd (true_not_false (sym (text_eq-same n) ∙ ap (λ m. text_eq m n) same ∙ f))
    later f (inr i) = i

    by : (b : Bool) → text_eq x.name n ≡ b → (((leaf : Leaf) → at root (d ++ n ∷ []) ≡ Some leaf → IsAmong (names es) n) → kind_in es n ≡ kind_at root d n)
        → cond b (Some x.kind) (kind_in es n) ≡ kind_at root d n
    by true f more = sym h.0 ∙ ap (kind_at root d) (text_from_test x.name n f)
    by false f more = more (λ leaf is. later f (k leaf is))

-- ---- listings above a directory lead to nothing in it

no_frame : (y p : Place) (fs : List Frame) → begins p y ≡ true → IsChain p (length p) fs → (xs : List Place) → IsAmong (seen_left xs fs) y → ⊥
no_frame y p [] b c xs i = i
no_frame y p (f ∷ fs) b c xs i = by (from_append (seen_in xs f) (seen_left xs fs) y i) (λ j. no_frame y f.0 fs (begins_on f.0 p y c.0 b) c.4 xs j)
  where
    not_low : (q r : Place) → y ≡ q ++ r → place_cmp y q ≡ Less → ⊥
    not_low q [] e l = not_below_itself place_cmp_total q (ap (λ z. place_cmp z q) (sym (e ∙ append-nil q)) ∙ l)
    not_low q (m ∷ r) e l = not_below_itself place_cmp_total q (place_cmp_total.trans q (q ++ m ∷ r) q (above_self q m r) (ap (λ z. place_cmp z q) (sym e) ∙ l))

    here : (m : Text) → IsAmong f.1 m → begins (f.0 ++ m ∷ []) y ≡ true → ⊥
    here m j leads =
        let q = f.0 ++ m ∷ [] in
        let rest = begins_rest q y leads in
        let below = begins_rest p y b in
        let over : place_cmp p q ≡ Less = before_each place_cmp p (map (λ n. f.0 ++ n ∷ []) f.1) c.2 q (among_map (λ n. f.0 ++ n ∷ []) f.1 m j) in
        let short : length q ≤ length p = omega (arith, c.1, length_push f.0 m) in
        not_low q rest.0 rest.1 (ap (λ z. place_cmp z q) below.1 ∙ above_longer p q below.0 over short)

    by : IsAmong (seen_in xs f) y ⊎ IsAmong (seen_left xs fs) y → (IsAmong (seen_left xs fs) y → ⊥) → ⊥
    by (inl j) more = let k = from_flat_map (λ n. filter (begins (f.0 ++ n ∷ [])) xs) f.1 y j in here k.0 k.1.0 (among_from_filter (begins (f.0 ++ k.0 ∷ [])) xs y k.1.1).1
    by (inr j) more = more j

-- ---- what is left behind an entry

module _ (root : StorageRoot) (last x : Place) (ps new : List Pile) (entry : Entry) (a : Option Around) (h : IsOrderly last ps a) (t : IsTaken ps new entry)
    (own : x ≡ t.place ++ entry.name ∷ []) (stack : IsStack root x ((x, seen_names root x) ∷ popped ps)) where
  left_after : (n : Text) → text_cmp entry.name n ≡ Less → (leaf : Leaf) → seen root (t.place ++ n ∷ []) ≡ Some leaf → IsAmong (names t.rest) n
  left_after n l leaf s =
      let over : place_cmp x y ≡ Less = ap (λ z. place_cmp z y) own ∙ above_name t.place entry.name n [] [] l in
      let there = among_filter (above x) (seen_places root) y (seen_to root y leaf s) (ap is_lt over) in
      let whole = stack_is (subst (λ ys. IsAmong ys y) (sym stack) there) in
      in_top (from_append (seen_in (seen_places root) (x, seen_names root x)) _ y whole)
    where
      y : Place
      y = t.place ++ n ∷ []

      stack_is : IsAmong (seen_left (seen_places root) ((x, seen_names root x) ∷ popped ps)) y
          → IsAmong (seen_left (seen_places root) ((x, seen_names root x) ∷ (t.place, names t.rest) ∷ frames_of t.others)) y
      stack_is i = subst (λ fs. IsAmong (seen_left (seen_places root) ((x, seen_names root x) ∷ fs)) y) (ap popped t.old_is) i

      -- nothing in the directory is below the entry
      not_below_entry : (m : Text) → begins (x ++ m ∷ []) y ≡ true → ⊥
      not_below_entry m b =
          let r = begins_rest (x ++ m ∷ []) y b in
          let long : length y ≡ length (x ++ m ∷ []) + length r.0 = ap length r.1 ∙ length-append (x ++ m ∷ []) r.0 in
          omega (arith, long, length_push x m, ap length own, length_push t.place entry.name, length_push t.place n)

      same_name : (m : Text) → begins (t.place ++ m ∷ []) y ≡ true → m ≡ n
      same_name m b = let r = begins_name t.place m y b in let two : n ∷ [] ≡ m ∷ r.0 = append_cancel_left t.place _ _ r.1 in cc

      in_rest : IsAmong (seen_in (seen_places root) (t.place, names t.rest)) y ⊎ IsAmong (seen_left (seen_places root) (frames_of t.others)) y → IsAmong (names t.rest) n
      in_rest (inl j) =
          let k = from_flat_map (λ m. filter (begins (t.place ++ m ∷ [])) (seen_places root)) (names t.rest) y j in
          subst (IsAmong (names t.rest)) (same_name k.0 (among_from_filter (begins (t.place ++ k.0 ∷ [])) (seen_places root) y k.1.1).1) k.1.0
      in_rest (inr j) = absurd (no_frame y t.place (frames_of t.others) (begins_front t.place (n ∷ [])) (old_chain last ps new entry a h t).4 (seen_places root) j)

      in_top : IsAmong (seen_in (seen_places root) (x, seen_names root x)) y ⊎ IsAmong (seen_left (seen_places root) ((t.place, names t.rest) ∷ frames_of t.others)) y → IsAmong (names t.rest) n
      in_top (inl j) =
          let k = from_flat_map (λ m. filter (begins (x ++ m ∷ [])) (seen_places root)) (seen_names root x) y j in
          absurd (not_below_entry k.0 (among_from_filter (begins (x ++ k.0 ∷ [])) (seen_places root) y k.1.1).1)
      in_top (inr j) = in_rest (from_append (seen_in (seen_places root) (t.place, names t.rest)) _ y j)

  -- as a list from the last to the first
  pub left_behind : (es : List Entry) → back (λ e. e) es ≡ t.rest → AreEntries root t.place t.rest → is_reached root t.place ≡ true
      → (n : Text) → text_cmp entry.name n ≡ Less → kind_in es n ≡ kind_at root t.place n
  left_behind es same entries reached n l =
      kind_known root t.place es n (all_from_onto (λ e. kind_at root t.place e.name ≡ Some e.kind) es [] (subst (AreEntries root t.place) (sym same) entries)).0
      (λ leaf is. name_from_back es n (subst (λ xs. IsAmong (names xs) n) (sym same)
      (left_after n l leaf (seen_step root t.place n ∙ ap (λ b. cond b (at root (t.place ++ n ∷ [])) None) reached ∙ is))))

-- so it tells of the sidecars of an inventory
pub is_behind : (further : Further) (root : StorageRoot) (d : Place) (entry : Entry) (es : List Entry) → ((n : Text) → text_cmp entry.name n ≡ Less → kind_in es n ≡ kind_at root d n)
    → AreBehind further root d entry es
is_behind Nothing root d entry es h = tt
is_behind Inventories root d entry es h = λ named. (h (sidecar_name Sha256) (ap (λ m. text_cmp m (sidecar_name Sha256)) named), h (sidecar_name Sha512) (ap (λ m. text_cmp m (sidecar_name Sha512)) named))
