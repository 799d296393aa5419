-- An ascending list of places, split by the names below one.
use Rattle.std.proofs.Common.{◌≡◌, ◌⊎◌, inl, inr, List, [], ◌∷◌, ◌++◌, refl, sym, ◌∙◌, ap, subst, true, false, Bool, filter}
use Rattle.std.specs.Prelude.{flat_map, ◌&&◌}
use Rattle.std.specs.Ordering.{ordering_then, is_eq, is_lt}
use Rattle.std.specs.declared.cmp.Ordering.{Ordering}
use Rattle.std.specs.declared.cmp.Ordering.TheVariants.{Less, Equal, Greater}
use Rattle.ocfl_tree.specs.Place.{Place, Text, text_cmp, text_eq, place_cmp, place_eq, begins}
use Rattle.ocfl_tree.specs.Ascending.{IsBeforeAll, IsAscending, IsAmong}
use Rattle.ocfl_rules.specs.Head.{on}
use Rattle.ocfl_tree.proofs.Orders.{place_cmp_total, place_cmp_exact, true_not_false, not_below_itself, not_both_below, before_each, ascending_unique, ascends_filter, among_filter, among_from_filter, among_left, among_right, among_flat_map}
use Rattle.ocfl_tree.proofs.Stores.{among_either}
use Rattle.ocfl_rules.proofs.AuditExists.{equal_from_test, place_from_test, append_one, append_nothing}
pub use Rattle.ocfl_tree.proofs.Places.{place_eq-same, text_cmp_total, text_cmp_exact, text_eq-same}
pub use Rattle.ocfl_tree.proofs.Orders.{less_from}
pub use Rattle.ocfl_inventory.proofs.Runs.{equal_itself}

pub text_from_test : (n m : Text) → text_eq n m ≡ true → n ≡ m
text_from_test n m e = text_cmp_exact n m (equal_from_test _ e)

pub on_ascends : (b : Bool) (p : Place) → IsAscending place_cmp (on b p)
on_ascends true p = (tt, tt)
on_ascends false p = tt

-- ---- beginnings

pub cmp_behind : (d a b : Place) → place_cmp (d ++ a) (d ++ b) ≡ place_cmp a b
cmp_behind [] a b = refl
cmp_behind (n ∷ d) a b = ap (λ r. ordering_then r (place_cmp (d ++ a) (d ++ b))) (equal_itself text_cmp_total n) ∙ cmp_behind d a b

pub begins_front : (d r : Place) → begins d (d ++ r) ≡ true
begins_front [] r = refl
begins_front (n ∷ d) r = ap (λ o. is_eq o && begins d (d ++ r)) (equal_itself text_cmp_total n) ∙ begins_front d r

pub begins_rest : (d p : Place) → begins d p ≡ true → (r : Place) × (p ≡ d ++ r)
begins_rest [] p h = (p, refl)
begins_rest (n ∷ d) [] h = absurd (true_not_false (sym h))
begins_rest (n ∷ d) (m ∷ p) h = by (text_eq n m) refl h (begins_rest d p)
  where
    both : (m ≡ n) → (r : Place) × (p ≡ d ++ r) → (r : Place) × (m ∷ p ≡ n ∷ d ++ r)
    both e k = (k.0, λ i. e i ∷ k.1 i)

    by : (b : Bool) → text_eq n m ≡ b → b && begins d p ≡ true → (begins d p ≡ true → (r : Place) × (p ≡ d ++ r)) → (r : Place) × (m ∷ p ≡ n ∷ d ++ r)
    by true e g k = both (sym (text_from_test n m e)) (k g)
    by false e g k = absurd (true_not_false (sym g))

-- what is below d by the name n
pub begins_name : (d : Place) (n : Text) (p : Place) → begins (d ++ n ∷ []) p ≡ true → (r : Place) × (p ≡ d ++ n ∷ r)
begins_name d n p h = let k = begins_rest (d ++ n ∷ []) p h in (k.0, k.1 ∙ append_one d k.0 n)

pub name_begins : (d : Place) (n : Text) (r : Place) → begins (d ++ n ∷ []) (d ++ n ∷ r) ≡ true
name_begins d n r = subst (λ x. begins (d ++ n ∷ []) x ≡ true) (append_one d r n) (begins_front (d ++ n ∷ []) r)

pub above_self : (d : Place) (n : Text) (r : Place) → place_cmp d (d ++ n ∷ r) ≡ Less
above_self d n r = ap (λ x. place_cmp x (d ++ n ∷ r)) (sym (append_nothing d)) ∙ cmp_behind d [] (n ∷ r)

pub above_name : (d : Place) (n m : Text) (r s : Place) → text_cmp n m ≡ Less → place_cmp (d ++ n ∷ r) (d ++ m ∷ s) ≡ Less
above_name d n m r s l = cmp_behind d (n ∷ r) (m ∷ s) ∙ ap (λ o. ordering_then o (place_cmp r s)) l

-- ---- joined lists

module _ {A : Type 0} where
  pub from_append : (xs ys : List A) (z : A) → IsAmong (xs ++ ys) z → IsAmong xs z ⊎ IsAmong ys z
  from_append = among_either

  before_from : (cmp : A → A → Ordering) (x : A) (ys : List A) → ((y : A) → IsAmong ys y → cmp x y ≡ Less) → IsBeforeAll cmp x ys
  before_from cmp x [] h = tt
  before_from cmp x (y ∷ ys) h = (h y (inl refl), before_from cmp x ys (λ z i. h z (inr i)))

  before_append : (cmp : A → A → Ordering) (x : A) (ys zs : List A) → IsBeforeAll cmp x ys → IsBeforeAll cmp x zs → IsBeforeAll cmp x (ys ++ zs)
  before_append cmp x [] zs h k = k
  before_append cmp x (y ∷ ys) zs h k = (h.0, before_append cmp x ys zs h.1 k)

  pub ascends_append : (cmp : A → A → Ordering) (xs ys : List A) → IsAscending cmp xs → IsAscending cmp ys → ((x y : A) → IsAmong xs x → IsAmong ys y → cmp x y ≡ Less) → IsAscending cmp (xs ++ ys)
  ascends_append cmp [] ys h k l = k
  ascends_append cmp (x ∷ xs) ys h k l =
      (before_append cmp x xs ys h.0 (before_from cmp x ys (λ y j. l x y (inl refl) j)), ascends_append cmp xs ys h.1 k (λ w y i j. l w y (inr i) j))

module _ {A B : Type 0} where
  pub from_flat_map : (f : A → List B) (xs : List A) (z : B) → IsAmong (flat_map f xs) z → (x : A) × (IsAmong xs x × IsAmong (f x) z)
  from_flat_map f [] z i = absurd i
  from_flat_map f (x ∷ xs) z i = by (from_append (f x) (flat_map f xs) z i) (from_flat_map f xs z)
    where
      later : (y : A) × (IsAmong xs y × IsAmong (f y) z) → (y : A) × (IsAmong (x ∷ xs) y × IsAmong (f y) z)
      later k = (k.0, (inr k.1.0, k.1.1))

      by : IsAmong (f x) z ⊎ IsAmong (flat_map f xs) z → (IsAmong (flat_map f xs) z → (y : A) × (IsAmong xs y × IsAmong (f y) z)) → (y : A) × (IsAmong (x ∷ xs) y × IsAmong (f y) z)
      by (inl j) k = (x, (inl refl, j))
      by (inr j) k = later (k j)

  pub ascends_flat_map : (cmp : A → A → Ordering) (order : B → B → Ordering) (f : A → List B) (xs : List A) → IsAscending cmp xs → ((x : A) → IsAscending order (f x))
      → ((x y : A) (v w : B) → cmp x y ≡ Less → IsAmong (f x) v → IsAmong (f y) w → order v w ≡ Less) → IsAscending order (flat_map f xs)
  ascends_flat_map cmp order f [] h each l = tt
  ascends_flat_map cmp order f (x ∷ xs) h each l =
      ascends_append order (f x) (flat_map f xs) (each x) (ascends_flat_map cmp order f xs h.1 each l) (λ v w i j. apart v w i (from_flat_map f xs w j))
    where
      apart : (v w : B) → IsAmong (f x) v → (y : A) × (IsAmong xs y × IsAmong (f y) w) → order v w ≡ Less
      apart v w i k = l x k.0 v w (before_each cmp x xs h.0 k.0 k.1.0) i k.1.1

-- ---- the splits

abbrev pub under : List Place → Place → List Place
under ps d = filter (begins d) ps

abbrev pub above : Place → Place → Bool
above p x = is_lt (place_cmp p x)

-- whatever two ascending lists have in common decides whether they are one
same_places : (xs ys : List Place) → IsAscending place_cmp xs → IsAscending place_cmp ys → ((z : Place) → IsAmong xs z → IsAmong ys z) → ((z : Place) → IsAmong ys z → IsAmong xs z) → xs ≡ ys
same_places xs ys h k to from = ascending_unique place_cmp_total place_cmp_exact xs ys h k (λ z. (to z, from z))

module _ (ps : List Place) (ascends : IsAscending place_cmp ps) (d : Place) where
  in_part : (n : Text) (r : Place) → IsAmong ps (d ++ n ∷ r) → IsAmong (under ps (d ++ n ∷ [])) (d ++ n ∷ r)
  in_part n r i = among_filter (begins (d ++ n ∷ [])) ps (d ++ n ∷ r) i (name_begins d n r)

  record IsPart (n : Text) (z : Place) : Type 0 where
    rest : Place
    is : z ≡ d ++ n ∷ rest
    among : IsAmong ps z

  part_is : (n : Text) (z : Place) → IsAmong (under ps (d ++ n ∷ [])) z → IsPart n z
  part_is n z i =
      let k = among_from_filter (begins (d ++ n ∷ [])) ps z i in
      let b = begins_name d n z k.1 in
      record { rest = b.0; is = b.1; among = k.0 }

  part_under : (n : Text) (z : Place) → IsPart n z → IsAmong (under ps d) z
  part_under n z k = among_filter (begins d) ps z k.among (subst (λ x. begins d x ≡ true) (sym k.is) (begins_front d (n ∷ k.rest)))

  parts_apart : (n m : Text) (v w : Place) → text_cmp n m ≡ Less → IsAmong (under ps (d ++ n ∷ [])) v → IsAmong (under ps (d ++ m ∷ [])) w → place_cmp v w ≡ Less
  parts_apart n m v w l i j =
      let a = part_is n v i in
      let b = part_is m w j in
      (λ x. place_cmp (a.is x) (b.is x)) ∙ above_name d n m a.rest b.rest l

  parts_ascend : (ns : List Text) → IsAscending text_cmp ns → IsAscending place_cmp (flat_map (λ n. under ps (d ++ n ∷ [])) ns)
  parts_ascend ns names = ascends_flat_map text_cmp place_cmp (λ n. under ps (d ++ n ∷ [])) ns names (λ n. ascends_filter place_cmp (begins (d ++ n ∷ [])) ps ascends) parts_apart

  module _ (ns : List Text) (names : IsAscending text_cmp ns) (cover : (n : Text) (r : Place) → IsAmong ps (d ++ n ∷ r) → IsAmong ns n) where
    -- a place below d is in one of the parts
    in_parts : (n : Text) (r : Place) → IsAmong ps (d ++ n ∷ r) → IsAmong (flat_map (λ m. under ps (d ++ m ∷ [])) ns) (d ++ n ∷ r)
    in_parts n r i = among_flat_map (λ m. under ps (d ++ m ∷ [])) ns n (d ++ n ∷ r) (cover n r i) (in_part n r i)

    -- ---- d itself, and then the parts

    here_is : (z : Place) → IsAmong (filter (place_eq d) ps) z → IsAmong ps z × (d ≡ z)
    here_is z i = let k = among_from_filter (place_eq d) ps z i in (k.0, place_from_test d z k.1)

    here_below : (v w : Place) → IsAmong (filter (place_eq d) ps) v → IsAmong (flat_map (λ n. under ps (d ++ n ∷ [])) ns) w → place_cmp v w ≡ Less
    here_below v w i j =
        let h = here_is v i in
        let k = from_flat_map (λ n. under ps (d ++ n ∷ [])) ns w j in
        let b = part_is k.0 w k.1.1 in
        (λ x. place_cmp (sym h.1 x) (b.is x)) ∙ above_self d k.0 b.rest

    split_to : (z : Place) → IsAmong (under ps d) z → IsAmong (filter (place_eq d) ps ++ flat_map (λ n. under ps (d ++ n ∷ [])) ns) z
    split_to z i = let k = among_from_filter (begins d) ps z i in let b = begins_rest d z k.1 in by b.0 b.1 k.0
      where
        by : (r : Place) → z ≡ d ++ r → IsAmong ps z → IsAmong (filter (place_eq d) ps ++ flat_map (λ n. under ps (d ++ n ∷ [])) ns) z
        by [] e j = among_left (filter (place_eq d) ps) _ z (among_filter (place_eq d) ps z j (subst (λ x. place_eq d x ≡ true) (sym (e ∙ append_nothing d)) (place_eq-same d)))
        by (n ∷ r) e j = among_right (filter (place_eq d) ps) _ z (subst (IsAmong (flat_map (λ m. under ps (d ++ m ∷ [])) ns)) (sym e) (in_parts n r (subst (IsAmong ps) e j)))

    split_from : (z : Place) → IsAmong (filter (place_eq d) ps ++ flat_map (λ n. under ps (d ++ n ∷ [])) ns) z → IsAmong (under ps d) z
    split_from z i = by (from_append (filter (place_eq d) ps) _ z i)
      where
        by : IsAmong (filter (place_eq d) ps) z ⊎ IsAmong (flat_map (λ n. under ps (d ++ n ∷ [])) ns) z → IsAmong (under ps d) z
        by (inl j) =
            let h = here_is z j in
            among_filter (begins d) ps z h.0 (subst (λ x. begins d x ≡ true) (append_nothing d ∙ h.1) (begins_front d []))
        by (inr j) =
            let k = from_flat_map (λ n. under ps (d ++ n ∷ [])) ns z j in
            part_under k.0 z (part_is k.0 z k.1.1)

    pub split_names : under ps d ≡ filter (place_eq d) ps ++ flat_map (λ n. under ps (d ++ n ∷ [])) ns
    split_names = same_places _ _ (ascends_filter place_cmp (begins d) ps ascends)
        (ascends_append place_cmp (filter (place_eq d) ps) _ (ascends_filter place_cmp (place_eq d) ps ascends) (parts_ascend ns names) here_below)
        split_to split_from

    -- ---- what is above d itself

    self_to : (z : Place) → IsAmong (filter (above d) (under ps d)) z → IsAmong (flat_map (λ n. under ps (d ++ n ∷ [])) ns) z
    self_to z i =
        let k = among_from_filter (above d) (under ps d) z i in
        let j = among_from_filter (begins d) ps z k.0 in
        let b = begins_rest d z j.1 in by b.0 b.1 j.0 (less_from _ k.1)
      where
        by : (r : Place) → z ≡ d ++ r → IsAmong ps z → place_cmp d z ≡ Less → IsAmong (flat_map (λ n. under ps (d ++ n ∷ [])) ns) z
        by [] e j l = absurd (not_below_itself place_cmp_total d (subst (λ x. place_cmp d x ≡ Less) (e ∙ append_nothing d) l))
        by (n ∷ r) e j l = subst (IsAmong (flat_map (λ m. under ps (d ++ m ∷ [])) ns)) (sym e) (in_parts n r (subst (IsAmong ps) e j))

    self_from : (z : Place) → IsAmong (flat_map (λ n. under ps (d ++ n ∷ [])) ns) z → IsAmong (filter (above d) (under ps d)) z
    self_from z i =
        let k = from_flat_map (λ n. under ps (d ++ n ∷ [])) ns z i in
        let b = part_is k.0 z k.1.1 in
        among_filter (above d) (under ps d) z (part_under k.0 z b) (ap is_lt (ap (place_cmp d) b.is ∙ above_self d k.0 b.rest))

    pub split_self : filter (above d) (under ps d) ≡ flat_map (λ n. under ps (d ++ n ∷ [])) ns
    split_self = same_places _ _ (ascends_filter place_cmp (above d) _ (ascends_filter place_cmp (begins d) ps ascends)) (parts_ascend ns names) self_to self_from

    -- ---- what is above a place further down

    module _ (n : Text) (q : Place) where
      abbrev rest_of_parts : List Place
      rest_of_parts = flat_map (λ m. under ps (d ++ m ∷ [])) (filter (λ m. is_lt (text_cmp n m)) ns)

      abbrev down : List Place
      down = filter (above (d ++ n ∷ q)) (under ps (d ++ n ∷ []))

      rest_is : (z : Place) → IsAmong rest_of_parts z → (m : Text) × ((text_cmp n m ≡ Less) × IsPart m z)
      rest_is z i =
          let k = from_flat_map (λ m. under ps (d ++ m ∷ [])) (filter (λ m. is_lt (text_cmp n m)) ns) z i in
          let g = among_from_filter (λ m. is_lt (text_cmp n m)) ns k.0 k.1.0 in
          (k.0, (less_from _ g.1, part_is k.0 z k.1.1))

      down_is : (z : Place) → IsAmong down z → (place_cmp (d ++ n ∷ q) z ≡ Less) × IsPart n z
      down_is z i = let k = among_from_filter (above (d ++ n ∷ q)) (under ps (d ++ n ∷ [])) z i in (less_from _ k.1, part_is n z k.0)

      after_to : (z : Place) → IsAmong (filter (above (d ++ n ∷ q)) (under ps d)) z → IsAmong (down ++ rest_of_parts) z
      after_to z i =
          let k = among_from_filter (above (d ++ n ∷ q)) (under ps d) z i in
          let j = among_from_filter (begins d) ps z k.0 in
          let b = begins_rest d z j.1 in by b.0 b.1 j.0 k.1
        where
          named : (m : Text) (r : Place) → z ≡ d ++ m ∷ r → IsAmong ps z → is_lt (place_cmp (d ++ n ∷ q) z) ≡ true → (o : Ordering) → text_cmp n m ≡ o → IsAmong (down ++ rest_of_parts) z
          named m r e j l Less f =
              among_right down rest_of_parts z (subst (IsAmong rest_of_parts) (sym e)
              (among_flat_map (λ x. under ps (d ++ x ∷ [])) _ m (d ++ m ∷ r)
              (among_filter (λ x. is_lt (text_cmp n x)) ns m (cover m r (subst (IsAmong ps) e j)) (ap is_lt f)) (in_part m r (subst (IsAmong ps) e j))))
          named m r e j l Equal f =
              let same : m ≡ n = sym (text_cmp_exact n m f) in
              among_left down rest_of_parts z (among_filter (above (d ++ n ∷ q)) (under ps (d ++ n ∷ [])) z
              (among_filter (begins (d ++ n ∷ [])) ps z j (subst (λ x. begins (d ++ n ∷ []) x ≡ true) (sym (e ∙ ap (λ x. d ++ x ∷ r) same)) (name_begins d n r))) l)
          named m r e j l Greater f =
              absurd (let both = sym (less_from _ l) ∙ ap (place_cmp (d ++ n ∷ q)) e ∙ cmp_behind d (n ∷ q) (m ∷ r) ∙ ap (λ o. ordering_then o (place_cmp q r)) f in cc)

          by : (r : Place) → z ≡ d ++ r → IsAmong ps z → is_lt (place_cmp (d ++ n ∷ q) z) ≡ true → IsAmong (down ++ rest_of_parts) z
          by [] e j l = absurd (not_both_below place_cmp_total d (d ++ n ∷ q) (above_self d n q) (subst (λ x. place_cmp (d ++ n ∷ q) x ≡ Less) (e ∙ append_nothing d) (less_from _ l)))
          by (m ∷ r) e j l = named m r e j l (text_cmp n m) refl

      after_from : (z : Place) → IsAmong (down ++ rest_of_parts) z → IsAmong (filter (above (d ++ n ∷ q)) (under ps d)) z
      after_from z i = by (from_append down rest_of_parts z i)
        where
          by : IsAmong down z ⊎ IsAmong rest_of_parts z → IsAmong (filter (above (d ++ n ∷ q)) (under ps d)) z
          by (inl j) = let k = down_is z j in among_filter (above (d ++ n ∷ q)) (under ps d) z (part_under n z k.1) (ap is_lt k.0)
          by (inr j) =
              let k = rest_is z j in
              among_filter (above (d ++ n ∷ q)) (under ps d) z (part_under k.0 z k.1.1) (ap is_lt (ap (place_cmp (d ++ n ∷ q)) k.1.1.is ∙ above_name d n k.0 q k.1.1.rest k.1.0))

      apart : (v w : Place) → IsAmong down v → IsAmong rest_of_parts w → place_cmp v w ≡ Less
      apart v w i j =
          let a = (down_is v i).1 in
          let k = rest_is w j in
          (λ x. place_cmp (a.is x) (k.1.1.is x)) ∙ above_name d n k.0 a.rest k.1.1.rest k.1.0

      pub split_after : filter (above (d ++ n ∷ q)) (under ps d) ≡ filter (above (d ++ n ∷ q)) (under ps (d ++ n ∷ [])) ++ flat_map
          (λ m. under ps (d ++ m ∷ [])) (filter (λ m. is_lt (text_cmp n m)) ns)
      split_after = same_places _ _ (ascends_filter place_cmp (above (d ++ n ∷ q)) _ (ascends_filter place_cmp (begins d) ps ascends))
          (ascends_append place_cmp down rest_of_parts
          (ascends_filter place_cmp (above (d ++ n ∷ q)) _ (ascends_filter place_cmp (begins (d ++ n ∷ [])) ps ascends))
          (parts_ascend _ (ascends_filter text_cmp (λ m. is_lt (text_cmp n m)) ns names)) apart)
          after_to after_from
