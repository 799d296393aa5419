-- The place of an inventory in a version directory, by its path.
use Rattle.std.proofs.Common.{◌≡◌, ℕ, ◌+◌, ◌≤◌, [], ◌∷◌, ◌++◌, true, false, refl, sym, ap, ◌∙◌, subst, length, reverse, arith, Bor, Option, Some, None, MatchOption, take, drop}
use Rattle.std.proofs.lemmas.List.{reverse-append, reverse-reverse, take-append-drop}
use Rattle.std.proofs.lemmas.Str.Pattern.{NoCharPasses-char, drop_at_char}
use Rattle.std.specs.{Prelude.{◌&&◌, codes}, Char.{is_ascii_digit}, List.{list_all}, Str.{all_ascii_digits}, Str.Pattern.{RFindsChar}}
use Rattle.ocfl_tree.specs.{Place.{Text, Place, text_eq}, Path.{elements, names_of}}
use Rattle.ocfl_tree.proofs.{PathOrders.{some_element}, Paths.{Lacks, elements-append, lone_element}}
use Rattle.ocfl_codes.specs.Inventories.{is_version_inventory, is_version_name, leads_to_inventory, leads_to_version}

pub digits_are : (bs : Text) → all_ascii_digits bs ≡ list_all is_ascii_digit bs
digits_are [] = refl
digits_are (c ∷ bs) = ap (λ b. is_ascii_digit c && b) (digits_are bs)

-- ---- what comes before the last slash, and what follows it

abbrev Parts : Type 0
Parts = Option (Bor Text × Bor Text)

-- the clause of `rsplit_once` at a slash
abbrev IsSplit : Text → Parts → Type 0
IsSplit t r = MatchOption r (RFindsChar 47 t None)
    (λ x. (i : ℕ) × (j : ℕ) × RFindsChar 47 t (Some (i, j)) × (x.0.now ≡ take i t) × (x.1.now ≡ drop j t) × (i ≤ j) × (length x.0.now ≡ i) × (length x.1.now + j ≡ length t))

abbrev IfParts : Text → Parts → Type 0
IfParts t r = MatchOption r (Lacks t) (λ x. (t ≡ x.0.now ++ 47 ∷ x.1.now) × Lacks x.1.now)

parts_of : (t : Text) (r : Parts) → IsSplit t r → IfParts t r
parts_of t None h = λ i l. NoCharPasses-char 47 t i h (omega arith) l
parts_of t (Some x) h =
    let i = h.0 in
    let j = h.1 in
    let cut : drop i t ≡ 47 ∷ drop j t = drop_at_char 47 t i j h.2.1 (omega arith) in
    let lacks : Lacks (drop j t) = λ k l. NoCharPasses-char 47 (drop j t) k h.2.0 (omega arith) l in
    (sym (take-append-drop i t) ∙ (λ k. sym h.3 k ++ cut k) ∙ ap (λ u. x.0.now ++ 47 ∷ u) (sym h.4), subst Lacks (sym h.4) lacks)

-- ---- names from the last one on

names_seam : (t u : Text) → names_of (t ++ 47 ∷ u) ≡ elements t ++ elements u
names_seam [] u = refl
names_seam (c ∷ t) u = elements-append (c ∷ t) u

some_above : (v : Text) (above : Place) → (above ≡ [] → ⊥) → leads_to_version (v ∷ reverse above) ≡ is_version_name v
some_above v above some = by (reverse above) (λ e. some (sym (reverse-reverse above) ∙ ap reverse e))
  where
    by : (ns : Place) → (ns ≡ [] → ⊥) → leads_to_version (v ∷ ns) ≡ is_version_name v
    by [] none = absurd (none refl)
    by (n ∷ ns) none = refl

version_behind : (t above v : Text) → t ≡ above ++ 47 ∷ v → Lacks v → is_version_name v ≡ leads_to_version (reverse (names_of t))
version_behind t above v e h =
    let names : names_of t ≡ elements above ++ v ∷ [] = ap names_of e ∙ names_seam above v ∙ ap (λ ns. elements above ++ ns) (lone_element v h) in
    sym (ap (λ ns. leads_to_version (reverse ns)) names ∙ ap leads_to_version (reverse-append (elements above) (v ∷ [])) ∙ some_above v (elements above) (some_element above))

version_alone : (t : Text) → Lacks t → false ≡ leads_to_version (reverse (names_of t))
version_alone [] h = refl
version_alone (c ∷ t) h = sym (ap (λ ns. leads_to_version (reverse ns)) (lone_element (c ∷ t) h))

pub version_of_some : (t : Text) (r : Parts) (x : Bor Text × Bor Text) → r ≡ Some x → IsSplit t r → is_version_name x.1.now ≡ leads_to_version (reverse (names_of t))
version_of_some t r x is h =
    let parts = subst (IfParts t) is (parts_of t r h) in
    version_behind t x.0.now x.1.now parts.0 parts.1

pub version_of_none : (t : Text) (r : Parts) → r ≡ None → IsSplit t r → false ≡ leads_to_version (reverse (names_of t))
version_of_none t r is h = version_alone t (subst (IfParts t) is (parts_of t r h))

inventory_behind : (p above : Place) (n : Text) → p ≡ above ++ n ∷ [] → is_version_inventory p ≡ text_eq n (codes "inventory.json") && leads_to_version (reverse above)
inventory_behind p above n e = ap leads_to_inventory (ap reverse e ∙ reverse-append above (n ∷ []))

pub inventory_named : (p above : Place) (n : Text) → p ≡ above ++ n ∷ [] → text_eq n (codes "inventory.json") ≡ true → leads_to_version (reverse above) ≡ is_version_inventory p
inventory_named p above n e is = sym (inventory_behind p above n e ∙ ap (λ b. b && leads_to_version (reverse above)) is)

pub inventory_unnamed : (p above : Place) (n : Text) → p ≡ above ++ n ∷ [] → text_eq n (codes "inventory.json") ≡ false → false ≡ is_version_inventory p
inventory_unnamed p above n e is = sym (inventory_behind p above n e ∙ ap (λ b. b && leads_to_version (reverse above)) is)
