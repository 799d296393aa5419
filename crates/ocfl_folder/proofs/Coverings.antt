-- What the entries of a listing cover, name by name.
use Rattle.std.proofs.Common.{◌≡◌, ◌⊎◌, inl, inr, suc, zero, Bool, true, false, cond, List, [], ◌∷◌, ◌++◌, map, Option, Some, None, sym, ◌∙◌, ap, subst, refl, arith}
use Rattle.std.proofs.lemmas.List.{map-append}
use Rattle.std.proofs.lemmas.List.Elements.{All-nil, All-push, All-same, recursion_from_All, Contains-append_left, Contains-push, Contains-append_cases}
use Rattle.std.proofs.lemmas.List.Sorted.{All-permutation, Contains-permutation, IsPermutation-map}
use Rattle.std.specs.{List.{Contains, AllByRecursion}, List.Sorted.{IsPermutation}}
use Rattle.std.specs.Prelude.{IfOk, Result, Ok, Err}
use Rattle.ocfl_tree.specs.{Place.{Text, Place, text_eq}, Ascending.{IsAmong}}
use Rattle.ocfl_tree.specs.{StorageRoot.{StorageRoot}, Listing.{kind_at, kind_in, IsListing}}
use Rattle.ocfl_tree.specs.{declared.store.Kind.{Kind}, declared.store.Entry.{Entry}}
use Rattle.ocfl_tree.proofs.{Places.{text_eq-Decides, differ}, Trees.{some_not_none}}
use Rattle.ocfl_folder.specs.{System.{AreNames, Gives}, Internal.Covering.{Adds, CoversBut, Covers}}

abbrev names : List Entry → List Text
names es = map (λ e. e.name) es

pub covers_none : (root : StorageRoot) (p : Place) (left : List Text) → AreNames root p left → CoversBut root p [] left
covers_none root p left h = record {
  directory = h.directory;
  there = All-nil (λ e. kind_at root p e.name ≡ Some e.kind);
  all = λ n k. inr ((h.each n).1 k);
}

pub covers_more : (root : StorageRoot) (p : Place) (n : Text) (left : List Text) (es fs : List Entry) → CoversBut root p es (n ∷ left) → Adds root p n es fs → CoversBut root p fs left
covers_more root p n left es fs h more = record {
  directory = h.directory;
  there = All-same (λ e. kind_at root p e.name ≡ Some e.kind) fs (es ++ more.entry ∷ []) more.added (All-push (λ e. kind_at root p e.name ≡ Some e.kind) es more.entry h.there (ap (kind_at root p) more.name ∙ more.there));
  all = λ m k. by m (h.all m k);
}
  where
    named : names fs ≡ names es ++ n ∷ []
    named = ap names more.added ∙ map-append (λ (e : Entry). e.name) es (more.entry ∷ []) ∙ ap (λ x. names es ++ x ∷ []) more.name

    by : (m : Text) → Contains (names es) m ⊎ IsAmong (n ∷ left) m → Contains (names fs) m ⊎ IsAmong left m
    by m (inl c) = inl (subst (λ ns. Contains ns m) (sym named) (Contains-append_left (names es) (n ∷ []) m c))
    by m (inr (inl same)) = inl (subst (λ ns. Contains ns m) (sym named) (subst (λ x. Contains (names es ++ x ∷ []) m) same (Contains-push (names es) m)))
    by m (inr (inr later)) = inr later

found : (root : StorageRoot) (p : Place) (es : List Entry) (n : Text) (k : Kind) → AllByRecursion (λ e. kind_at root p e.name ≡ Some e.kind) es → kind_in es n ≡ Some k → kind_at root p n ≡ Some k
found root p [] n k h is = absurd (some_not_none k (sym is))
found root p (e ∷ es) n k h is = by (text_eq e.name n) refl is (found root p es n k h.1)
  where
    by : (b : Bool) → text_eq e.name n ≡ b → cond b (Some e.kind) (kind_in es n) ≡ Some k → (kind_in es n ≡ Some k → kind_at root p n ≡ Some k) → kind_at root p n ≡ Some k
    by true t i more = ap (kind_at root p) (sym ((text_eq-Decides e.name n).0 t)) ∙ h.0 ∙ i
    by false t i more = more i

lone : (x y : Text) → Contains (x ∷ []) y → x ≡ y
lone x y (zero, in', is) = is
lone x y (suc k, in', is) = absurd (omega (arith, in'))

not_missing : (es : List Entry) (n : Text) → kind_in es n ≡ None → Contains (names es) n → ⊥
not_missing [] n none c = omega (arith, c.1)
not_missing (e ∷ es) n none c = by (text_eq e.name n) refl none (Contains-append_cases (e.name ∷ []) (names es) n c) (not_missing es n)
  where
    by : (b : Bool) → text_eq e.name n ≡ b → cond b (Some e.kind) (kind_in es n) ≡ None → Contains (e.name ∷ []) n ⊎ Contains (names es) n
        → (kind_in es n ≡ None → Contains (names es) n → ⊥) → ⊥
    by true t i j more = some_not_none e.kind i
    by false t i (inl c) more = differ _ _ (text_eq-Decides e.name n) t (lone e.name n c)
    by false t i (inr c) more = more i c

pub covers_listing : (root : StorageRoot) (p : Place) (es fs : List Entry) → Covers root p es → IsPermutation es fs → IsListing root p fs
covers_listing root p es fs h moved = record {
  directory = h.directory;
  each = λ n. by n (kind_in fs n) (kind_at root p n) refl refl;
}
  where
    there : AllByRecursion (λ e. kind_at root p e.name ≡ Some e.kind) fs
    there = recursion_from_All (λ e. kind_at root p e.name ≡ Some e.kind) fs (All-permutation (λ e. kind_at root p e.name ≡ Some e.kind) es fs moved h.there)

    all : (n : Text) → Contains (names es) n ⊎ IsAmong [] n → Contains (names fs) n
    all n (inl c) = Contains-permutation (names es) (names fs) n (IsPermutation-map (λ (e : Entry). e.name) es fs moved) c
    all n (inr none) = absurd none

    by : (n : Text) (a b : Option Kind) → kind_in fs n ≡ a → kind_at root p n ≡ b → kind_in fs n ≡ kind_at root p n
    by n (Some k) b is at = is ∙ sym (found root p fs n k there is)
    by n None None is at = is ∙ sym at
    by n None (Some k) is at = absurd (not_missing fs n is (all n (h.all n (λ none. some_not_none k (sym at ∙ none)))))

-- ---- a listing, name by name

pub covers_all : (root : StorageRoot) (p : Place) (es : List Entry) (more : Bool) (left rest : List Text) (n : Text) → more ≡ false → Gives more left n rest → CoversBut root p es left → Covers root p es
covers_all root p es true left rest n end gives h = absurd cc
covers_all root p es false left rest n end gives h = subst (CoversBut root p es) gives h

pub covers_next : (root : StorageRoot) (p : Place) (es fs : List Entry) (more : Bool) (left rest : List Text) (n m : Text) → more ≡ true → Gives more left n rest → m ≡ n → CoversBut root p es left → Adds root p m es fs → CoversBut root p fs rest
covers_next root p es fs true left rest n m end gives same h adds = covers_more root p m rest es fs (subst (CoversBut root p es) (gives ∙ ap (λ x. x ∷ rest) (sym same)) h) adds
covers_next root p es fs false left rest n m end gives same h adds = absurd cc

pub ordered_listing : {V E : Type 0} (items : V → List Entry) (r : Result V E) (root : StorageRoot) (p : Place) (es : List Entry) → Covers root p es → IfOk r (λ v. IsPermutation es (items v)) → IfOk r (λ v. IsListing root p (items v))
ordered_listing items (Ok v) root p es h moved = covers_listing root p es (items v) h moved
ordered_listing items (Err e) root p es h moved = tt
