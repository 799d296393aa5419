-- In which directory a call of the store may have failed.
use Rattle.std.proofs.Common.{◌≡◌, List, [], ◌∷◌, ◌++◌, refl, sym, ◌∙◌, ap, subst, Bool, true, false, inl, inr, Some, append-nil}
use Rattle.std.proofs.lemmas.List.{same_from_push}
use Rattle.std.specs.{Ordering.{is_lt}, declared.cmp.Ordering.{Ordering}}
use Rattle.std.specs.declared.cmp.Ordering.TheVariants.{Less, Equal, Greater}
use Rattle.ocfl_tree.specs.{Place.{Place, Text, place_cmp}, Ascending.{IsAmong}}
use Rattle.ocfl_tree.specs.{StorageRoot.{StorageRoot}, Store.{Store}}
use Rattle.ocfl_tree.specs.{declared.store.Opening.{Opening}, Calls.{opening}}
use Rattle.ocfl_tree.proofs.Orders.{among_left, among_right, below_from_greater, place_cmp_exact, place_cmp_total, true_not_false}
use Rattle.ocfl_report.specs.declared.further.Further.{Further}
use Rattle.ocfl_rules.specs.Head.{on}
use Rattle.ocfl_rules.proofs.{BelowLaws.{cmp_behind}, BranchLaws.{nothing_above}}
use Rattle.ocfl_item.specs.{Auditing.{FailedAt, in_listing, in_opening}, HeadFiles.{FilesStop}}
use Rattle.ocfl_item.specs.{Looking.{IsFront, LiesUpTo}, declared.fault.Fault.{Fault}}
use Rattle.ocfl_item.specs.declared.fault.Fault.TheVariants as fault
use Rattle.ocfl_item.proofs.AuditingLaws.{files_in, front_of_none}

-- what begins with a place is not before it
pub begins_not_before : (d r : Place) → is_lt (place_cmp (d ++ r) d) ≡ false
begins_not_before d r = ap is_lt (ap (place_cmp (d ++ r)) (sym (append-nil d)) ∙ cmp_behind d r []) ∙ nothing_above r

-- what is not before a place is not before what that is not before
pub not_less_or : (x a b : Place) → is_lt (place_cmp x a) ≡ false → is_lt (place_cmp a b) ≡ false → is_lt (place_cmp x b) ≡ false
not_less_or x a b h k = by (place_cmp a b) (place_cmp x b) refl refl
  where
    by : (r s : Ordering) → place_cmp a b ≡ r → place_cmp x b ≡ s → is_lt s ≡ false
    by Less s e f = absurd (true_not_false (sym (ap is_lt e) ∙ k))
    by Equal s e f = sym (ap is_lt f) ∙ subst (λ z. is_lt (place_cmp x z) ≡ false) (place_cmp_exact a b e) h
    by Greater Less e f = absurd (true_not_false (sym (ap is_lt (place_cmp_total.trans x b a f (below_from_greater place_cmp_total a b e))) ∙ h))
    by Greater Equal e f = refl
    by Greater Greater e f = refl

-- the place itself
pub up_to_own : (q : Place) → LiesUpTo (Some q) q
up_to_own q d n is = subst (λ x. is_lt (place_cmp x d) ≡ false) (sym is) (begins_not_before d (n ∷ []))

-- and what is right in a directory, for whatever begins with that
pub up_to_in : (d r q : Place) (n : Text) → q ≡ d ++ n ∷ [] → LiesUpTo (Some (d ++ r)) q
up_to_in d r q n is c m other = subst (λ x. is_lt (place_cmp (d ++ r) x) ≡ false) (same_from_push d c n m (sym is ∙ other)).0 (begins_not_before d r)

not_empty : {A : Type 0} (before : List A) (x : A) → [] ≡ before ++ x ∷ [] → ⊥
not_empty [] x e = absurd cc
not_empty (y ∷ before) x e = absurd cc

-- of a directory nothing but these files was opened
pub files_up_to : (further : Further) (root : StorageRoot) (s t : Store) (d : Place) (names : List Text) (why : Fault) → FilesStop further root s t d names why
    → (r q : Place) → why ≡ fault.Store q → LiesUpTo (Some (d ++ r)) q
files_up_to further root s t d names why h r q e = by (h.stops.store q e).1
  where
    by : FailedAt further root s t h.stops.goes.listings h.trail q → LiesUpTo (Some (d ++ r)) q
    by (in_listing before is failed read) = absurd (not_empty before q (sym (front_of_none h.stops.goes.listings h.stops.goes.listed) ∙ is))
    by (in_opening before given is none) =
        let there : IsAmong h.trail (opening q given true) = subst (λ os. IsAmong os (opening q given true)) (sym is) (among_right before (opening q given true ∷ []) (opening q given true) (inl refl)) in
        let n = files_in root d names h.trail h.opened (opening q given true) there in
        up_to_in d r q n.0 n.1

-- nothing but this directory was listed
pub listed_up_to : (further : Further) (root : StorageRoot) (s t : Store) (e : Place) (b : Bool) (listings : List Place) (q : Place) → IsFront listings (on b e)
    → FailedAt further root s t listings [] q → LiesUpTo (Some e) q
listed_up_to further root s t e b listings q front (in_opening before given is none) = absurd (not_empty before (opening q given true) is)
listed_up_to further root s t e b listings q front (in_listing before is failed read) =
    let there : IsAmong listings q = subst (λ ls. IsAmong ls q) (sym is) (among_right before (q ∷ []) q (inl refl)) in
    own b (subst (λ ls. IsAmong ls q) (sym front.1) (among_left listings front.0 q there))
  where
    own : (c : Bool) → IsAmong (on c e) q → LiesUpTo (Some e) q
    own true (inl same) = subst (λ x. LiesUpTo (Some x) q) same (up_to_own q)
    own true (inr i) = absurd i
    own false i = absurd i
