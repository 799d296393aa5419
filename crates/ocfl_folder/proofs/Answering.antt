-- What is answered in a directory, at the place that was asked for.
use Rattle.std.proofs.Common.{◌≡◌, ◌≢◌, List, [], ◌∷◌, ◌++◌, Some, None, sym, ◌∙◌, ap, subst}
use Rattle.std.specs.Prelude.{IfOk, IfErr, MatchResult, Result, Ok, Err}
use Rattle.ocfl_tree.specs.{Place.{Text, Place}, StorageRoot.{StorageRoot, file, dir, at}}
use Rattle.ocfl_tree.specs.{Listing.{IsListing, kind_at}, declared.store.Entry.{Entry}}
use Rattle.ocfl_tree.proofs.Trees.{some_not_none}
use Rattle.ocfl_folder.proofs.Ways.{nothing_there}

pub listed_at : {V E : Type 0} (items : V → List Entry) (IsNone' : E → Type 0) (r : Result V E) (s root : StorageRoot) (d p : Place) → s ≡ root → d ≡ p
    → IfOk r (λ v. IsListing s d (items v)) → IfErr r (λ e. IsNone' e → ⊥) → MatchResult r (λ v. IsListing root p (items v)) (λ e. IsNone' e → at root p ≢ Some dir)
listed_at items none (Ok v) s root d p same there h k = subst (λ x. IsListing x p (items v)) same (subst (λ q. IsListing s q (items v)) there h)
listed_at items none (Err e) s root d p same there h k = λ a. absurd (k a)

pub opened_at : {F E : Type 0} (rest : F → Text) (IsNone' : E → Type 0) (r : Result F E) (s root : StorageRoot) (d p : Place) (n : Text) → s ≡ root → p ≡ d ++ n ∷ []
    → MatchResult r (λ f. at s (d ++ n ∷ []) ≡ Some (file (rest f))) (λ e. IsNone' e → kind_at s d n ≡ None)
    → MatchResult r (λ f. at root p ≡ Some (file (rest f))) (λ e. IsNone' e → (bytes : Text) → at root p ≢ Some (file bytes))
opened_at rest none (Ok f) s root d p n same there h = ap (at root) there ∙ subst (λ x. at x (d ++ n ∷ []) ≡ Some (file (rest f))) same h
opened_at rest none (Err e) s root d p n same there h = λ a bytes is.
    some_not_none (file bytes) (sym is ∙ ap (at root) there ∙ subst (λ x. at x (d ++ n ∷ []) ≡ None) same (nothing_there s d n (h a)))
