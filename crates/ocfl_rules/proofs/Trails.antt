-- Trails, one after the other.
use Rattle.std.proofs.Common.{◌≡◌, ℕ, zero, suc, ◌<◌, length, get_or, arith, List, [], ◌∷◌, ◌++◌, refl, ◌∙◌, ap, true, false, Bool, map, filter, not}
use Rattle.std.proofs.lemmas.List.Elements.{filter-append}
use Rattle.std.specs.{Prelude.{cond}, List.{AllByRecursion}}
use Rattle.ocfl_tree.specs.{StorageRoot.{StorageRoot}, declared.store.Opening.{Opening}}
use Rattle.ocfl_report.specs.declared.further.Further.{Further}
use Rattle.ocfl_rules.specs.Trail.{is_meta, content_openings, content_trail, unread_of}

pub filter_append : {A : Type 0} (test : A → Bool) (xs ys : List A) → filter test (xs ++ ys) ≡ filter test xs ++ filter test ys
filter_append = filter-append

none_mapped : (os : List Opening) → map (λ o. o.place) os ≡ [] → os ≡ []
none_mapped [] h = refl
none_mapped (o ∷ os) h = absurd cc

-- openings of metadata alone add nothing to those of content
pub meta_before : (further : Further) (root : StorageRoot) (front trail : List Opening) → content_trail further root front ≡ [] → content_openings further root (front ++ trail) ≡ content_openings further root trail
meta_before further root front trail h = filter_append (λ o. not (is_meta further root o.place)) front trail ∙ ap (λ os. os ++ content_openings further root trail) (none_mapped (content_openings further root front) h)

pub content_behind : (further : Further) (root : StorageRoot) (front trail : List Opening) → content_trail further root front ≡ [] → content_trail further root (front ++ trail) ≡ content_trail further root trail
content_behind further root front trail h = ap (map (λ o. o.place)) (meta_before further root front trail h)

pub unread_behind : (further : Further) (root : StorageRoot) (front trail : List Opening) → content_trail further root front ≡ [] → unread_of further root (front ++ trail) ≡ unread_of further root trail
unread_behind further root front trail h = ap (λ os. map (λ o. (o.place, o.given)) (filter (λ o. o.failed) os)) (meta_before further root front trail h)

pub none_unread : (further : Further) (root : StorageRoot) (trail : List Opening) → content_trail further root trail ≡ [] → unread_of further root trail ≡ []
none_unread further root trail h = ap (λ os. map (λ o. (o.place, o.given)) (filter (λ o. o.failed) os)) (none_mapped (content_openings further root trail) h)

-- if nothing is content, all is metadata
pub all_meta : (further : Further) (root : StorageRoot) (trail : List Opening) → content_trail further root trail ≡ [] → AllByRecursion (λ o. is_meta further root o.place ≡ true) trail
all_meta further root [] h = tt
all_meta further root (o ∷ trail) h = by (is_meta further root o.place) refl h (all_meta further root trail)
  where
    by : (b : Bool) → is_meta further root o.place ≡ b → map (λ x. x.place) (cond (not b) (o ∷ content_openings further root trail) (content_openings further root trail)) ≡ []
        → (content_trail further root trail ≡ [] → AllByRecursion (λ x. is_meta further root x.place ≡ true) trail)
        → AllByRecursion (λ x. is_meta further root x.place ≡ true) (o ∷ trail)
    by true e k rest = (e, rest k)
    by false e k rest = absurd cc

pub meta_at : (further : Further) (root : StorageRoot) (trail : List Opening) (i : ℕ) (d : Opening) → i < length trail → AllByRecursion (λ o. is_meta further root o.place ≡ true) trail
    → is_meta further root (get_or trail i d).place ≡ true
meta_at further root [] i d l h = absurd (omega (arith, l))
meta_at further root (o ∷ trail) zero d l h = h.0
meta_at further root (o ∷ trail) (suc i) d l h = meta_at further root trail i d (omega (arith, l)) h.1
