-- Audits one after the other.
use Rattle.std.proofs.Common.{◌≡◌, inl, inr, ℕ, List, [], ◌∷◌, ◌++◌, refl, sym, ◌∙◌, ap, subst, true, false, Bool, map, filter, Some, None}
use Rattle.std.proofs.lemmas.List.{map-append}
use Rattle.std.specs.{Prelude.{cond}, Ordering.{is_eq}, declared.cmp.Ordering.{Ordering}}
use Rattle.std.specs.declared.cmp.Ordering.TheVariants.{Less, Equal, Greater}
use Rattle.ocfl_tree.specs.{Place.{Place, place_cmp, place_eq}, Ascending.{IsAscending, IsAmong}}
use Rattle.ocfl_tree.specs.{StorageRoot.{StorageRoot}, Store.{Store}}
use Rattle.ocfl_tree.specs.declared.store.Opening.{Opening}
use Rattle.ocfl_tree.proofs.Orders.{place_cmp_total, place_cmp_exact, not_below_itself, before_each, among_from_filter}
use Rattle.ocfl_inventory.specs.Note.{lines_at}
use Rattle.ocfl_rules.specs.Inventories.{notes, cost, is_hashed}
use Rattle.ocfl_rules.specs.Audit.{Unread, given_by, item_of}
use Rattle.ocfl_rules.specs.Trail.{content_openings, content_trail, unread_of}
use Rattle.ocfl_rules.specs.Due.{items_at, hashed_among}
use Rattle.ocfl_item.specs.Auditing.{Audits}
use Rattle.ocfl_scrub.proofs.Lists.{ascends_across}
use Rattle.ocfl_item.proofs.AuditingLaws.{unread_append}
use Rattle.ocfl_report.specs.declared.further.Further.{Further}

-- ---- what a trail shows

pub hashed_are_among : (further : Further) (root : StorageRoot) (ps : List Place) (p : Place) → IsAmong (hashed_among further root ps) p → IsAmong ps p
unfolding hashed_among
hashed_are_among further root ps p i = (among_from_filter (is_hashed further root) ps p i).0

pub failed_among : (os : List Opening) (p : Place)
    → IsAmong (map (λ (e : Place × ℕ). e.0) (map (λ (o : Opening). (o.place, o.given)) (filter (λ (o : Opening). o.failed) os))) p → IsAmong (map (λ o. o.place) os) p
failed_among [] p i = i
failed_among (o ∷ os) p i = by o.failed i (failed_among os p)
  where
    by : (b : Bool) → IsAmong (map (λ (e : Place × ℕ). e.0) (map (λ o. (o.place, o.given)) (cond b (o ∷ filter (λ o. o.failed) os) (filter (λ o. o.failed) os)))) p
        → (IsAmong (map (λ (e : Place × ℕ). e.0) (map (λ o. (o.place, o.given)) (filter (λ o. o.failed) os))) p → IsAmong (map (λ o. o.place) os) p) → IsAmong (o.place ∷ map (λ o. o.place) os) p
    by true (inl e) k = inl e
    by true (inr j) k = inr (k j)
    by false j k = inr (k j)

-- ---- what is given at a place

module _ (p : Place) where
  pub given_none : (u : Unread) → (IsAmong (map (λ (e : Place × ℕ). e.0) u) p → ⊥) → given_by u p ≡ None
  given_none [] h = refl
  given_none (e ∷ u) h = by (place_cmp e.0 p) refl (given_none u (λ i. h (inr i)))
    where
      by : (r : Ordering) → place_cmp e.0 p ≡ r → given_by u p ≡ None → cond (is_eq r) (Some e.1) (given_by u p) ≡ None
      by Less f k = k
      by Equal f k = absurd (h (inl (sym (place_cmp_exact e.0 p f))))
      by Greater f k = k

  pub given_left : (u v : Unread) → given_by v p ≡ None → given_by (u ++ v) p ≡ given_by u p
  given_left [] v h = h
  given_left (e ∷ u) v h = ap (cond (place_eq e.0 p) (Some e.1)) (given_left u v h)

  pub given_right : (u v : Unread) → (IsAmong (map (λ (e : Place × ℕ). e.0) u) p → ⊥) → given_by (u ++ v) p ≡ given_by v p
  given_right [] v h = refl
  given_right (e ∷ u) v h = by (place_cmp e.0 p) refl (given_right u v (λ i. h (inr i)))
    where
      by : (r : Ordering) → place_cmp e.0 p ≡ r → given_by (u ++ v) p ≡ given_by v p → cond (is_eq r) (Some e.1) (given_by (u ++ v) p) ≡ given_by v p
      by Less f k = k
      by Equal f k = absurd (h (inl (sym (place_cmp_exact e.0 p f))))
      by Greater f k = k

-- a place that is none of ps is not unread in a trail over ps
pub not_unread : (further : Further) (root : StorageRoot) (os : List Opening) (ps : List Place) (p : Place) → content_trail further root os ≡ hashed_among further root ps → (IsAmong ps p → ⊥)
    → IsAmong (map (λ (e : Place × ℕ). e.0) (unread_of further root os)) p → ⊥
not_unread further root os ps p e h i = h (hashed_are_among further root ps p (subst (λ qs. IsAmong qs p) e (failed_among (content_openings further root os) p i)))

pub not_after : (ps qs : List Place) (p : Place) → IsAscending place_cmp (ps ++ qs) → IsAmong ps p → IsAmong qs p → ⊥
not_after ps qs p h i j = not_below_itself place_cmp_total p (before_each place_cmp p qs (ascends_across place_cmp ps qs p h i) p j)

-- ---- items at two trails

-- what was read differs at none of the places
abbrev pub AgreeAt : Unread → Unread → List Place → Type 0
AgreeAt u v [] = Unit {0}
AgreeAt u v (p ∷ ps) = (given_by u p ≡ given_by v p) × AgreeAt u v ps

pub items_agree : (further : Further) (root : StorageRoot) (u v : Unread) (ps : List Place) → AgreeAt u v ps → map (item_of further root u) ps ≡ map (item_of further root v) ps
items_agree further root u v [] h = refl
items_agree further root u v (p ∷ ps) h = ap (λ g. record { place = p; lines = lines_at p (notes further root g p); cost = cost further root g p } ∷ map (item_of further root u) ps) h.0
    ∙ ap (λ is. item_of further root v p ∷ is) (items_agree further root u v ps h.1)

pub agree_all : (u v : Unread) (ps : List Place) → ((p : Place) → IsAmong ps p → given_by u p ≡ given_by v p) → AgreeAt u v ps
agree_all u v [] h = tt
agree_all u v (p ∷ ps) h = (h p (inl refl), agree_all u v ps (λ q i. h q (inr i)))

-- a trail over later places changes nothing at earlier ones
pub items_before : (further : Further) (root : StorageRoot) (os os' : List Opening) (ps qs : List Place) → IsAscending place_cmp (ps ++ qs)
    → content_trail further root os' ≡ hashed_among further root qs → items_at further root (os ++ os') ps ≡ items_at further root os ps
unfolding items_at
items_before further root os os' ps qs h e =
    items_agree further root _ _ ps (agree_all _ _ ps (λ p i.
    ap (λ u. given_by u p) (unread_append further root os os') ∙ given_left p _ _ (given_none p (unread_of further root os') (not_unread further root os' qs p e (not_after ps qs p h i)))))

-- nor the other way round
pub items_behind : (further : Further) (root : StorageRoot) (os os' : List Opening) (ps qs : List Place) → IsAscending place_cmp (ps ++ qs)
    → content_trail further root os ≡ hashed_among further root ps → items_at further root (os ++ os') qs ≡ items_at further root os' qs
unfolding items_at
items_behind further root os os' ps qs h e =
    items_agree further root _ _ qs (agree_all _ _ qs (λ p i.
    ap (λ u. given_by u p) (unread_append further root os os') ∙ given_right p _ _ (not_unread further root os ps p e (λ j. not_after ps qs p h j i))))

pub items_append : (further : Further) (root : StorageRoot) (os : List Opening) (ps qs : List Place) → items_at further root os (ps ++ qs) ≡ items_at further root os ps ++ items_at further root os qs
unfolding items_at
items_append further root os ps qs = map-append _ ps qs

pub items_then : (further : Further) (root : StorageRoot) (os os' : List Opening) (ps qs : List Place) → IsAscending place_cmp (ps ++ qs)
    → content_trail further root os ≡ hashed_among further root ps → content_trail further root os' ≡ hashed_among further root qs → items_at further root (os ++ os') (ps ++ qs) ≡ items_at further root os ps ++ items_at further root os' qs
items_then further root os os' ps qs h e f =
    items_append further root (os ++ os') ps qs ∙ ap (λ is. is ++ items_at further root (os ++ os') qs) (items_before further root os os' ps qs h f) ∙ ap (λ is. items_at further root os ps ++ is) (items_behind further root os os' ps qs h e)

-- ---- calls

pub audits_over : {further : Further} {root : StorageRoot} {s t : Store} {ps ls hs : List Place} {os : List Opening} → Audits further root s t ps ls hs os → t.tree ≡ root
audits_over h = h.did.tree ∙ h.over
