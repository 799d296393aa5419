-- Parts that are audited apart, each with what it could not read, are the audit of what they could
-- not read together.
use Rattle.std.proofs.Common.{◌≡◌, inl, inr, ℕ, List, [], ◌∷◌, ◌++◌, refl, sym, ◌∙◌, ap, true, false, Bool, map, filter, Some, None}
use Rattle.std.specs.{Prelude.{cond, flat_map}, List.{AllByRecursion}, Ordering.{is_eq}}
use Rattle.std.specs.declared.cmp.Ordering.{Ordering}
use Rattle.std.specs.declared.cmp.Ordering.TheVariants.{Less, Equal, Greater}
use Rattle.ocfl_tree.specs.{Place.{Place, place_cmp, place_eq}, Ascending.{IsAscending, IsAmong}}
use Rattle.ocfl_tree.specs.StorageRoot.{StorageRoot}
use Rattle.ocfl_tree.proofs.Orders.{place_cmp_exact, true_not_false, among_from_filter}
use Rattle.ocfl_report.specs.Text.{lines_text, text}
use Rattle.ocfl_report.specs.declared.further.Further.{Further}
use Rattle.ocfl_rules.specs.Audit.{Unread, given_by, item_of, audit, total_cost}
use Rattle.ocfl_rules.specs.Due.{item_places}
use Rattle.ocfl_rules.specs.Runs.{total_files, sum_of}
use Rattle.ocfl_rules.specs.Parts.{Part, lies_in, within, places_within, parts_of, unread_in, together, audited_apart}
use Rattle.ocfl_rules.proofs.DueLaws.{item_read}
use Rattle.ocfl_rules.proofs.PartLaws.{flat_flat, kept_is, places_within_is, within_by_places, items_join, lies_once, costs_sum, files_sum}

-- ---- what is given at a place

-- what is in a part of what could not be read
pub unread_is : (part : Part) (u : Unread) → unread_in part u ≡ filter (λ e. lies_in part e.0) u
unread_is part u = kept_is part (λ (e : Place × ℕ). e.0) u

module _ (z : Place) where
  given_left : (u v : Unread) → given_by v z ≡ None → given_by (u ++ v) z ≡ given_by u z
  given_left [] v h = h
  given_left (e ∷ u) v h = ap (cond (place_eq e.0 z) (Some e.1)) (given_left u v h)

  given_right : (u v : Unread) → given_by u z ≡ None → given_by (u ++ v) z ≡ given_by v z
  given_right [] v h = refl
  given_right (e ∷ u) v h = by (place_eq e.0 z) h (given_right u v)
    where
      by : (b : Bool) → cond b (Some e.1) (given_by u z) ≡ None → (given_by u z ≡ None → given_by (u ++ v) z ≡ given_by v z) → cond b (Some e.1) (given_by (u ++ v) z) ≡ given_by v z
      by true k f = absurd cc
      by false k f = f k

  module _ (part : Part) where
    -- of a place in the part nothing is left out
    given_in_kept : (u : Unread) → lies_in part z ≡ true → given_by (filter (λ e. lies_in part e.0) u) z ≡ given_by u z
    given_in_kept [] h = refl
    given_in_kept (e ∷ u) h = by (lies_in part e.0) refl (given_in_kept u h)
      where
        other : (t : Ordering) → place_cmp e.0 z ≡ t → lies_in part e.0 ≡ false → given_by u z ≡ cond (is_eq t) (Some e.1) (given_by u z)
        other Less f g = refl
        other Equal f g = absurd (true_not_false (sym h ∙ ap (lies_in part) (sym (place_cmp_exact e.0 z f)) ∙ g))
        other Greater f g = refl

        by : (b : Bool) → lies_in part e.0 ≡ b → given_by (filter (λ e. lies_in part e.0) u) z ≡ given_by u z
            → given_by (cond b (e ∷ filter (λ e. lies_in part e.0) u) (filter (λ e. lies_in part e.0) u)) z ≡ cond (place_eq e.0 z) (Some e.1) (given_by u z)
        by true f k = ap (cond (place_eq e.0 z) (Some e.1)) k
        by false f k = k ∙ other (place_cmp e.0 z) refl f

    -- and of one outside nothing is given
    given_out_kept : (u : Unread) → lies_in part z ≡ false → given_by (filter (λ e. lies_in part e.0) u) z ≡ None
    given_out_kept [] h = refl
    given_out_kept (e ∷ u) h = by (lies_in part e.0) refl (given_out_kept u h)
      where
        other : (t : Ordering) → place_cmp e.0 z ≡ t → lies_in part e.0 ≡ true
            → cond (is_eq t) (Some e.1) (given_by (filter (λ e. lies_in part e.0) u) z) ≡ given_by (filter (λ e. lies_in part e.0) u) z
        other Less f g = refl
        other Equal f g = absurd (true_not_false (sym g ∙ ap (lies_in part) (place_cmp_exact e.0 z f) ∙ h))
        other Greater f g = refl

        by : (b : Bool) → lies_in part e.0 ≡ b → given_by (filter (λ e. lies_in part e.0) u) z ≡ None
            → given_by (cond b (e ∷ filter (λ e. lies_in part e.0) u) (filter (λ e. lies_in part e.0) u)) z ≡ None
        by true f k = other (place_cmp e.0 z) refl f ∙ k
        by false f k = k

    given_in : (u : Unread) → lies_in part z ≡ true → given_by (unread_in part u) z ≡ given_by u z
    given_in u h = ap (λ v. given_by v z) (unread_is part u) ∙ given_in_kept u h

    given_out : (u : Unread) → lies_in part z ≡ false → given_by (unread_in part u) z ≡ None
    given_out u h = ap (λ v. given_by v z) (unread_is part u) ∙ given_out_kept u h

  -- ---- of several parts, of which the place is in one

  -- what the audit of each part in which the place is could not read there is what this says
  abbrev AgreeHere : Unread → List (Part × Unread) → Type 0
  AgreeHere unread parts = AllByRecursion (λ e. lies_in e.0 z ≡ true → given_by e.1 z ≡ given_by unread z) parts

  none_given : (parts : List (Part × Unread)) → filter (λ part. lies_in part z) (map (λ e. e.0) parts) ≡ [] → given_by (together parts) z ≡ None
  none_given [] h = refl
  none_given (e ∷ parts) h = by (lies_in e.0 z) refl h (none_given parts)
    where
      by : (b : Bool) → lies_in e.0 z ≡ b → cond b (e.0 ∷ filter (λ part. lies_in part z) (map (λ e. e.0) parts)) (filter (λ part. lies_in part z) (map (λ e. e.0) parts)) ≡ []
          → (filter (λ part. lies_in part z) (map (λ e. e.0) parts) ≡ [] → given_by (together parts) z ≡ None) → given_by (unread_in e.0 e.1 ++ together parts) z ≡ None
      by true f k more = absurd cc
      by false f k more = given_right (unread_in e.0 e.1) (together parts) (given_out e.0 e.1 f) ∙ more k

  nothing_to_say : (unread : Unread) (parts : List (Part × Unread)) → filter (λ part. lies_in part z) (map (λ e. e.0) parts) ≡ [] → AgreeHere unread parts
  nothing_to_say unread [] h = tt
  nothing_to_say unread (e ∷ parts) h = by (lies_in e.0 z) refl h (nothing_to_say unread parts)
    where
      by : (b : Bool) → lies_in e.0 z ≡ b → cond b (e.0 ∷ filter (λ part. lies_in part z) (map (λ e. e.0) parts)) (filter (λ part. lies_in part z) (map (λ e. e.0) parts)) ≡ []
          → (filter (λ part. lies_in part z) (map (λ e. e.0) parts) ≡ [] → AgreeHere unread parts) → AgreeHere unread (e ∷ parts)
      by true f k more = absurd cc
      by false f k more = (λ g. absurd (true_not_false (sym g ∙ f)), more k)

  agree_also : (u v : Unread) → given_by u z ≡ given_by v z → (parts : List (Part × Unread)) → AgreeHere u parts → AgreeHere v parts
  agree_also u v e [] h = tt
  agree_also u v e (x ∷ parts) h = (λ g. h.0 g ∙ e, agree_also u v e parts h.1)

  one_given : (parts : List (Part × Unread)) (one : Part) → filter (λ part. lies_in part z) (map (λ e. e.0) parts) ≡ one ∷ [] → AgreeHere (together parts) parts
  one_given [] one h = tt
  one_given (e ∷ parts) one h = by (lies_in e.0 z) refl h (one_given parts one)
    where
      by : (b : Bool) → lies_in e.0 z ≡ b → cond b (e.0 ∷ filter (λ part. lies_in part z) (map (λ e. e.0) parts)) (filter (λ part. lies_in part z) (map (λ e. e.0) parts)) ≡ one ∷ []
          → (filter (λ part. lies_in part z) (map (λ e. e.0) parts) ≡ one ∷ [] → AgreeHere (together parts) parts) → AgreeHere (unread_in e.0 e.1 ++ together parts) (e ∷ parts)
      by true f k more =
          let others : filter (λ part. lies_in part z) (map (λ e. e.0) parts) ≡ [] = cc in
          (λ g. sym (given_left (unread_in e.0 e.1) (together parts) (none_given parts others) ∙ given_in e.0 e.1 f), nothing_to_say (unread_in e.0 e.1 ++ together parts) parts others)
      by false f k more = (
        λ g. absurd (true_not_false (sym g ∙ f)),
        agree_also (together parts) (unread_in e.0 e.1 ++ together parts)
            (sym (given_right (unread_in e.0 e.1) (together parts) (given_out e.0 e.1 f))) parts (more k),
      )

-- ---- items if what was read agrees

items_alike : (further : Further) (root : StorageRoot) (u v : Unread) (ps : List Place) → ((p : Place) → IsAmong ps p → given_by u p ≡ given_by v p) → map (item_of further root u) ps ≡ map (item_of further root v) ps
unfolding item_read
items_alike further root u v [] h = refl
items_alike further root u v (p ∷ ps) h = ap (λ g. item_read further root p g ∷ map (item_of further root u) ps) (h p (inl refl)) ∙ ap (λ is. item_of further root v p ∷ is) (items_alike further root u v ps (λ q i. h q (inr i)))

-- the same of each place
abbrev Agree : Unread → List (Part × Unread) → Type 0
Agree unread parts = AllByRecursion (λ e. (z : Place) → lies_in e.0 z ≡ true → given_by e.1 z ≡ given_by unread z) parts

at_each : (unread : Unread) (parts : List (Part × Unread)) → ((z : Place) → AgreeHere z unread parts) → Agree unread parts
at_each unread [] h = tt
at_each unread (e ∷ parts) h = (λ z. (h z).0, at_each unread parts (λ z. (h z).1))

module _ (further : Further) (root : StorageRoot) where
  part_alike : (part : Part) (u v : Unread) → ((z : Place) → lies_in part z ≡ true → given_by u z ≡ given_by v z) → within part (audit further root u) ≡ within part (audit further root v)
  part_alike part u v h =
      within_by_places further root u part ∙ items_alike further root u v (places_within part (item_places further root)) (λ z i. h z (inside z i)) ∙ sym (within_by_places further root v part)
    where
      inside : (z : Place) → IsAmong (places_within part (item_places further root)) z → lies_in part z ≡ true
      inside z i = (among_from_filter (lies_in part) (item_places further root) z (rw (sym (places_within_is part (item_places further root))) i)).1

  parts_alike : (unread : Unread) (parts : List (Part × Unread)) → Agree unread parts → audited_apart further root parts ≡ flat_map (λ part. within part (audit further root unread)) (map (λ e. e.0) parts)
  parts_alike unread [] h = refl
  parts_alike unread (e ∷ parts) h =
      ap (λ l. l ++ audited_apart further root parts) (part_alike e.0 e.1 unread h.0) ∙ ap (λ l. within e.0 (audit further root unread) ++ l) (parts_alike unread parts h.1)

module _ (root : StorageRoot) (parts : List (Part × Unread)) (ps : List Place) (up : IsAscending place_cmp ps) (are : map (λ e. e.0) parts ≡ parts_of ps) where
  agree : Agree (together parts) parts
  agree = at_each (together parts) parts (λ z. let one = lies_once z ps up in one_given z parts one.0 (ap (filter (λ part. lies_in part z)) are ∙ one.1))

module _ (further : Further) (root : StorageRoot) (parts : List (Part × Unread)) (ps : List Place) (up : IsAscending place_cmp ps) (are : map (λ e. e.0) parts ≡ parts_of ps) where
  pub apart_join : audited_apart further root parts ≡ audit further root (together parts)
  apart_join =
      parts_alike further root (together parts) parts (agree root parts ps up are) ∙ ap (flat_map (λ part. within part (audit further root (together parts)))) are ∙ items_join further root ps up (together parts)

  pub apart_texts : flat_map (λ e. text (within e.0 (audit further root e.1))) parts ≡ text (audit further root (together parts))
  apart_texts = sym (flat_flat (λ i. lines_text i.lines) (λ (e : Part × Unread). within e.0 (audit further root e.1)) parts) ∙ ap text apart_join

  pub apart_costs : sum_of (map (λ e. total_cost (within e.0 (audit further root e.1))) parts) ≡ total_cost (audit further root (together parts))
  apart_costs = costs_sum (λ (e : Part × Unread). within e.0 (audit further root e.1)) parts ∙ ap total_cost apart_join

  pub apart_files : sum_of (map (λ e. total_files (within e.0 (audit further root e.1))) parts) ≡ total_files (audit further root (together parts))
  apart_files = files_sum (λ (e : Part × Unread). within e.0 (audit further root e.1)) parts ∙ ap total_files apart_join
