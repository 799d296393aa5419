-- The audit is the items of its places, and what could be read changes an item at its own place
-- alone.
use Rattle.std.proofs.Common.{◌≡◌, ℕ, List, [], ◌∷◌, refl, sym, ◌∙◌, ap, map, Option, Some, None, not}
use Rattle.std.specs.Ordering.{is_lt}
use Rattle.ocfl_tree.specs.{Place.{Place, place_cmp}, Ascending.{ascending}}
use Rattle.ocfl_tree.specs.{StorageRoot.{StorageRoot}, declared.store.Opening.{Opening}}
use Rattle.ocfl_report.specs.{Line.{Item}, declared.further.Further.{Further}}
use Rattle.ocfl_inventory.specs.Note.{Note, lines_at}
use Rattle.ocfl_rules.specs.Inventories.{notes, cost}
use Rattle.ocfl_rules.specs.Audit.{Unread, candidates, given_by, item_of, has_lines, audit, after}
use Rattle.ocfl_rules.specs.Lines.{is_empty}
use Rattle.ocfl_rules.specs.Due.{item_places, due, items_at}
use Rattle.ocfl_rules.specs.Walk.{items_of_place}
use Rattle.ocfl_rules.specs.Trail.{unread_of}
use Rattle.ocfl_rules.specs.Head.{on}
use Rattle.ocfl_rules.proofs.FurtherLaws.{notes_alike}
use Rattle.ocfl_rules.proofs.Lists.{map_filter, filter_same}
use Rattle.ocfl_rules.proofs.WalkLaws.{item_here}

-- ---- the audit by its places

pub empty_lines : (p : Place) (ns : List Note) → is_empty (lines_at p ns) ≡ is_empty ns
empty_lines p [] = refl
empty_lines p (n ∷ ns) = refl

pub audit_by_places : (further : Further) (root : StorageRoot) (unread : Unread) → audit further root unread ≡ map (item_of further root unread) (item_places further root)
unfolding item_places
audit_by_places further root unread = map_filter has_lines (item_of further root unread) places ∙ ap (map (item_of further root unread)) (filter_same _ _ same places)
  where
    places : List Place
    places = ascending place_cmp (candidates root)

    same : (p : Place) → not (is_empty (lines_at p (notes further root (given_by unread p) p))) ≡ not (is_empty (notes further root None p))
    same p = ap not (empty_lines p (notes further root (given_by unread p) p) ∙ notes_alike further root (given_by unread p) None p)

-- what is above a place in the audit is the items of what is due
pub after_is_due : (further : Further) (root : StorageRoot) (trail : List Opening) (last : Option Place) → after (audit further root (unread_of further root trail)) last ≡ items_at further root trail (due further root last)
unfolding due items_at
after_is_due further root trail None = audit_by_places further root (unread_of further root trail)
after_is_due further root trail (Some p) =
    ap (λ is. after is (Some p)) (audit_by_places further root (unread_of further root trail)) ∙ map_filter (λ i. is_lt (place_cmp p i.place)) (item_of further root (unread_of further root trail)) (item_places further root)

-- the item of a place, if this was read of it
unfoldable pub item_read : Further → StorageRoot → Place → Option ℕ → Item
item_read further root p g = record { place = p; lines = lines_at p (notes further root g p); cost = cost further root g p }

-- if two sets of unread files agree at a place, so do the audits there
pub items_agree : (further : Further) (root : StorageRoot) (u v : Unread) (p : Place) → given_by u p ≡ given_by v p → items_of_place p (audit further root u) ≡ items_of_place p (audit further root v)
unfolding item_read
items_agree further root u v p e =
    item_here further root u p ∙ ap (λ g. on (has_lines (item_read further root p g)) (item_read further root p g)) e ∙ sym (item_here further root v p)
