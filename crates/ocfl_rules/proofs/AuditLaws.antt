-- The audit fits its description, and is known by it.
use Rattle.std.proofs.Common.{◌≡◌, ◌↔◌, List, [], ◌∷◌, refl, sym, ◌∙◌, map}
use Rattle.std.specs.List.{AllByRecursion}
use Rattle.ocfl_tree.specs.{Place.{Place, place_cmp}, Ascending.{IsAmong, IsAscending}}
use Rattle.ocfl_tree.specs.StorageRoot.{StorageRoot}
use Rattle.ocfl_report.specs.{Line.{Item}, declared.further.Further.{Further}}
use Rattle.ocfl_rules.specs.Inventories.{notes, cost}
use Rattle.ocfl_rules.specs.Audit.{Unread, candidates, given_by, item_of, audit, IsAudit}
use Rattle.ocfl_rules.proofs.AuditExists.{made_items}
use Rattle.ocfl_rules.proofs.FurtherLaws.{notes_candidate}
use Rattle.ocfl_tree.proofs.Orders.{place_cmp_total, place_cmp_exact, ascending_unique}

module _ (item : Place → Item) where
  -- items that are those of their places are known by these
  items_from_places : (items : List Item) → AllByRecursion (λ i. i ≡ item i.place) items → items ≡ map item (map (λ i. i.place) items)
  items_from_places [] h = refl
  items_from_places (i ∷ items) h = λ k. h.0 k ∷ items_from_places items h.1 k

  pub items_unique : (xs ys : List Item) → IsAscending place_cmp (map (λ i. i.place) xs) → IsAscending place_cmp (map (λ i. i.place) ys)
      → AllByRecursion (λ i. i ≡ item i.place) xs → AllByRecursion (λ i. i ≡ item i.place) ys
      → ((p : Place) → IsAmong (map (λ i. i.place) xs) p ↔ IsAmong (map (λ i. i.place) ys) p) → xs ≡ ys
  items_unique xs ys a b each every same =
      let places : map (λ i. i.place) xs ≡ map (λ i. i.place) ys = ascending_unique place_cmp_total place_cmp_exact _ _ a b same in
      items_from_places xs each ∙ (λ j. map item (places j)) ∙ sym (items_from_places ys every)

pub audit_unique : (further : Further) (root : StorageRoot) (unread : Unread) (xs ys : List Item) → IsAudit further root unread xs → IsAudit further root unread ys → xs ≡ ys
audit_unique further root unread xs ys h k =
    items_unique (item_of further root unread) xs ys h.ascends k.ascends h.each k.each (λ p. (λ a. (k.exactly p).1 ((h.exactly p).0 a), λ a. (h.exactly p).1 ((k.exactly p).0 a)))

pub audit_is : (further : Further) (root : StorageRoot) (unread : Unread) → IsAudit further root unread (audit further root unread)
audit_is further root unread =
    let is = made_items (λ p. notes further root (given_by unread p) p) (λ p. cost further root (given_by unread p) p) (candidates root) (λ p. notes_candidate further root (given_by unread p) p) in
    record { ascends = is.0; each = is.1; exactly = is.2 }
