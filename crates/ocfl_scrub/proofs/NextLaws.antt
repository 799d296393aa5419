-- Between the last item of a part that was taken and a hashed file that is next, no inventory of it
-- is read: each object whose inventory is read is an item, and none of them is hashed.
use Rattle.std.proofs.Common.{◌≡◌, ◌≢◌, inl, inr, List, [], ◌∷◌, ◌++◌, refl, sym, ◌∙◌, ap, subst, true, false, ◌+◌, Option, Some, None, length, length-append, filter}
use Rattle.std.specs.{Prelude.{nat_lt}, Ordering.{is_lt}}
use Rattle.ocfl_tree.specs.{Place.{Place, place_cmp}, Ascending.{IsAmong, IsAscending}}
use Rattle.ocfl_tree.specs.StorageRoot.{StorageRoot, dir}
use Rattle.ocfl_tree.proofs.Orders.{true_not_false, before_each, among_filter, among_from_filter}
use Rattle.ocfl_inventory.specs.{Table.{Named}}
use Rattle.ocfl_inventory.specs.Declaration.{Declared, undeclared, known, unknown, several}
use Rattle.ocfl_rules.specs.Zone.{root_declared, seen, zone, inside}
use Rattle.ocfl_rules.specs.Head.{root_notes_by, head_notes_by}
use Rattle.ocfl_rules.specs.Lines.{is_empty, notes_in, common_cost, common_notes, cost_of, named_at}
use Rattle.ocfl_rules.specs.Inventories.{further_cost, notes, is_hashed, version_cost, version_inventory_in}
use Rattle.ocfl_rules.specs.Objects.{HasInventory}
use Rattle.ocfl_rules.specs.Due.{item_places, due}
use Rattle.ocfl_rules.specs.Between.{IsBeyond, IsWithin, read_between}
use Rattle.ocfl_rules.specs.Parts.{Part, lies_in}
use Rattle.ocfl_rules.proofs.{FurtherLaws.{common_lines}, PartLaws.{places_within_is}}
use Rattle.ocfl_rules.proofs.Trails.{filter_append}
use Rattle.ocfl_rules.proofs.BetweenLaws.{read_on}
use Rattle.ocfl_rules.proofs.ObjectLaws.{object_by_zone, read_part, object_seen}
use Rattle.ocfl_item.proofs.ItemLaws.{clean_some}
use Rattle.ocfl_report.specs.declared.further.Further.{Further}
use Rattle.ocfl_report.specs.declared.further.Further.TheVariants.{Nothing, Inventories}
use Rattle.ocfl_scrub.proofs.{OrderLaws.{item_among}, PartStarts.{due_within_ascends}}
use Rattle.ocfl_scrub.proofs.PassLaws.{among_beyond}
use Rattle.ocfl_scrub.specs.Starting.{due_within, read_in}

-- ---- the storage root and each object with an inventory are items

root_some : (root : StorageRoot) (d : Declared) → root_notes_by root d ≢ []
root_some root undeclared e = cc
root_some root several e = cc
root_some root (unknown t) e = cc
root_some root (known v) e = clean_some _ e

some_among : (ps : List Place) (p : Place) → IsAmong ps p → is_empty ps ≡ false
some_among [] p i = absurd i
some_among (q ∷ ps) p i = refl

-- so an item is due at the start
pub root_is_due : (further : Further) (root : StorageRoot) → is_empty (due further root None) ≡ false
unfolding due
root_is_due further root = some_among (item_places further root) [] (item_among further root [] (common_lines further root None [] (root_some root (root_declared root))))

object_lines : (further : Further) (root : StorageRoot) (o : Place) → HasInventory root o → notes further root None o ≢ []
object_lines further root [] h = absurd (h.object.below_root refl)
object_lines further root (n ∷ p) h =
    let whole : zone root (n ∷ p) ≡ inside (n ∷ p) [] = (object_by_zone root (n ∷ p)).0 h.object in
    let head : common_notes root None (n ∷ p) ≡ head_notes_by root (n ∷ p) (known h.version.0) = ap (notes_in root (n ∷ p) None) whole ∙ ap (head_notes_by root (n ∷ p)) h.version.1 in
    common_lines further root None (n ∷ p) (λ e. clean_some _ (sym head ∙ e))

directory_free : (ns : List Named) → cost_of ns None (Some dir) ≡ 0
directory_free [] = refl
directory_free (n ∷ ns) = refl

-- no table names an object, and it is no inventory of a version
object_free : (root : StorageRoot) (o : Place) → HasInventory root o → common_cost root None o ≡ 0
object_free root o h = ap (cost_of (named_at root o) None) (object_seen root o h) ∙ directory_free (named_at root o)

object_adds_nothing : (root : StorageRoot) (o : Place) → HasInventory root o → further_cost root None o ≡ 0
object_adds_nothing root o h = ap (λ z. version_cost root None (version_inventory_in z (seen root o))) ((object_by_zone root o).0 h.object)

object_not_hashed : (further : Further) (root : StorageRoot) (o : Place) → HasInventory root o → is_hashed further root o ≡ true → ⊥
object_not_hashed Nothing root o h e = true_not_false (sym e ∙ ap (nat_lt 0) (object_free root o h))
object_not_hashed Inventories root o h e =
    true_not_false (sym e ∙ ap (λ n. nat_lt 0 (n + further_cost root None o)) (object_free root o h) ∙ ap (λ n. nat_lt 0 (0 + n)) (object_adds_nothing root o h))

-- ---- from the last item of a part to the next

module _ (further : Further) (root : StorageRoot) (part : Part) where
  due_among : (last : Option Place) (p : Place) → IsAmong (item_places further root) p → lies_in part p ≡ true → IsBeyond last p → IsAmong (due_within further root part last) p
  unfolding due
  due_among None p i h b = subst (λ ps. IsAmong ps p) (sym (places_within_is part (item_places further root))) (among_filter (lies_in part) (item_places further root) p i h)
  due_among (Some a) p i h b =
      subst (λ ps. IsAmong ps p) (sym (places_within_is part (due further root (Some a))))
      (among_filter (lies_in part) (due further root (Some a)) p (among_filter (λ q. is_lt (place_cmp a q)) (item_places further root) p i (ap is_lt b)) h)

  from_due : (last : Option Place) (p : Place) → IsAmong (due_within further root part last) p → IsAmong (due further root last) p × (lies_in part p ≡ true)
  from_due last p i = among_from_filter (lies_in part) (due further root last) p (subst (λ ps. IsAmong ps p) (places_within_is part (due further root last)) i)

  -- what is read of the part up to a place and from there on is what is read of it in all
  read_in_on : (from to : Option Place) (b : Place) → IsBeyond from b → IsWithin to b → read_in root part from (Some b) ++ read_in root part (Some b) to ≡ read_in root part from to
  read_in_on from to b l w =
      ap (λ xs. xs ++ read_in root part (Some b) to) (places_within_is part (read_between root from (Some b)))
      ∙ ap (λ xs. filter (lies_in part) (read_between root from (Some b)) ++ xs) (places_within_is part (read_between root (Some b) to))
      ∙ sym (filter_append (lies_in part) (read_between root from (Some b)) (read_between root (Some b) to))
      ∙ ap (filter (lies_in part)) (read_on root from to b l w) ∙ sym (places_within_is part (read_between root from to))

  module _ (last : Option Place) (next : Place) (rest : List Place) (least : due_within further root part last ≡ next ∷ rest) (hashed : is_hashed further root next ≡ true) where
    no_object : (o : Place) → lies_in part o ≡ true → IsBeyond last o → is_lt (place_cmp next o) ≡ false → HasInventory root o → ⊥
    no_object o i b w h = by (subst (λ ps. IsAmong ps o) least (due_among last o (item_among further root o (object_lines further root o h)) i b))
      where
        by : IsAmong (next ∷ rest) o → ⊥
        by (inl e) = object_not_hashed further root o h (ap (is_hashed further root) e ∙ hashed)
        by (inr j) =
            let up : IsAscending place_cmp (next ∷ rest) = subst (IsAscending place_cmp) least (due_within_ascends further root part last) in
            true_not_false (sym (ap is_lt (before_each place_cmp next rest up.0 o j)) ∙ w)

    nothing_read : read_in root part last (Some next) ≡ []
    nothing_read = by (read_in root part last (Some next)) refl
      where
        by : (os : List Place) → read_in root part last (Some next) ≡ os → os ≡ []
        by [] e = refl
        by (o ∷ os) e =
            let i = among_from_filter (lies_in part) (read_between root last (Some next)) o
            (subst (λ ps. IsAmong ps o) (sym e ∙ places_within_is part (read_between root last (Some next))) (inl refl)) in
            let k = (read_part root last (Some next) o).0 i.0 in
            absurd (no_object o i.1 k.0 k.1.0 k.1.1)

    -- what is read up to the next item and from the last one on is what is read in all
    pub read_parts : (from : Option Place) → IsAmong (due_within further root part from) next
        → length (read_in root part from (Some next)) + length (read_in root part last None) ≡ length (read_in root part from None)
    read_parts from i =
        let far : (x : Option Place) → IsAmong (due_within further root part x) next → IsBeyond x next = λ x j. among_beyond further root x next (from_due x next j).0 in
        let here : IsBeyond last next = far last (subst (λ ps. IsAmong ps next) (sym least) (inl refl)) in
        let behind : read_in root part (Some next) None ≡ read_in root part last None = ap (λ os. os ++ read_in root part (Some next) None) (sym nothing_read) ∙ read_in_on last None next here tt in
        sym (length-append (read_in root part from (Some next)) (read_in root part last None))
        ∙ ap length (ap (λ os. read_in root part from (Some next) ++ os) (sym behind) ∙ read_in_on from None next (far from i) tt)
