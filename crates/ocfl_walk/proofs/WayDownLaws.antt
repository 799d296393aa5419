-- What was done on the way down to a place, in words of single calls.
use Rattle.std.proofs.Common.{◌≡◌, ◌⊎◌, inl, inr, List, [], ◌∷◌, ◌++◌, refl, sym, ◌∙◌, ap, subst, true, false, Bool, map, filter, Option, Some, None, arith, length}
use Rattle.std.proofs.lemmas.List.{append-nil}
use Rattle.std.specs.Prelude.{IfSome, codes, cond, not}
use Rattle.ocfl_tree.specs.{Place.{Place, Text}, Ascending.{IsAmong}, StorageRoot.{StorageRoot}}
use Rattle.ocfl_tree.specs.{Store.{Store}, declared.store.Opening.{Opening}}
use Rattle.ocfl_tree.proofs.Orders.{among_left, among_right}
use Rattle.ocfl_report.specs.declared.further.Further.{Further}
use Rattle.ocfl_rules.specs.Objects.{IsObjectRoot}
use Rattle.ocfl_rules.specs.Trail.{content_trail, heads_of, inventory_of, is_meta, reads_inventory}
use Rattle.ocfl_rules.specs.{Walk.{is_reached}, Zone.{beginnings, zone}}
use Rattle.ocfl_rules.proofs.{MetaLaws.{head_shown}, Trails.{none_unread}}
use Rattle.ocfl_item.specs.Looking.{way_to}
use Rattle.ocfl_item.proofs.WantedLaws.{among_last}
use Rattle.ocfl_walk.specs.WalkCalls.{GoesDown, IsRootFirst, holder, way_of}
use Rattle.ocfl_walk.proofs.{FindLaws.{opened_meta}, FoundLaws.{none_hashed}, HolderLaws.{held_above}, OnWay.{on_way}}

-- ---- openings of inventories

one_head : (root : StorageRoot) (trail : List Opening) (x : Opening) (o : Place) → IsAmong trail x → heads_of root (x ∷ []) ≡ o ∷ [] → IsAmong (heads_of root trail) o
one_head root [] x o i h = absurd i
one_head root (y ∷ trail) x o (inl e) h =
    let own : inventory_of (zone root y.place) ≡ o ∷ [] = ap (λ z. inventory_of (zone root z.place)) (sym e) ∙ sym (append-nil (inventory_of (zone root x.place))) ∙ h in
    among_left (inventory_of (zone root y.place)) (heads_of root trail) o (subst (λ os. IsAmong os o) (sym own) (inl refl))
one_head root (y ∷ trail) x o (inr i) h = among_right (inventory_of (zone root y.place)) (heads_of root trail) o (one_head root trail x o i h)

-- ---- the way down

module _ (further : Further) (root : StorageRoot) (s t : Store) (p : Option Place) (g : GoesDown further root s t p) where
  nothing_opened : content_trail further root g.trail ≡ []
  nothing_opened = g.audits.opened ∙ none_hashed further root

  pub down_inventories : (trail : List Opening)
      × ((t.openings ≡ s.openings ++ trail)
      × ((x : Opening) (o : Place) → IsAmong trail x → IsObjectRoot root o → x.place ≡ o ++ codes "inventory.json" ∷ [] → (reads_inventory root o ≡ true) × ((q : Place) × (p ≡ Some (o ++ q)))))
  down_inventories = (g.trail, (g.audits.did.openings_are, λ x o i object is. by p o (held x o i object is)))
    where
      held : (x : Opening) (o : Place) → IsAmong g.trail x → IsObjectRoot root o → x.place ≡ o ++ codes "inventory.json" ∷ [] → IsAmong (holder root p) o
      held x o i object is =
          let opened : IsAmong g.heads o = subst (λ os. IsAmong os o) g.audits.heads_are (one_head root g.trail x o i (head_shown root x o object is)) in
          subst (λ os. IsAmong os o) (sym g.heads_front.1) (among_left g.heads g.heads_front.0 o opened)

      by : (p : Option Place) (o : Place) → IsAmong (holder root p) o → (reads_inventory root o ≡ true) × ((q : Place) × (p ≡ Some (o ++ q)))
      by None o i = absurd i
      by (Some d) o i = let k = held_above root d o i in (k.0, (k.1.0, ap (λ y. Some y) k.1.1))

  pub down_metadata : (trail : List Opening) × ((t.openings ≡ s.openings ++ trail) × ((x : Opening) → IsAmong trail x → is_meta further root x.place ≡ true))
  down_metadata = (g.trail, (g.audits.did.openings_are, opened_meta further root g.trail nothing_opened))

  pub down_listed : (listed : List Place) × ((t.listings ≡ s.listings ++ listed) × ((d : Place) → IsAmong listed d → (q : Place) × (p ≡ Some (d ++ q))))
  down_listed = (g.listed, (g.audits.did.listings_are, λ d i. by p d (subst (λ ds. IsAmong ds d) (sym g.listed_front.1) (among_left g.listed g.listed_front.0 d i))))
    where
      by : (p : Option Place) (d : Place) → IsAmong (way_of p) d → (q : Place) × (p ≡ Some (d ++ q))
      by None d i = absurd i
      by (Some e) d i = let k = on_way e d i in (k.0, ap (λ y. Some y) k.1)

  pub down_entered : (listed : List Place) × ((t.listings ≡ s.listings ++ listed) × ((d : Place) → IsAmong (way_of p) d → is_reached root d ≡ true → IsAmong listed d))
  down_entered = (g.listed, (g.audits.did.listings_are, g.all_listed))

  pub down_root : (q : Place) → p ≡ Some q → (rest : List Place) × (t.listings ≡ s.listings ++ [] ∷ rest)
  down_root q e =
      let first : IsRootFirst g.listed = subst (λ x. IfSome x (λ y. IsRootFirst g.listed)) e g.root_first in
      (first.0, g.audits.did.listings_are ∙ ap (λ l. s.listings ++ l) first.1)

  pub down_unfailing : t.failures ≡ s.failures
  down_unfailing = let none = ap length (none_unread further root g.trail nothing_opened) in let all = g.audits.did.failures_are in omega (arith, none, all)
