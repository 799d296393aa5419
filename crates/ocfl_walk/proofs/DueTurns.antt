-- What is due before and after a turn.
use Rattle.std.proofs.Common.{◌≡◌, ◌≢◌, List, [], ◌∷◌, ◌++◌, refl, sym, ◌∙◌, ap, subst, map, filter, Option, Some, None, not}
use Rattle.std.specs.{Ordering.{is_lt}, declared.cmp.Ordering.TheVariants.{Less}}
use Rattle.ocfl_tree.specs.{Place.{Place, place_cmp}, Ascending.{IsAmong}}
use Rattle.ocfl_tree.specs.StorageRoot.{StorageRoot, Leaf}
use Rattle.ocfl_tree.proofs.Orders.{place_cmp_total, not_below_itself, among_filter, among_from_filter}
use Rattle.ocfl_report.specs.Line.{Item}
use Rattle.ocfl_report.specs.declared.further.Further.{Further}
use Rattle.ocfl_inventory.specs.Note.{Note, lines_at}
use Rattle.ocfl_rules.specs.Audit.{Unread, item_of, audit, after}
use Rattle.ocfl_rules.specs.Due.{due, items_at}
use Rattle.ocfl_rules.specs.Head.{on}
use Rattle.ocfl_rules.specs.Inventories.{notes}
use Rattle.ocfl_rules.specs.Lines.{is_empty}
use Rattle.ocfl_rules.specs.Walk.{item_at}
use Rattle.ocfl_rules.specs.Stack.{Frame, IsListed, IsStack, NoPathBetween, NoneSeenBetween, seen_places}
use Rattle.ocfl_rules.specs.Zone.{seen}
use Rattle.ocfl_rules.proofs.BelowLaws.{above, less_from}
use Rattle.ocfl_rules.proofs.DueLaws.{after_is_due}
use Rattle.ocfl_rules.proofs.MachineLaws.{IsNext, NextIs, from_root}
use Rattle.ocfl_rules.proofs.NextLaws.{walk_takes, walk_ends, seen_to}
use Rattle.ocfl_rules.proofs.BetweenLaws.{looked_step, read_step}
use Rattle.ocfl_rules.proofs.WayLaws.{is_closed}
use Rattle.ocfl_walk.specs.Standing.{Pile, IsStanding, frames_of}
use Rattle.ocfl_walk.specs.Internal.Standing.{IsFitIf, IsTurn, TurnIs, next_of, path_from, place_by, trimmed, turn_of}
use Rattle.ocfl_walk.specs.declared.stand.Turn.{Turn}
use Rattle.ocfl_item.specs.declared.meeting.Around.{Around}
use Rattle.ocfl_walk.specs.declared.stand.Turn.TheVariants as turn
use Rattle.ocfl_walk.proofs.{WalkCallLaws.{IsNear}, TurnLaws.{standing_trimmed, turn_is_next}}

places_at : (further : Further) (root : StorageRoot) (u : Unread) (ps : List Place) → map (λ i. i.place) (map (item_of further root u) ps) ≡ ps
places_at further root u [] = refl
places_at further root u (p ∷ ps) = ap (λ qs. p ∷ qs) (places_at further root u ps)

-- what is due, by the audit's items
due_places : (further : Further) (root : StorageRoot) (last : Option Place) → due further root last ≡ map (λ i. i.place) (after (audit further root []) last)
unfolding items_at
due_places further root last = sym (ap (map (λ i. i.place)) (after_is_due further root [] last) ∙ places_at further root [] (due further root last))

places_append : (xs ys : List Item) → map (λ i. i.place) (xs ++ ys) ≡ map (λ i. i.place) xs ++ map (λ i. i.place) ys
places_append [] ys = refl
places_append (x ∷ xs) ys = ap (λ zs. x.place ∷ zs) (places_append xs ys)

item_some : (further : Further) (root : StorageRoot) (x : Place) (ns : List Note) → notes further root None x ≡ ns → ns ≢ [] → map (λ i. i.place) (item_at further root [] x) ≡ x ∷ []
item_some further root x [] e n = absurd (n refl)
item_some further root x (m ∷ ns) e n = ap (λ ks. map (λ i. i.place) (on (not (is_empty (lines_at x ks))) (item_of further root [] x))) e

item_none : (further : Further) (root : StorageRoot) (x : Place) → notes further root None x ≡ [] → map (λ i. i.place) (item_at further root [] x) ≡ []
item_none further root x e = ap (λ ks. map (λ i. i.place) (on (not (is_empty (lines_at x ks))) (item_of further root [] x))) e

module _ (further : Further) (root : StorageRoot) where
  due_steps : (last x : Place) → after (audit further root []) (Some last) ≡ item_at further root [] x ++ after (audit further root []) (Some x)
      → due further root (Some last) ≡ map (λ i. i.place) (item_at further root [] x) ++ due further root (Some x)
  due_steps last x h =
      due_places further root (Some last) ∙ ap (map (λ i. i.place)) h ∙ places_append (item_at further root [] x) (after (audit further root []) (Some x))
      ∙ ap (λ ps. map (λ i. i.place) (item_at further root [] x) ++ ps) (sym (due_places further root (Some x)))

  -- a place with nothing before it, and what the stack leads to after it
  pub turn_by : (last x : Place) (fs : List Frame) → place_cmp last x ≡ Less → NoneSeenBetween root last x → NoPathBetween root last x → IsStack root x fs → IsListed root fs → IsTurn further root last x fs
  turn_by last x fs over sight path stack listed =
      let steps = due_steps last x (walk_takes further root (is_closed root) [] last x over sight path) in
      record {
        above = over;
        none_seen = sight;
        stack = stack;
        listed = listed;
        some = λ s. steps ∙ ap (λ ps. ps ++ due further root (Some x)) (item_some further root x _ refl s);
        none = λ s. steps ∙ ap (λ ps. ps ++ due further root (Some x)) (item_none further root x s);
      }

  turn_from : (last : Place) (k : Place × List Frame) → IsNext root (is_closed root) last k → IsTurn further root last k.0 k.1
  turn_from last k n = turn_by last k.0 k.1 n.above_last n.none_seen n.none_named n.stack n.listed

  pub near_turn : (last x : Place) (fs : List Frame) → IsTurn further root last x fs → IsNear root (Some last) x
  near_turn last x fs t = record { beyond = t.above; looked = looked_step root last x t.above t.none_seen; read = read_step root last x t.above t.none_seen }

  -- a place at which the stack stays is not seen
  unseen_if_stays : (last b : Place) (fs : List Frame) → place_cmp last b ≡ Less → IsStack root last fs → IsStack root b fs → (o : Option Leaf) → seen root b ≡ o → o ≡ None
  unseen_if_stays last b fs l h k None e = refl
  unseen_if_stays last b fs l h k (Some leaf) e =
      let same : filter (above last) (seen_places root) ≡ filter (above b) (seen_places root) = sym h ∙ k in
      let here = among_filter (above last) (seen_places root) b (seen_to root b leaf e) (ap is_lt l) in
      let there = among_from_filter (above b) (seen_places root) b (subst (λ xs. IsAmong xs b) same here) in
      absurd (not_below_itself place_cmp_total b (less_from _ there.1))

  pub turn_comes : (last : Place) (ps : List Pile) (a : Option Around) (t : Turn) → IsStanding further root last ps a → IsFitIf a
      → t ≡ turn_of (next_of (trimmed ps)) (path_from last a) → (t ≡ turn.Base → ⊥) → TurnIs further root last (trimmed ps) t
  turn_comes last ps a t h fit is base = by t base (subst (λ x. NextIs root (is_closed root) last (place_by root (trimmed ps) x)) (sym is) (turn_is_next root further (is_closed root) last ps a h fit))
    where
      by : (t : Turn) → (t ≡ turn.Base → ⊥) → NextIs root (is_closed root) last (place_by root (trimmed ps) t) → TurnIs further root last (trimmed ps) t
      by turn.Base n k = n refl
      by (turn.Entry e) n k = turn_from last _ k
      by (turn.Path b) n k = (turn_from last _ k, unseen_if_stays last b (frames_of (trimmed ps)) k.above_last (standing_trimmed root further last ps a h).stack k.stack (seen root b) refl)
      by turn.End n k = (k.0, due_places further root (Some last) ∙ ap (map (λ i. i.place)) (walk_ends further root (is_closed root) [] last k.0 k.1))

  -- the storage root comes first, and has lines
  pub due_first : notes further root None [] ≢ [] → due further root None ≡ [] ∷ due further root (Some [])
  due_first s =
      due_places further root None ∙ ap (map (λ i. i.place)) (from_root further root (is_closed root) []) ∙ places_append (item_at further root [] []) (after (audit further root []) (Some []))
      ∙ ap (λ ps. ps ++ map (λ i. i.place) (after (audit further root []) (Some []))) (item_some further root [] _ refl s)
      ∙ ap (λ ps. [] ∷ ps) (sym (due_places further root (Some [])))
