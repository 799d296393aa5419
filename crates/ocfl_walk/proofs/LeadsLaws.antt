-- Which names lead on, by how deep a directory is in its object.
use Rattle.std.proofs.Common.{◌≡◌, ◌≢◌, suc, ◌+◌, ◌-◌, ◌≤◌, List, [], ◌∷◌, ◌++◌, refl, sym, ◌∙◌, ap, subst, true, Bool, Option, None, Some, arith, length}
use Rattle.std.proofs.{lemmas.Bool.{leb-true}, lemmas.List.{length-append}}
use Rattle.std.specs.Prelude.{◌&&◌, nat_le}
use Rattle.ocfl_tree.specs.{Place.{Text, Place, text_eq}, StorageRoot.{StorageRoot}}
use Rattle.ocfl_tree.specs.declared.store.Entry.{Entry}
use Rattle.ocfl_inventory.specs.ListedPath.{is_version_name}
use Rattle.ocfl_rules.specs.Zone.{inside, zone, table_at, is_listed_zone, is_listed_in_object, is_listed_within, max_listed_depth}
use Rattle.ocfl_rules.specs.Walk.{step_listed}
use Rattle.ocfl_item.specs.{Ways.{IsAt}, declared.meeting.Around.{Around}}
use Rattle.ocfl_walk.specs.Internal.Standing.{IsAround, IsAroundIf}
use Rattle.ocfl_rules.proofs.{BelowLaws.{begins_front, begins_rest}, AuditExists.{zone_is}}
use Rattle.ocfl_walk.proofs.{OrderlyLaws.{begins_on}, ReachLaws.{reached_listed}}
use Rattle.ocfl_tree.proofs.Bools.{and_first}

pub may_depth : (d : Place) (n : Text) (b : Bool) → nat_le (suc (length d)) max_listed_depth && b ≡ true → length (d ++ n ∷ []) ≤ max_listed_depth
may_depth d n b h =
    let k : suc (length d) ≤ max_listed_depth = leb-true (suc (length d)) max_listed_depth (and_first (nat_le (suc (length d)) max_listed_depth) b h) in
    omega (arith, k, length-append d (n ∷ []))

around_here : (d : Place) (x : Option Around) (a : Around) → x ≡ Some a → IsAroundIf d x → IsAround d a
around_here d x a is h = subst (IsAroundIf d) is h

pub not_deeper : (d : Place) (x : Option Around) (a : Around) → x ≡ Some a → IsAroundIf d x → length a.place ≤ length d
not_deeper d x a is h =
    let r = begins_rest a.place d (around_here d x a is h).holds in
    omega (arith, ap length r.1, length-append a.place r.0)

-- an object that holds a directory holds what lies in it
pub around_on : (d : Place) (n : Text) (r : Place) (x : Option Around) → IsAroundIf d x → IsAroundIf (d ++ n ∷ r) x
around_on d n r None h = tt
around_on d n r (Some a) h = record { holds = begins_on a.place d (d ++ n ∷ r) h.holds (begins_front d (n ∷ r)); depth = h.depth; fit = h.fit }

module _ (root : StorageRoot) (d : Place) (n : Text) (es : List Entry) (a : Around) (at : IsAt root d es) (s : Place)
    (z : zone root d ≡ inside a.place s) (t : table_at root a.place ≡ Some a.table) where
  listed_here : is_listed_within a.table s ≡ true
  listed_here = sym (ap (is_listed_zone root) z ∙ ap (λ x. is_listed_in_object x s) t) ∙ reached_listed root d at.reached

  deep : length d ≡ length a.place + length s
  deep = ap length (zone_is root d a.place s z).whole ∙ length-append a.place s

  pub leads_zero : length d - length a.place ≡ 0 → is_version_name n ≡ step_listed a.table s n
  leads_zero h = by s deep
    where
      by : (s : Place) → length d ≡ length a.place + length s → is_version_name n ≡ step_listed a.table s n
      by [] e = refl
      by (v ∷ s) e = absurd (omega (arith, h, e))

  pub leads_one : length d - length a.place ≡ 1 → text_eq n a.table.content ≡ step_listed a.table s n
  leads_one h = by s deep listed_here
    where
      by : (s : Place) → length d ≡ length a.place + length s → is_listed_within a.table s ≡ true → text_eq n a.table.content ≡ step_listed a.table s n
      by [] e l = absurd (omega (arith, h, e))
      by (v ∷ []) e l = ap (λ b. b && text_eq n a.table.content) (sym l)
      by (v ∷ w ∷ s) e l = absurd (omega (arith, h, e))

  pub leads_more : length d - length a.place ≢ 0 → length d - length a.place ≢ 1 → true ≡ step_listed a.table s n
  leads_more h k = by s deep listed_here
    where
      by : (s : Place) → length d ≡ length a.place + length s → is_listed_within a.table s ≡ true → true ≡ step_listed a.table s n
      by [] e l = absurd (h (omega (arith, e)))
      by (v ∷ []) e l = absurd (k (omega (arith, e)))
      by (v ∷ w ∷ s) e l = sym l
