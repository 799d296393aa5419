-- Entries within an object whose head does not stop, by how many names they are below it.
use Rattle.std.proofs.Common.{◌≡◌, ℕ, zero, suc, ◌-◌, ◌+◌, ◌≤◌, [], ◌∷◌, ◌++◌, sym, ◌∙◌, ap, true, Some, Option, subst, arith, length, drop, append_assoc}
use Rattle.std.proofs.{lemmas.List.{length-append}, Math.Seq.{drop-append_seam}}
use Rattle.std.specs.{Prelude.{option_map}, List.{list_all}}
use Rattle.ocfl_tree.specs.{Place.{Place, Text}, StorageRoot.{StorageRoot}}
use Rattle.ocfl_tree.specs.declared.store.Entry.{Entry}
use Rattle.ocfl_report.specs.declared.further.Further.{Further}
use Rattle.ocfl_inventory.specs.ListedPath.{is_version_name}
use Rattle.ocfl_rules.specs.Zone.{inside, zone, is_entered, is_listed_in_object, is_listed_zone, beginnings}
use Rattle.ocfl_item.specs.{Internal.Content.{content_at, content_in}, Around.{IsMet}}
use Rattle.ocfl_item.specs.declared.meeting.Around.{Around}
use Rattle.ocfl_rules.proofs.AuditExists.{zone_is}
use Rattle.ocfl_tree.proofs.Bools.{and_second}
use Rattle.ocfl_item.proofs.LooksZones.{inside_step, zone_of_entered}

-- an entry of a version directory
pub record IsInVersion (root : StorageRoot) (o d e : Place) (n : Text) : Type 0 where
  pub version : Text
  pub directory : d ≡ o ++ version ∷ []
  pub zone : zone root e ≡ inside o (version ∷ n ∷ [])
  pub named : is_version_name version ≡ true

-- one within a content directory
pub record IsInContent (root : StorageRoot) (a : Around) (e : Place) : Type 0 where
  pub content : content_at root e ≡ Some (a.table, drop (length a.place) e)
  pub listed : is_listed_zone root (zone root e) ≡ true

two_more : (s r : ℕ) → r ≡ s + 1 → (r ≡ 1 → ⊥) → (r ≡ 2 → ⊥) → 2 ≤ s
two_more zero r h n m = absurd (n (omega (arith, h)))
two_more (suc zero) r h n m = absurd (m (omega (arith, h)))
two_more (suc (suc s)) r h n m = omega arith

module _ (further : Further) (root : StorageRoot) (d e : Place) (a : Around) (entry : Entry) (m : IsMet further root d (Some a) entry e) (r : ℕ) (sub : r ≡ length e - length a.place) where
  whole : e ≡ a.place ++ (m.part.0 ++ entry.name ∷ [])
  whole = m.is ∙ ap (λ x. x ++ entry.name ∷ []) (zone_is root d a.place m.part.0 m.part.1).whole ∙ append_assoc a.place m.part.0 (entry.name ∷ [])

  long : length e ≡ length a.place + (length m.part.0 + 1)
  long = ap length whole ∙ length-append a.place (m.part.0 ++ entry.name ∷ []) ∙ ap (λ k. length a.place + k) (length-append m.part.0 (entry.name ∷ []))

  zone_here : zone root e ≡ inside a.place (m.part.0 ++ entry.name ∷ [])
  zone_here = ap (zone root) m.is ∙ inside_step root d a.place m.part.0 entry.name m.part.1

  listed_here : is_listed_in_object (Some a.table) m.part.0 ≡ true
  listed_here = ap (λ x. is_listed_in_object x m.part.0) (sym m.part.2) ∙ ap (is_listed_zone root) (sym m.part.1)
      ∙ zone_of_entered root d (and_second (list_all (is_entered root) (beginnings d)) (is_entered root d) m.reached)

  pub in_object : r ≡ 1 → zone root e ≡ inside a.place (entry.name ∷ [])
  in_object h = by m.part.0 (let l = long in omega (arith, l, sub, h)) zone_here
    where
      by : (s : Place) → length s ≡ 0 → zone root e ≡ inside a.place (s ++ entry.name ∷ []) → zone root e ≡ inside a.place (entry.name ∷ [])
      by [] k z = z
      by (v ∷ s) k z = absurd (omega (arith, k))

  pub in_version : r ≡ 2 → IsInVersion root a.place d e entry.name
  in_version h = by m.part.0 (let l = long in omega (arith, l, sub, h)) (zone_is root d a.place m.part.0 m.part.1).whole zone_here listed_here
    where
      by : (s : Place) → length s ≡ 1 → d ≡ a.place ++ s → zone root e ≡ inside a.place (s ++ entry.name ∷ []) → is_listed_in_object (Some a.table) s ≡ true
          → IsInVersion root a.place d e entry.name
      by [] k is z l = absurd (omega (arith, k))
      by (v ∷ []) k is z l = record { version = v; directory = is; zone = z; named = l }
      by (v ∷ c ∷ s) k is z l = absurd (omega (arith, k))

  pub in_content : (r ≡ 1 → ⊥) → (r ≡ 2 → ⊥) → IsInContent root a e
  in_content n k = record { content = by m.part.0 few zone_here ∙ ap (λ q. Some (a.table, q)) (sym inner); listed = deep m.part.0 few zone_here listed_here }
    where
      few : 2 ≤ length m.part.0
      few = two_more (length m.part.0) r (let l = long in omega (arith, l, sub)) n k

      inner : drop (length a.place) e ≡ m.part.0 ++ entry.name ∷ []
      inner = ap (drop (length a.place)) whole ∙ drop-append_seam a.place (m.part.0 ++ entry.name ∷ [])

      by : (s : Place) → 2 ≤ length s → zone root e ≡ inside a.place (s ++ entry.name ∷ []) → content_at root e ≡ Some (a.table, s ++ entry.name ∷ [])
      by [] k z = absurd (omega (arith, k))
      by (v ∷ []) k z = absurd (omega (arith, k))
      by (v ∷ c ∷ []) k z = ap (content_in root) z ∙ ap (option_map (λ t. (t, v ∷ c ∷ entry.name ∷ []))) m.part.2
      by (v ∷ c ∷ x ∷ s) k z = ap (content_in root) z ∙ ap (option_map (λ t. (t, v ∷ c ∷ x ∷ (s ++ entry.name ∷ [])))) m.part.2

      deep : (s : Place) → 2 ≤ length s → zone root e ≡ inside a.place (s ++ entry.name ∷ []) → is_listed_in_object (Some a.table) s ≡ true → is_listed_zone root (zone root e) ≡ true
      deep [] k z l = absurd (omega (arith, k))
      deep (v ∷ []) k z l = absurd (omega (arith, k))
      deep (v ∷ c ∷ s) k z l = ap (is_listed_zone root) z ∙ ap (λ x. is_listed_in_object x (v ∷ c ∷ (s ++ entry.name ∷ []))) m.part.2 ∙ l

-- an entry that is met within an object, if that object is the one at hand
pub met_within : (further : Further) (root : StorageRoot) (d e : Place) (around : Option Around) (a : Around) (entry : Entry) → around ≡ Some a → IsMet further root d around entry e → IsMet further root d (Some a) entry e
met_within further root d e around a entry is met = subst (λ x. IsMet further root d x entry e) is met
