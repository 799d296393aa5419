-- The audit of a tree in which the lines of one object's sidecars are known.
use Rattle.std.proofs.Common.{◌≡◌, ℕ, List, [], ◌∷◌, ◌++◌, length, refl, sym, ◌∙◌, ap, Bool, true, false, map, filter, Option, Some}
use Rattle.std.specs.Prelude.{cond, not, nat_le, if◌then◌else◌}
use Rattle.ocfl_tree.specs.{Place.{Text, Place, place_cmp, place_eq}, Ascending.{ascending}}
use Rattle.ocfl_tree.specs.StorageRoot.{StorageRoot, file_at}
use Rattle.ocfl_report.specs.{Line.{Item}, declared.code.Code.TheVariants.{E003, E007, S01, S02}}
use Rattle.ocfl_report.specs.declared.further.Further.TheVariants.{Nothing}
use Rattle.ocfl_inventory.specs.Note.{note, Note, plain, lines_at}
use Rattle.ocfl_inventory.specs.Declaration.{Declared, undeclared, known, unknown, several}
use Rattle.ocfl_inventory.specs.Reading.{algorithm_of}
use Rattle.ocfl_inventory.specs.declared.declaration.Level.TheVariants.{Object}
use Rattle.ocfl_rules.specs.Zone.{Zone, skipped, hierarchy, inside, zone, object_declared, inventory_name, inventory_limit}
use Rattle.ocfl_rules.specs.Trail.{is_head}
use Rattle.ocfl_rules.specs.Head.{on, or_clean, is_exact_declaration, sidecars_notes, inventory_part, inventory_file_notes, head_notes_by}
use Rattle.ocfl_rules.specs.Inventories.{notes, cost}
use Rattle.ocfl_rules.specs.Lines.{notes_in}
use Rattle.ocfl_rules.specs.Audit.{Unread, given_by, item_of, candidates, has_lines, audit}
use Rattle.ocfl_rules.proofs.AuditExists.{place_from_test, append_nothing, zone_is}

-- the lines of an object's head, if those of its sidecars are these
abbrev pub head_beside : List Note → StorageRoot → Place → Text → Declared → List Note
head_beside sidecars root o inventory undeclared = []
head_beside sidecars root o inventory several = plain E003 ∷ []
head_beside sidecars root o inventory (unknown t) = note S01 t ∷ []
head_beside sidecars root o inventory (known v) = or_clean (
    on (not (is_exact_declaration root o Object v)) (plain E007)
    ++ (if nat_le (length inventory) inventory_limit then sidecars ++ inventory_part root o inventory (algorithm_of inventory) else plain S02 ∷ []))

abbrev pub notes_beside : List Note → StorageRoot → Option ℕ → Place → Text → List Note
notes_beside sidecars root u o inventory = if is_head (zone root o) then head_beside sidecars root o inventory (object_declared root o) else notes Nothing root u o

abbrev pub item_beside : List Note → StorageRoot → Unread → Place → Text → Item
item_beside sidecars root unread o inventory = record {
  place = o;
  lines = lines_at o (notes_beside sidecars root (given_by unread o) o inventory);
  cost = cost Nothing root (given_by unread o) o;
}

-- the audit, with that head at o
abbrev pub audit_beside : List Note → StorageRoot → Unread → Place → Text → List Item
audit_beside sidecars root unread o inventory =
    filter has_lines (map (λ p. if place_eq p o then item_beside sidecars root unread o inventory else item_of Nothing root unread p) (ascending place_cmp (candidates root)))

module _ (root : StorageRoot) (n : Text) (q : Place) (inventory : Text) (sidecars : List Note)
    (there : file_at root ((n ∷ q) ++ inventory_name ∷ []) ≡ Some inventory) (those : sidecars_notes root (n ∷ q) inventory ≡ sidecars) where
  head_is : (d : Declared) → head_notes_by root (n ∷ q) d ≡ head_beside sidecars root (n ∷ q) inventory d
  head_is undeclared = refl
  head_is several = refl
  head_is (unknown t) = refl
  head_is (known v) =
      ap (λ f. or_clean (on (not (is_exact_declaration root (n ∷ q) Object v)) (plain E007) ++ inventory_file_notes root (n ∷ q) f)) there
      ∙ ap (λ ns. or_clean (on (not (is_exact_declaration root (n ∷ q) Object v)) (plain E007) ++ cond (nat_le (length inventory) inventory_limit)
      (ns ++ inventory_part root (n ∷ q) inventory (algorithm_of inventory)) (plain S02 ∷ []))) those

  notes_are : (u : Option ℕ) → notes Nothing root u (n ∷ q) ≡ notes_beside sidecars root u (n ∷ q) inventory
  notes_are u = by (zone root (n ∷ q)) refl
    where
      by : (z : Zone) → zone root (n ∷ q) ≡ z → notes Nothing root u (n ∷ q) ≡ cond (is_head z) (head_beside sidecars root (n ∷ q) inventory (object_declared root (n ∷ q))) (notes Nothing root u (n ∷ q))
      by skipped e = refl
      by hierarchy e = refl
      by (inside b (m ∷ r)) e = refl
      by (inside b []) e =
          let here : n ∷ q ≡ b = (zone_is root (n ∷ q) b [] e).whole ∙ append_nothing b in
          ap (notes_in root (n ∷ q) u) e ∙ ap (λ x. head_notes_by root x (object_declared root x)) (sym here) ∙ head_is (object_declared root (n ∷ q))

  item_is : (unread : Unread) (p : Place) → item_of Nothing root unread p ≡ cond (place_eq p (n ∷ q)) (item_beside sidecars root unread (n ∷ q) inventory) (item_of Nothing root unread p)
  item_is unread p = by (place_eq p (n ∷ q)) refl
    where
      here : item_of Nothing root unread (n ∷ q) ≡ item_beside sidecars root unread (n ∷ q) inventory
      here = ap (λ ns. record { place = n ∷ q; lines = lines_at (n ∷ q) ns; cost = cost Nothing root (given_by unread (n ∷ q)) (n ∷ q) }) (notes_are (given_by unread (n ∷ q)))

      by : (b : Bool) → place_eq p (n ∷ q) ≡ b → item_of Nothing root unread p ≡ cond b (item_beside sidecars root unread (n ∷ q) inventory) (item_of Nothing root unread p)
      by true e = ap (item_of Nothing root unread) (place_from_test p (n ∷ q) e) ∙ here
      by false e = refl

  pub audit_is : (unread : Unread) → audit Nothing root unread ≡ audit_beside sidecars root unread (n ∷ q) inventory
  audit_is unread = ap (λ f. filter has_lines (map f (ascending place_cmp (candidates root)))) (λ i p. item_is unread p i)
