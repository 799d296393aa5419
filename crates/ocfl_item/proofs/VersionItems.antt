-- The item of an inventory in the directory of a version.
use Rattle.std.proofs.Common.{◌≡◌, ◌≢◌, ℕ, ◌+◌, List, [], ◌∷◌, ◌++◌, refl, sym, ◌∙◌, ap, subst, true, Option, Some, None, arith, length, map}
use Rattle.std.proofs.lemmas.Bool.{lt-ltb}
use Rattle.std.specs.{Prelude.{nat_lt, Vec}, declared.alloc.Global.{Global}}
use Rattle.ocfl_tree.specs.{Place.{Place, Text}, StorageRoot.{StorageRoot, file}}
use Rattle.ocfl_tree.specs.declared.store.Kind.TheVariants as kind
use Rattle.ocfl_tree.proofs.Orders.{true_not_false}
use Rattle.ocfl_report.specs.declared.code.Code.TheVariants.{E058}
use Rattle.ocfl_report.specs.declared.further.Further.TheVariants.{Inventories}
use Rattle.ocfl_digest.specs.declared.algorithm.Algorithm.TheVariants.{Sha256, Sha512}
use Rattle.ocfl_inventory.specs.{Note.{Note, plain}, Remark.{remark_view}}
use Rattle.ocfl_rules.specs.Zone.{zone, seen, inventory_name}
use Rattle.ocfl_rules.specs.Lines.{common_notes, cost_of, named_at, notes_in, object_notes, version_entry_notes}
use Rattle.ocfl_rules.specs.Head.{on, are_sidecars_missing, sidecar_at}
use Rattle.ocfl_rules.specs.Inventories.{RootInventory, expected_beside, expected_by_root, form_notes, root_inventory}
use Rattle.ocfl_rules.specs.Inventories.{Expected, beside_notes, expected_of, head_notes, inventory_cost, inventory_notes, is_hashed, notes, version_cost, version_inventory, version_inventory_in, version_notes}
use Rattle.ocfl_rules.proofs.{FurtherLaws.{version_some}, PathLaws.{notes_at}}
use Rattle.ocfl_item.specs.{Pending.{IsJudgedBy, IsPending, expected_view}, Internal.Lines.{Adds, HasLines, IsUnhashed}}
use Rattle.ocfl_item.specs.Internal.FileLines.{Expects}
use Rattle.ocfl_item.specs.Internal.Visiting.{IsInventoryAt}
use Rattle.ocfl_item.specs.declared.expected.Expected.{Expected as MadeExpected}
use Rattle.ocfl_item.specs.{declared.lines.PlaceLines.{PlaceLines}, declared.pending.Pending.{Pending}}
use Rattle.ocfl_item.proofs.{ContentLaws.{named_short, not_root, there}, LinesLaws.{adds_both, has_more, unhashed_at}, VisitLaws.{entry_file}}

zero_more : (n : ℕ) → 0 + n ≡ n
zero_more n = omega arith

module _ (root : StorageRoot) (e o : Place) (v : Text) (h : IsInventoryAt root e o v) where
  pub sight : (bytes : Text) × (seen root e ≡ Some (file bytes))
  sight = entry_file root e kind.File h.here refl

  pub found : version_inventory root e ≡ Some (o, v, sight.0)
  found = λ i. version_inventory_in (h.zone i) (sight.1 i)

  quiet : (u : Option ℕ) → common_notes root u e ≡ []
  quiet u = notes_at root u e (not_root root e o (v ∷ inventory_name ∷ []) h.zone) ∙ ap (notes_in root e u) h.zone
      ∙ ap (λ y. object_notes root e u y (v ∷ inventory_name ∷ [])) h.goes_on ∙ ap (version_entry_notes root h.table e inventory_name) sight.1

  abbrev lines : List Expected → Option ℕ → List Note
  lines es u = inventory_notes (beside_notes root (o ++ v ∷ [])) sight.0 es u

  lines_are : (u : Option ℕ) → notes Inventories root u e ≡ lines (expected_of root o v) u
  lines_are u = λ i. quiet u i ++ (head_notes root (h.zone i) ++ version_notes root u (found i))

  lines_by : (es : List Expected) → expected_of root o v ≡ es → (u : Option ℕ) → notes Inventories root u e ≡ lines es u
  lines_by es is u = lines_are u ∙ ap (λ xs. lines xs u) is

  some : notes Inventories root None e ≢ []
  some g = version_some root None (o, v, sight.0) (sym (lines_are None) ∙ g)

  hashed_by : (es : List Expected) → expected_of root o v ≡ es → is_hashed Inventories root e ≡ nat_lt 0 (inventory_cost sight.0 es None)
  hashed_by es is =
      let unnamed : named_at root e ≡ [] = named_short root e o (v ∷ inventory_name ∷ []) h.zone (omega arith) in
      ap (nat_lt 0) ((λ i. cost_of (unnamed i) None (seen root e) + version_cost root None (found i)) ∙ zero_more (inventory_cost sight.0 (expected_of root o v) None) ∙ ap (λ xs. inventory_cost sight.0 xs None) is)

  -- it is not opened if no digest is expected of it
  pub inventory_unhashed : (l : PlaceLines) → l.place ≡ e → HasLines l (beside_notes root (o ++ v ∷ [])) → expected_of root o v ≡ [] → IsUnhashed Inventories root l
  inventory_unhashed l at are none = unhashed_at Inventories root l e at some (hashed_by [] none) (are ∙ sym (lines_by [] none None))

  judged : (x : Expected) (es : List Expected) → expected_of root o v ≡ x ∷ es → IsJudgedBy Inventories root e (beside_notes root (o ++ v ∷ [])) (x ∷ es)
  judged x es is = record { bytes = sight.0; is_file = there root e (file sight.0) sight.1; whole = lines_by (x ∷ es) is None; part = λ given. lines_by (x ∷ es) is (Some given) }

  pub inventory_hashed : (made : Pending) (es : List MadeExpected) → made.place ≡ e → made.hashed ≡ true → made.expected.items ≡ es → es ≢ []
      → map remark_view made.remarks.items ≡ beside_notes root (o ++ v ∷ []) → map expected_view es ≡ expected_of root o v → IsPending Inventories root made
  inventory_hashed made [] place hashed same full lines is = absurd (full refl)
  inventory_hashed made (x ∷ es) place hashed same full lines is =
      let whole : is_hashed Inventories root e ≡ true = hashed_by (expected_view x ∷ map expected_view es) (sym is) ∙ lt-ltb 0 (length sight.0 + 1) (omega arith) in
      let all : map expected_view made.expected.items ≡ expected_view x ∷ map expected_view es = ap (map expected_view) same in
      record {
        some = subst (λ y. notes Inventories root None y ≢ []) (sym place) some;
        hashed = hashed ∙ sym whole ∙ ap (is_hashed Inventories root) (sym place);
        lines = λ unread. absurd (true_not_false (sym hashed ∙ unread));
        judged = λ _. subst (λ y. IsJudgedBy Inventories root y (map remark_view made.remarks.items) (map expected_view made.expected.items)) (sym place)
            (subst (λ ls. IsJudgedBy Inventories root e ls (map expected_view made.expected.items)) (sym lines)
            (subst (IsJudgedBy Inventories root e (beside_notes root (o ++ v ∷ []))) (sym all) (judged (expected_view x) (map expected_view es) (sym is))));
      }

-- ---- from what was read of the sidecars

module _ (root : StorageRoot) (o d : Place) (v : Text) (is : d ≡ o ++ v ∷ []) where
  pub lines_beside : (none a b c : PlaceLines) → HasLines none [] → Adds none a (on (are_sidecars_missing root d) (plain E058)) → Adds a b (form_notes Sha256 (sidecar_at root d Sha256))
      → Adds b c (form_notes Sha512 (sidecar_at root d Sha512)) → HasLines c (beside_notes root (o ++ v ∷ []))
  lines_beside none a b c has h short long =
      has_more none c [] _ has (adds_both none b c _ _ (adds_both none a b _ _ h short) long) ∙ ap (beside_notes root) is

module _ (root : StorageRoot) (o d : Place) (v : Text) (is : d ≡ o ++ v ∷ []) (r : Option RootInventory) (now : r ≡ root_inventory root o) where
  pub expected_are : (none a b c : Vec MadeExpected Global) → none.items ≡ [] → Expects none a (expected_beside Sha256 (sidecar_at root d Sha256))
      → Expects a b (expected_beside Sha512 (sidecar_at root d Sha512)) → Expects b c (expected_by_root v r) → map expected_view c.items ≡ expected_of root o v
  expected_are none a b c empty short long more =
      let first = short ∙ ap (λ es. map expected_view es ++ expected_beside Sha256 (sidecar_at root d Sha256)) empty in
      let second = long ∙ ap (λ es. es ++ expected_beside Sha512 (sidecar_at root d Sha512)) first in
      more ∙ ap (λ es. es ++ expected_by_root v r) second
      ∙ (λ i. (expected_beside Sha256 (sidecar_at root (is i) Sha256) ++ expected_beside Sha512 (sidecar_at root (is i) Sha512)) ++ expected_by_root v (now i))
