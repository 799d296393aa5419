-- Where metadata lies that was opened.
use Rattle.std.proofs.Common.{◌≡◌, ◌⊎◌, inl, inr, List, [], ◌∷◌, ◌++◌, refl, sym, ◌∙◌, ap, subst, true, Option, Some, None, codes, is_some}
use Rattle.std.proofs.lemmas.List.{same_from_push}
use Rattle.ocfl_tree.specs.{Place.{Place, Text}, Ascending.{IsAmong}, StorageRoot.{StorageRoot}, Store.{Store}}
use Rattle.ocfl_tree.specs.declared.store.Opening.{Opening}
use Rattle.ocfl_tree.proofs.Orders.{true_not_false}
use Rattle.ocfl_report.specs.declared.further.Further.{Further}
use Rattle.ocfl_report.specs.declared.further.Further.TheVariants.{Nothing, Inventories}
use Rattle.ocfl_rules.specs.Inventories.{VersionInventory, version_inventory}
use Rattle.ocfl_rules.specs.{Objects.{IsVersionInventory}, Trail.{is_meta}}
use Rattle.ocfl_rules.proofs.{AuditExists.{append_one}, InventoryLaws.{version_inventory_is}}
use Rattle.ocfl_item.specs.Auditing.{Audits, LiesBeside, LiesIn, LiesNear}

-- in the directory of a version whose inventory is seen
abbrev pub InVersion : StorageRoot → Place → Type 0
InVersion root p =
    (object : Place) × ((version : Text) × ((bytes : Text) × ((n : Text) × (IsVersionInventory root (object ++ version ∷ codes "inventory.json" ∷ []) object version bytes × (p ≡ object ++ version ∷ n ∷ [])))))

beside_in_version : (root : StorageRoot) (e p : Place) → LiesBeside root e p → InVersion root p
beside_in_version root e p h = by (version_inventory root e) refl h.0
  where
    by : (x : Option VersionInventory) → version_inventory root e ≡ x → is_some x ≡ true → InVersion root p
    by None is some = absurd (true_not_false (sym some))
    by (Some x) is some =
        let there = (version_inventory_is root e x.0 x.1 x.2).0 is in
        let in_directory = h.1 in
        let d : in_directory.0 ≡ x.0 ++ x.1 ∷ [] =
        (same_from_push in_directory.0 (x.0 ++ x.1 ∷ []) in_directory.1.0 (codes "inventory.json") (sym in_directory.1.1.1.0 ∙ there.whole ∙ sym (append_one x.0 (codes "inventory.json" ∷ []) x.1))).0 in (
          x.0,
          (
            x.1,
            (
              x.2,
              (
                in_directory.1.1.0,
                (
                  subst (λ y. IsVersionInventory root y x.0 x.1 x.2) there.whole there,
                  in_directory.1.1.1.1 ∙ ap (λ y. y ++ in_directory.1.1.0 ∷ []) d ∙ append_one x.0 (in_directory.1.1.0 ∷ []) x.1,
                ),
              ),
            ),
          ),
        )

pub lies_near : (further : Further) (root : StorageRoot) (dirs : List Place) (p : Place) → LiesNear further root dirs p → LiesIn dirs p ⊎ InVersion root p
lies_near Nothing root dirs p h = inl h
lies_near Inventories root dirs p (inl h) = inl h
lies_near Inventories root dirs p (inr h) = inr (beside_in_version root h.0 p h.1)

pub opened_near : (further : Further) (root : StorageRoot) (s t : Store) (places listed heads : List Place) (trail : List Opening) → Audits further root s t places listed heads trail
    → (o : Opening) → IsAmong trail o → is_meta further root o.place ≡ true → LiesIn listed o.place ⊎ InVersion root o.place
opened_near further root s t places listed heads trail h o i meta = lies_near further root listed o.place (h.near o i meta)
