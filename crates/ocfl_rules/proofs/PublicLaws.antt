-- The laws of items by name, at any tree.
use Rattle.std.proofs.Common.{◌≡◌, [], ◌∷◌, ◌++◌, filter, Some}
use Rattle.std.specs.{Prelude.{flat_map}, Ordering.{is_lt}}
use Rattle.ocfl_tree.specs.{Place.{Place, Text, text_cmp}, StorageRoot.{StorageRoot}}
use Rattle.ocfl_report.specs.declared.further.Further.{Further}
use Rattle.ocfl_rules.specs.Audit.{Unread, audit, after}
use Rattle.ocfl_rules.specs.Walk.{items_under, names_below, item_at}
use Rattle.ocfl_rules.proofs.WayLaws.{is_closed}
use Rattle.ocfl_rules.proofs.WalkLaws.{items_by_name, items_after_self, items_after_name}

pub by_name : (further : Further) (root : StorageRoot) (unread : Unread) (d : Place)
    → items_under d (audit further root unread) ≡ item_at further root unread d ++ flat_map (λ n. items_under (d ++ n ∷ []) (audit further root unread)) (names_below root d)
by_name further root unread d = items_by_name further root (is_closed root) unread d

pub at_itself : (further : Further) (root : StorageRoot) (unread : Unread) (d : Place)
    → after (items_under d (audit further root unread)) (Some d) ≡ flat_map (λ n. items_under (d ++ n ∷ []) (audit further root unread)) (names_below root d)
at_itself further root unread d = items_after_self further root (is_closed root) unread d

pub further_down : (further : Further) (root : StorageRoot) (unread : Unread) (d q : Place) (n : Text)
    → after (items_under d (audit further root unread)) (Some (d ++ n ∷ q)) ≡ after (items_under (d ++ n ∷ []) (audit further root unread)) (Some (d ++ n ∷ q)) ++ flat_map
    (λ m. items_under (d ++ m ∷ []) (audit further root unread)) (filter (λ m. is_lt (text_cmp n m)) (names_below root d))
further_down further root unread d q n = items_after_name further root (is_closed root) unread d n q
