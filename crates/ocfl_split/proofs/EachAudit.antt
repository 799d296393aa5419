-- The separators of a storage root ascend, so the parts that they make hold each audit.
use Rattle.std.proofs.Common.{◌≡◌, ℕ, sym, subst}
use Rattle.std.specs.Prelude.{flat_map}
use Rattle.ocfl_tree.specs.{Place.{place_cmp}, Ascending.{IsAscending}, StorageRoot.{StorageRoot}}
use Rattle.ocfl_report.specs.declared.further.Further.{Further}
use Rattle.ocfl_rules.specs.{Audit.{Unread, audit}, Parts.{within, parts_of}}
use Rattle.ocfl_rules.proofs.PartLaws.{items_join}
use Rattle.ocfl_split.specs.Splitting.{split_level, separators_of}
use Rattle.ocfl_split.proofs.{Cuts.{cut_ascends}, LevelLaws.{one_level}, Listed.{level_rises}}

pub separators_ascend : (root : StorageRoot) (count : ℕ) → IsAscending place_cmp (separators_of root count)
separators_ascend root count =
    let found = one_level root count in
    cut_ascends count (split_level root count) (subst (IsAscending place_cmp) (sym found.1.0) (level_rises root found.0))

pub parts_hold : (further : Further) (root : StorageRoot) (unread : Unread) (count : ℕ)
    → flat_map (λ part. within part (audit further root unread)) (parts_of (separators_of root count)) ≡ audit further root unread
parts_hold further root unread count = items_join further root (separators_of root count) (separators_ascend root count) unread
