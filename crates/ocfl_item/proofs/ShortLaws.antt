-- Storage roots whose files are short.
use Rattle.std.proofs.Common.{◌≡◌, ◌↔◌, ◌<◌, refl, ◌∙◌, ap, Option, Some, None, length}
use Rattle.std.specs.Prelude.{option_and_then}
use Rattle.ocfl_tree.specs.Place.{Text, Place}
use Rattle.ocfl_tree.specs.StorageRoot.{StorageRoot, Leaf, file, dir, other, at, bytes_of, file_at}
use Rattle.ocfl_item.specs.Judging.{HasShortFiles}

file_there : (root : StorageRoot) (p : Place) (bytes : Text) → file_at root p ≡ Some bytes → at root p ≡ Some (file bytes)
file_there root p bytes h = by (at root p) refl h
  where
    by : (leaf : Option Leaf) → at root p ≡ leaf → option_and_then bytes_of leaf ≡ Some bytes → at root p ≡ Some (file bytes)
    by None e g = absurd cc
    by (Some (file b)) e g = let same : b ≡ bytes = cc in e ∙ ap (λ x. Some (file x)) same
    by (Some dir) e g = absurd cc
    by (Some other) e g = absurd cc

pub short_files : (root : StorageRoot) → HasShortFiles root ↔ ((p : Place) (bytes : Text) → file_at root p ≡ Some bytes → length bytes < 4611686018427387904)
short_files root = (
  λ h p bytes e. h p bytes (file_there root p bytes e),
  λ h p bytes e. h p bytes (ap (option_and_then bytes_of) e),
)
