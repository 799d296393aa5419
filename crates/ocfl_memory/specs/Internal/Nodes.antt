-- How a tree in memory keeps what is at its places.
use Rattle.std.specs.Prelude.{◌≡◌, ℕ, List, [], ◌∷◌, Option, Some, None, slice_index_or, length, is_some, not, nat_le, if◌then◌else◌, ⊤}
use Rattle.ocfl_tree.specs.Place.{Text, Place, child_name}
use Rattle.ocfl_tree.specs.StorageRoot.{StorageRoot, Leaf, file, dir, other, lookup, is_dir_leaf, max_entries}
use Rattle.ocfl_tree.specs.{Listing.{kind_of}, declared.store.Entry.{Entry}}
use Rattle.ocfl_memory.specs.{MemTree.{parent}, declared.build.BuildStop.{BuildStop}}
use Rattle.ocfl_memory.specs.declared.build.BuildStop.TheVariants.{Exists, NoParent, Full}
use Rattle.ocfl_memory.specs.declared.nodes.Node.{Node}
use Rattle.ocfl_memory.specs.declared.nodes.Node.TheVariants as node

abbrev pub leaf_of : Node → Leaf
leaf_of (node.File bytes) = file bytes.items
leaf_of node.Dir = dir
leaf_of node.Other = other

abbrev pub bytes_in : Leaf → Text
bytes_in (file bytes) = bytes
bytes_in dir = []
bytes_in other = []

-- what is at the place that is kept at an index
abbrev pub leaf_at : StorageRoot → ℕ → Leaf
leaf_at root i = (slice_index_or root i ([], dir)).1

-- what is at a place if each place's directory is kept
abbrev pub stands_at : StorageRoot → Place → Option Leaf
stands_at root [] = Some dir
stands_at root (n ∷ p) = lookup root (n ∷ p)

abbrev pub with_entry : Option Text → Leaf → List Entry → List Entry
with_entry None leaf es = es
with_entry (Some n) leaf es = record { name = n; kind = kind_of leaf } ∷ es

-- the entries right below d, as they are kept
abbrev pub kept_in : StorageRoot → Place → List Entry
kept_in [] d = []
kept_in (e ∷ root) d = with_entry (child_name d e.0) e.1 (kept_in root d)

-- each place occurs once
abbrev pub AreOnce : StorageRoot → Type 0
AreOnce [] = ⊤
AreOnce (e ∷ root) = (lookup root e.0 ≡ None) × AreOnce root

-- why nothing is put at a place, as it is found
abbrev pub kept_refusal : StorageRoot → Place → Option BuildStop
kept_refusal root p =
    if is_some (stands_at root p) then Some Exists
    else (if not (is_dir_leaf (stands_at root (parent p))) then Some NoParent
    else (if nat_le max_entries (length (kept_in root (parent p))) then Some Full else None))
