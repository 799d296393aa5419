-- How a tree in memory keeps what it tells.
use Rattle.std.specs.Prelude.{◌≡◌, ℕ, ◌<◌, ◌≤◌, List, [], ◌∷◌, ◌++◌, Option, Some, None, length, drop, ⊤}
use Rattle.ocfl_tree.specs.{Place.{Text, Place}, StorageRoot.{StorageRoot, at, max_entries}}
use Rattle.ocfl_tree.specs.declared.store.Opening.{Opening}
use Rattle.ocfl_memory.specs.Faults.{Faults}
use Rattle.ocfl_memory.specs.Internal.Nodes.{AreOnce, stands_at, kept_in, leaf_at, bytes_in}
use Rattle.ocfl_memory.specs.{MemTree.{Held}, declared.mem_tree.OpenFile.{OpenFile}}

abbrev pub rest_of : StorageRoot → Option OpenFile → Option Text
rest_of nodes None = None
rest_of nodes (Some o) = Some (drop o.offset (bytes_in (leaf_at nodes o.index)))

-- the last opening is that of the open file, which gave what was read
pub record IsOpen (nodes : StorageRoot) (openings : List Opening) (o : OpenFile) : Type 0 where
  pub within : o.offset ≤ length (bytes_in (leaf_at nodes o.index))
  pub index : o.index < length nodes
  pub front : List Opening
  pub last : Opening
  pub is_last : openings ≡ front ++ last ∷ []
  pub given : last.given ≡ o.offset

abbrev pub IfOpen : StorageRoot → List Opening → Option OpenFile → Type 0
IfOpen nodes openings None = ⊤
IfOpen nodes openings (Some o) = IsOpen nodes openings o

-- each place occurs once and in a directory, no directory is overfull, and the open file is one of
-- them
pub record IsKept (nodes : StorageRoot) (openings : List Opening) (reader : Option OpenFile) : Type 0 where
  pub once : AreOnce nodes
  pub rooted : (p : Place) → at nodes p ≡ stands_at nodes p
  pub few : (p : Place) → length (kept_in nodes p) ≤ max_entries
  pub reading : IfOpen nodes openings reader

-- what is seen of the parts
abbrev pub seen : StorageRoot → Option OpenFile → List Opening → List Place → List Place → ℕ → ℕ → Faults → Held
seen nodes reader openings listings unlisted failures largest faults = record {
  store = record {
    tree = nodes;
    rest = rest_of nodes reader;
    openings = openings;
    listings = listings;
    failed_listings = unlisted;
    failures = failures;
    largest = largest;
  };
  faults = faults;
}
