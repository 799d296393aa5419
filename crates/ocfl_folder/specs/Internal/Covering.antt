-- The entries that a listing gives, name by name.
use Rattle.std.specs.Prelude.{◌≡◌, ◌≢◌, ◌⊎◌, List, [], ◌∷◌, ◌++◌, Some, None, All, map}
use Rattle.std.specs.List.{Contains}
use Rattle.ocfl_tree.specs.{Place.{Text, Place}, Ascending.{IsAmong}}
use Rattle.ocfl_tree.specs.{StorageRoot.{StorageRoot, dir, at}, Listing.{kind_at}}
use Rattle.ocfl_tree.specs.declared.store.Entry.{Entry}

-- the entry of a name that leads to something from p was added
pub record Adds (root : StorageRoot) (p : Place) (n : Text) (es fs : List Entry) : Type 0 where
  pub entry : Entry
  pub name : entry.name ≡ n
  pub there : kind_at root p n ≡ Some entry.kind
  pub added : fs ≡ es ++ entry ∷ []

-- each entry is one of the directory, and what has no entry yet is among the names that are left
pub record CoversBut (root : StorageRoot) (p : Place) (es : List Entry) (left : List Text) : Type 0 where
  pub directory : at root p ≡ Some dir
  pub there : All (λ e. kind_at root p e.name ≡ Some e.kind) es
  pub all : (n : Text) → kind_at root p n ≢ None → Contains (map (λ e. e.name) es) n ⊎ IsAmong left n

-- these are all entries of the directory, in some order; one may occur twice
abbrev pub Covers : StorageRoot → Place → List Entry → Type 0
Covers root p es = CoversBut root p es []
