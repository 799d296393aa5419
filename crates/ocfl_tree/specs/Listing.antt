-- The entries of a directory, and what a listing gives of them.
use Rattle.std.specs.Prelude.{◌≡◌, ◌≤◌, List, [], ◌∷◌, ◌++◌, length, filter_map, if◌then◌else◌, Option, Some, None, ⊤}
use Rattle.std.specs.Option.{option_map}
use Rattle.ocfl_tree.specs.Place.{Text, Place, text_eq}
use Rattle.ocfl_tree.specs.StorageRoot.{StorageRoot, Leaf, file, dir, other, at, names_in, max_entries}
use Rattle.ocfl_tree.specs.{declared.store.Kind.{Kind}, declared.store.Entry.{Entry}}
use Rattle.ocfl_tree.specs.declared.store.Kind.TheVariants as kind

abbrev pub kind_of : Leaf → Kind
kind_of (file bytes) = kind.File
kind_of dir = kind.Dir
kind_of other = kind.Other

-- the kind of what a name leads to from a place
abbrev pub kind_at : StorageRoot → Place → Text → Option Kind
kind_at root d n = option_map kind_of (at root (d ++ n ∷ []))

abbrev pub entry_at : StorageRoot → Place → Text → Option Entry
entry_at root d n = option_map (λ k. record { name = n; kind = k }) (kind_at root d n)

-- the entries of the directory at a place, by ascending names
abbrev pub entries_in : StorageRoot → Place → List Entry
entries_in root d = filter_map (entry_at root d) (names_in root d)

-- the kind that a listing gives a name
abbrev pub kind_in : List Entry → Text → Option Kind
kind_in [] n = None
kind_in (e ∷ es) n = if text_eq e.name n then Some e.kind else kind_in es n

-- no name occurs twice
abbrev pub AreApart : List Entry → Type 0
AreApart [] = ⊤
AreApart (e ∷ es) = (kind_in es e.name ≡ None) × AreApart es

-- what any store may list
pub record IsOrdinary (es : List Entry) : Type 0 where
  pub once : AreApart es
  pub few : length es ≤ max_entries

-- these are the entries of the directory at d, in any order
pub record IsListing (root : StorageRoot) (d : Place) (es : List Entry) : Type 0 where
  pub directory : at root d ≡ Some dir
  pub each : (n : Text) → kind_in es n ≡ kind_at root d n
