-- What the entries of a directory declare, in any order of the entries.
use Rattle.std.specs.Prelude.{◌≡◌, ℕ, ◌+◌, ◌<◌, length, List, [], ◌∷◌, Bool, true, false, ◌&&◌, if◌then◌else◌, Option, Some, None, filter, drop, slice_get}
use Rattle.ocfl_tree.specs.{Place.{Text}, declared.store.Entry.{Entry}, declared.store.Kind.{Kind}}
use Rattle.ocfl_tree.specs.declared.store.Kind.TheVariants.{File, Dir, Other}
use Rattle.ocfl_inventory.specs.Declaration.{Declared, undeclared, known, unknown, several, is_declaration, after_prefix, version_named}
use Rattle.ocfl_inventory.specs.declared.declaration.Declared.{Declared as MadeDeclared}
use Rattle.ocfl_inventory.specs.declared.declaration.Level.{Level}
use Rattle.ocfl_inventory.specs.declared.declaration.Version.{Version}
use Rattle.ocfl_inventory.specs.declared.declaration.Declared.TheVariants as made

abbrev pub is_file : Kind → Bool
is_file File = true
is_file Dir = false
is_file Other = false

-- the names of the files, in the order of the entries
abbrev pub file_names : List Entry → List Text
file_names [] = []
file_names (e ∷ es) = if is_file e.kind then e.name ∷ file_names es else file_names es

-- a file whose name is that of a declaration
abbrev pub is_counted : Level → Entry → Bool
is_counted level e = is_file e.kind && is_declaration level e.name

abbrev pub unknown_by : Level → Option Entry → Declared
unknown_by level None = undeclared
unknown_by level (Some e) = unknown (after_prefix level e.name)

-- what an answer says of the entries that it was given for
abbrev pub meaning : Level → List Entry → MadeDeclared → Declared
meaning level es made.None = undeclared
meaning level es (made.One v) = known v
meaning level es (made.Unknown i) = unknown_by level (slice_get es i)
meaning level es made.Several = several

-- the entry of an unknown version is a declaration's
abbrev pub PointsAtOne : Level → List Entry → MadeDeclared → Type 0
PointsAtOne level es made.None = Unit {0}
PointsAtOne level es (made.One v) = Unit {0}
PointsAtOne level es (made.Unknown i) = (e : Entry) × (slice_get es i ≡ Some e) × (is_counted level e ≡ true)
PointsAtOne level es made.Several = Unit {0}

-- the first declaration from an index on, and what is left after it
abbrev pub IsNext : Level → List Entry → ℕ → Option ℕ → Type 0
IsNext level es from None = filter (is_counted level) (drop from es) ≡ []
IsNext level es from (Some i) = (e : Entry) × (i < length es) × (slice_get es i ≡ Some e) × (is_counted level e ≡ true) × (filter (is_counted level) (drop from es) ≡ e ∷ filter (is_counted level) (drop (i + 1) es))

-- the version of a text, if it is known
abbrev pub IsVersionOf : Text → Option Version → Type 0
IsVersionOf t None = version_named t ≡ unknown t
IsVersionOf t (Some v) = version_named t ≡ known v
