-- Which files of an object are read for its head, and what was read of them.
use Rattle.std.specs.Prelude.{ℕ, List, Option, Some, None, true, Result, MatchResult, option_and_then, nat_le, length, ◌≡◌, [], ◌∷◌, ◌++◌, if◌then◌else◌}
use Rattle.ocfl_tree.specs.{Place.{Text, Place}, StorageRoot.{StorageRoot, file_at}}
use Rattle.ocfl_tree.specs.{Store.{Store, Did}, declared.store.Opening.{Opening}}
use Rattle.ocfl_tree.specs.declared.store.Entry.{Entry}
use Rattle.ocfl_report.specs.declared.further.Further.{Further}
use Rattle.ocfl_digest.specs.{Bounded.{IsBoundedTo}, declared.bounded.Bounded.{Bounded}}
use Rattle.ocfl_digest.specs.declared.algorithm.Algorithm.TheVariants.{Sha256, Sha512}
use Rattle.ocfl_inventory.specs.Declaration.{Declared, undeclared, known, unknown, several, declaration_name}
use Rattle.ocfl_inventory.specs.declared.declaration.Level.TheVariants.{Object}
use Rattle.ocfl_inventory.specs.{declared.declaration.Version.{Version}, Table.{Table, table_of}}
use Rattle.ocfl_rules.specs.{Zone.{inventory_name, inventory_limit}, Head.{sidecar_name}}
use Rattle.ocfl_rules.specs.Trail.{is_meta, places_of}
use Rattle.ocfl_item.specs.{Looking.{IsFront}, Around.{TellOfSidecars}, Auditing.{IsMetadataRead}}
use Rattle.ocfl_item.specs.declared.fault.Fault.{Fault}
use Rattle.ocfl_item.specs.HeadFiles.{files_there, ReadsFiles, FilesStop}

-- what was read of a file within a limit, and nothing if no file is there
abbrev pub IsFileAt : StorageRoot → Place → ℕ → Option Bounded → Type 0
IsFileAt root p limit None = file_at root p ≡ None
IsFileAt root p limit (Some b) = (bytes : Text) × (file_at root p ≡ Some bytes) × IsBoundedTo limit bytes b

-- the file of one name was read
pub record ReadsFile (further : Further) (root : StorageRoot) (s t : Store) (o : Place) (name : Text) (limit : ℕ) (r : Result (Option Bounded) Fault) : Type 0 where
  pub gives : MatchResult r (λ f. ReadsFiles further root s t o (name ∷ []) × IsFileAt root (o ++ name ∷ []) limit f) (FilesStop further root s t o (name ∷ []))

-- some entries of o tell of its sidecars, which are metadata
pub record HaveSidecars (further : Further) (root : StorageRoot) (o : Place) (es : List Entry) : Type 0 where
  pub told : TellOfSidecars root o es
  pub short : is_meta further root (o ++ sidecar_name Sha256 ∷ []) ≡ true
  pub long : is_meta further root (o ++ sidecar_name Sha512 ∷ []) ≡ true

-- the first of them were opened, and nothing else
pub record ReadsSome (further : Further) (root : StorageRoot) (s t : Store) (o : Place) (names : List Text) : Type 0 where
  pub over : s.tree ≡ root
  pub trail : List Opening
  pub did : Did s t trail [] 0
  pub read : IsMetadataRead further root trail
  pub opened : IsFront (places_of trail) (files_there root o names)

-- the files about an object's inventory, in the order in which they are read
abbrev pub inventory_names : List Text
inventory_names = inventory_name ∷ sidecar_name Sha256 ∷ sidecar_name Sha512 ∷ []

abbrev pub head_names : Version → List Text
head_names v = declaration_name Object v ∷ inventory_names

-- the sidecars are read if the inventory is there, and is not over its limit
abbrev pub sidecars_for : Option Text → List Text
sidecars_for None = []
sidecars_for (Some bytes) = if nat_le (length bytes) inventory_limit then sidecar_name Sha256 ∷ sidecar_name Sha512 ∷ [] else []

-- what is read about the inventory of o
abbrev pub inventory_files : StorageRoot → Place → List Text
inventory_files root o = inventory_name ∷ sidecars_for (file_at root (o ++ inventory_name ∷ []))

-- what is read for the head of o by what it declares: nothing where it stops at that
abbrev pub head_files : StorageRoot → Place → Declared → List Text
head_files root o undeclared = []
head_files root o (known v) = declaration_name Object v ∷ inventory_files root o
head_files root o (unknown t) = []
head_files root o several = []

-- the table of an inventory that was read, and none if the head stops
abbrev pub table_in : Option Text → Option Table
table_in file = option_and_then (λ bytes. if nat_le (length bytes) inventory_limit then table_of bytes else None) file
