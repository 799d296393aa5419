-- The files that an object's head is made of: its declaration, its inventory and the sidecars.
use Rattle.std.specs.Prelude.{◌≡◌, List, [], ◌∷◌, ◌++◌, Result, MatchResult, is_some, map, filter}
use Rattle.ocfl_tree.specs.{Place.{Text, Place}, StorageRoot.{StorageRoot, file_at}}
use Rattle.ocfl_tree.specs.{Store.{Store, Did}, declared.store.Opening.{Opening}}
use Rattle.ocfl_report.specs.declared.further.Further.{Further}
use Rattle.ocfl_rules.specs.Trail.{places_of}
use Rattle.ocfl_item.specs.{Looking.{IsFront}, Auditing.{IsMetadataRead}, Ways.{Stops}}
use Rattle.ocfl_item.specs.declared.fault.Fault.{Fault}

-- the files of these names that are there in o
abbrev pub files_there : StorageRoot → Place → List Text → List Place
files_there root o names = map (λ n. o ++ n ∷ []) (filter (λ n. is_some (file_at root (o ++ n ∷ []))) names)

-- from s to t these of them were opened, in order, and nothing was listed
pub record ReadsFiles (further : Further) (root : StorageRoot) (s t : Store) (o : Place) (names : List Text) : Type 0 where
  pub over : s.tree ≡ root
  pub trail : List Opening
  pub did : Did s t trail [] 0
  pub read : IsMetadataRead further root trail
  pub opened : places_of trail ≡ files_there root o names

-- the first of them were opened, and then there was a fault
pub record FilesStop (further : Further) (root : StorageRoot) (s t : Store) (o : Place) (names : List Text) (why : Fault) : Type 0 where
  pub trail : List Opening
  pub stops : Stops further root s t [] trail why
  pub opened : IsFront (places_of trail) (files_there root o names)

-- of these files those that are there were opened, in order, and none else; before a fault the
-- first of them
abbrev pub OpensJust : {A : Type 0} → Further → StorageRoot → Store → Store → Place → List Text → Result A Fault → Type 0
OpensJust further root s t o names r = MatchResult r (λ x. ReadsFiles further root s t o names) (FilesStop further root s t o names)
