-- What the store of a night is asked for: by each run what a run asks for, and after it, as when the
-- night begins, the files that declare the root.
use Rattle.std.specs.Prelude.{◌≡◌, ◌⊎◌, List, [], ◌∷◌, ◌++◌, Option, Some, None, ⊤}
use Rattle.ocfl_tree.specs.{Listing.{entries_in}, Place.{Place, Text}, StorageRoot.{StorageRoot}}
use Rattle.ocfl_tree.specs.{Store.{Store}, declared.store.Opening.{Opening}}
use Rattle.ocfl_report.specs.declared.further.Further.{Further}
use Rattle.ocfl_rules.specs.{Parts.{Part}, Runs.{Limits}}
use Rattle.ocfl_item.specs.Looking.{IsFront}
use Rattle.ocfl_identity.specs.Identity.{AreNamed, declarations_among}
use Rattle.ocfl_identity.specs.declared.identity.Identity.{Identity}
use Rattle.ocfl_cursor.specs.Cursor.{Cursor}
use Rattle.ocfl_scrub.specs.{Call.{known_call}, Keeping.{RunsOn}, declared.running.RunEnd.{RunEnd}}
use Rattle.ocfl_state.specs.Checkpoint.{Checkpoint}
use Rattle.ocfl_night.specs.{Chain.{part_after}, Ending.{IsMadeBy, IsUnkept}, Looks.{Counts}, Reading.{content_since}}
use Rattle.ocfl_night.specs.declared.looking.NotKept.{NotKept}
use Rattle.ocfl_terms.specs.{declared.made.Made.{Made}, declared.made.SliceEnd.{SliceEnd}}
use Rattle.ocfl_night.specs.declared.looking.NotKept.TheVariants as unkept
use Rattle.ocfl_terms.specs.declared.made.SliceEnd.TheVariants as slice

-- ---- the files that declare the root

-- their names (OCFL 1.1, 4.2 Root Conformance Declaration)
abbrev pub declaring : StorageRoot → List Text
declaring root = declarations_among (entries_in root [])

-- an identity has them
abbrev pub IsDeclaredBy : StorageRoot → Identity → Type 0
IsDeclaredBy root id = id.declarations.items ≡ declaring root

-- From s to t no files were opened but those with these names in the top folder, and of these
-- directories the first were listed, each once, and no others.
pub record LooksOnly (names : List Text) (dirs : List Place) (s t : Store) : Type 0 where
  pub opened : List Opening
  pub listed : List Place
  pub openings : t.openings ≡ s.openings ++ opened
  pub listings : t.listings ≡ s.listings ++ listed
  pub named : AreNamed names opened
  pub front : IsFront listed dirs

-- how a night begins: its root is looked at, and it lists the top folder alone
pub record HasLooked (further : Further) (root : StorageRoot) (s t : Store) : Type 0 where
  pub counts : Counts s t
  pub content : content_since further root s t ≡ []
  pub only : LooksOnly (declaring root) ([] ∷ []) s t

-- ---- a run

-- A run was made from a cursor, and then no files were opened but those with these names. It went on
-- with a walk that had met an item at a place, or if that is none, began one. It checked what its cursor
-- does.
pub record IsRunAndLook (root : StorageRoot) (part : Part) (names : List Text) (met : Option Place) (c : Cursor) (Gave : RunEnd → Type 0) (s t : Store) : Type 0 where
  pub limits : Limits
  pub old : Text
  pub new : Text
  pub ran : RunEnd
  pub end : Store
  pub run : RunsOn (known_call c.further root s end old new) part met c limits ran
  pub look : LooksOnly names [] end t
  pub gave : Gave ran

-- the same from a checkpoint, past the branches that were left out
abbrev pub AskedFrom : StorageRoot → Part → List Text → Option Place → Checkpoint → (RunEnd → Type 0) → Store → Store → Type 0
AskedFrom root part names met k Gave s t = IsRunAndLook root (part_after part k.left) names met k.cursor Gave s t

-- or nothing was
abbrev pub MayAskFrom : StorageRoot → Part → List Text → Option Place → Checkpoint → Store → Store → Type 0
MayAskFrom root part names met k s t = (t ≡ s) ⊎ AskedFrom root part names met k (λ ran. ⊤) s t

-- a slice from a checkpoint made what its run gave, or nothing is kept of that
abbrev pub GaveAll : Checkpoint → Made → RunEnd → Type 0
GaveAll k made ran = IsUnkept k made ⊎ IsMadeBy ran made

-- the last run of a night, which made this; if nothing was heard of it, maybe there was none
abbrev pub AskedLast : StorageRoot → Part → List Text → Option Place → Checkpoint → List Made → Store → Store → Type 0
AskedLast root part names met k [] s t = MayAskFrom root part names met k s t
AskedLast root part names met k (made ∷ more) s t = AskedFrom root part names met k (GaveAll k made) s t

-- this is so; or if something was troubled, maybe that
abbrev pub OrTroubled : NotKept → Type 0 → Type 0 → Type 0
OrTroubled (unkept.Troubled why) Nothing Run = Nothing ⊎ Run
OrTroubled why Nothing Run = Run

-- nothing is troubled
abbrev pub IsUntroubled : NotKept → Type 0
IsUntroubled (unkept.Troubled why) = ⊥
IsUntroubled why = ⊤

-- ---- the walk that is kept

-- where the walk met an item that is kept after a slice: the limits ended it, and after any other one
-- none is kept
abbrev pub IsMetBy : SliceEnd → Option Place → Type 0
IsMetBy slice.Spent met = (p : Place) × (met ≡ Some p)
IsMetBy _ met = met ≡ None
