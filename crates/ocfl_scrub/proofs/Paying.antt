-- A pass whose items are paid for, one after the other.
use Rattle.std.specs.Prelude.{◌≡◌, ◌≢◌, ◌⊎◌, ◌<◌, ◌+◌, ℕ, List, [], ◌∷◌, ◌++◌, Bool, true, false, Option, Some, take, ⊤}
use Rattle.std.specs.{Io.KnownBytes.{Appends}, List.{last_or}}
use Rattle.ocfl_tree.specs.{Place.{Place}, StorageRoot.{StorageRoot}, Store.{Store}}
use Rattle.ocfl_tree.specs.declared.store.Opening.{Opening}
use Rattle.ocfl_report.specs.{Line.{Item, found}, Text.{text}}
use Rattle.ocfl_rules.specs.Audit.{total_cost}
use Rattle.ocfl_rules.specs.Inventories.{is_hashed}
use Rattle.ocfl_rules.specs.Due.{items_at}
use Rattle.ocfl_rules.specs.Between.{looked_between, read_between}
use Rattle.ocfl_rules.specs.Runs.{Limits, files_of, total_files, may_take}
use Rattle.ocfl_item.specs.{Auditing.{Audits}}
use Rattle.ocfl_report.specs.declared.further.Further.{Further}
use Rattle.ocfl_scrub.specs.Types.{ReportStop}
use Rattle.ocfl_scrub.specs.declared.stop.ReportStop.TheVariants as halt
use Rattle.ocfl_walk.specs.{Ends.{is_past}, declared.end.End.{End}}
use Rattle.ocfl_scrub.proofs.Passing.{due_in, Passes, Finishes, Halts}

-- each of the items may be taken after this was spent and these files were started
abbrev pub Paid : Limits → ℕ → ℕ → List Item → Type 0
Paid limits spent files [] = ⊤
Paid limits spent files (i ∷ items) = (may_take limits spent files i.cost ≡ true) × Paid limits (spent + i.cost) (files + files_of i.cost) items

-- the items were paid for, and this is what they cost
pub record Counts (limits : Limits) (spent files : ℕ) (items : List Item) : Type 0 where
  pub paid : Paid limits 0 0 items
  pub spent_is : spent ≡ total_cost items
  pub files_is : files ≡ total_files items

-- below both limits
abbrev pub IsWithinBoth : Limits → ℕ → ℕ → Type 0
IsWithinBoth limits spent files = (spent < limits.budget) × (files < limits.files)

-- from s to t the items above from were taken up to last, each whole and paid for
pub record Pays (further : Further) (root : StorageRoot) (e : End) (s t : Store) (old new : Option (List ℕ)) (from last : Option Place) (limits : Limits) (spent files : ℕ) (finding : Bool) : Type 0 where
  pub passes : Passes further root e s t old new from last finding
  pub counts : Counts limits spent files (items_at further root passes.trail passes.done)

-- from s to t all of them before the end were
pub record PaysAll (further : Further) (root : StorageRoot) (e : End) (s t : Store) (old new : Option (List ℕ)) (from last : Option Place) (limits : Limits) (spent files : ℕ) (finding : Bool) : Type 0 where
  pub finishes : Finishes further root e s t old new from last finding
  pub counts : Counts limits spent files (items_at further root finishes.trail (due_in further root e from))

-- from s to t those before a hashed item were, at which a limit is reached; the walk has gone on to
-- it
pub record PaysUpTo (further : Further) (root : StorageRoot) (e : End) (s t : Store) (old new : Option (List ℕ)) (from last : Option Place) (limits : Limits) (spent files : ℕ) (finding : Bool) : Type 0 where
  pub next : Place
  pub done : List Place
  pub trail : List Opening
  pub audits : Audits further root s t done (looked_between root from (Some next)) (read_between root from (Some next)) trail
  pub due_are : due_in further root e from ≡ done ++ next ∷ due_in further root e (Some next)
  pub in_front : is_past e next ≡ false
  pub last_is : last ≡ last_or from done
  pub wrote : Appends old new (text (items_at further root trail done))
  pub found_is : finding ≡ found (items_at further root trail done)
  pub counts : Counts limits spent files (items_at further root trail done)
  pub hashed : is_hashed further root next ≡ true
  pub reached : IsWithinBoth limits spent files → ⊥

-- from s to t there was a fault after the last of them: the next one is paid for, or it was not
-- begun
pub record PaysHalting (further : Further) (root : StorageRoot) (e : End) (s t : Store) (old new : Option (List ℕ)) (from last : Option Place) (limits : Limits)
    (spent files : ℕ) (finding : Bool) (why : ReportStop) : Type 0 where
  pub halts : Halts further root e s t old new from last finding why
  pub counts : Counts limits spent files (items_at further root halts.trail halts.done)
  pub next : Paid limits spent files (items_at further root halts.trail (take 1 (due_in further root e last))) ⊎ ((why ≢ halt.Output) × (halts.begun ≡ []))
