-- Runs of a part that went well, made one after the other, by whatever processes.
use Rattle.std.specs.Prelude.{◌≡◌, List, [], ◌∷◌, ◌++◌, None, flat_map}
use Rattle.ocfl_tree.specs.{Place.{Text, Place}, StorageRoot.{StorageRoot}, Store.{Store}}
use Rattle.ocfl_rules.specs.{Parts.{Part}, Trail.{content_trail}}
use Rattle.ocfl_cursor.specs.Cursor.{Cursor}
use Rattle.ocfl_report.specs.declared.further.Further.{Further}
use Rattle.ocfl_scrub.specs.{Call.{known_call}, Running.{place_in, RunsFromWithin}}
use Rattle.ocfl_scrub.specs.Joining.{PartRun, PartCycle}
use Rattle.ocfl_scrub.specs.declared.running.RunStatus.TheVariants as status

-- a run was made from a cursor, and no failure was counted
pub record RanWell (further : Further) (root : StorageRoot) (part : Part) (c : Cursor) (r : PartRun) : Type 0 where
  pub before : Store
  pub behind : Store
  pub old : Text
  pub runs : RunsFromWithin (known_call further root before behind old (old ++ r.report)) part c r.limits r.ran
  pub opened_is : behind.openings ≡ before.openings ++ r.opened
  pub unfailing : behind.failures ≡ before.failures

-- each was made from the cursor that the one before it answered, and the last ended the cycle
abbrev pub AreRuns : Further → StorageRoot → Part → Cursor → List PartRun → Type 0
AreRuns further root part c [] = ⊥
AreRuns further root part c (r ∷ []) = RanWell further root part c r × (r.ran.end ≡ status.Ended)
AreRuns further root part c (r ∷ q ∷ runs) = RanWell further root part c r × ((r.ran.end ≡ status.Spent) × AreRuns further root part r.ran.cursor (q ∷ runs))

-- what they opened together
abbrev pub opened_by : Further → StorageRoot → List PartRun → List Place
opened_by further root runs = flat_map (λ r. content_trail further root r.opened) runs

-- the runs of a cycle begin with the part's first item and end with the cycle
pub record IsPartCycle (further : Further) (root : StorageRoot) (d : PartCycle) : Type 0 where
  pub begins : place_in d.first.state ≡ None
  pub are : AreRuns further root d.part d.first d.runs
