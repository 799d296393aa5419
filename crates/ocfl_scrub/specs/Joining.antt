-- Runs of a part made one after the other, by whatever processes, and the parts of a storage root
-- together; even if runs stop, and meet files that they cannot read.
use Rattle.std.specs.Prelude.{◌≡◌, ◌≢◌, ℕ, List, [], ◌∷◌, ◌++◌, Bool, true, false, not, Option, Some, None, filter, flat_map, length}
use Rattle.std.specs.Ordering.{is_lt}
use Rattle.ocfl_tree.specs.{Place.{Text, Place, place_cmp}, StorageRoot.{StorageRoot}}
use Rattle.ocfl_tree.specs.{Store.{Store}, declared.store.Opening.{Opening}}
use Rattle.ocfl_report.specs.{Line.{Item}, Text.{text}}
use Rattle.ocfl_rules.specs.{Audit.{Unread, after}, Parts.{Part}, Runs.{Limits}}
use Rattle.ocfl_rules.specs.Trail.{unread_of}
use Rattle.ocfl_cursor.specs.Cursor.{State, start, behind, ended, Cursor}
use Rattle.ocfl_report.specs.declared.further.Further.{Further}
use Rattle.ocfl_scrub.specs.{Call.{Call, known_call}, Types.{RunEnd, RunStatus}}
use Rattle.ocfl_scrub.specs.Running.{place_in, taken_in, RunEndsWithin, RunsFromWithin}
use Rattle.ocfl_scrub.specs.declared.running.RunStatus.TheVariants as status
use Rattle.ocfl_scrub.specs.declared.stop.ReportStop.TheVariants.{Output}

-- what a run was given, what it wrote and opened, and what it answered
pub record PartRun : Type 0 where
  pub limits : Limits
  pub report : Text
  pub opened : List Opening
  pub ran : RunEnd

-- what some runs wrote together
abbrev pub reports_of : List PartRun → Text
reports_of runs = flat_map (λ r. r.report) runs

-- the runs of one cycle of a part
pub record PartCycle : Type 0 where
  pub part : Part
  pub first : Cursor
  pub runs : List PartRun

-- ---- any run may stop, and may meet files that it cannot read

-- the items of a run whose lines went out whole
abbrev pub items_out : (call : Call) (part : Part) (from last : Option Place) (limits : Limits) (spent files : ℕ) (finding : Bool) (end : RunStatus) → RunEndsWithin call part from last limits spent files finding end → List Item
items_out call part from last limits spent files finding status.Ended run = taken_in call.further call.root run.trail part from limits
items_out call part from last limits spent files finding status.Spent run = taken_in call.further call.root run.1.trail part from limits
items_out call part from last limits spent files finding (status.Stopped why) run = run.stops.whole
items_out call part from last limits spent files finding status.Worn run = []

-- a run was made from a cursor, whatever failed in it. Its report is the lines of those items; after
-- it comes what went out of the next one's lines, if the output failed
pub record Ran (further : Further) (root : StorageRoot) (part : Part) (c : Cursor) (r : PartRun) : Type 0 where
  pub before : Store
  pub behind : Store
  pub old : Text
  pub cut : Text
  pub runs : RunsFromWithin (known_call further root before behind old (old ++ (r.report ++ cut))) part c r.limits r.ran
  pub report_is : r.report ≡ text (items_out (known_call further root before behind old (old ++ (r.report ++ cut))) part (place_in c.state) runs.last r.limits r.ran.spent r.ran.files r.ran.found r.ran.end runs.run)
  pub opened_is : behind.openings ≡ before.openings ++ r.opened

-- a run from a cursor has a report: the text that it wrote, except for what was cut off if the output failed
abbrev pub HasReport : Further → StorageRoot → Text → Text → Part → Cursor → Limits → RunEnd → Type 0
HasReport further root old new part c limits ran =
    (r : PartRun) × ((cut : Text) × ((r.limits ≡ limits) × ((r.ran ≡ ran) × ((new ≡ old ++ (r.report ++ cut)) × ((ran.end ≢ status.Stopped Output → cut ≡ []) × Ran further root part c r)))))

-- each was made from the cursor that the one before it answered, and none but the last may have
-- ended the cycle
abbrev pub AreOneCycle : Further → StorageRoot → Part → Cursor → List PartRun → Type 0
AreOneCycle further root part c [] = ⊥
AreOneCycle further root part c (r ∷ []) = Ran further root part c r
AreOneCycle further root part c (r ∷ q ∷ runs) = Ran further root part c r × ((r.ran.end ≢ status.Ended) × AreOneCycle further root part r.ran.cursor (q ∷ runs))

-- the cursor that the last of them answered
abbrev pub cursor_after : Cursor → List PartRun → Cursor
cursor_after c [] = c
cursor_after c (r ∷ runs) = cursor_after r.ran.cursor runs

-- whether a run that leaves a cursor like this has taken what is at a place, and what it leaves
abbrev pub is_taken : State → Place → Bool
is_taken start p = false
is_taken (behind q) p = not (is_lt (place_cmp q p))
is_taken ended p = true

abbrev pub left_by : State → List Item → List Item
left_by start items = items
left_by (behind q) items = after items (Some q)
left_by ended items = []

-- the files that a run could not read, and those of all runs. A file after the cursor is not among
-- them, since a later run opens it again
abbrev pub unread_by : Further → StorageRoot → PartRun → Unread
unread_by further root r = filter (λ e. is_taken r.ran.cursor.state e.0) (unread_of further root r.opened)

abbrev pub unread_together : Further → StorageRoot → List PartRun → Unread
unread_together further root runs = flat_map (unread_by further root) runs

-- how many of some runs did not stop
abbrev pub is_stopped : RunStatus → Bool
is_stopped status.Ended = false
is_stopped status.Spent = false
is_stopped (status.Stopped why) = true
is_stopped status.Worn = false

abbrev pub unstopped : List PartRun → ℕ
unstopped runs = length (filter (λ r. not (is_stopped r.ran.end)) runs)

-- the runs of a part's cycle, from its first item to its end
pub record IsWholeCycle (further : Further) (root : StorageRoot) (d : PartCycle) : Type 0 where
  pub starts : place_in d.first.state ≡ None
  pub are : AreOneCycle further root d.part d.first d.runs
  pub ends : (cursor_after d.first d.runs).state ≡ ended
