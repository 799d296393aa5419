-- What the headline of a cycle says if it has ended, and if it has not.
use Rattle.std.proofs.Common.{◌≡◌, refl, ◌∙◌, ap, ℕ, ◌+◌, ◌/◌, ◌≤◌, List, [], ◌++◌, length, All}
use Rattle.std.proofs.lemmas.Bool.{false≢true}
use Rattle.ocfl_tree.specs.{Place.{Text}, StorageRoot.{StorageRoot}, Store.{Store}}
use Rattle.ocfl_tree.specs.declared.store.Opening.{Opening}
use Rattle.ocfl_report.specs.Text.{text}
use Rattle.ocfl_rules.specs.{Audit.{audit, total_cost}, Due.{hashed_among, item_places}}
use Rattle.ocfl_rules.specs.{Parts.{whole}, Runs.{Limits, IsAtLeast, joined, runs, total_files}}
use Rattle.ocfl_rules.specs.Trail.{content_trail}
use Rattle.ocfl_scrub.specs.{Call.{Call, known_call}, Cycling.{HeadlineOf}}
use Rattle.ocfl_scrub.specs.declared.cycling.CycleStatus.TheVariants as cycle
use Rattle.ocfl_laws.proofs.JoinLaws.{places_are}
use Rattle.ocfl_report.specs.declared.further.Further.{Further}

module _ (further : Further) (root : StorageRoot) (s t : Store) (limits : List Limits) (count : ℕ) (before behind : Text) where
  pub whole_audit : HeadlineOf (known_call further root s t before behind) limits count cycle.Ended → behind ≡ before ++ text (audit further root [])
  whole_audit h = h.all_items refl

  pub part_of_it : HeadlineOf (known_call further root s t before behind) limits count cycle.Spent → behind ≡ before ++ text (joined (runs (audit further root []) limits))
  part_of_it h = h.reports

module _ (call : Call) (limits : List Limits) (count : ℕ) where
  pub each_file : HeadlineOf call limits count cycle.Ended
      → (trail : List Opening) × ((call.after.openings ≡ call.before.openings ++ trail) × (content_trail call.further call.root trail ≡ hashed_among call.further call.root (item_places call.further call.root)))
  each_file h = (h.trail, (h.opened, h.opened_once refl ∙ ap (hashed_among call.further call.root) (places_are call.further call.root whole)))

  pub few_runs : (b n : ℕ) → HeadlineOf call limits count cycle.Ended → 1 ≤ b → 1 ≤ n → All (IsAtLeast b n) limits
      → total_cost (audit call.further call.root []) / b + total_files (audit call.further call.root []) / n + 1 ≤ length limits
      → count ≤ total_cost (audit call.further call.root []) / b + total_files (audit call.further call.root []) / n + 1
  few_runs b n h some more large fit = (h.ends_within b n some more large fit).1

  pub enough_runs : (b n : ℕ) → HeadlineOf call limits count cycle.Spent → 1 ≤ b → 1 ≤ n → All (IsAtLeast b n) limits
      → total_cost (audit call.further call.root []) / b + total_files (audit call.further call.root []) / n + 1 ≤ length limits → ⊥
  enough_runs b n h some more large fit = false≢true (h.ends_within b n some more large fit).0
