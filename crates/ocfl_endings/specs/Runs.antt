-- What the runs of a night came to.
use Rattle.std.specs.Prelude.{◌≡◌, ℕ, ◌||◌, Bool, Option, nat_lt}
use Rattle.ocfl_tree.specs.Place.{Text}
use Rattle.ocfl_disk.specs.declared.state_file.Reason.{Reason}
use Rattle.ocfl_kept.specs.{Refusing.{AreWordsOf}, declared.names.Names.{Names}}
use Rattle.ocfl_terms.specs.declared.plan.{Halt.{Halt}, NightEnd.{NightEnd}}
use Rattle.ocfl_endings.specs.Ending.{ending_line}

-- whether some of the report was lost, or lines of it are no report lines
abbrev pub is_lost : NightEnd → ℕ → Bool
is_lost e broken = e.lost || nat_lt 0 broken

-- what is said of a night that ended so, by why the last call on its state folder failed, and why the last
-- one over the storage root did
abbrev pub IsSaidOf : Halt → Option Reason → Option Text → Names → Option Text → Type 0
IsSaidOf halt reason there n said = (words : Option Text) × AreWordsOf reason words × (said ≡ ending_line halt words there n)
