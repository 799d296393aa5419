-- How a joined report is made.
use Rattle.std.specs.Prelude.{◌≡◌, ◌⊎◌, ℕ, ◌≤◌, List, [], ◌∷◌, ◌++◌, Bool, Option, Some, None}
use Rattle.ocfl_tree.specs.Place.{Text}
use Rattle.ocfl_disk.specs.{Names.{Stored}, PowerCut.{DiskState}}
use Rattle.ocfl_joining.specs.{Crash.{Step, After}, Reports.{Put}}
use Rattle.ocfl_join_disk.specs.Shown.{HadLeft, MayLeave, joined_in, made_of}

-- what was made, as a joined report
abbrev pub put_made : Bool → (ℕ → Text) → Option ℕ → Put
put_made whole bytes made = record { whole = whole; bytes = made_of bytes made }

-- it is the joined report of a cycle, beside those that were there
abbrev pub IsNamed : ℕ → Bool → Stored → Option ℕ → Stored → Type 0
IsNamed cycle whole old made new = joined_in cycle new ≡ joined_in cycle old ++ put_made whole old.bytes made ∷ []

-- what a cut may leave of the joined reports of a cycle, after calls of a disk
pub record PutsPass (cycle : ℕ) (step : Step) (old new : DiskState) : Type 0 where
  pub later : old.moment ≤ new.moment
  pub now : (puts : List Put) → MayLeave new (joined_in cycle) puts → After step (MayLeave old (joined_in cycle)) puts
  pub meanwhile : (t : ℕ) (puts : List Put) → t ≤ old.moment → HadLeft new (joined_in cycle) t puts → HadLeft old (joined_in cycle) t puts ⊎ After step (MayLeave old (joined_in cycle)) puts
  pub keeps : (t : ℕ) (puts : List Put) → t ≤ old.moment → HadLeft old (joined_in cycle) t puts → HadLeft new (joined_in cycle) t puts
