-- Where the runs of a night stop, that the store failed there, and when that ends the night.
use Rattle.std.specs.Prelude.{⊤, ℕ, ◌≡◌, ◌+◌, ◌≤◌, List, [], ◌∷◌, ◌++◌, if◌then◌else◌, Option, Some, None}
use Rattle.ocfl_tree.specs.{Place.{Place}, Store.{Store}}
use Rattle.ocfl_item.specs.declared.fault.Fault.TheVariants as fault
use Rattle.ocfl_terms.specs.Clock.{Event, Asked, Read, Heard}
use Rattle.ocfl_night.specs.Leaving.{is_at}
use Rattle.ocfl_night.specs.Looks.{failed_at}
use Rattle.ocfl_night.specs.declared.looking.NotKept.{NotKept}
use Rattle.ocfl_terms.specs.declared.made.SliceEnd.{SliceEnd}
use Rattle.ocfl_night.specs.declared.looking.NotKept.TheVariants as unkept
use Rattle.ocfl_terms.specs.declared.made.SliceEnd.TheVariants as slice

-- ---- where

-- the place at which a run stopped, or at which the root could not be looked at after it
abbrev pub stopped_at : SliceEnd → Option Place
stopped_at (slice.Stopped (fault.Store p)) = Some p
stopped_at (slice.Unread p) = Some p
stopped_at _ = None

-- the place at which the root could not be looked at
abbrev pub unread_at : NotKept → Option Place
unread_at (unkept.Unread p) = Some p
unread_at _ = None

-- ---- the store failed there

-- from s to t it failed once more at this place, if it is one
abbrev pub FailedMore : Store → Store → Option Place → Type 0
FailedMore s t None = ⊤
FailedMore s t (Some p) = failed_at p s + 1 ≤ failed_at p t

-- how many of the runs of which a clock heard stopped at a place
abbrev pub stops_at : Place → List Event → ℕ
stops_at p [] = 0
stops_at p (Asked stops ∷ events) = stops_at p events
stops_at p (Read now ∷ events) = stops_at p events
stops_at p (Heard made ∷ events) = (if is_at (stopped_at made.end) p then 1 else 0) + stops_at p events

-- at each place the store failed at least as often as runs stopped there, by what the clock heard
-- meanwhile
pub record AreFailed (old new : List Event) (s t : Store) : Type 0 where
  pub events : List Event
  pub are : new ≡ old ++ events
  pub each : (p : Place) → failed_at p s + stops_at p events ≤ failed_at p t
