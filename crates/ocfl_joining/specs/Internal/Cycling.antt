-- How far cycles are joined.
use Rattle.std.specs.Prelude.{◌≡◌, ℕ, ◌+◌, ◌<◌, ◌≤◌, List, ◌++◌, length, flat_map, Bool, Option}
use Rattle.ocfl_tree.specs.Place.{Text}
use Rattle.ocfl_joining.specs.{Status.{status_of}, Stops.{IsStopRight}}
use Rattle.ocfl_joining.specs.Cycles.{SeenCycles, Round, Comes, IsBeside, IsEarlier, IsLast, MayCome, AreEarlier, end_by, ends_of, last_part, said_by}
use Rattle.ocfl_joining.specs.declared.{failing.JoinEnd.{JoinEnd}, joining.JoinStop.{JoinStop}, status.CycleEnd.{CycleEnd}}

-- a cycle was joined over what was made of it before
pub record Joins (cycle : ℕ) (made : Option Bool) (names : Bool) (old new : SeenCycles) (status : ℕ) : Type 0 where
  pub end : CycleEnd
  pub text : Text
  pub comes : Comes old cycle made names end text (new.reports cycle) old.said new.said
  pub noted : new.noted ≡ old.noted ++ text
  pub status_is : status ≡ status_of end

-- its joining stopped for this reason, which is not said yet
pub record JoinsNone (parts cycle : ℕ) (old new : SeenCycles) (why : JoinStop) : Type 0 where
  pub noted : new.noted ≡ old.noted
  pub may : MayCome old.separators (old.parts cycle) cycle (old.word cycle) (old.reports cycle) (new.reports cycle) old.said new.said
  pub right : IsStopRight (last_part old parts cycle) old.separators (old.reports cycle) why
  pub beside : IsBeside cycle old new

-- what came of a cycle before the last one
pub record TriesEarlier (parts cycle : ℕ) (old new : SeenCycles) (result : JoinEnd) : Type 0 where
  pub round : Round
  pub is : IsEarlier old parts cycle (new.reports cycle) old.said new.said round
  pub noted : new.noted ≡ old.noted ++ said_by round
  pub result_is : result ≡ end_by round
  pub beside : IsBeside cycle old new

-- what came of the last one
pub record TriesLast (cycle : ℕ) (old new : SeenCycles) (result : JoinEnd) : Type 0 where
  pub round : Round
  pub is : IsLast old cycle (new.reports cycle) old.said new.said round
  pub noted : new.noted ≡ old.noted ++ said_by round
  pub result_is : result ≡ end_by round
  pub beside : IsBeside cycle old new

-- what came of the cycles from a number on, and below another one
pub record AreTried (parts first next : ℕ) (old new : SeenCycles) (result : JoinEnd) : Type 0 where
  pub rounds : List Round
  pub are : AreEarlier old new.reports parts first old.said new.said rounds
  pub all : first + length rounds ≡ next
  pub noted : new.noted ≡ old.noted ++ flat_map said_by rounds
  pub result_is : result ≡ ends_of rounds
  pub separators : new.separators ≡ old.separators
  pub known : new.parts ≡ old.parts
  pub closed : new.closed ≡ old.closed
  pub packed : new.packed ≡ old.packed
  pub path : new.path ≡ old.path
  pub word : new.word ≡ old.word
  pub there : new.there ≡ old.there
  pub others : (other : ℕ) → (first ≤ other → other < next → ⊥) → new.reports other ≡ old.reports other
