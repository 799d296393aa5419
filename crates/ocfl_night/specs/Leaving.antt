-- What a night does about a run that stopped at a place, and which branch it leaves out for it.
use Rattle.std.specs.Prelude.{◌≡◌, ◌⊎◌, ◌≤◌, ◌-◌, ◌++◌, ◌∷◌, [], List, Bool, IsTrue, true, false, ◌&&◌, ◌||◌, if◌then◌else◌, Option, Some, None, All, length, map, take, nat_lt, nat_le, nat_eq}
use Rattle.std.specs.List.{starts_with}
use Rattle.ocfl_tree.specs.Place.{Text, Place, text_eq, place_eq}
use Rattle.ocfl_inventory.specs.Declaration.{is_declaration}
use Rattle.ocfl_inventory.specs.declared.declaration.Level.TheVariants.{Object}
use Rattle.ocfl_rules.specs.{Trail.{is_root_meta}, Zone.{inventory_name}}
use Rattle.ocfl_item.specs.declared.fault.Fault.TheVariants as fault
use Rattle.ocfl_state.specs.{Checkpoint.{Checkpoint}, declared.checkpoint_parts.Left.{Left}}
use Rattle.ocfl_night.specs.{Chain.{past}, Done.{Done}, Site.{IsAlike}, Steps.{with_left}, declared.pause.Pause.{Pause}}
use Rattle.ocfl_terms.specs.Counting.{counted}
use Rattle.ocfl_night.specs.declared.tally.Remedy.{Remedy}
use Rattle.ocfl_night.specs.declared.tally.Remedy.TheVariants.{TryAgain, LeaveOut, Halt}
use Rattle.ocfl_night.specs.declared.tally.Tally.{Tally}
use Rattle.ocfl_night.specs.declared.pause.Pause.TheVariants as pause

-- ---- the branch of a place

-- nothing for the storage root
abbrev pub last_name : Place → Text
last_name [] = []
last_name (n ∷ []) = n
last_name (n ∷ m ∷ p) = last_name (m ∷ p)

-- whether a file of this name is an inventory, or a sidecar of one
abbrev pub is_of_inventory : Text → Bool
is_of_inventory n = text_eq n inventory_name || starts_with nat_eq n (inventory_name ++ 46 ∷ [])

-- or speaks for the object that it lies in otherwise, as its declaration
abbrev pub speaks_for_object : Text → Bool
speaks_for_object n = is_of_inventory n || is_declaration Object n

-- the branch that is left out for a place: that of the object or of the storage root which it speaks
-- for, or its own
abbrev pub branch_at : Place → Place
branch_at p = if is_root_meta p || speaks_for_object (last_name p) then take (length p - 1) p else p

-- whether a place comes after all that a branch has: not for the storage root, and not where the
-- last name has 255 bytes
abbrev pub has_end : Place → Bool
has_end [] = false
has_end (n ∷ p) = nat_lt (length (last_name (n ∷ p))) 255

abbrev pub end_of : Place → Option Place
end_of branch = if has_end branch then Some (past branch) else None

-- ---- what is done

-- the branch to leave out for a place, after these: none after 16, or if it has no end
abbrev pub branch_for : List Place → Place → Option Place
branch_for left p = if nat_lt (length left) 16 && has_end (branch_at p) then Some (branch_at p) else None

abbrev pub remedy_by : Option Place → Remedy
remedy_by None = Halt
remedy_by (Some branch) = LeaveOut branch

abbrev pub is_at : Option Place → Place → Bool
is_at None p = false
is_at (Some tried) p = place_eq tried p

-- The place is tried once more, and then its branch is left out. A night that is to stop at faults
-- halts, and so does one after the 64th run that stopped.
abbrev pub remedy_at : Bool → Done → Place → Remedy
remedy_at strict d p =
    if strict || nat_le 64 d.stops then Halt
    else (if is_at d.tried p then remedy_by (branch_for d.left p) else TryAgain)

-- the place that is tried once more
abbrev pub tried_by : Place → Remedy → Option Place
tried_by p TryAgain = Some p
tried_by p _ = None

-- the branch that is left out
abbrev pub left_by : Remedy → List Place
left_by (LeaveOut branch) = branch ∷ []
left_by _ = []

-- what is done then
abbrev pub with_remedy : Place → Remedy → Done → Done
with_remedy p remedy d = record d { stops = counted d.stops 1; tried = tried_by p remedy; left = d.left ++ left_by remedy }

-- the checkpoint after it, and what halts the night
abbrev pub done_by : Checkpoint → Place → Remedy → Checkpoint × Option Pause
done_by k p TryAgain = (k, None)
done_by k p (LeaveOut branch) = (with_left branch k, None)
done_by k p Halt = (k, Some (pause.Stopped (fault.Store p)))

-- A night that had left out these branches leads from a checkpoint to another one, and has left out
-- these then: the checkpoint names what was left out meanwhile, is of the same root and part, and as
-- whole as it was.
pub record LeadsOn (k : Checkpoint) (had : List Place) (l : Checkpoint) (has : List Place) : Type 0 where
  pub alike : IsAlike k l
  pub whole : l.whole ≡ k.whole
  pub more : List Left
  pub left : l.left ≡ k.left ++ more
  pub named : has ≡ had ++ map (λ x. x.place) more

-- no branch more was left out, or the one that is to be for this place
abbrev pub MayHaveLeftAt : Bool → Done → Place → Done → Type 0
MayHaveLeftAt strict d p e = (e.left ≡ d.left) ⊎ (e.left ≡ d.left ++ left_by (remedy_at strict d p))

-- ---- what a night may leave out

pub record MayLeave (strict : Bool) (left : List Place) : Type 0 where
  pub few : length left ≤ 16
  pub none : strict ≡ true → left ≡ []
  pub ends : All (λ b. IsTrue (has_end b)) left

-- a night that may leave out what it had still may
abbrev pub StillMayLeave : Bool → Tally → Tally → Type 0
StillMayLeave strict old new = MayLeave strict old.left.items → MayLeave strict new.left.items
