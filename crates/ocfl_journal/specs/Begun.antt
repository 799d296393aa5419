-- Where nights begin, and whose nights they are.
use Rattle.std.specs.Prelude.{◌≡◌, ◌++◌, ◌∷◌, [], ℕ, Option, Some, None, Result, Ok, Err, Vec, codes}
use Rattle.std.specs.Option.{option_map}
use Rattle.std.specs.declared.alloc.Global.{Global}
use Rattle.ocfl_tree.specs.{Place.{Place, Text}, Path.{slashed}}
use Rattle.ocfl_state.specs.{Checkpoint.{Checkpoint, IsCheckpointText}, Calls.{bytes_of}}
use Rattle.ocfl_kept.specs.{Keeping.{IsRead, places_of}, Standing.{first_standing, standing_of}}
use Rattle.ocfl_journal.specs.declared.begun.Begun.{Begun}

-- before the first night
pub record IsFirst (b : Begun) : Type 0 where
  pub standing : b.standing ≡ first_standing
  pub left : b.left.items ≡ []
  pub said : b.said ≡ 0

-- by a checkpoint
pub record IsBegunAt (c : Checkpoint) (b : Begun) : Type 0 where
  pub standing : b.standing ≡ standing_of c
  pub left : b.left.items ≡ places_of c.left
  pub said : b.said ≡ c.said

abbrev pub IsBegunFrom : Option Checkpoint → Begun → Type 0
IsBegunFrom None b = IsFirst b
IsBegunFrom (Some c) b = IsBegunAt c b

-- by the bytes of a checkpoint, if there are any. Bytes that are no checkpoint are as none: the night says why
abbrev pub IsBegunBy : Option Text → Begun → Type 0
IsBegunBy None b = IsFirst b
IsBegunBy (Some bytes) b = (found : Option Checkpoint) × IsRead bytes found × IsBegunFrom found b

-- the bytes that a folder gave; none if it failed
abbrev pub given_bytes : {E : Type 0} → Result (Option (Vec ℕ Global)) E → Option Text
given_bytes (Ok found) = option_map bytes_of found
given_bytes (Err why) = None

-- the path of the storage root that a checkpoint has, by its bytes
abbrev pub IsRootBy : Option Text → Place → Type 0
IsRootBy None root = ⊥
IsRootBy (Some bytes) root = (c : Checkpoint) × IsCheckpointText bytes c × (root ≡ c.root.path)

-- the path from `/` on of a place below it
abbrev pub from_top : Place → Text
from_top p = codes "/" ++ slashed p

-- a name in a folder, by its path from `/` on, is the last one of a storage root's path
abbrev pub IsLastOf : Text → Text → Place → Type 0
IsLastOf folder name root = (above : Place) × (folder ≡ from_top above) × (root ≡ above ++ name ∷ [])
