-- Where a night begins: where the checkpoint of its folder stands, or where there is none, at the
-- first item.
use Rattle.std.specs.Prelude.{◌≡◌, List, [], Bool, true, false, None}
use Rattle.ocfl_report.specs.declared.further.Further.{Further}
use Rattle.ocfl_cursor.specs.Cursor.{Cursor, new_cursor}
use Rattle.ocfl_state.specs.{Checkpoint.{Checkpoint}, Content.{Content, is_closed}}
use Rattle.ocfl_state.specs.declared.checkpoint_parts.{Left.{Left}, Phase.{Phase}, Phase.TheVariants.{Open, Closing}}
use Rattle.ocfl_night.specs.{Sound.{IsAt}, Steps.{begun_anew}}

-- what of a checkpoint says where the next run begins: its cursor, whether the cycle goes on, and the
-- branches that were left out
pub record Position : Type 0 where
  pub cursor : Cursor
  pub phase : Phase
  pub left : List Left

abbrev pub position : Checkpoint → Position
position k = record { cursor = k.cursor; phase = k.phase; left = k.left }

-- at the first item of the first cycle, with nothing left out, to check this
abbrev pub first_position : Further → Position
first_position further = record { cursor = new_cursor further; phase = Open; left = [] }

-- a first night begins in it: there is no checkpoint, one may be made, and no report is there, open or
-- of the first cycle
pub record IsBegunIn (create : Bool) (c : Content) : Type 0 where
  pub none : c.checkpoint ≡ None
  pub may : create ≡ true
  pub empty : c.report ≡ []
  pub unclosed : is_closed c.closed 1 ≡ false

-- where nights go on from a checkpoint that runs led to: there, or if the cycle has ended, at the
-- beginning of the next one
abbrev pub goes_on_in : Phase → Checkpoint → Position
goes_on_in Open k = position k
goes_on_in Closing k = position (begun_anew k)

abbrev pub goes_on_at : Checkpoint → Position
goes_on_at k = goes_on_in k.phase k

-- the checkpoint in a folder of this content stands there
abbrev pub StandsAt : Content → Position → Type 0
StandsAt c p = (k : Checkpoint) × (IsAt k c × (position k ≡ p))

-- a night in a folder of this content begins at this checkpoint
pub data BeginsAt (further : Further) (create : Bool) (c : Content) (start : Checkpoint) : Type 0 where
  first : IsBegunIn create c → position start ≡ first_position further → BeginsAt further create c start
  stored : (k : Checkpoint) → IsAt k c → position start ≡ position k → BeginsAt further create c start
