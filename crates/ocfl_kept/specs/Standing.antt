-- Where the nights over a folder stand, by a checkpoint.
use Rattle.std.specs.Prelude.{ℕ, ◌+◌, ◌-◌, ◌^◌, ◌==◌, ◌&&◌, Bool, true, false, if◌then◌else◌, length, min, nat_lt}
use Rattle.ocfl_cursor.specs.Cursor.{State, start, behind, ended}
use Rattle.ocfl_state.specs.Checkpoint.{Checkpoint}
use Rattle.ocfl_state.specs.declared.checkpoint_parts.Phase.{Phase}
use Rattle.ocfl_state.specs.declared.checkpoint_parts.Phase.TheVariants.{Open, Closing}
use Rattle.ocfl_kept.specs.declared.stand.Standing.{Standing}

-- before the first night
abbrev pub first_standing : Standing
first_standing = record { cycle = 1; runs = 0; spent = 0; has_ended = false; is_closed = false; is_whole = true; left = 0 }

abbrev pub is_ended : State → Bool
is_ended start = false
is_ended (behind p) = false
is_ended ended = true

abbrev pub is_open : Phase → Bool
is_open Open = true
is_open Closing = false

-- A report is closed once its cycle has ended and its checkpoint was put as an open one again. It is
-- whole if nothing of it was lost and no branch was left out.
abbrev pub standing_of : Checkpoint → Standing
standing_of c = record {
  cycle = c.cursor.cycle;
  runs = c.cursor.runs;
  spent = min c.cursor.spent (2 ^ 64 - 1);
  has_ended = is_ended c.cursor.state;
  is_closed = is_ended c.cursor.state && is_open c.phase;
  is_whole = c.whole && (length c.left == 0);
  left = length c.left;
}

-- the same after what was noted before: the checkpoint that is put once a report is closed names no
-- branch of that cycle any more
abbrev pub noted_left : Standing → Standing → ℕ
noted_left before s = if s.is_closed && s.cycle == before.cycle then before.left else s.left

-- whether a branch is left out that was not when the nights stood there
abbrev pub leaves_more : Standing → Standing → Bool
leaves_more before s = nat_lt (if s.cycle == before.cycle then before.left else 0) s.left

-- the cycle whose report was closed last, 0 if none was
abbrev pub last_closed : Standing → ℕ
last_closed s = if s.is_closed then s.cycle else s.cycle - 1

-- the cycle that a night goes on with
abbrev pub next_cycle : Standing → ℕ
next_cycle s = min (last_closed s + 1) (2 ^ 64 - 1)

-- how many runs of the cycle of `now` there were when the nights stood there
abbrev pub runs_before : Standing → Standing → ℕ
runs_before before now = if now.cycle == before.cycle then before.runs else 0

-- what was spent since they stood there
abbrev pub spent_until : Standing → Standing → ℕ
spent_until before now = if now.cycle == before.cycle then now.spent - before.spent else now.spent
