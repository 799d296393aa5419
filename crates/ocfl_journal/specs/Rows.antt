-- The rows of the log of a night. Times are in seconds since the epoch.
use Rattle.std.specs.Prelude.{◌≡◌, ℕ, ◌-◌, ◌^◌, ◌++◌, Option, Some, None, if◌then◌else◌, min, string_bytes}
use Rattle.std.specs.Borrow.{Bor}
use Rattle.ocfl_tree.specs.Place.{Text}
use Rattle.ocfl_cursor.specs.Cursor.{State, start, behind, ended}
use Rattle.ocfl_state.specs.{Checkpoint.{Checkpoint}, declared.checkpoint_parts.Left.{Left}}
use Rattle.ocfl_messages.specs.Log.{IsJsonLine, row_data}
use Rattle.ocfl_messages.specs.declared.log.{Stands.{Stands}, LogRow.{LogRow}, NightRow.{NightRow}}
use Rattle.ocfl_messages.specs.declared.log.Stands.TheVariants as stands
use Rattle.ocfl_messages.specs.declared.log.LogRow.TheVariants as row
use Rattle.ocfl_kept.specs.{Lent.{lent}, Standing.{next_cycle, standing_of}}
use Rattle.ocfl_journal.specs.declared.logging.Reading.{Reading}

-- the bytes are the line of a row
abbrev pub IsRowLine : Text → LogRow → Type 0
IsRowLine line r = IsJsonLine line (row_data r)

abbrev pub stands_at : State → Stands
stands_at start = stands.Start
stands_at (behind p) = stands.After (lent p)
stands_at ended = stands.Ended

-- where the cycle stands that a night goes on with: once a report is closed, at the start of the next one
abbrev pub stands_next : Checkpoint → Stands
stands_next c = if (standing_of c).is_closed then stands.Start else stands_at c.cursor.state

-- a night that had taken up this checkpoint at a time
abbrev pub began_row : ℕ → Checkpoint → Reading → ℕ → LogRow
began_row night c r time = row.Began (record {
  time = time;
  night = night;
  cycle = next_cycle (standing_of c);
  stands = stands_next c;
  lines = c.report.lines;
  bytes = c.report.bytes;
  root = lent (string_bytes r.root);
  part = r.part;
  program = lent (string_bytes r.program);
})

-- a run of this cost and status, after which this checkpoint was put, from when it began to a time
abbrev pub run_row : ℕ → Checkpoint → ℕ → ℕ → ℕ → ℕ → LogRow
run_row night c cost status began now = row.Slice (record {
  time = began;
  night = night;
  cycle = c.cursor.cycle;
  run = c.cursor.runs;
  status = status;
  cost = cost;
  spent = min c.cursor.spent (2 ^ 64 - 1);
  files = min c.cursor.files (2 ^ 64 - 1);
  lines = c.report.lines;
  bytes = c.report.bytes;
  seconds = now - began;
  stands = stands_at c.cursor.state;
})

-- a place that was left out of a cycle at a time, and why; no words if that is not known
abbrev pub left_row : ℕ → ℕ → Left → Text → ℕ → LogRow
left_row night cycle l why time = row.Left (record {
  time = time;
  night = night;
  cycle = cycle;
  place = lent l.place;
  why = lent why;
})

-- what is said of a night that stopped or was refused
abbrev pub refusal_row : NightRow → Bor Text → LogRow
refusal_row r said = row.Refusal (record { time = r.time; night = r.night; status = r.status; said = said })

-- The lines on a night: one on what is said of it, if something is, and one on all of it.
abbrev pub AreLinesOn : NightRow → Option (Bor Text) → Text → Type 0
AreLinesOn r None lines = IsRowLine lines (row.Night r)
AreLinesOn r (Some said) lines = (first : Text) × (last : Text) × IsRowLine first (refusal_row r said) × IsRowLine last (row.Night r) × (lines ≡ first ++ last)
