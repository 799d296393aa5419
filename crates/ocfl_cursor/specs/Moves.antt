-- How a cursor moves.
use Rattle.std.specs.Prelude.{ℕ, ◌+◌}
use Rattle.ocfl_cursor.specs.Cursor.{State, start, Cursor}

-- at the beginning of the next cycle
abbrev pub next_cycle : Cursor → Cursor
next_cycle c = record { cycle = c.cycle + 1; runs = 0; spent = 0; files = 0; further = c.further; state = start }

-- one run later, which has spent and started this much, and left this state
abbrev pub after_run : Cursor → ℕ → ℕ → State → Cursor
after_run c spent files state =
    record { cycle = c.cycle; runs = c.runs + 1; spent = c.spent + spent; files = c.files + files; further = c.further; state = state }

-- the same, at the first item
abbrev pub at_start : Cursor → Cursor
at_start c = record { cycle = c.cycle; runs = c.runs; spent = c.spent; files = c.files; further = c.further; state = start }
