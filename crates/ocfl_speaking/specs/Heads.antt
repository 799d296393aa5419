-- The object that the next line of a report may be in, by the lines before it.
use Rattle.std.specs.Prelude.{ℕ, ◌-◌, ◌==◌, Bool, true, false, drop, min, take}
use Rattle.std.specs.List.{after_first}
use Rattle.ocfl_tree.specs.Place.{Text}
use Rattle.ocfl_messages.specs.{Found.{IsHeadIn}, declared.finding.Heads.{Heads}}

-- the lines among some bytes of a report, of which the first is cut, unless the report begins with it
abbrev pub lines_from : Bool → Text → Text
lines_from true bytes = bytes
lines_from false bytes = after_first (λ c. c == 10) bytes

-- how many bytes before an offset are looked at
abbrev pub most_looked_at : ℕ
most_looked_at = 65536

-- the head that came last among the lines in the bytes before an offset
abbrev pub IsHeadBefore : Text → ℕ → Heads → Type 0
IsHeadBefore report end heads = IsHeadIn heads (lines_from (end - most_looked_at == 0) (take (min end most_looked_at) (drop (end - most_looked_at) report)))
