-- What a line of a report says of costs.
use Rattle.std.specs.Prelude.{ℕ, ◌+◌, ◌^◌, ◌&&◌, nat_lt, Bool, decimal, if◌then◌else◌}
use Rattle.std.specs.Str.Parse.{digits_value}
use Rattle.ocfl_tree.specs.Place.{Text, text_eq}
use Rattle.ocfl_report.specs.{Line.{Line}, declared.code.Code.{Code}}
use Rattle.ocfl_report.specs.declared.code.Code.TheVariants.{Clean}
use Rattle.ocfl_separators.specs.declared.costs.ItemCost.{ItemCost}

-- a decimal number of bytes that a content file may have: below 2^62
abbrev pub is_size : Text → Bool
is_size detail = text_eq detail (decimal (digits_value 10 detail)) && nat_lt (digits_value 10 detail) (2 ^ 62)

-- one more than the bytes that an `ok` line says, and nothing for any other line
abbrev pub line_cost : Code → Text → ℕ
line_cost Clean detail = if is_size detail then digits_value 10 detail + 1 else 0
line_cost _ detail = 0

-- a line as the first of its place
abbrev pub item_cost : Line → ItemCost
item_cost l = record { place = l.place; cost = line_cost l.code l.detail }
