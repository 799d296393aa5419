-- The paths of what nights keep in a state folder.
use Rattle.std.specs.Prelude.{ℕ, ◌-◌, ◌++◌, Bool, true, false, codes, decimal, length, replicate}
use Rattle.ocfl_tree.specs.Place.{Text}

-- a number with zeros before it, so that it has six digits or more
abbrev pub six_digits : ℕ → Text
six_digits n = replicate (6 - length (decimal n)) 48 ++ decimal n

-- the path of the closed report of a cycle, by whether it is whole
abbrev pub report_path : Text → ℕ → Bool → Text
report_path state cycle true = state ++ (codes "/reports/cycle-" ++ six_digits cycle)
report_path state cycle false = state ++ (codes "/reports/incomplete-" ++ six_digits cycle)

-- that of the same report, compressed
abbrev pub packed_path : Text → ℕ → Bool → Text
packed_path state cycle whole = report_path state cycle whole ++ codes ".gz"

-- that of the state folder of a part, in the folder of parts
abbrev pub part_path : Text → ℕ → Text
part_path state number = state ++ (codes "/part-" ++ six_digits number)

-- that of the list of what is gone at the end of a cycle, and that of the same while it is written
abbrev pub list_path : Text → ℕ → Text
list_path state cycle = state ++ (codes "/reports/gone-" ++ six_digits cycle)

abbrev pub new_list_path : Text → ℕ → Text
new_list_path state cycle = list_path state cycle ++ codes ".new"
