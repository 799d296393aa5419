-- Numbers with their words.
use Rattle.std.specs.Prelude.{ℕ, ◌/◌, ◌%◌, ◌==◌, nat_lt, ◌++◌, Bool, codes, decimal, if◌then◌else◌}
use Rattle.ocfl_tree.specs.Place.{Text}

abbrev pub word_text : Bool → Text → Text → Text
word_text is_one one more = if is_one then one else more

-- a number with the word for one, or for more
abbrev pub many_text : ℕ → Text → Text → Text
many_text n one more = decimal n ++ codes " " ++ word_text (n == 1) one more

abbrev pub are_text : ℕ → Text
are_text n = if n == 1 then codes " is" else codes " are"

-- so many bytes in a unit of ten times this, cut to one digit behind the point
abbrev pub scaled_text : ℕ → ℕ → Text → Text
scaled_text n tenth unit = decimal (n / tenth / 10) ++ codes "." ++ decimal (n / tenth % 10) ++ codes " " ++ unit

-- a number of bytes, in units of a thousand
abbrev pub size_text : ℕ → Text
size_text n =
    if nat_lt n 1000 then many_text n (codes "byte") (codes "bytes") else
    if nat_lt n 1000000 then scaled_text n 100 (codes "kB") else
    if nat_lt n 1000000000 then scaled_text n 100000 (codes "MB") else
    if nat_lt n 1000000000000 then scaled_text n 100000000 (codes "GB") else scaled_text n 100000000000 (codes "TB")
