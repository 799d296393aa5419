-- In which order lines are shown.
use Rattle.std.specs.{Prelude.{ℕ, List, [], ◌∷◌, Bool, true, false, nat_lt, Option, Some, None, if◌then◌else◌}, Ordering.{match_ordering}}
use Rattle.ocfl_tree.specs.Place.{place_cmp}
use Rattle.ocfl_report.specs.{Line.{Line}, declared.code.Code.{Code}}
use Rattle.ocfl_codes.specs.{Weight.{weight_of}, declared.weight.Weight.{Weight}}
use Rattle.ocfl_codes.specs.declared.weight.Weight.TheVariants.{Bytes, Object, Record, Position}

-- the more serious, the lower
abbrev pub rank_by : Option Weight → ℕ
rank_by (Some Bytes) = 0
rank_by (Some Object) = 1
rank_by (Some Record) = 2
rank_by (Some Position) = 3
rank_by None = 4

abbrev pub rank_of : Code → ℕ
rank_of code = rank_by (weight_of code)

-- its place comes first, or the place is the same and it is more serious
abbrev pub is_shown_before : Line → Line → Bool
is_shown_before l m = match_ordering (place_cmp l.place m.place) true (nat_lt (rank_of l.code) (rank_of m.code)) false

-- right before the first that is shown after it
abbrev pub insert_shown : Line → List Line → List Line
insert_shown l [] = l ∷ []
insert_shown l (m ∷ ls) = if is_shown_before l m then l ∷ m ∷ ls else m ∷ insert_shown l ls

abbrev pub ordered_onto : List Line → List Line → List Line
ordered_onto shown [] = shown
ordered_onto shown (l ∷ ls) = ordered_onto (insert_shown l shown) ls

-- by places, the most serious of a place first, and else as they come
abbrev pub in_order : List Line → List Line
in_order ls = ordered_onto [] ls
