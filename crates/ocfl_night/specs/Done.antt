-- What a night has done so far.
use Rattle.std.specs.Prelude.{ℕ, List, [], Option, Some, None, unwrap_or}
use Rattle.ocfl_tree.specs.Place.{Place}
use Rattle.ocfl_terms.specs.{Counting.{counted}, declared.made.Made.{Made}}
use Rattle.ocfl_night.specs.declared.tally.Tally.{Tally}

-- How many runs it began, and when the first; what their items cost, and how many of them are files
-- that were read; how many runs stopped at a place, which place is tried once more, and which branches
-- were left out.
pub record Done : Type 0 where
  pub runs : ℕ
  pub began : Option ℕ
  pub spent : ℕ
  pub files : ℕ
  pub stops : ℕ
  pub tried : Option Place
  pub left : List Place

abbrev pub done_of : Tally → Done
done_of t = record { runs = t.runs; began = t.began; spent = t.spent; files = t.files; stops = t.stops; tried = t.tried; left = t.left.items }

abbrev pub nothing_done : Done
nothing_done = record { runs = 0; began = None; spent = 0; files = 0; stops = 0; tried = None; left = [] }

-- a run is begun at this time
abbrev pub with_begun : ℕ → Done → Done
with_begun now d = record d { runs = counted d.runs 1; began = Some (unwrap_or d.began now) }

-- and has made this
abbrev pub with_made : Made → Done → Done
with_made made d = record d { spent = counted d.spent made.spent; files = counted d.files made.files }

-- no place is tried once more
abbrev pub with_none_tried : Done → Done
with_none_tried d = record d { tried = None }
