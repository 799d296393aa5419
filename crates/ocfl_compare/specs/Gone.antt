-- The text of a list of what is gone, and of objects whose root inventory is another one.
use Rattle.std.specs.Prelude.{List, [], ◌∷◌, ◌++◌, flat_map, codes}
use Rattle.ocfl_tree.specs.Place.{Text, Place}
use Rattle.ocfl_report.specs.{Text.{place_text}}
use Rattle.ocfl_compare.specs.declared.change.Change.{Change}
use Rattle.ocfl_compare.specs.declared.change.Change.TheVariants.{Gone, Undeclared, FileGone, Unlooked, Found, Repaired, Missing, Rewritten, WentBack, NewVersion}
use Rattle.ocfl_compare.specs.declared.change.ChangeAt.{ChangeAt}

-- the word of its row, if it has one
abbrev pub gone_word : Change → List Text
gone_word Gone = codes "object" ∷ []
gone_word Undeclared = codes "undeclared" ∷ []
gone_word FileGone = codes "file" ∷ []
gone_word Unlooked = []
gone_word (Found c) = []
gone_word (Repaired c) = []
gone_word Missing = codes "expected" ∷ []
gone_word Rewritten = codes "changed" ∷ []
gone_word WentBack = codes "older" ∷ []
gone_word NewVersion = codes "newer" ∷ []

abbrev pub row_text : Place → Text → Text
row_text p word = word ++ 9 ∷ place_text p ++ 10 ∷ []

abbrev pub gone_row : ChangeAt → Text
gone_row c = flat_map (row_text c.place) (gone_word c.change)

-- a row for each
abbrev pub gone_text : List ChangeAt → Text
gone_text cs = flat_map gone_row cs
