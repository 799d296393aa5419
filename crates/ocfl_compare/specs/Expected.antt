-- Which objects of a list have no line in a report.
use Rattle.std.specs.Prelude.{◌&&◌, List, Bool, not, filter, map}
use Rattle.std.specs.List.{list_any}
use Rattle.ocfl_tree.specs.{Place.{Text, Place, place_cmp}, Ascending.{ascending}}
use Rattle.ocfl_report.specs.Line.{Line}
use Rattle.ocfl_compare.specs.declared.change.Change.TheVariants.{Missing}
use Rattle.ocfl_compare.specs.declared.change.ChangeAt.{ChangeAt}
use Rattle.ocfl_codes.specs.Kinds.{is_empty, tells_object}
use Rattle.ocfl_compare.specs.{Changes.{lines_at, is_left, change_at}, Compared.{IsReport}, Seen.{Seen, changes_seen}}

-- no line of an object is at the place, which was not left out; the storage root is no object
abbrev pub is_missing : List Place → List Line → Place → Bool
is_missing left ls p = not (is_left left p) && (not (is_empty p) && not (list_any tells_object (lines_at p ls)))

-- those of a list, in order, each once
abbrev pub missing_objects : List Place → List Place → List Line → List Place
missing_objects left listed ls = filter (is_missing left ls) (ascending place_cmp listed)

abbrev pub missing : Place → ChangeAt
missing p = change_at p Missing

-- the bytes are those of a report, and just what is missing in it was taken
pub record IsSearched (left listed : List Place) (b : Text) (Taken : List Seen → Type 0) : Type 0 where
  pub lines : List Line
  pub report : IsReport b lines
  pub taken : Taken (changes_seen (map missing (missing_objects left listed lines)))
