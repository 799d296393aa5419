-- Paths of places as users write them, and why a path names none.
use Rattle.std.specs.Prelude.{◌≡◌, ◌≢◌, ◌⊎◌, ◌-◌, ◌==◌, ◌||◌, [], ◌∷◌, Bool, Option, Some, None, codes, find, if◌then◌else◌, length, slice_index}
use Rattle.ocfl_tree.specs.{Name.{IsPlace}, Path.{elements, names_of}, Place.{Text, Place}}
use Rattle.ocfl_inventory.specs.ListedPath.{is_empty_or_dots}
use Rattle.ocfl_report.specs.Text.{place_text}
use Rattle.ocfl_scope.specs.Finding.{IsNoPath}

-- the path of a place as reports write it
abbrev pub IsReported : Text → Type 0
IsReported word = (place : Place) × IsPlace place × (word ≡ place_text place)

-- the path of a place below the root, by its names
abbrev pub IsByNames : Text → Type 0
IsByNames word = IsPlace (names_of word) × (names_of word ≢ [])

-- reports write a place so; or it is no path below the root, however it is read
abbrev pub Stays : Text → Type 0
Stays word = IsReported word ⊎ (IsNoPath word × (IsByNames word → ⊥))

-- a path by its names that reports write otherwise, as they write it
abbrev pub IsRespelt : Text → Text → Type 0
IsRespelt word text = IsNoPath word × IsByNames word × (text ≡ place_text (names_of word))

-- a path as reports write it: the word itself, unless it is a path by its names alone
abbrev pub IsAsReports : Text → Text → Type 0
IsAsReports word text = (Stays word × (text ≡ word)) ⊎ IsRespelt word text

abbrev pub begins_or_ends_with_slash : Text → Bool
begins_or_ends_with_slash path = slice_index path 0 == 47 || slice_index path (length path - 1) == 47

-- why a path names no place, by the first of its names that is empty, `.` or `..`
abbrev pub name_fault_text : Option Text → Text
name_fault_text (Some []) = codes "the path has an empty name between two slashes"
name_fault_text (Some (b ∷ name)) = codes "no name in the path may be '.' or '..'"
name_fault_text None = codes "the path has a name that no file can have"

-- why a path names no place
abbrev pub no_place_text : Text → Text
no_place_text path =
    if length path == 0 then codes "the path is empty: the storage root itself is '.'"
    else (if begins_or_ends_with_slash path then codes "give the path below the storage root, without a slash at its beginning or end"
    else name_fault_text (find is_empty_or_dots (elements path)))
