-- A command to paste that looks at a place again.
use Rattle.std.specs.Prelude.{◌==◌, ◌&&◌, [], ◌∷◌, ◌++◌, Bool, false, not, codes, if◌then◌else◌}
use Rattle.std.specs.List.{list_any}
use Rattle.ocfl_tree.specs.{Place.{Text, Place}, Path.{slashed}}
use Rattle.ocfl_report.specs.Text.{escape, place_text}
use Rattle.ocfl_messages.specs.Quoted.{has_control, quoted}

-- a terminal shows it as it is, and it is no path of a report of another place
abbrev pub is_plain : Text → Bool
is_plain [] = false
is_plain (b ∷ t) = not (has_control (b ∷ t)) && not (list_any (λ c. c == 37) (b ∷ t))

-- a place's path as it is if that is plain, and else as reports write it
abbrev pub path_text : Place → Text
path_text p = if is_plain (slashed p) then slashed p else place_text p

-- behind these dashes a path that begins with one is no option
abbrev pub dashes_text : Text → Text
dashes_text [] = []
dashes_text (b ∷ t) = if b == 45 then codes "-- " else []

abbrev pub check_text : Text → Text → Text
check_text root path = codes "ocfl-scrub check " ++ dashes_text path ++ quoted root ++ codes " " ++ quoted path

-- none can be pasted if the path of the storage root has a control character
abbrev pub again_text : Text → Place → Text
again_text root p = if has_control root then [] else codes "\tTo look again: " ++ check_text root (path_text p) ++ codes "\n"

-- a command over a file
abbrev pub over_text : Text → Text → Text
over_text command file = if has_control file then escape file else command ++ codes " " ++ quoted file
