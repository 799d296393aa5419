-- What a line of a report is about.
use Rattle.std.specs.Prelude.{◌&&◌, List, [], ◌∷◌, Bool, true, false, not, codes, if◌then◌else◌}
use Rattle.ocfl_tree.specs.Place.{Text, Place as ModelPlace, text_eq}
use Rattle.ocfl_report.specs.{Line.{Line}, declared.code.Code.{Code}}
use Rattle.ocfl_report.specs.declared.code.Code.TheVariants.{Clean, E001, E003, E007, E015, E017, E018, E023, E024, E025, E033, E036, E041, E058, E060, E061, E063, E064, E069, E072, E073, E076, E080, E092, E093, E096, E097, E099, E100, E101, S01, S02, S03, S04, S05, S06, S07, S08, S09}
use Rattle.ocfl_codes.specs.Inventories.{is_by_sidecar, is_version_inventory}
use Rattle.ocfl_codes.specs.declared.kind.Kind.{Kind}
use Rattle.ocfl_codes.specs.declared.kind.Kind.TheVariants.{Object, File, Place, ObjectOrFile}

-- what the lines of a code are about
abbrev pub kind_of : Code → Kind
kind_of Clean = ObjectOrFile
kind_of E001 = Place
kind_of E003 = Object
kind_of E007 = Object
kind_of E015 = Place
kind_of E017 = Object
kind_of E018 = Object
kind_of E023 = File
kind_of E024 = Place
kind_of E025 = Object
kind_of E033 = Object
kind_of E036 = Object
kind_of E041 = Object
kind_of E058 = Object
kind_of E060 = Object
kind_of E061 = Object
kind_of E063 = Object
kind_of E064 = File
kind_of E069 = Place
kind_of E072 = Place
kind_of E073 = Place
kind_of E076 = Place
kind_of E080 = Place
kind_of E092 = File
kind_of E093 = File
kind_of E096 = Object
kind_of E097 = Object
kind_of E099 = Object
kind_of E100 = Object
kind_of E101 = Object
kind_of S01 = Object
kind_of S02 = Object
kind_of S03 = Object
kind_of S04 = Place
kind_of S05 = Place
kind_of S06 = Object
kind_of S07 = Object
kind_of S08 = File
kind_of S09 = Object

-- what a line of the code at this place is about: the inventory in a version directory is a file
abbrev pub kind_at : Code → ModelPlace → Kind
kind_at c p = if is_by_sidecar c && is_version_inventory p then File else kind_of c

abbrev pub is_empty : {A : Type 0} → List A → Bool
is_empty [] = true
is_empty (x ∷ xs) = false

-- a detail that says no more than the code
abbrev pub is_dash : Text → Bool
is_dash detail = text_eq detail (codes "-")

-- a line of the kind with this detail is one of an object's head
abbrev pub is_head : Kind → Text → Bool
is_head Object detail = true
is_head File detail = false
is_head Place detail = false
is_head ObjectOrFile detail = is_dash detail

-- and one of a file
abbrev pub is_file : Kind → Text → Bool
is_file Object detail = false
is_file File detail = true
is_file Place detail = false
is_file ObjectOrFile detail = not (is_dash detail)

-- a line of an object's head; the storage root is no object
abbrev pub tells_object : Line → Bool
tells_object l = not (is_empty l.place) && is_head (kind_at l.code l.place) l.detail

-- a line of a content file, whether it is there or missing, or of the inventory in a version directory
abbrev pub tells_file : Line → Bool
tells_file l = is_file (kind_at l.code l.place) l.detail

-- behind a line of this code other findings of its place may be there and not be looked for: the
-- head of an object or the storage root stops, a file could not be read or nothing names it, or
-- what is there is neither an object nor a content file
abbrev pub is_hiding : Code → Bool
is_hiding Clean = false
is_hiding E001 = true
is_hiding E003 = true
is_hiding E007 = false
is_hiding E015 = true
is_hiding E017 = true
is_hiding E018 = true
is_hiding E023 = true
is_hiding E024 = true
is_hiding E025 = true
is_hiding E033 = true
is_hiding E036 = true
is_hiding E041 = true
is_hiding E058 = false
is_hiding E060 = false
is_hiding E061 = false
is_hiding E063 = true
is_hiding E064 = false
is_hiding E069 = true
is_hiding E072 = true
is_hiding E073 = true
is_hiding E076 = true
is_hiding E080 = false
is_hiding E092 = false
is_hiding E093 = false
is_hiding E096 = false
is_hiding E097 = false
is_hiding E099 = false
is_hiding E100 = false
is_hiding E101 = false
is_hiding S01 = true
is_hiding S02 = true
is_hiding S03 = true
is_hiding S04 = true
is_hiding S05 = true
is_hiding S06 = false
is_hiding S07 = false
is_hiding S08 = true
is_hiding S09 = false

abbrev pub hides : Line → Bool
hides l = is_hiding l.code
