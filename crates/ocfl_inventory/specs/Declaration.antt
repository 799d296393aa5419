-- Which version a directory declares (OCFL 1.1, 4.2 Root Conformance Declaration and 3.2 Object
-- Conformance Declaration).
use Rattle.std.specs.Prelude.{nat_eq, ◌&&◌, List, [], ◌∷◌, ◌++◌, Bool, false, length, drop, if◌then◌else◌, filter, codes}
use Rattle.std.specs.{List.{starts_with}, Char.{is_ascii_digit}}
use Rattle.ocfl_tree.specs.Place.{Text, text_eq}
use Rattle.ocfl_inventory.specs.declared.declaration.Level.{Level}
use Rattle.ocfl_inventory.specs.declared.declaration.Level.TheVariants.{Root, Object}
use Rattle.ocfl_inventory.specs.declared.declaration.Version.{Version}
use Rattle.ocfl_inventory.specs.declared.declaration.Version.TheVariants.{V1_0, V1_1}

-- what a declaration's name begins with
abbrev pub prefix : Level → Text
prefix Root = codes "0=ocfl_"
prefix Object = codes "0=ocfl_object_"

abbrev pub begins_with_digit : Text → Bool
begins_with_digit [] = false
begins_with_digit (c ∷ t) = is_ascii_digit c

-- what follows the prefix
abbrev pub after_prefix : Level → Text → Text
after_prefix level n = drop (length (prefix level)) n

-- whether a file of this name counts: the prefix, and then a digit
abbrev pub is_declaration : Level → Text → Bool
is_declaration level n = starts_with nat_eq n (prefix level) && begins_with_digit (after_prefix level n)

-- what a directory declares: nothing, a known version, an unknown one by its text, or several
pub data Declared : Type 0 where
  undeclared : Declared
  known : Version → Declared
  unknown : Text → Declared
  several : Declared

abbrev pub version_text : Version → Text
version_text V1_0 = codes "1.0"
version_text V1_1 = codes "1.1"

abbrev pub version_named : Text → Declared
version_named t = if text_eq t (version_text V1_0) then known V1_0 else (if text_eq t (version_text V1_1) then known V1_1 else unknown t)

abbrev pub declared_by : Level → List Text → Declared
declared_by level [] = undeclared
declared_by level (n ∷ []) = version_named (after_prefix level n)
declared_by level (n ∷ m ∷ ns) = several

-- what the names of a directory's files declare
abbrev pub declared : Level → List Text → Declared
declared level files = declared_by level (filter (is_declaration level) files)

abbrev pub declaration_name : Level → Version → Text
declaration_name level v = prefix level ++ version_text v

-- its exact bytes: the name after `0=`, and a line feed
abbrev pub declaration_bytes : Level → Version → Text
declaration_bytes level v = drop 2 (declaration_name level v) ++ 10 ∷ []
