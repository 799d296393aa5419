-- Which inventory a line is of: an object's own, or one in a version directory.
use Rattle.std.specs.Prelude.{◌==◌, ◌&&◌, nat_lt, [], ◌∷◌, Bool, true, false, length, reverse, codes}
use Rattle.std.specs.Str.{all_ascii_digits}
use Rattle.ocfl_tree.specs.Place.{Text, Place, text_eq}
use Rattle.ocfl_report.specs.declared.code.Code.{Code}
use Rattle.ocfl_report.specs.declared.code.Code.TheVariants.{E058, E060, E061}

-- the codes of an inventory by its sidecars
abbrev pub is_by_sidecar : Code → Bool
is_by_sidecar E058 = true
is_by_sidecar E060 = true
is_by_sidecar E061 = true
is_by_sidecar _ = false

-- `v` and one or more digits (OCFL 1.1, 3.3 Version Directories)
abbrev pub is_version_name : Text → Bool
is_version_name [] = false
is_version_name (c ∷ t) = c == 118 && nat_lt 0 (length t) && all_ascii_digits t

-- names from the last one on: that of a version directory, and above it at least one, as the storage
-- root is no object
abbrev pub leads_to_version : Place → Bool
leads_to_version [] = false
leads_to_version (v ∷ []) = false
leads_to_version (v ∷ o ∷ above) = is_version_name v

-- the same, and that of an inventory in it
abbrev pub leads_to_inventory : Place → Bool
leads_to_inventory [] = false
leads_to_inventory (n ∷ above) = text_eq n (codes "inventory.json") && leads_to_version above

-- the place is that of an inventory in a version directory, as `object/v1/inventory.json`. An object at
-- such a place is mistaken for one
abbrev pub is_version_inventory : Place → Bool
is_version_inventory p = leads_to_inventory (reverse p)
