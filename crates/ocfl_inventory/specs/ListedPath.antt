-- The path texts of an inventory (OCFL 1.1, 3.5.2 Manifest).
use Rattle.std.specs.Prelude.{ℕ, ◌==◌, ◌||◌, ◌&&◌, nat_eq, nat_lt, [], ◌∷◌, Bool, false, not, length, if◌then◌else◌, Option, Some, None, is_some, codes}
use Rattle.std.specs.{List.{starts_with, ends_with, list_any}, Str.{all_ascii_digits}}
use Rattle.ocfl_tree.specs.{Place.{Text, Place, text_eq}, Path.{elements}}
use Rattle.ocfl_report.specs.declared.code.Code.{Code}
use Rattle.ocfl_report.specs.declared.code.Code.TheVariants.{E099, E100, S06}

-- `v` and one or more digits (OCFL 1.1, 3.3 Version Directories)
abbrev pub is_version_name : Text → Bool
is_version_name [] = false
is_version_name (c ∷ t) = c == 118 && nat_lt 0 (length t) && all_ascii_digits t

abbrev pub is_empty_or_dots : Text → Bool
is_empty_or_dots t = text_eq t [] || text_eq t (codes ".") || text_eq t (codes "..")

-- too long for a name
abbrev pub is_too_long : Text → Bool
is_too_long t = nat_lt 255 (length t)

abbrev pub is_too_long_or_nul : Text → Bool
is_too_long_or_nul t = is_too_long t || list_any (λ b. b == 0) t

-- a version, the content directory, and at least one more element
abbrev pub is_content_path : Text → Place → Bool
is_content_path content [] = false
is_content_path content (v ∷ []) = false
is_content_path content (v ∷ c ∷ []) = false
is_content_path content (v ∷ c ∷ n ∷ rest) = is_version_name v && text_eq c content

abbrev pub max_elements : ℕ
max_elements = 128

-- what is wrong with a listed path: the first that applies
abbrev pub path_fault : Text → Text → Option Code
path_fault content t =
    if starts_with nat_eq t (codes "/") || ends_with nat_eq t (codes "/") then Some E100
    else (if list_any is_empty_or_dots (elements t) then Some E099
    else (if not (is_content_path content (elements t)) || nat_lt max_elements (length (elements t)) || list_any is_too_long_or_nul (elements t) then Some S06
    else None))

-- a path that nothing is wrong with is kept
abbrev pub is_kept : Text → Text → Bool
is_kept content t = not (is_some (path_fault content t))
