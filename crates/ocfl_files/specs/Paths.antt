-- Paths as the system takes them.
use Rattle.std.specs.Prelude.{◌==◌, ℕ, Option, Some, None, [], ◌∷◌, codes, if◌then◌else◌}
use Rattle.std.specs.Path.{PathStartsWith}
use Rattle.ocfl_tree.specs.Place.{Text}

-- what is before the last slash, if there is one, by what is before the last one of the rest
abbrev pub before_with : ℕ → Option Text → Option Text
before_with c (Some t) = Some (c ∷ t)
before_with c None = if c == 47 then Some [] else None

abbrev pub before_slash : Text → Option Text
before_slash [] = None
before_slash (c ∷ t) = before_with c (before_slash t)

-- the folder of a file, by what is before the last slash of its path
abbrev pub folder_by : Option Text → Text
folder_by None = codes "."
folder_by (Some []) = codes "/"
folder_by (Some (c ∷ t)) = c ∷ t

abbrev pub folder_of : Text → Text
folder_of file = folder_by (before_slash file)

-- a path is that of a folder, or below it, where both are resolved
abbrev pub LiesBelow : Option Text → Option Text → Type 0
LiesBelow (Some path) (Some folder) = PathStartsWith path folder
LiesBelow (Some path) None = ⊥
LiesBelow None folder = ⊥
