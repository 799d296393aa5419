-- Places in a storage root, and their order.
use Rattle.std.specs.Prelude.{ℕ, List, [], ◌∷◌, Bool, true, false, ◌&&◌, if◌then◌else◌, Option, Some, None}
use Rattle.std.specs.{Ordering.{nat_cmp, is_eq}, declared.cmp.Ordering.{Ordering}}
use Rattle.std.specs.Cmp.Lexicographic.{slice_cmp}

-- a name, a text or a file's content, as its bytes
abbrev pub Text : Type 0
Text = List ℕ

-- the names from the storage root down, and none for the storage root itself (OCFL 1.1, 4.1 Root
-- Structure)
abbrev pub Place : Type 0
Place = List Text

-- texts by their bytes, and a beginning before its extensions
abbrev pub text_cmp : Text → Text → Ordering
text_cmp = slice_cmp nat_cmp

abbrev pub text_eq : Text → Text → Bool
text_eq a b = is_eq (text_cmp a b)

-- places name by name, and a beginning before its extensions: `a`, `a/b`, `a-b`
abbrev pub place_cmp : Place → Place → Ordering
place_cmp = slice_cmp text_cmp

abbrev pub place_eq : Place → Place → Bool
place_eq p q = is_eq (place_cmp p q)

-- whether p is d or is below it
abbrev pub begins : Place → Place → Bool
begins [] p = true
begins (n ∷ d) [] = false
begins (n ∷ d) (m ∷ p) = text_eq n m && begins d p

-- the name that leads from d to p, if p is right below d
abbrev pub child_name : Place → Place → Option Text
child_name [] [] = None
child_name [] (n ∷ []) = Some n
child_name [] (n ∷ m ∷ p) = None
child_name (a ∷ d) [] = None
child_name (a ∷ d) (n ∷ p) = if text_eq a n then child_name d p else None
