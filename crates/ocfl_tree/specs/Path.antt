-- Paths: the names of a place in one text, with `/` between them.
use Rattle.std.specs.Prelude.{◌==◌, ◌&&◌, nat_eq, nat_le, not, ℕ, [], ◌∷◌, ◌++◌, Bool, true, length, drop, if◌then◌else◌, codes}
use Rattle.std.specs.{List.{starts_with, slice_split}, Cmp.Lexicographic.{pointwise}}
use Rattle.std.specs.{Ordering.{nat_cmp}, declared.cmp.Ordering.{Ordering}}
use Rattle.std.specs.declared.cmp.Ordering.TheVariants.{Less, Equal, Greater}
use Rattle.ocfl_tree.specs.Place.{Text, Place}

-- the texts between the slashes
abbrev pub elements : Text → Place
elements t = slice_split (λ b. b == 47) t

-- the names of the place with this path: that of the storage root is empty
abbrev pub names_of : Text → Place
names_of [] = []
names_of (b ∷ t) = elements (b ∷ t)

-- names with slashes between them
abbrev pub slashed : Place → Text
slashed [] = []
slashed (n ∷ []) = n
slashed (n ∷ m ∷ p) = n ++ 47 ∷ slashed (m ∷ p)

-- the path of what a name leads to from a place
abbrev pub below : Text → Text → Text
below [] n = n
below (b ∷ t) n = (b ∷ t) ++ 47 ∷ n

-- the path that leads along one path, and from there along another
abbrev pub joined : Text → Text → Text
joined [] u = u
joined (b ∷ t) [] = b ∷ t
joined (b ∷ t) (c ∷ u) = (b ∷ t) ++ 47 ∷ (c ∷ u)

-- whether a text without `/` and NUL is a name
abbrev pub fits : Text → Bool
fits n = not (length n == 0) && nat_le (length n) 255 && not (pointwise nat_eq n (codes ".")) && not (pointwise nat_eq n (codes ".."))

-- ---- paths compared by their bytes, without a list of their elements

-- two bytes that differ: a slash ends an element, and so comes before all else
abbrev pub byte_cmp : ℕ → ℕ → Ordering
byte_cmp a b = if a == 47 then Less else (if b == 47 then Greater else nat_cmp a b)

abbrev pub path_cmp : Text → Text → Ordering
path_cmp [] [] = Equal
path_cmp [] (b ∷ u) = Less
path_cmp (a ∷ t) [] = Greater
path_cmp (a ∷ t) (b ∷ u) = if a == b then path_cmp t u else byte_cmp a b

-- nothing is left, or a slash is
abbrev pub is_ended : Text → Bool
is_ended [] = true
is_ended (c ∷ t) = c == 47

-- whether a path begins another by elements, or is it
abbrev pub path_begins : Text → Text → Bool
path_begins t u = starts_with nat_eq u t && is_ended (drop (length t) u)
