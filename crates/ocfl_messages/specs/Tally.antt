-- What the lines of a report count.
use Rattle.std.specs.Prelude.{◌≡◌, ℕ, ◌+◌, ◌-◌, ◌^◌, ◌&&◌, min, nat_lt, List, [], ◌∷◌, Bool, false, not, Option, Some, None, map, length, decimal, if◌then◌else◌}
use Rattle.std.specs.{List.{filter}, Str.Parse.{digits_value}}
use Rattle.ocfl_tree.specs.Place.{Text, Place, place_eq, text_eq}
use Rattle.ocfl_report.specs.Line.{Line, is_finding_code}
use Rattle.ocfl_codes.specs.Kinds.{tells_file, tells_object}
use Rattle.ocfl_messages.specs.{declared.tally.Places.{Places}, declared.tally.Tally.{Tally}}

-- what is kept of a number: of one that does not fit into 64 bits, the greatest that does
abbrev pub kept_count : ℕ → ℕ
kept_count m = min m (2 ^ 64 - 1)

abbrev pub IsCount : ℕ → ℕ → Type 0
IsCount n m = n ≡ kept_count m

abbrev pub is_last : Option Place → Place → Bool
is_last None p = false
is_last (Some q) p = place_eq q p

-- how many of these places are not that before them; the first comes behind another one, or none
abbrev pub changes_after : Option Place → List Place → ℕ
changes_after last [] = 0
changes_after last (p ∷ ps) = (if is_last last p then 0 else 1) + changes_after (Some p) ps

-- the last of them
abbrev pub last_after : Option Place → List Place → Option Place
last_after last [] = last
last_after last (p ∷ ps) = last_after (Some p) ps

pub record IsPlaces (k : Places) (ps : List Place) : Type 0 where
  pub count : IsCount k.count (changes_after None ps)
  pub last : k.last ≡ last_after None ps

-- the line of a content file that is right, and a finding of one
abbrev pub is_right : Line → Bool
is_right l = tells_file l && not (is_finding_code l.code)

abbrev pub is_wrong : Line → Bool
is_wrong l = tells_file l && is_finding_code l.code

-- a decimal number of bytes that a content file may have
abbrev pub is_size : Text → Bool
is_size detail = text_eq detail (decimal (digits_value 10 detail)) && nat_lt (digits_value 10 detail) (2 ^ 62)

abbrev pub size_of : Text → ℕ
size_of detail = if is_size detail then digits_value 10 detail else 0

abbrev pub right_size : Line → ℕ
right_size l = if is_right l then size_of l.detail else 0

-- the places of such lines; the lines of a place stand together
abbrev pub places_of : (Line → Bool) → List Line → List Place
places_of p ls = map (λ l. l.place) (filter p ls)

abbrev pub right_in : List Line → ℕ
right_in ls = length (filter is_right ls)

-- how many content files have a finding
abbrev pub wrong_in : List Line → ℕ
wrong_in ls = changes_after None (places_of is_wrong ls)

abbrev pub objects_in : List Line → ℕ
objects_in ls = changes_after None (places_of tells_object ls)

-- how many bytes the files have that are right
abbrev pub bytes_in : List Line → ℕ
bytes_in [] = 0
bytes_in (l ∷ ls) = right_size l + bytes_in ls

pub record IsTally (t : Tally) (ls : List Line) : Type 0 where
  pub right : IsCount t.right (right_in ls)
  pub bytes : IsCount t.bytes (bytes_in ls)
  pub wrong : IsPlaces t.wrong (places_of is_wrong ls)
  pub objects : IsPlaces t.objects (places_of tells_object ls)
