-- What became of an object's root inventory between two audits that note what it is: in the note
-- `ALGORITHM DIGEST HEAD` the algorithm and the head are those that the inventory itself names, and the
-- head is the newest version (OCFL 1.1, 3.5.1 Basic Structure). A note may lack it.
use Rattle.std.specs.Prelude.{ℕ, ◌^◌, ◌==◌, ◌&&◌, nat_lt, List, [], ◌∷◌, Bool, true, false, Option, Some, None, drop, if◌then◌else◌}
use Rattle.std.specs.{List.{after_first}, Str.Parse.{digits_value}}
use Rattle.ocfl_tree.specs.Place.{Text, text_eq}
use Rattle.ocfl_report.specs.{Line.{Line}, declared.code.Code.{Code}, declared.code.Code.TheVariants.{S09}}
use Rattle.ocfl_codes.specs.Inventories.{is_version_name}
use Rattle.ocfl_compare.specs.declared.change.Change.{Change}
use Rattle.ocfl_compare.specs.declared.change.Change.TheVariants.{Rewritten, WentBack, NewVersion}

-- ---- the note among the lines of a place

abbrev pub is_note : Code → Bool
is_note S09 = true
is_note _ = false

-- the first one, with one more line
abbrev pub with_note : Option Text → Line → Option Text
with_note (Some note) l = Some note
with_note None l = if is_note l.code then Some l.detail else None

abbrev pub note_from : Option Text → List Line → Option Text
note_from note [] = note
note_from note (l ∷ ls) = note_from (with_note note l) ls

abbrev pub note_in : List Line → Option Text
note_in ls = note_from None ls

-- ---- the version that it names

-- what follows the first space
abbrev pub after_space : Text → Text
after_space t = after_first (λ b. b == 32) t

abbrev pub head_of : Text → Text
head_of note = after_space (after_space note)

-- the number in the name of a version: leading zeros do not count. One of more than 64 bits is none
abbrev pub number_of : Text → Option ℕ
number_of v = if is_version_name v && nat_lt (digits_value 10 (drop 1 v)) (2 ^ 64) then Some (digits_value 10 (drop 1 v)) else None

abbrev pub version_of : Text → Option ℕ
version_of note = number_of (head_of note)

-- ---- what became of it

abbrev pub moved_to : ℕ → ℕ → Change
moved_to v w = if nat_lt v w then NewVersion else if nat_lt w v then WentBack else Rewritten

-- an inventory that is another one: without the numbers of both, no newer version speaks for it
abbrev pub moved : Option ℕ → Option ℕ → Change
moved (Some v) (Some w) = moved_to v w
moved (Some v) None = Rewritten
moved None w = Rewritten

-- by the notes of both reports. If these differ, then so do the inventories, also if only their
-- algorithms do
abbrev pub inventory_changes : Option Text → Option Text → List Change
inventory_changes (Some before) (Some now) = if text_eq before now then [] else moved (version_of before) (version_of now) ∷ []
inventory_changes (Some before) None = []
inventory_changes None now = []
