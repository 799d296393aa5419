-- Why places of a storage root could not be read.
use Rattle.std.specs.Prelude.{◌≡◌, ◌<◌, ◌⊎◌, ◌++◌, ⊤, List, [], ◌∷◌, Option, Some, None, if◌then◌else◌, length, nat_eq, string_bytes}
use Rattle.std.specs.List.{starts_with}
use Rattle.ocfl_tree.specs.Place.{Place, Text, place_eq}
use Rattle.ocfl_files.specs.declared.reasons.Reason.{Reason}

-- the words that were kept first on a place
abbrev pub words_on : List Reason → Place → Option Text
words_on [] p = None
words_on (r ∷ rs) p = if place_eq r.place p then Some (string_bytes r.words) else words_on rs p

-- words, or none where there was no memory for them
abbrev pub IsCopy : Option Text → Option Text → Type 0
IsCopy words None = ⊤
IsCopy words (Some copy) = words ≡ Some copy

-- One more reason is kept: that of a place on which none was, while there are fewer than 1,000.
pub record KeepsMore (p : Place) (words : Option Text) (old new : List Reason) : Type 0 where
  pub reason : Reason
  pub room : length old < 1000
  pub first : words_on old p ≡ None
  pub place : reason.place ≡ p
  pub said : words ≡ Some (string_bytes reason.words)
  pub is : new ≡ old ++ reason ∷ []

-- no reason is lost, and none but that one comes
abbrev pub Keeps : Place → Option Text → List Reason → List Reason → Type 0
Keeps p words old new = (new ≡ old) ⊎ KeepsMore p words old new

-- the words on a call that failed: those of the last one that did, if they begin with them
abbrev pub fuller : Option Text → Text → Text
fuller None words = words
fuller (Some last) words = if starts_with nat_eq last words then last else words
