-- Why reports were not joined.
use Rattle.std.specs.Prelude.{◌≡◌, ◌≢◌, ◌⊎◌, ℕ, zero, suc, ◌+◌, ◌≤◌, List, [], ◌∷◌, ◌++◌, length, Bool, true, false, if◌then◌else◌, ⊤}
use Rattle.ocfl_tree.specs.Place.{Place}
use Rattle.ocfl_joining.specs.{Joined.{IsRight}, Reports.{Seen}}
use Rattle.ocfl_joining.specs.declared.part.MissingPart.{MissingPart}
use Rattle.ocfl_joining.specs.declared.joining.JoinStop.{JoinStop}
use Rattle.ocfl_joining.specs.declared.joining.JoinStop.TheVariants.{Missing, Changed, Part, Output, Unsaid, Memory}

abbrev pub is_missing : JoinStop → Bool
is_missing (Missing found) = true
is_missing (Changed found) = false
is_missing (Part part why) = false
is_missing (Output why) = false
is_missing Unsaid = false
is_missing Memory = false

abbrev pub is_output : JoinStop → Bool
is_output (Missing found) = false
is_output (Changed found) = false
is_output (Part part why) = false
is_output (Output why) = true
is_output Unsaid = false
is_output Memory = false

abbrev pub is_unsaid : JoinStop → Bool
is_unsaid (Missing found) = false
is_unsaid (Changed found) = false
is_unsaid (Part part why) = false
is_unsaid (Output why) = false
is_unsaid Unsaid = true
is_unsaid Memory = false

-- the parts that it names are just these, and there are some
abbrev pub IsMissingRightly : List MissingPart → JoinStop → Type 0
IsMissingRightly hindering (Missing found) = (found.items ≡ hindering) × (hindering ≢ [])
IsMissingRightly hindering (Changed found) = ⊤
IsMissingRightly hindering (Part part why) = ⊤
IsMissingRightly hindering (Output why) = ⊤
IsMissingRightly hindering Unsaid = ⊤
IsMissingRightly hindering Memory = ⊤

-- the number of a part, unless its report is right
abbrev pub unless : Bool → ℕ → List ℕ
unless right number = if right then [] else number ∷ []

-- of so many parts the reports of just these are not right, in order
abbrev pub AreChanged : List Place → Seen → ℕ → List ℕ → Type 0
AreChanged separators s zero changed = changed ≡ []
AreChanged separators s (suc n) changed =
    (before : List ℕ) × (AreChanged separators s n before
    × ((IsRight separators s (n + 1) × (changed ≡ before)) ⊎ ((IsRight separators s (n + 1) → ⊥) × (changed ≡ before ++ (n + 1) ∷ []))))

-- the parts whose reports are said to be changed are just those whose reports are not right, and there
-- are some
abbrev pub IsChangedRightly : List Place → Seen → JoinStop → Type 0
IsChangedRightly separators s (Missing found) = ⊤
IsChangedRightly separators s (Changed found) = AreChanged separators s (length separators + 1) found.items × (found.items ≢ [])
IsChangedRightly separators s (Part part why) = ⊤
IsChangedRightly separators s (Output why) = ⊤
IsChangedRightly separators s Unsaid = ⊤
IsChangedRightly separators s Memory = ⊤

-- the part that it names is one of those that the separators make, by its number, from 1
abbrev pub IsOfPart : List Place → JoinStop → Type 0
IsOfPart separators (Missing found) = ⊤
IsOfPart separators (Changed found) = ⊤
IsOfPart separators (Part part why) = (1 ≤ part) × (part ≤ length separators + 1)
IsOfPart separators (Output why) = ⊤
IsOfPart separators Unsaid = ⊤
IsOfPart separators Memory = ⊤

-- A call failed, at a part of which this is so or at none; or memory was refused.
abbrev pub IsCallStop : (ℕ → Type 0) → JoinStop → Type 0
IsCallStop IsAt (Missing found) = ⊥
IsCallStop IsAt (Changed found) = ⊥
IsCallStop IsAt (Part part why) = IsAt part
IsCallStop IsAt (Output why) = ⊤
IsCallStop IsAt Unsaid = ⊥
IsCallStop IsAt Memory = ⊤

-- it has one of the numbers of so many parts, from 1
abbrev pub IsUpTo : ℕ → ℕ → Type 0
IsUpTo count part = (1 ≤ part) × (part ≤ count)

-- Why the joining of a cycle stopped, of which so many parts are known: just these reports are not
-- right; or a call failed, at one of the parts or at none; or a word was not said, or memory was
-- refused. No part keeps the cycle from being joined.
abbrev pub IsStopRight : ℕ → List Place → Seen → JoinStop → Type 0
IsStopRight count separators s (Missing found) = ⊥
IsStopRight count separators s (Changed found) = AreChanged separators s (length separators + 1) found.items × (found.items ≢ [])
IsStopRight count separators s (Part part why) = IsUpTo count part
IsStopRight count separators s (Output why) = ⊤
IsStopRight count separators s Unsaid = ⊤
IsStopRight count separators s Memory = ⊤
