-- The calls of a folder, as a system that tells its tree keeps them.
use Rattle.std.specs.Prelude.{◌≡◌, ⊤, ℕ, ◌+◌, Bool, true, false, List, [], ◌∷◌, ◌++◌, Option, Some, None, max}
use Rattle.ocfl_tree.specs.{Place.{Text, Place}, Store.{Store}}
use Rattle.ocfl_tree.specs.Calls.{opening, change_last, with_given, with_failure}
use Rattle.ocfl_tree.specs.declared.store.Opening.{Opening}
use Rattle.ocfl_folder.specs.declared.answer.Answer.{Answer}
use Rattle.ocfl_folder.specs.declared.answer.Answer.TheVariants.{Listed, NotListed, Opened, NotOpened}
use Rattle.ocfl_folder.specs.declared.answer.ReadAnswer.{ReadAnswer}
use Rattle.ocfl_folder.specs.declared.answer.ReadAnswer.TheVariants.{Gave, Failed, NoFile}

-- a listing or an opening at a place
abbrev pub with_answer : Answer → Place → Store → Store
with_answer Listed p s = record s { listings = s.listings ++ p ∷ [] }
with_answer NotListed p s = record s { listings = s.listings ++ p ∷ []; failed_listings = s.failed_listings ++ p ∷ []; failures = s.failures + 1 }
with_answer Opened p s = record s { openings = s.openings ++ opening p 0 false ∷ [] }
with_answer NotOpened p s = record s { openings = s.openings ++ opening p 0 true ∷ []; failures = s.failures + 1 }

-- a read
abbrev pub with_read : ReadAnswer → Store → Store
with_read (Gave n) s = record s { openings = change_last (with_given n) s.openings }
with_read Failed s = record s { openings = change_last with_failure s.openings; failures = s.failures + 1 }
with_read NoFile s = s

-- whether the device failed in the last of these openings, if there is one
abbrev pub last_failed : List Opening → Option Bool
last_failed [] = None
last_failed (o ∷ []) = Some o.failed
last_failed (o ∷ p ∷ os) = last_failed (p ∷ os)

-- a file was opened, and the device did not fail in the last opening
abbrev pub IsReading : List Opening → Type 0
IsReading os = last_failed os ≡ Some false

-- after these openings a note of such a read is never refused
abbrev pub IsKeepable : ReadAnswer → List Opening → Type 0
IsKeepable (Gave n) os = ⊥
IsKeepable Failed os = IsReading os
IsKeepable NoFile os = ⊤

-- a read into a buffer with this room
abbrev pub with_room : ℕ → Store → Store
with_room room s = record s { largest = max s.largest room }

-- what is left of the open file
abbrev pub with_rest : Option Text → Store → Store
with_rest rest s = record s { rest = rest }
