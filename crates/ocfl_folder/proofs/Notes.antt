-- What the notes of a folder leave of the last opening.
use Rattle.std.proofs.Common.{◌≡◌, ℕ, false, List, [], ◌∷◌, ◌++◌, Some, ◌∙◌, refl}
use Rattle.ocfl_tree.specs.{Place.{Place}, Calls.{opening, change_last, with_given}}
use Rattle.ocfl_tree.specs.declared.store.Opening.{Opening}
use Rattle.ocfl_folder.specs.Noted.{last_failed, IsReading}

pub last_failed-push : (os : List Opening) (o : Opening) → last_failed (os ++ o ∷ []) ≡ Some o.failed
last_failed-push [] o = refl
last_failed-push (x ∷ []) o = refl
last_failed-push (x ∷ y ∷ os) o = last_failed-push (y ∷ os) o

pub last_failed-given : (n : ℕ) (os : List Opening) → last_failed (change_last (with_given n) os) ≡ last_failed os
last_failed-given n [] = refl
last_failed-given n (x ∷ []) = refl
last_failed-given n (x ∷ y ∷ []) = refl
last_failed-given n (x ∷ y ∷ z ∷ os) = last_failed-given n (y ∷ z ∷ os)

pub reading_opened : (os : List Opening) (p : Place) → IsReading (os ++ opening p 0 false ∷ [])
reading_opened os p = last_failed-push os (opening p 0 false)

pub reads_on : (n : ℕ) (os : List Opening) → IsReading os → IsReading (change_last (with_given n) os)
reads_on n os h = last_failed-given n os ∙ h
