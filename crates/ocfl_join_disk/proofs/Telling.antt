-- What was said of a joining that stopped.
use Rattle.std.proofs.Common.{◌≡◌, Bool, true, false, [], refl, ◌∙◌, ap}
use Rattle.std.specs.Prelude.{Result, Ok, Err, IfOk, IsOkAnd, if◌then◌else◌}
use Rattle.ocfl_tree.specs.Place.{Text}
use Rattle.ocfl_joining.specs.{Folders.{Folders, with_noted}}
use Rattle.ocfl_join_disk.specs.Shown.{PartFiles}
use Rattle.ocfl_join_disk.proofs.Endings.{none_noted}

pub said_noted : {S E : Type 0} (bytes : S → Text) (made : Result S E) (said : Bool) (wanted : Text) (old new : PartFiles) → IfOk made (λ s. bytes s ≡ wanted)
    → (said ≡ true → IsOkAnd made (λ s. new.folders ≡ with_noted (bytes s) old.folders)) → (said ≡ false → new ≡ old) → new.folders ≡ with_noted (if said then wanted else []) old.folders
said_noted {S = S} {E = E} bytes made false wanted old new h takes silent = ap (λ p. p.folders) (silent refl) ∙ none_noted old.folders
said_noted {S = S} {E = E} bytes made true wanted old new h takes silent = by made h (takes refl)
  where
    by : (m : Result S E) → IfOk m (λ s. bytes s ≡ wanted) → IsOkAnd m (λ s. new.folders ≡ with_noted (bytes s) old.folders) → new.folders ≡ with_noted wanted old.folders
    by (Ok s) h is = is ∙ ap (λ t. with_noted t old.folders) h
    by (Err e) h is = absurd is
