-- A text that is appended once it is made.
use Rattle.std.proofs.Common.{◌≡◌, ◌++◌, ◌∙◌, ap}
use Rattle.std.specs.Prelude.{Result, Ok, Err, IfOk, IsOkAnd}
use Rattle.ocfl_tree.specs.Place.{Text}

pub made_adds : {S E : Type 0} (bytes : S → Text) (made : Result S E) (new old text : Text) → IsOkAnd made (λ s. new ≡ old ++ bytes s) → IfOk made (λ s. bytes s ≡ text) → new ≡ old ++ text
made_adds bytes (Ok s) new old text a h = a ∙ ap (λ t. old ++ t) h
made_adds bytes (Err e) new old text a h = absurd a
