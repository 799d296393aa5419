-- How a night that cannot be made is refused.
use Rattle.std.proofs.Common.{◌≡◌, ◌∙◌, ap, inl, inr, Result, Ok, Err, Some, String, IfOk, string_bytes, option_map}
use Rattle.std.specs.declared.alloc.{AllocError.{AllocError}, Global.{Global}}
use Rattle.ocfl_tree.specs.Place.{Text}
use Rattle.ocfl_files.specs.declared.failing.Failure.{Failure}
use Rattle.ocfl_given.specs.Refusing.{IsRefusal, IsUsage, Refuses}

-- with the text, or with none as there was no memory for it
pub refuses : (text : Text) (made : Result (String Global) AllocError) (f : Failure) → IfOk made (λ t. string_bytes t ≡ text) → IsRefusal made f → Refuses text f
refuses text (Ok t) f is said = inl (said.0, ap (option_map string_bytes) said.1 ∙ ap Some is)
refuses text (Err e) f is said = inr said

-- whatever the text says
pub is_usage : (made : Result (String Global) AllocError) (f : Failure) → IsRefusal made f → IsUsage f
is_usage (Ok t) f said = inl said.0
is_usage (Err e) f said = inr said
