-- Why bytes are the text of no checkpoint: what each answer tells.
use Rattle.std.proofs.Common.{◌≡◌, ◌++◌, true, Bool, codes, refl, ap, ◌∙◌}
use Rattle.ocfl_tree.specs.Place.{Text}
use Rattle.ocfl_report.specs.declared.further.Further.{Further}
use Rattle.ocfl_report.specs.declared.further.Further.TheVariants.{Nothing, Inventories}
use Rattle.ocfl_report.specs.declared.stop.TextStop.{TextStop}
use Rattle.ocfl_report.specs.declared.stop.TextStop.TheVariants as stop
use Rattle.ocfl_cursor.specs.{Refused.{IsRefused, is_version, refusal_of, version_after}, Sealed.{seal_line, with_seal}}
use Rattle.ocfl_cursor.specs.declared.refused.Refused.{Refused}
use Rattle.ocfl_cursor.specs.declared.refused.Refused.TheVariants.{Malformed, Memory}
use Rattle.ocfl_cursor.specs.declared.refused.TextKind.TheVariants as kind
use Rattle.ocfl_cursor.proofs.Refusals.{only_memory, refused_by_reading, refused_by_tests, tests_say}
use Rattle.ocfl_cursor.proofs.Seals.{is_sealed-sealed}
use Rattle.ocfl_state.specs.Checkpoint.{Checkpoint, checkpoint_first_line, checkpoint_body, shown_text, IsCheckpointText}
use Rattle.ocfl_state.specs.CheckpointLines.{IsBodyOf}
use Rattle.ocfl_state.specs.CheckpointRefusal.{is_checkpoint_front, refusal, RefusedRightly}
use Rattle.ocfl_state.proofs.CheckpointTexts.{IsBodyOf-sealed}

-- what begins with the first line of a checkpoint passes the tests of the front and the version
abbrev is_version_read : Text → Bool
is_version_read t = is_version (codes "12") (version_after (codes "ocfl-scrub checkpoint ") t)

front_of_line : (f : Further) (a b : Text) → is_checkpoint_front (checkpoint_first_line f ++ a ++ b) ≡ true
front_of_line Nothing a b = refl
front_of_line Inventories a b = refl

version_of_line : (f : Further) (a b : Text) → is_version_read (checkpoint_first_line f ++ a ++ b) ≡ true
version_of_line Nothing a b = refl
version_of_line Inventories a b = refl

-- a checkpoint's text passes each test
pub passes-text : (b : Text) → (c : Checkpoint) × IsCheckpointText b c → refusal b ≡ Malformed
passes-text b (c, h) =
    let seal : Text = seal_line (codes "sha256 ") (checkpoint_body c) in
    tests_say kind.Checkpoint (ap is_checkpoint_front h.is ∙ front_of_line c.cursor.further (shown_text c) seal)
    (ap is_version_read h.is ∙ version_of_line c.cursor.further (shown_text c) seal) (is_sealed-sealed (codes "sha256 ") refl b (checkpoint_body c) h.is)

-- so it is refused for want of memory alone
pub refused_for_memory : (b : Text) (c : Checkpoint) → IsCheckpointText b c → (why : Refused) → RefusedRightly b why → why ≡ Memory
refused_for_memory b c h why k = only_memory (refusal b) _ why (c, h) k

-- and what fails one is none
pub refused_checkpoint : (b : Text) (why : Refused) → IsRefused (refusal b) (refusal b ≡ Malformed) why → RefusedRightly b why
refused_checkpoint b why h = refused_by_tests (refusal b) _ why (passes-text b) h

pub unread_checkpoint : (b body : Text) (why : TextStop) → refusal b ≡ Malformed → b ≡ with_seal (codes "sha256 ") body
    → (why ≡ stop.Bad → (c : Checkpoint) → IsBodyOf body c → ⊥) → RefusedRightly b (refusal_of why)
unread_checkpoint b body why passed is none =
    refused_by_reading (refusal b) _ why passed (λ bad one. none bad one.0 (IsBodyOf-sealed b body one.0 is one.1))
