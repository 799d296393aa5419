use Rattle.std.proofs.Common.{refl, sym, ap, codes, ◌∙◌}
use Rattle.hex.specs.Hex.{encode_lower}
use Rattle.ocfl_tree.specs.Place.{Text}
use Rattle.ocfl_state.specs.{Checkpoint.{names_text, phase_text, yes_or_no}, CheckpointLines.{field_line}}
use Rattle.ocfl_state.proofs.CheckpointFields.{field_determines, names_one_line, phase_one_line, whole_one_line}
use Rattle.ocfl_state.proofs.CheckpointTexts.{digest_line_determines}
use Rattle.ocfl_state.proofs.checkpoint_account.read_standing.Goals as goal

pub returns-in_err-names-clause-missing : goal.returns-in_err-names-clause-missing
returns-in_err-names-clause-missing c = λ e s rest h f.
    let declared = digest_line_determines (codes "declared ") c.in_ok-declared.declared s.declared c.in_ok-declared.rest.now _ c.in_ok-declared.ensures.fits h.declared (sym c.in_ok-declared.ensures.found ∙ f) in
    c.in_err-names.ensures.missing refl (names_text s.names) _ declared.1

pub returns-in_err-phase-clause-missing : goal.returns-in_err-phase-clause-missing
returns-in_err-phase-clause-missing c = λ e s rest h f.
    let declared = digest_line_determines (codes "declared ") c.in_ok-declared.declared s.declared c.in_ok-declared.rest.now _ c.in_ok-declared.ensures.fits h.declared (sym c.in_ok-declared.ensures.found ∙ f) in
    let names = field_determines (codes "names ") c.in_ok-names.names.now (names_text s.names) c.in_ok-names.rest.now _ c.in_ok-names.ensures.first (names_one_line s.names h.names) (sym c.in_ok-names.ensures.found ∙ declared.1) in
    c.in_err-phase.ensures.missing refl (phase_text s.phase) _ names.1

pub returns-in_err-whole-clause-missing : goal.returns-in_err-whole-clause-missing
returns-in_err-whole-clause-missing c = λ e s rest h f.
    let declared = digest_line_determines (codes "declared ") c.in_ok-declared.declared s.declared c.in_ok-declared.rest.now _ c.in_ok-declared.ensures.fits h.declared (sym c.in_ok-declared.ensures.found ∙ f) in
    let names = field_determines (codes "names ") c.in_ok-names.names.now (names_text s.names) c.in_ok-names.rest.now _ c.in_ok-names.ensures.first (names_one_line s.names h.names) (sym c.in_ok-names.ensures.found ∙ declared.1) in
    let phase = field_determines (codes "phase ") c.in_ok-phase.phase.now (phase_text s.phase) c.in_ok-phase.rest.now _ c.in_ok-phase.ensures.first (phase_one_line s.phase) (sym c.in_ok-phase.ensures.found ∙ names.1) in
    c.in_err-whole.ensures.missing refl (yes_or_no s.whole) rest phase.1

pub returns-in_err-read_names-clause-missing : goal.returns-in_err-read_names-clause-missing
returns-in_err-read_names-clause-missing c = λ e s rest h f.
    let declared = digest_line_determines (codes "declared ") c.in_ok-declared.declared s.declared c.in_ok-declared.rest.now _ c.in_ok-declared.ensures.fits h.declared (sym c.in_ok-declared.ensures.found ∙ f) in
    let names = field_determines (codes "names ") c.in_ok-names.names.now (names_text s.names) c.in_ok-names.rest.now _ c.in_ok-names.ensures.first (names_one_line s.names h.names) (sym c.in_ok-names.ensures.found ∙ declared.1) in
    c.in_err-read_names.ensures.missing refl s.names h.names names.0

pub returns-in_err-read_phase-clause-missing : goal.returns-in_err-read_phase-clause-missing
returns-in_err-read_phase-clause-missing c = λ e s rest h f.
    let declared = digest_line_determines (codes "declared ") c.in_ok-declared.declared s.declared c.in_ok-declared.rest.now _ c.in_ok-declared.ensures.fits h.declared (sym c.in_ok-declared.ensures.found ∙ f) in
    let names = field_determines (codes "names ") c.in_ok-names.names.now (names_text s.names) c.in_ok-names.rest.now _ c.in_ok-names.ensures.first (names_one_line s.names h.names) (sym c.in_ok-names.ensures.found ∙ declared.1) in
    let phase = field_determines (codes "phase ") c.in_ok-phase.phase.now (phase_text s.phase) c.in_ok-phase.rest.now _ c.in_ok-phase.ensures.first (phase_one_line s.phase) (sym c.in_ok-phase.ensures.found ∙ names.1) in
    c.in_err-read_phase.ensures.missing refl s.phase phase.0

pub returns-in_err-read_whole-clause-missing : goal.returns-in_err-read_whole-clause-missing
returns-in_err-read_whole-clause-missing c = λ e s rest h f.
    let declared = digest_line_determines (codes "declared ") c.in_ok-declared.declared s.declared c.in_ok-declared.rest.now _ c.in_ok-declared.ensures.fits h.declared (sym c.in_ok-declared.ensures.found ∙ f) in
    let names = field_determines (codes "names ") c.in_ok-names.names.now (names_text s.names) c.in_ok-names.rest.now _ c.in_ok-names.ensures.first (names_one_line s.names h.names) (sym c.in_ok-names.ensures.found ∙ declared.1) in
    let phase = field_determines (codes "phase ") c.in_ok-phase.phase.now (phase_text s.phase) c.in_ok-phase.rest.now _ c.in_ok-phase.ensures.first (phase_one_line s.phase) (sym c.in_ok-phase.ensures.found ∙ names.1) in
    let whole = field_determines (codes "whole ") c.in_ok-whole.whole.now (yes_or_no s.whole) c.in_ok-whole.rest.now rest c.in_ok-whole.ensures.first (whole_one_line s.whole) (sym c.in_ok-whole.ensures.found ∙ phase.1) in
    c.in_err-read_whole.ensures.missing refl s.whole whole.0

pub returns-in_err-declared-clause-missing : goal.returns-in_err-declared-clause-missing
returns-in_err-declared-clause-missing c = λ e s rest h f. c.in_err-declared.ensures.missing refl s.declared _ h.declared f

pub returns-clause-found : goal.returns-clause-found
returns-clause-found c =
    let declared = field_line (codes "declared ") (encode_lower c.in_ok-declared.declared) in
    let whole = c.in_ok-whole.ensures.found ∙ ap (λ (t : Text). field_line (codes "whole ") t c.in_ok-whole.rest.now) c.in_ok-read_whole.ensures.found in
    let phase = c.in_ok-phase.ensures.found ∙ (λ i. field_line (codes "phase ") (c.in_ok-read_phase.ensures.found i) (whole i)) in
    let names = c.in_ok-names.ensures.found ∙ (λ i. field_line (codes "names ") (c.in_ok-read_names.ensures.found i) (phase i)) in
    c.in_ok-declared.ensures.found ∙ ap declared names
