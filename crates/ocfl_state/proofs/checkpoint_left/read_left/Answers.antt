use Rattle.std.proofs.Common.{refl, ◌∙◌}
use Rattle.ocfl_report.specs.Text.{place_text}
use Rattle.ocfl_state.specs.Checkpoint.{stood_text}
use Rattle.ocfl_state.proofs.CheckpointFields.{place_one_line}
use Rattle.ocfl_state.proofs.CheckpointTexts.{left_text-append, left_parts, left_read}
use Rattle.ocfl_state.proofs.checkpoint_left.read_left.Goals as goal

pub returns-in_default-clause-bad : goal.returns-in_default-clause-bad
returns-in_default-clause-bad c = λ e l rest h f.
    c.in_default.ensures.missing refl (place_text l.place) (stood_text l.after) rest (place_one_line l.place h.place) (f ∙ left_text-append l rest)

pub returns-in-Err-clause-bad : goal.returns-in-Err-clause-bad
returns-in-Err-clause-bad c = λ e l rest h f.
    let parts = left_parts c.args.text.now c.in-Some.path.now c.in-Some.stood.now c.in-Some.rest.now l rest c.in-Some.ensures.first.0 c.in-Some.ensures.first.1 h c.in-Some.ensures.found f in
    c.in-Err.ensures.bad (cc e) l.place h.place parts.path

pub returns-in-Err-read_stood-clause-bad : goal.returns-in-Err-read_stood-clause-bad
returns-in-Err-read_stood-clause-bad c = λ e l rest h f.
    let parts = left_parts c.args.text.now c.in-Some.path.now c.in-Some.stood.now c.in-Some.rest.now l rest c.in-Some.ensures.first.0 c.in-Some.ensures.first.1 h c.in-Some.ensures.found f in
    c.in-Err-read_stood.ensures.bad (cc e) l.after h.after parts.stood

pub returns-in-Ok-read_stood-clause-found : goal.returns-in-Ok-read_stood-clause-found
returns-in-Ok-read_stood-clause-found c =
    left_read c.args.text.now c.in-Some.path.now c.in-Some.stood.now c.in-Some.rest.now (record { place = c.in-Ok.place; after = c.in-Ok-read_stood.after })
    c.in-Some.ensures.found c.in-Ok.ensures.ok c.in-Ok-read_stood.ensures.place
