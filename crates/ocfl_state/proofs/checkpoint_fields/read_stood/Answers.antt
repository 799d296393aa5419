use Rattle.std.proofs.{Common.{refl, sym, codes, ◌∙◌}, lemmas.List.{append_cancel_left}}
use Rattle.ocfl_report.specs.Text.{place_text}
use Rattle.ocfl_cursor.proofs.Texts.{text_eq-same}
use Rattle.ocfl_state.proofs.CheckpointFields.{stood_path}
use Rattle.ocfl_state.proofs.checkpoint_fields.read_stood.Goals as goal

pub returns-then-is_bytes-clause-place : goal.returns-then-is_bytes-clause-place
returns-then-is_bytes-clause-place c = text_eq-same _ _ (sym c.is_bytes.ensures ∙ c.if-is_bytes.true)

pub returns-in_default-clause-bad : goal.returns-in_default-clause-bad
returns-in_default-clause-bad c = λ _ s h f.
    let stood = stood_path c.args.line.now s (sym c.is_bytes.ensures ∙ c.if-is_bytes.false) h f in
    c.in_default.ensures.missing refl (place_text stood.place) stood.is

pub returns-in-Err-clause-bad : goal.returns-in-Err-clause-bad
returns-in-Err-clause-bad c = λ e s h f.
    let stood = stood_path c.args.line.now s (sym c.is_bytes.ensures ∙ c.if-is_bytes.false) h f in
    c.in-Err.ensures.bad (cc e) stood.place stood.names (append_cancel_left (codes "after ") _ _ (sym c.in-Some.ensures.found ∙ stood.is))
