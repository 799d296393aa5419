use Rattle.std.proofs.Common.{codes, refl, sym, ap, ◌∙◌, arith}
use Rattle.ocfl_cursor.proofs.Texts.{text_eq-same}
use Rattle.ocfl_state.specs.Checkpoint.{path_text}
use Rattle.ocfl_state.proofs.CheckpointFields.{path_begins, path_names, spot_path, no_named_path}
use Rattle.ocfl_state.proofs.checkpoint_fields.read_path.Goals as goal

pub returns-then-is_bytes-clause-place : goal.returns-then-is_bytes-clause-place
returns-then-is_bytes-clause-place c = text_eq-same c.args.path.now (codes "/") (sym c.is_bytes.ensures ∙ c.if-is_bytes.true) ∙ sym (ap path_text c.root.ensures)

pub returns-in_default-clause-bad : goal.returns-in_default-clause-bad
returns-in_default-clause-bad c = λ _ p h f. let rest = path_begins p in c.in_default.ensures.missing refl rest.0 (f ∙ rest.1)

pub returns-in-Err-clause-bad : goal.returns-in-Err-clause-bad
returns-in-Err-clause-bad c = λ e p h f.
    c.in-Err.ensures.bad (cc e) p h (path_names c.args.path.now c.in-Some.names.now p (sym c.is_bytes.ensures ∙ c.if-is_bytes.false) c.in-Some.ensures.found f)

pub returns-then-depth-eq0-clause-bad : goal.returns-then-depth-eq0-clause-bad
returns-then-depth-eq0-clause-bad c = λ _ p h f.
    no_named_path c.args.path.now c.in-Some.names.now c.in-Ok.place p c.in-Some.ensures.found c.in-Ok.ensures.ok (omega arith) h f

pub returns-clause-place : goal.returns-clause-place
returns-clause-place c = spot_path c.args.path.now c.in-Some.names.now c.in-Ok.place c.in-Some.ensures.found c.in-Ok.ensures.ok (λ e. omega (arith, e))
