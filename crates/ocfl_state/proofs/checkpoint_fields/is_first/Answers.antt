use Rattle.std.proofs.Common.{sym, ◌∙◌}
use Rattle.ocfl_cursor.proofs.Texts.{text_eq-same}
use Rattle.ocfl_state.proofs.CheckpointFields.{another_word}
use Rattle.ocfl_state.proofs.checkpoint_fields.is_first.Goals as goal

pub returns-then-is_bytes-clause-found : goal.returns-then-is_bytes-clause-found
returns-then-is_bytes-clause-found c = text_eq-same _ _ (sym c.is_bytes.ensures ∙ c.if-is_bytes.true)

pub returns-then-is_bytes-2-clause-found : goal.returns-then-is_bytes-2-clause-found
returns-then-is_bytes-2-clause-found c = text_eq-same _ _ (sym c.is_bytes-2.ensures ∙ c.if-is_bytes-2.true)

pub returns-clause-missing : goal.returns-clause-missing
returns-clause-missing c = λ _.
    (another_word c.args.word.now c.args.first.now _ c.is_bytes.ensures c.if-is_bytes.false, another_word c.args.word.now c.args.second.now _ c.is_bytes-2.ensures c.if-is_bytes-2.false)
