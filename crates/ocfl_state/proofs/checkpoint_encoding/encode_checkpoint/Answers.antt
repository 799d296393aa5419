use Rattle.std.proofs.{Common.{◌++◌, codes, ap, ap₂, ◌∙◌}, lemmas.Result.{IfOk-weaker}}
use Rattle.ocfl_tree.specs.Place.{Text}
use Rattle.ocfl_cursor.specs.Sealed.{with_seal}
use Rattle.ocfl_state.specs.Checkpoint.{Checkpoint, checkpoint_first_line}
use Rattle.ocfl_state.proofs.checkpoint_encoding.encode_checkpoint.Goals as goal

pub returns : goal.returns
returns c =
    let lines = c.deref.ensures.value ∙ c.in_ok-lines.ensures in
    let first = c.first_line.ensures ∙ ap checkpoint_first_line (c.further-further.ensures ∙ ap (λ (w : Checkpoint). w.cursor.further) c.checkpoint.view_is) in
    let body = ap₂ (λ (s t : Text). s ++ t) first lines in
    IfOk-weaker c.sealed_text.result _ _ (λ text h. h ∙ ap (λ (t : Text). with_seal (codes "sha256 ") t) body) c.sealed_text.ensures
