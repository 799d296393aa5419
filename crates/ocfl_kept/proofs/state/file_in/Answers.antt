use Rattle.std.proofs.{Common.{string_bytes}, lemmas.Result.{IfOk-weaker}}
use Rattle.ocfl_kept.proofs.state.file_in.Goals as goal

pub returns : goal.returns
returns c = IfOk-weaker c.format-2.result _ _ (λ s h. (string_bytes c.in_ok-name.name, h)) c.format-2.ensures.ok
