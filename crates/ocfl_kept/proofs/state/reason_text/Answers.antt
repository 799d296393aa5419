use Rattle.std.proofs.{Common.{string_bytes}, lemmas.Result.{IfOk-weaker}}
use Rattle.ocfl_kept.proofs.state.reason_text.Goals as goal

pub returns : goal.returns
returns c = IfOk-weaker c.format-2.result _ _ (λ s h. record { shown = string_bytes c.in_ok-file.file; words = string_bytes c.in_ok-words.words; shows = c.in_ok-file.ensures; is = h }) c.format-2.ensures.ok
