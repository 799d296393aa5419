use Rattle.std.proofs.{Common.{map, string_bytes}, lemmas.Result.{IfOk-weaker}}
use Rattle.ocfl_terminal.proofs.words.read_asked.Goals as goal

pub returns : goal.returns
returns g c = IfOk-weaker c.given_by.result _ _ (λ given h. (map string_bytes c.in_ok-words.words.items, h)) c.given_by.ensures
