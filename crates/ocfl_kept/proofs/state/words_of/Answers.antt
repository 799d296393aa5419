use Rattle.std.proofs.Common.{string_bytes}
use Rattle.ocfl_kept.proofs.Refusals.{words_so}
use Rattle.ocfl_kept.proofs.state.words_of.Goals as goal

pub returns : goal.returns
returns c = words_so c.args.reason c.in-Some.reason _ (string_bytes c.in_ok-file.file) (string_bytes c.in_ok-words.words) c.in-Some.is c.in_ok-text.ensures.ok
