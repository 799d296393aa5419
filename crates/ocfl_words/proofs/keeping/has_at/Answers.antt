use Rattle.std.proofs.Common.{◌∙◌, ap}
use Rattle.std.specs.Prelude.{is_some}
use Rattle.ocfl_report.specs.Line.{line_of}
use Rattle.ocfl_words.proofs.KeptLines.{some_mapped}
use Rattle.ocfl_words.proofs.keeping.has_at.Goals as goal

pub returns : goal.returns
returns c = c.is_some.ensures ∙ some_mapped (λ l. line_of l.now) c.find_at.result ∙ ap is_some c.find_at.ensures
