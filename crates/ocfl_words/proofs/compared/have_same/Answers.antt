use Rattle.std.proofs.Common.{◌∙◌}
use Rattle.ocfl_report.specs.Line.{line_of}
use Rattle.ocfl_words.specs.News.{is_same_line}
use Rattle.ocfl_words.proofs.Marking.{any_mapped}
use Rattle.ocfl_words.proofs.compared.have_same.Goals as goal

pub returns : goal.returns
returns c = c.has_same.ensures ∙ any_mapped line_of (is_same_line (line_of c.args.line.now)) c.args.lines.now
