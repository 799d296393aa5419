use Rattle.std.proofs.Common.{◌∙◌, map, sym}
use Rattle.std.proofs.lemmas.Result.{on_ok_weaker}
use Rattle.ocfl_report.specs.Line.{line_of}
use Rattle.ocfl_words.proofs.KeptLines.{finding_kept, not_kept}
use Rattle.ocfl_words.proofs.keeping.keep_first.Goals as goal

pub returns-then-is_finding : goal.returns-then-is_finding
returns-then-is_finding c = on_ok_weaker c.keep_finding.result
    (λ kept. kept ∙ finding_kept (map line_of c.args.lines.now.items) (line_of c.args.line.now) (sym c.is_finding.ensures ∙ c.if-is_finding.true)) c.keep_finding.ensures

pub returns : goal.returns
returns c = not_kept (map line_of c.args.lines.now.items) (line_of c.args.line.now) (sym c.is_finding.ensures ∙ c.if-is_finding.false)
