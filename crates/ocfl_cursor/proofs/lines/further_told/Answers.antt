use Rattle.std.proofs.Common.{sym, ◌∙◌}
use Rattle.ocfl_report.specs.declared.further.Further.TheVariants.{Nothing, Inventories}
use Rattle.ocfl_cursor.proofs.StoredLines.{told_further}
use Rattle.ocfl_cursor.proofs.lines.further_told.Goals as goal

pub returns-then-starts_with : goal.returns-then-starts_with
returns-then-starts_with c = λ d h. told_further Inventories c.args.lines.now d (sym c.starts_with.ensures.value ∙ c.if-starts_with.true) h

pub returns-else-starts_with : goal.returns-else-starts_with
returns-else-starts_with c = λ d h. told_further Nothing c.args.lines.now d (sym c.starts_with.ensures.value ∙ c.if-starts_with.false) h
