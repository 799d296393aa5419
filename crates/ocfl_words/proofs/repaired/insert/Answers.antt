use Rattle.std.proofs.Common.{◌∙◌, ap, map, subst}
use Rattle.ocfl_report.specs.Line.{line_of}
use Rattle.ocfl_words.proofs.Shown.{ComesAt, inserted}
use Rattle.ocfl_words.proofs.repaired.insert.Goals as goal

pub returns : goal.returns
returns c =
    let l = line_of c.args.line.now in
    let ms = c.args.shown.now.items in
    let i = c.index_for-index.result in
    ap (map line_of) c.in_ok-insert.ensures.items
    ∙ inserted l ms i c.in_ok-copy_of.field-0 c.in_ok-copy_of.ensures (subst (λ xs. ComesAt l xs i) c.deref.ensures.value c.index_for-index.ensures.index)
