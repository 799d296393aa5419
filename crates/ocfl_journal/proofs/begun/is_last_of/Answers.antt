use Rattle.std.proofs.Common.{◌∙◌, sym}
use Rattle.ocfl_journal.proofs.Begins.{last_not, last_so}
use Rattle.ocfl_journal.proofs.begun.is_last_of.Goals as goal

pub returns-then-eq : goal.returns-then-eq
returns-then-eq c =
    let both = c.in-Some-Some in
    last_so c.eq-then-eq.result c.args.folder.now c.args.name.now both.above.now both.last.now both.path.now c.as_bytes.result.now c.args.root.now
    both.ensures both.ensures'.0 (sym c.eq.ensures ∙ c.if-eq.true) c.as_bytes.ensures.value c.eq-then-eq.ensures

pub returns-else-eq : goal.returns-else-eq
returns-else-eq c =
    let both = c.in-Some-Some in
    last_not c.eq.result c.args.folder.now c.args.name.now both.above.now both.last.now c.args.root.now
    both.ensures'.0 c.eq.ensures c.if-eq.false
