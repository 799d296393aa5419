use Rattle.std.proofs.Common.{map}
use Rattle.ocfl_messages.specs.{Finding.{finding_of}}
use Rattle.ocfl_messages.proofs.ShownLines.{night_whole}
use Rattle.ocfl_messages.proofs.night.night_text.Goals as goal

pub returns : goal.returns
returns c = λ ls h l. night_whole c.args.night.now ls (map finding_of c.in_ok-kept.kept.items) c.count-count.result _ (c.count-count.ensures ls h l) c.if-count-eq0.false (c.in_ok-kept.ensures ls h)
    (rw c.as_slice.ensures.value at c.in_ok-put_findings.ensures)
