use Rattle.std.proofs.Common.{◌∙◌, sym}
use Rattle.ocfl_messages.specs.Finding.{finding_of}
use Rattle.ocfl_messages.proofs.Groups.{first_here, first_later}
use Rattle.ocfl_messages.proofs.grouped.first_with.Goals as goal

pub returns-then-is_with : goal.returns-then-is_with
returns-then-is_with c =
    first_here (finding_of c.args.one.now) c.args.findings.now c.loop-finding.finding-index c.finding-item.result _ c.loop-finding-test.true c.finding-item.is
    (sym c.is_with.ensures ∙ c.if-is_with.true) c.loop-finding.invariant

pub loop-finding-preserved : goal.loop-finding-preserved
loop-finding-preserved c =
    first_later (finding_of c.args.one.now) c.args.findings.now c.loop-finding.finding-index c.finding-item.result _ c.loop-finding-test.true c.finding-item.is
    (sym c.is_with.ensures ∙ c.if-is_with.false) c.loop-finding.invariant
