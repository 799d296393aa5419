use Rattle.std.proofs.Common.{◌∙◌, ap, sym, map}
use Rattle.std.specs.{Prelude.{◌&&◌}, List.{list_any}}
use Rattle.ocfl_messages.specs.{Finding.{finding_of}, Grouped.{is_at}}
use Rattle.ocfl_messages.proofs.Groups.{any_map}
use Rattle.ocfl_messages.proofs.respelt.is_beside.Goals as goal

pub returns-then-is_missed : goal.returns-then-is_missed
returns-then-is_missed c =
    c.any_at.ensures ∙ sym (any_map (is_at (finding_of c.args.finding.now)) c.args.respelt.now)
    ∙ sym (ap (λ b. b && list_any (is_at (finding_of c.args.finding.now)) (map finding_of c.args.respelt.now)) (sym c.is_missed.ensures ∙ c.if-is_missed.true))
