use Rattle.std.proofs.Common.{◌≡◌, [], false, ap, sym, subst}
use Rattle.ocfl_rules.specs.Zone.{is_known}
use Rattle.ocfl_inventory.specs.Entries.{meaning, PointsAtOne}
use Rattle.ocfl_item.specs.{Internal.HeadLines.{declared_notes}, Internal.Lines.{HasLines}}
use Rattle.ocfl_item.proofs.LinesLaws.{has_more}
use Rattle.ocfl_item.proofs.declarations.stopped_lines.Goals as goal

pub returns-clause-lines : goal.returns-clause-lines
returns-clause-lines c = λ root stops points.
    let d = c.args.folder.now.place in
    let level = c.args.level in
    let m = c.args.declared in
    let same = c.deref.ensures.value in
    let unknown = subst (λ xs. is_known (meaning level xs m) ≡ false) (sym same) stops in
    let adds = c.in_ok-add_stop.ensures.lines root d unknown (subst (λ xs. PointsAtOne level xs m) (sym same) points) in
    subst (HasLines c.add_stop.new.lines) (ap (λ xs. declared_notes root d level (meaning level xs m)) same)
    (has_more c.new-lines.result c.add_stop.new.lines [] (declared_notes root d level (meaning level c.deref.result.now m)) c.new-lines.ensures.lines adds)
