use Rattle.std.proofs.Common.{[], ◌∙◌, ap, map}
use Rattle.ocfl_inventory.specs.{Remark.{remark_view}, TripleView.{named_view}}
use Rattle.ocfl_rules.specs.Lines.{unnamed_notes}
use Rattle.ocfl_item.proofs.LinesLaws.{has_more}
use Rattle.ocfl_item.proofs.content.hashed_item.Goals as goal

pub returns-clause-remarks : goal.returns-clause-remarks
returns-clause-remarks c =
    ap (λ v. map remark_view v.items) c.of_file.ensures.remarks
    ∙ has_more c.new-lines.result c.add_unnamed.new.lines [] _ c.new-lines.ensures.lines c.in_ok-add_unnamed.ensures
    ∙ ap (λ ns. unnamed_notes (map named_view ns)) c.deref.ensures.value
