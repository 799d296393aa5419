use Rattle.std.proofs.Common.{map, subst, ◌∙◌, ap}
use Rattle.ocfl_inventory.specs.Remark.{remark_view}
use Rattle.ocfl_item.specs.{Internal.HeadLines.{named_notes}, Internal.Lines.{Adds}, Root.{root_by}}
use Rattle.ocfl_item.proofs.{HeadLaws.{named_have_sidecars, read_part}, LinesLaws.{adds_both}}
use Rattle.ocfl_item.proofs.head_lines.add_read.Goals as goal

pub returns-clause-lines : goal.returns-clause-lines
returns-clause-lines c = λ root o files.
    let algorithm = c.in_ok-read.read.algorithm in
    let read = map remark_view c.in_ok-read.read.remarks.items in
    let stated = c.in_ok-read.ensures.algorithm in
    let missing = c.in_ok-add_missing_sidecar.ensures.lines root o files (named_have_sidecars c.args.inventory.now algorithm stated) in
    let both = adds_both c.args.lines.now c.add_missing_sidecar.new.lines c.add_remarks.new.lines (named_notes root o algorithm) read missing c.in_ok-add_remarks.ensures in
    subst (Adds c.args.lines.now c.add_remarks.new.lines) (read_part root o c.args.inventory.now algorithm read stated c.in_ok-read.ensures.remarks) both

pub returns-clause-root : goal.returns-clause-root
returns-clause-root c = c.in_ok-root.ensures c.in_ok-read.ensures.head ∙ ap (root_by c.args.further c.args.inventory.now) c.in_ok-read.ensures.table
