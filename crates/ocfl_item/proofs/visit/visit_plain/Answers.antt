use Rattle.std.proofs.Common.{◌∙◌, sym, subst}
use Rattle.ocfl_item.specs.Meeting.{IsItemAt}
use Rattle.ocfl_item.proofs.VisitLaws.{plain_unhashed, visit_of_item}
use Rattle.ocfl_item.proofs.visit.visit_plain.Goals as goal

pub returns-clause-told : goal.returns-clause-told
returns-clause-told c = λ further root h names.
    let e = c.args.place in
    let made = c.in_ok-lines in
    let unhashed = plain_unhashed further root e c.args.code made.lines h made.ensures.place made.ensures.lines in
    let item = subst (IsItemAt further root e) (sym c.of_item.ensures.item) (c.of_lines.ensures.told further root unhashed, c.of_lines.ensures.place ∙ made.ensures.place) in
    visit_of_item further root e c.of_item.result item c.of_item.ensures.folder c.of_item.ensures.table h.head names
