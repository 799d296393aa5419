use Rattle.std.proofs.Common.{sym, subst}
use Rattle.ocfl_item.specs.Meeting.{IsItemAt}
use Rattle.ocfl_item.proofs.VisitLaws.{content_no_head, visit_of_item}
use Rattle.ocfl_item.proofs.visit.visit_unentered.Goals as goal

pub returns-clause-told : goal.returns-clause-told
returns-clause-told c = λ further root t q content digests sight names.
    let e = c.args.place in
    let item = subst (IsItemAt further root e) (sym c.of_item.ensures.item) (c.in_ok-content_item.ensures.told further root t q content digests sight) in
    visit_of_item further root e c.of_item.result item c.of_item.ensures.folder c.of_item.ensures.table (content_no_head root e (t, q) content) names
