use Rattle.std.proofs.{Common.{◌∙◌, refl, sym}, lemmas.Result.{err_from_is_err_and}}
use Rattle.ocfl_item.proofs.{HeadReads.{head_read_from}, VisitPlaces.{head_item, open_visit, stopped_visit}}
use Rattle.ocfl_item.proofs.visit.visit_object.Goals as goal

pub returns-in_err-lines-clause-told : goal.returns-in_err-lines-clause-told
returns-in_err-lines-clause-told g c = λ h root over declared.
    let p = err_from_is_err_and c.from_residual.result c.from_residual.ensures.1 in
    let read = head_read_from c.args.further root _ _ _ c.head_lines.result declared.zone (c.head_lines.ensures.opened h root over declared) (c.head_lines.ensures.told h root over declared) in
    rw (p.1, p.2) (record { gives = rw c.in_err-lines.was at read.gives })

pub returns-in-None-clause-told : goal.returns-in-None-clause-told
returns-in-None-clause-told g c = λ h root over declared.
    let made = head_read_from c.args.further root _ _ _ c.head_lines.result declared.zone (c.head_lines.ensures.opened h root over declared) (c.head_lines.ensures.told h root over declared) in
    let read = rw c.in_ok-lines.was at made.gives in
    let item = head_item c.args.further root _ _ _ declared _ c.of_lines.result read.1.0 c.in_ok-lines.ensures.place c.of_lines.ensures.place (c.of_lines.ensures.told c.args.further root) in
    let v = c.of_item in
    record { gives = (read.0, stopped_visit c.args.further root _ _ _ declared v.result c.of_lines.result v.ensures.item v.ensures.folder v.ensures.table item (sym read.1.1 ∙ c.in-None.is)) }

pub returns-in-Some-clause-told : goal.returns-in-Some-clause-told
returns-in-Some-clause-told g c = λ h root over declared.
    let made = head_read_from c.args.further root _ _ _ c.head_lines.result declared.zone (c.head_lines.ensures.opened h root over declared) (c.head_lines.ensures.told h root over declared) in
    let read = rw c.in_ok-lines.was at made.gives in
    let item = head_item c.args.further root _ _ _ declared _ c.of_lines.result read.1.0 c.in_ok-lines.ensures.place c.of_lines.ensures.place (c.of_lines.ensures.told c.args.further root) in
    record { gives = (read.0, open_visit c.args.further root _ _ _ declared _ c.of_lines.result c.args.folder c.in-Some.table refl refl refl item refl refl (sym read.1.1 ∙ c.in-Some.is) read.1.2) }
