use Rattle.std.proofs.{Common.{◌∙◌, subst}, lemmas.Result.{err_from_is_err_and}}
use Rattle.ocfl_item.specs.Internal.Lines.{HasLines}
use Rattle.ocfl_item.proofs.BaseLaws.{declaration_read, read_at_top, root_unhashed}
use Rattle.ocfl_item.proofs.HeadOpens.{one_memory}
use Rattle.ocfl_item.proofs.base.known_item.Goals as goal

pub returns-clause-told : goal.returns-clause-told
returns-clause-told g c = λ h root over further base.
    let read = declaration_read further root _ _ _ _ _ c.args.version _ _ _ base c.declaration_name-name.ensures (c.in_ok-read_file.ensures.told h root over further) in
    let file = read_at_top further root _ _ _ _ _ base.top read in
    let made = c.in_ok-lines in
    let lines = subst (HasLines made.lines) (c.known_code-code.ensures root file) made.ensures.lines in
    c.of_lines.ensures.told further root (root_unhashed further root _ made.lines (made.ensures.place ∙ c.in_ok-try_clone.ensures ∙ base.top) base.says lines)

pub returns-in_err-read_file-clause-opened : goal.returns-in_err-read_file-clause-opened
returns-in_err-read_file-clause-opened g c = λ h root over further base.
    let p = err_from_is_err_and c.from_residual.result c.from_residual.ensures.1 in
    rw (p.1, p.2) (declaration_read further root _ _ _ _ _ c.args.version _ _ _ base c.declaration_name-name.ensures (c.in_err-read_file.ensures.told h root over further)).gives

pub returns-in_err-lines-clause-opened : goal.returns-in_err-lines-clause-opened
returns-in_err-lines-clause-opened g c = λ h root over further base.
    let p = err_from_is_err_and c.from_residual-in_err-lines.result c.from_residual-in_err-lines.ensures.1 in
    rw (p.1, p.2) (one_memory further root _ _ _ _ _ _ (declaration_read further root _ _ _ _ _ c.args.version _ _ _ base c.declaration_name-name.ensures (c.in_ok-read_file.ensures.told h root over further)))

pub returns-in_err-try_clone-clause-opened : goal.returns-in_err-try_clone-clause-opened
returns-in_err-try_clone-clause-opened g c = λ h root over further base.
    let p = err_from_is_err_and c.from_residual-in_err-try_clone.result c.from_residual-in_err-try_clone.ensures.1 in
    rw (p.1, p.2) (one_memory further root _ _ _ _ _ _ (declaration_read further root _ _ _ _ _ c.args.version _ _ _ base c.declaration_name-name.ensures (c.in_ok-read_file.ensures.told h root over further)))

pub returns-clause-opened : goal.returns-clause-opened
returns-clause-opened g c = λ h root over further base.
    (declaration_read further root _ _ _ _ _ c.args.version _ _ _ base c.declaration_name-name.ensures (c.in_ok-read_file.ensures.told h root over further)).gives.0
