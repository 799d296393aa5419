use Rattle.std.proofs.lemmas.Result.{err_from_is_err_and}
use Rattle.ocfl_item.proofs.{HeadCalls.{declaration_is_meta, reads_as}, HeadOpens.{one_memory}}
use Rattle.ocfl_item.proofs.object.add_declaration_file.Goals as goal

pub returns-in_err-declaration-clause-told : goal.returns-in_err-declaration-clause-told
returns-in_err-declaration-clause-told g c = λ h root over further here.
    let p = err_from_is_err_and c.from_residual.result c.from_residual.ensures.1 in
    let read = reads_as further root _ _ _ _ _ _ _ _ c.declaration_name-name.ensures (declaration_is_meta c.args.version) here (c.in_err-declaration.ensures.told h root over further) in
    rw (p.1, p.2) read.gives

pub returns-in_err-add_declaration-clause-told : goal.returns-in_err-add_declaration-clause-told
returns-in_err-add_declaration-clause-told g c = λ h root over further here.
    let p = err_from_is_err_and c.from_residual-in_err-add_declaration.result c.from_residual-in_err-add_declaration.ensures.1 in
    let read = reads_as further root _ _ _ _ _ _ _ _ c.declaration_name-name.ensures (declaration_is_meta c.args.version) here (c.in_ok-declaration.ensures.told h root over further) in
    rw (p.1, p.2) (one_memory further root _ _ _ _ _ _ read)

pub returns-clause-told : goal.returns-clause-told
returns-clause-told g c = λ h root over further here.
    let read = reads_as further root _ _ _ _ _ _ _ _ c.declaration_name-name.ensures (declaration_is_meta c.args.version) here (c.in_ok-declaration.ensures.told h root over further) in
    (read.gives.0, c.in_ok-add_declaration.ensures.lines root _ read.gives.1)
