use Rattle.std.proofs.{Common.{[], refl}, lemmas.Result.{err_from_is_err_and}}
use Rattle.ocfl_item.proofs.BaseLaws.{base_is, base_known, base_listed, base_not_listed, base_stopped, base_stops, declared_fails, declared_meets}
use Rattle.ocfl_item.proofs.{LooksCalls.{over_then, root_listable}, VisitLaws.{meet_out}}
use Rattle.ocfl_item.proofs.base.visit_base.Goals as goal

pub returns-in_err-folder-clause-told : goal.returns-in_err-folder-clause-told
returns-in_err-folder-clause-told g c = λ h root over further.
    let p = err_from_is_err_and c.from_residual.result c.from_residual.ensures.1 in
    rw (p.1, p.2) (record { gives = base_not_listed further root _ _ _ _ c.root.ensures (c.in_err-folder.ensures.told h root over further (root_listable root _ c.root.ensures)) })

pub returns-in_err-item-in-One-clause-told : goal.returns-in_err-item-in-One-clause-told
returns-in_err-item-in-One-clause-told g c = λ h root over further.
    let p = err_from_is_err_and c.from_residual-in_err-item-in-One.result c.from_residual-in_err-item-in-One.ensures.1 in
    let there = c.in_ok-folder.ensures.told h root over further (root_listable root _ c.root.ensures) in
    let base = base_is further root _ _ _ _ _ _ _ c.root.ensures there c.deref.ensures.value c.in_ok-folder.ensures.ordinary c.in-One.ensures.declared c.in-One.ensures.unknown in
    let opened = c.in_err-item-in-One.ensures.opened h root (over_then root _ _ _ _ _ over there) further base in
    rw (p.1, p.2) (record { gives = declared_fails further root _ _ _ _ _ _ c.root.ensures over there c.in-One.version _ opened })

pub returns-in_ok-item-in-One-clause-told : goal.returns-in_ok-item-in-One-clause-told
returns-in_ok-item-in-One-clause-told g c = λ h root over further.
    let item = c.in_ok-item-in-One in
    let v = c.of_folder in
    let there = c.in_ok-folder.ensures.told h root over further (root_listable root _ c.root.ensures) in
    let tree = over_then root _ _ _ _ _ over there in
    let base = base_is further root _ _ _ _ _ _ _ c.root.ensures there c.deref.ensures.value c.in_ok-folder.ensures.ordinary c.in-One.ensures.declared c.in-One.ensures.unknown in
    record {
      gives = (
        declared_meets further root _ _ _ _ _ _ c.root.ensures over there c.in-One.version (item.ensures.opened h root tree further base),
        base_known further root _ _ _ base v.result item.item v.ensures.item v.ensures.table (item.ensures.told h root tree further base) item.ensures.place c.in_ok-folder.folder refl refl v.ensures.folder refl,
      );
    }

pub returns-in_err-item-in_default-clause-told : goal.returns-in_err-item-in_default-clause-told
returns-in_err-item-in_default-clause-told g c = λ h root over further.
    let p = err_from_is_err_and c.from_residual-in_err-item-in_default.result c.from_residual-in_err-item-in_default.ensures.1 in
    rw (p.1, p.2) (record { gives = meet_out further root _ _ [] (base_listed further root _ _ _ _ _ c.root.ensures over (c.in_ok-folder.ensures.told h root over further (root_listable root _ c.root.ensures))) })

pub returns-in_ok-item-in_default-clause-told : goal.returns-in_ok-item-in_default-clause-told
returns-in_ok-item-in_default-clause-told g c = λ h root over further.
    let item = c.in_ok-item-in_default in
    let v = c.of_item in
    let there = c.in_ok-folder.ensures.told h root over further (root_listable root _ c.root.ensures) in
    let base = base_is further root _ _ _ _ _ _ c.declaration.result c.root.ensures there c.deref.ensures.value c.in_ok-folder.ensures.ordinary c.declaration.ensures.declared c.declaration.ensures.unknown in
    let stops = base_stops root _ _ _ base c.in_default.not-One in
    record {
      gives = (
        base_listed further root _ _ _ _ _ c.root.ensures over there,
        base_stopped further root _ _ _ base v.result item.item v.ensures.item v.ensures.table (item.ensures.told further root base stops) item.ensures.place v.ensures.folder stops,
      );
    }
