use Rattle.std.proofs.{Common.{refl}, lemmas.Result.{err_from_is_err_and}}
use Rattle.ocfl_item.proofs.HeadCalls.{inventory_root, long_inventory_root, no_inventory_root, object_root, table_absent, table_over, table_whole}
use Rattle.ocfl_item.proofs.{FileLaws.{file_is_meta}, HeadOpens.{one_memory}}
use Rattle.ocfl_item.proofs.object.table_of_object.Goals as goal

pub returns-in_ok-read_table-in-Some-Whole-clause-told :
    goal.returns-in_ok-read_table-in-Some-Whole-clause-told
returns-in_ok-read_table-in-Some-Whole-clause-told g c = λ h root over here.
    let read = rw (c.in-Some-Whole.is, c.in-Some-Whole.field-0-is) at c.in_ok-bytes.ensures.told h root over c.args.further here.listing (file_is_meta c.args.further root _ _ here.zone refl) in
    let made = c.in_ok-read_table-in-Some-Whole.ensures in (
      table_whole c.args.further root _ _ here _ _ c.in-Some-Whole.bytes _ _ read c.deref.ensures.value made.table,
      object_root c.args.further root _ _ here _ (inventory_root root _ c.args.further c.in-Some-Whole.bytes _ _ read.gives.1 c.deref.ensures.value made.root),
    )

pub returns-in-Some-Over-clause-told : goal.returns-in-Some-Over-clause-told
returns-in-Some-Over-clause-told g c = λ h root over here.
    let read = rw (c.in-Some-Over.is, c.in-Some-Over.field-0-is) at c.in_ok-bytes.ensures.told h root over c.args.further here.listing (file_is_meta c.args.further root _ _ here.zone refl) in
    (table_over c.args.further root _ _ here _ _ read, object_root c.args.further root _ _ here _ (long_inventory_root root _ c.args.further read.gives.1))

pub returns-in-None-clause-told : goal.returns-in-None-clause-told
returns-in-None-clause-told g c = λ h root over here.
    let read = rw c.in-None.is at c.in_ok-bytes.ensures.told h root over c.args.further here.listing (file_is_meta c.args.further root _ _ here.zone refl) in
    (table_absent c.args.further root _ _ here _ _ read, object_root c.args.further root _ _ here _ (no_inventory_root root _ c.args.further read.gives.1))

pub returns-in_err-bytes-clause-opened : goal.returns-in_err-bytes-clause-opened
returns-in_err-bytes-clause-opened g c = λ h root over here.
    let p = err_from_is_err_and c.from_residual.result c.from_residual.ensures.1 in
    let read = c.in_err-bytes.ensures.told h root over c.args.further here.listing (file_is_meta c.args.further root _ _ here.zone refl) in
    rw (p.1, p.2) read.gives

pub returns-in_err-read_table-in-Some-Whole-clause-opened :
    goal.returns-in_err-read_table-in-Some-Whole-clause-opened
returns-in_err-read_table-in-Some-Whole-clause-opened g c = λ h root over here.
    let p = err_from_is_err_and c.from_residual-in_err-read_table-in-Some-Whole.result c.from_residual-in_err-read_table-in-Some-Whole.ensures.1 in
    rw (p.1, p.2) (one_memory c.args.further root _ _ _ _ _ _ (c.in_ok-bytes.ensures.told h root over c.args.further here.listing (file_is_meta c.args.further root _ _ here.zone refl)))

pub returns-in_ok-read_table-in-Some-Whole-clause-opened :
    goal.returns-in_ok-read_table-in-Some-Whole-clause-opened
returns-in_ok-read_table-in-Some-Whole-clause-opened g c = λ h root over here.
    let read = c.in_ok-bytes.ensures.told h root over c.args.further here.listing (file_is_meta c.args.further root _ _ here.zone refl) in
    read.gives.0

pub returns-in-Some-Over-clause-opened : goal.returns-in-Some-Over-clause-opened
returns-in-Some-Over-clause-opened g c = λ h root over here.
    let read = c.in_ok-bytes.ensures.told h root over c.args.further here.listing (file_is_meta c.args.further root _ _ here.zone refl) in
    read.gives.0

pub returns-in-None-clause-opened : goal.returns-in-None-clause-opened
returns-in-None-clause-opened g c = λ h root over here.
    let read = c.in_ok-bytes.ensures.told h root over c.args.further here.listing (file_is_meta c.args.further root _ _ here.zone refl) in
    read.gives.0
