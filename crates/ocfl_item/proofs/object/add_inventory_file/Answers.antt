use Rattle.std.proofs.{Common.{refl}, lemmas.Result.{err_from_is_err_and}}
use Rattle.ocfl_item.proofs.HeadCalls.{first_memory, first_stops, inventory_lines, inventory_root, inventory_table, long_inventory_lines, long_inventory_root, long_inventory_table, no_inventory_lines, no_inventory_root, no_inventory_table, over_file}
use Rattle.ocfl_item.proofs.FileLaws.{file_is_meta, memory_after, some_of}
use Rattle.ocfl_item.proofs.HeadOpens.{inventory_alone, sidecars_none, sidecars_over, sidecars_stop, sidecars_within, with_sidecars}
use Rattle.ocfl_item.proofs.object.add_inventory_file.Goals as goal

pub returns-in_ok-add_plain-in-None-clause-told : goal.returns-in_ok-add_plain-in-None-clause-told
returns-in_ok-add_plain-in-None-clause-told g c = λ h root over here.
    let read = rw c.in-None.is at c.in_ok-read_file.ensures.told h root over c.args.further here.listing (file_is_meta c.args.further root _ _ here.zone refl) in
    (no_inventory_table root _ read.gives.1, no_inventory_root root _ c.args.further read.gives.1, no_inventory_lines root _ c.args.lines.now c.add_plain.new.self read.gives.1 c.in_ok-add_plain-in-None.ensures)

pub returns-in_ok-add_plain-in-Some-Over-clause-told :
    goal.returns-in_ok-add_plain-in-Some-Over-clause-told
returns-in_ok-add_plain-in-Some-Over-clause-told g c = λ h root over here.
    let read = rw (c.in-Some-Over.is, c.in-Some-Over.field-0-is) at c.in_ok-read_file.ensures.told h root over c.args.further here.listing (file_is_meta c.args.further root _ _ here.zone refl) in
    (long_inventory_table root _ read.gives.1, long_inventory_root root _ c.args.further read.gives.1, long_inventory_lines root _ c.args.lines.now c.add_plain-in-Some-Over.new.self read.gives.1 c.in_ok-add_plain-in-Some-Over.ensures)

pub returns-in_ok-add_inventory-in-Some-Whole-clause-told :
    goal.returns-in_ok-add_inventory-in-Some-Whole-clause-told
returns-in_ok-add_inventory-in-Some-Whole-clause-told g c = λ h root over here.
    let read = rw (c.in-Some-Whole.is, c.in-Some-Whole.field-0-is) at c.in_ok-read_file.ensures.told h root over c.args.further here.listing (file_is_meta c.args.further root _ _ here.zone refl) in
    let sides = c.in_ok-sidecars-in-Some-Whole.ensures.told h root (over_file c.args.further root _ _ _ _ _ _ read) c.args.further here in
    let added = c.in_ok-add_inventory-in-Some-Whole.ensures in (
      inventory_table root _ c.in-Some-Whole.bytes _ _ read.gives.1 c.deref.ensures.value added.table,
      inventory_root root _ c.args.further c.in-Some-Whole.bytes _ _ read.gives.1 c.deref.ensures.value added.root,
      inventory_lines root _ c.args.lines.now c.add_inventory.new.lines c.in-Some-Whole.bytes _ read.gives.1 c.deref.ensures.value (added.lines root _ (sides.1, sides.2)),
    )

pub returns-in_err-read_file-clause-opened : goal.returns-in_err-read_file-clause-opened
returns-in_err-read_file-clause-opened g c = λ h root over here.
    let p = err_from_is_err_and c.from_residual.result c.from_residual.ensures.1 in
    rw (p.1, p.2) (first_stops c.args.further root _ _ _ _ _ _ _ (c.in_err-read_file.ensures.told h root over c.args.further here.listing (file_is_meta c.args.further root _ _ here.zone refl)))

pub returns-in_err-add_plain-in-None-clause-opened :
    goal.returns-in_err-add_plain-in-None-clause-opened
returns-in_err-add_plain-in-None-clause-opened g c = λ h root over here.
    let p = err_from_is_err_and c.from_residual-in_err-add_plain-in-None.result c.from_residual-in_err-add_plain-in-None.ensures.1 in
    rw (p.1, p.2) (first_memory c.args.further root _ _ _ _ _ _ _ (c.in_ok-read_file.ensures.told h root over c.args.further here.listing (file_is_meta c.args.further root _ _ here.zone refl)))

pub returns-in_err-add_plain-in-Some-Over-clause-opened :
    goal.returns-in_err-add_plain-in-Some-Over-clause-opened
returns-in_err-add_plain-in-Some-Over-clause-opened g c = λ h root over here.
    let p = err_from_is_err_and c.from_residual-in_err-add_plain-in-Some-Over.result c.from_residual-in_err-add_plain-in-Some-Over.ensures.1 in
    rw (p.1, p.2) (first_memory c.args.further root _ _ _ _ _ _ _ (c.in_ok-read_file.ensures.told h root over c.args.further here.listing (file_is_meta c.args.further root _ _ here.zone refl)))

pub returns-in_ok-add_plain-in-None-clause-opened :
    goal.returns-in_ok-add_plain-in-None-clause-opened
returns-in_ok-add_plain-in-None-clause-opened g c = λ h root over here.
    let read = rw c.in-None.is at c.in_ok-read_file.ensures.told h root over c.args.further here.listing (file_is_meta c.args.further root _ _ here.zone refl) in
    inventory_alone c.args.further root _ _ _ (sidecars_none root _ read.gives.1) read.gives.0

pub returns-in_ok-add_plain-in-Some-Over-clause-opened :
    goal.returns-in_ok-add_plain-in-Some-Over-clause-opened
returns-in_ok-add_plain-in-Some-Over-clause-opened g c = λ h root over here.
    let read = rw (c.in-Some-Over.is, c.in-Some-Over.field-0-is) at c.in_ok-read_file.ensures.told h root over c.args.further here.listing (file_is_meta c.args.further root _ _ here.zone refl) in
    inventory_alone c.args.further root _ _ _ (sidecars_over root _ read.gives.1) read.gives.0

pub returns-in_err-sidecars-in-Some-Whole-clause-opened :
    goal.returns-in_err-sidecars-in-Some-Whole-clause-opened
returns-in_err-sidecars-in-Some-Whole-clause-opened g c = λ h root over here.
    let p = err_from_is_err_and c.from_residual-in_err-sidecars-in-Some-Whole.result c.from_residual-in_err-sidecars-in-Some-Whole.ensures.1 in
    let read = rw (c.in-Some-Whole.is, c.in-Some-Whole.field-0-is) at c.in_ok-read_file.ensures.told h root over c.args.further here.listing (file_is_meta c.args.further root _ _ here.zone refl) in
    rw (p.1, p.2)
    (sidecars_stop c.args.further root _ _ _ _ _ _ (sidecars_within root _ c.in-Some-Whole.bytes read.gives.1) read (c.in_err-sidecars-in-Some-Whole.ensures.told h root (over_file c.args.further root _ _ _ _ _ _ read) c.args.further here))

pub returns-in_err-add_inventory-in-Some-Whole-clause-opened :
    goal.returns-in_err-add_inventory-in-Some-Whole-clause-opened
returns-in_err-add_inventory-in-Some-Whole-clause-opened g c = λ h root over here.
    let p = err_from_is_err_and c.from_residual-in_err-add_inventory-in-Some-Whole.result c.from_residual-in_err-add_inventory-in-Some-Whole.ensures.1 in
    let read = rw (c.in-Some-Whole.is, c.in-Some-Whole.field-0-is) at c.in_ok-read_file.ensures.told h root over c.args.further here.listing (file_is_meta c.args.further root _ _ here.zone refl) in
    let sides = c.in_ok-sidecars-in-Some-Whole.ensures.told h root (over_file c.args.further root _ _ _ _ _ _ read) c.args.further here in
    rw (p.1, p.2)
    (memory_after c.args.further root _ _ _ _ (some_of c.args.further root _ _ _ _ (with_sidecars c.args.further root _ _ _ _ _ (sidecars_within root _ c.in-Some-Whole.bytes read.gives.1) read sides.0)))

pub returns-in_ok-add_inventory-in-Some-Whole-clause-opened :
    goal.returns-in_ok-add_inventory-in-Some-Whole-clause-opened
returns-in_ok-add_inventory-in-Some-Whole-clause-opened g c = λ h root over here.
    let read = rw (c.in-Some-Whole.is, c.in-Some-Whole.field-0-is) at c.in_ok-read_file.ensures.told h root over c.args.further here.listing (file_is_meta c.args.further root _ _ here.zone refl) in
    let sides = c.in_ok-sidecars-in-Some-Whole.ensures.told h root (over_file c.args.further root _ _ _ _ _ _ read) c.args.further here in
    with_sidecars c.args.further root _ _ _ _ _ (sidecars_within root _ c.in-Some-Whole.bytes read.gives.1) read sides.0
