use Rattle.std.proofs.Common.{◌≡◌, ◌++◌, ◌∙◌, List, ap, subst, map, filter_map, string_bytes}
use Rattle.std.specs.Prelude.{OnOk}
use Rattle.ocfl_tree.specs.Place.{Text}
use Rattle.ocfl_inventory.specs.{Notes.{fault_note}, Remark.{remark_view}}
use Rattle.ocfl_inventory.proofs.notes.add_faults.Goals as goal

pub returns : goal.returns
returns c = subst
    (λ (ts : List Text). OnOk c.add_each_fault.result (map remark_view c.add_each_fault.new.out.items ≡ map remark_view c.args.out.now.items ++ filter_map (fault_note c.args.content.now) ts))
    (ap (map string_bytes) c.deref.ensures.value ∙ c.put_in_order.ensures) c.add_each_fault.ensures
