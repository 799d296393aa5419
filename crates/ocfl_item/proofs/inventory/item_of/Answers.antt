use Rattle.std.proofs.Common.{◌≡◌, ◌≢◌, ◌∙◌, [], ap, map, refl, sym}
use Rattle.ocfl_report.specs.declared.further.Further.TheVariants.{Inventories}
use Rattle.ocfl_inventory.specs.Remark.{remark_view}
use Rattle.ocfl_item.specs.Pending.{expected_view}
use Rattle.ocfl_item.proofs.{LooksEntries.{no_entries, some_entries}, VersionItems.{inventory_hashed, inventory_unhashed}}
use Rattle.ocfl_item.proofs.inventory.item_of.Goals as goal

pub returns-then-is_empty-clause-told : goal.returns-then-is_empty-clause-told
returns-then-is_empty-clause-told c = λ root o v at lines is.
    let es = c.args.expected in
    let none : es.items ≡ [] = no_entries es.items es.len es.ok.0 (sym c.if-is_empty.true ∙ c.is_empty.ensures) in
    c.of_lines.ensures.told Inventories root (inventory_unhashed root c.args.lines.place o v at c.args.lines refl lines (sym is ∙ ap (map expected_view) none))

pub returns-clause-told : goal.returns-clause-told
returns-clause-told c = λ root o v at lines is.
    let es = c.args.expected in
    let full : es.items ≢ [] = some_entries es.items es.len es.ok.0 (sym c.if-is_empty.false ∙ c.is_empty.ensures) in
    inventory_hashed root c.args.lines.place o v at c.of_file.result es.items c.of_file.ensures.place c.of_file.ensures.hashed (ap (λ x. x.items) c.of_file.ensures.expected) full
    (ap (λ x. map remark_view x.items) c.of_file.ensures.remarks ∙ lines) is
