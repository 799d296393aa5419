use Rattle.std.proofs.Common.{◌≡◌, subst, ◌∙◌, ◌++◌, map, string_bytes}
use Rattle.ocfl_tree.specs.Place.{Text}
use Rattle.ocfl_inventory.specs.Internal.ListsOf.{AreListed, all_repeated, other_notes}
use Rattle.ocfl_inventory.specs.Internal.Parts.{block_view, inventory_view, supported_view}
use Rattle.ocfl_inventory.specs.Remark.{remark_view}
use Rattle.ocfl_inventory.proofs.Inventories.{lines_of_listed, table_gathered}
use Rattle.ocfl_inventory.proofs.table.finish.Goals as goal

pub returns-clause-lines : goal.returns-clause-lines
returns-clause-lines c =
    let i = inventory_view c.args.inventory in
    let listed = c.in_ok-triples.listed in
    let first : map remark_view c.in_ok-remarks.remarks.items ≡ all_repeated i.manifest i.fixity =
    c.in_ok-remarks.ensures ∙ (λ k. all_repeated (block_view (c.deref.ensures.value k)) (supported_view (c.deref-2.ensures.value k))) in
    let are : AreListed i.content i.manifest i.fixity listed = subst (λ (content : Text). AreListed content i.manifest i.fixity listed) c.as_str.ensures.value c.in_ok-triples.ensures.listed in
    c.in_ok-add_others.ensures
    ∙ (λ k. first k ++ other_notes (c.as_str-2.ensures.value k) listed (map string_bytes (c.deref-3.ensures.value k)))
    ∙ lines_of_listed i listed are

pub returns-clause-table : goal.returns-clause-table
returns-clause-table c = table_gathered (inventory_view c.args.inventory) _ _ _ c.as_str.ensures.value c.in_ok-triples.ensures.triples c.make_table.ensures.is
