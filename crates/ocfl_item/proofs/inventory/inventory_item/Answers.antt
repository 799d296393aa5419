use Rattle.std.proofs.Common.{◌∙◌, sym, subst}
use Rattle.ocfl_item.specs.Internal.Visiting.{IsInventoryAt}
use Rattle.ocfl_item.proofs.VersionItems.{expected_are, lines_beside}
use Rattle.ocfl_item.proofs.inventory.inventory_item.Goals as goal

pub returns-clause-told : goal.returns-clause-told
returns-clause-told c = λ root o v at is now files.
    let d = c.args.directory.now in
    let short = c.in_ok-add_sidecar.ensures in
    let long = c.in_ok-add_sidecar-2.ensures in
    let place = long.place ∙ short.place ∙ c.in_ok-add_unless_any.ensures.place ∙ c.new-lines.ensures.place in
    c.item_of.ensures.told root o v (subst (λ p. IsInventoryAt root p o v) (sym place) at)
    (lines_beside root o d v is c.new-lines.result c.add_unless_any.new.lines c.add_sidecar.new.lines c.add_sidecar-2.new.lines c.new-lines.ensures.lines (c.in_ok-add_unless_any.ensures.lines root d files) (short.lines root d files.0) (long.lines root d files.1))
    (expected_are root o d v is _ now c.new-expected.result c.add_sidecar.new.expected c.add_sidecar-2.new.expected c.add_by_root.new.expected c.new-expected.ensures.items (short.expected root d files.0) (long.expected root d files.1) (c.in_ok-add_by_root.ensures o v is))
