use Rattle.std.proofs.Common.{sym, ◌∙◌}
use Rattle.ocfl_inventory.proofs.Declarations.{next_found}
use Rattle.ocfl_inventory.proofs.declaration.next_declaration.Goals as goal

pub returns-then-is_declaration_entry : goal.returns-then-is_declaration_entry
returns-then-is_declaration_entry c =
    next_found c.args.level c.args.entries.now c.args.from c.loop-index.index c.index-entries-index.result c.loop-index-test.true c.index-entries-index.is
    (sym c.is_declaration_entry.ensures ∙ c.if-is_declaration_entry.true) c.loop-index.invariant
