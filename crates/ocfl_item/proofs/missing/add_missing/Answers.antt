use Rattle.std.proofs.Common.{option_map}
use Rattle.std.specs.Option.{option_copied}
use Rattle.ocfl_inventory.specs.TripleView.{named_view}
use Rattle.ocfl_item.proofs.MissingLaws.{missing_done}
use Rattle.ocfl_item.proofs.missing.add_missing.Goals as goal

pub returns-clause-lines : goal.returns-clause-lines
returns-clause-lines c = missing_done c.args.lines.now c.loop-entry.lines c.args.named.now c.loop-entry.entry-index
    (option_map named_view (option_copied c.loop-entry.before)) c.loop-entry-test.false c.loop-entry.invariant
