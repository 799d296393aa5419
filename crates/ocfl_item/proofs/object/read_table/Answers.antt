use Rattle.std.proofs.Common.{◌∙◌, ap}
use Rattle.ocfl_item.specs.Root.{root_by}
use Rattle.ocfl_item.proofs.object.read_table.Goals as goal

pub returns-clause-root : goal.returns-clause-root
returns-clause-root c = c.in_ok-root.ensures c.in_ok-read.ensures.head ∙ ap (root_by c.args.further c.args.bytes.now) c.in_ok-read.ensures.table
