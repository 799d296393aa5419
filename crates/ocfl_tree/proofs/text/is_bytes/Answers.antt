use Rattle.std.proofs.Common.{◌∙◌}
use Rattle.std.specs.Cmp.Lexicographic.{texts_ties}
use Rattle.ocfl_tree.proofs.text.is_bytes.Goals as goal

pub returns : goal.returns
returns c = c.eq.ensures ∙ texts_ties c.args.bytes.now c.args.other.now
