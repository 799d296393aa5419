use Rattle.std.proofs.Common.{◌∙◌}
use Rattle.std.specs.Cmp.Lexicographic.{texts_ties}
use Rattle.ocfl_tree.proofs.text.is_text.Goals as goal

pub returns : goal.returns
returns c = c.eq.ensures ∙ texts_ties c.args.text.now c.args.other.now
