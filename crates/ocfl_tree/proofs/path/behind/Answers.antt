use Rattle.std.proofs.Common.{sym, ◌∙◌, arith, rules}
use Rattle.ocfl_tree.specs.Path.{names_of}
use Rattle.ocfl_tree.proofs.Paths.{place_behind, drop_one_more, drop_past}
use Rattle.ocfl_tree.proofs.path.behind.Goals as goal

pub split_first-requires : goal.split_first-requires
split_first-requires c = place_behind c.args.path.now c.loop.rest.now c.loop.counter c.loop.invariant.1 c.requires

pub loop-preserved : goal.loop-preserved
loop-preserved c = (search rules, sym (drop_one_more (names_of c.args.path.now) c.loop.counter _ _ (sym c.loop.invariant.1 ∙ c.in-Some.ensures)))

pub returns-in-None : goal.returns-in-None
returns-in-None c = c.in-None.ensures ∙ sym (drop_past (names_of c.args.path.now) c.loop.counter c.args.names (sym c.loop.invariant.1 ∙ c.in-None.ensures) (omega arith))
