use Rattle.std.proofs.{Common.{lit<, tests, rules}, lemmas.Iterator.Search.{find_from_yields_List}}
use Rattle.std.proofs.lemmas.Iterator.Splits.{YieldsList-from_str_split}
use Rattle.ocfl_inventory.specs.ListedPath.{is_empty_or_dots}
use Rattle.ocfl_terminal.proofs.paths.find_fault.Goals as goal

pub returns : goal.returns
returns c = find_from_yields_List is_empty_or_dots _ _ _ c.find.ensures.ran
    (YieldsList-from_str_split 47 c.args.path.now (lit< tt) c.split.ensures.text c.split.ensures.has_more c.split.ensures.pattern) (λ x b q k. search (rules, tests))
