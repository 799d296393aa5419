use Rattle.std.proofs.{Common.{tests, rules}, lemmas.Iterator.Search.{find_from_yields_List}}
use Rattle.std.proofs.lemmas.Iterator.Splits.{YieldsList-from_slice_split}
use Rattle.std.specs.Prelude.{◌==◌}
use Rattle.ocfl_terminal.specs.Naming.{is_foreign}
use Rattle.ocfl_terminal.proofs.naming.foreign_among.Goals as goal

pub returns : goal.returns
returns c = find_from_yields_List is_foreign _ _ _ c.find.ensures.ran
    (YieldsList-from_slice_split _ (λ b. b == 0) c.args.names.now c.split.ensures.rest c.split.ensures.done c.split.ensures.closure
    (λ x b q k. search (rules, tests))) (λ x b q k. search (rules, tests))
