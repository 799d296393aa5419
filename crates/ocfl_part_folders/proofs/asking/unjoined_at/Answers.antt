use Rattle.std.proofs.Common.{◌∙◌, subst}
use Rattle.ocfl_tree.specs.Place.{Text}
use Rattle.ocfl_part_folders.specs.Refusing.{SaysUnjoined}
use Rattle.ocfl_part_folders.proofs.Asked.{unjoined_so}
use Rattle.ocfl_part_folders.proofs.asking.unjoined_at.Goals as goal

pub returns-in-Ok : goal.returns-in-Ok
returns-in-Ok g c = λ told.
    let said = unjoined_so c.as_str.result.now c.args.error.now c.unjoined.result c.unjoined.ensures.other c.unjoined.ensures.end c.unjoined.ensures.failed in
    subst (λ (path : Text). SaysUnjoined path c.args.error.now c.unjoined.result) (c.as_str.ensures.value ∙ c.in-Ok.ensures told) said
