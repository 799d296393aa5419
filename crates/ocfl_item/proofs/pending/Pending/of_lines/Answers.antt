use Rattle.std.proofs.Common.{refl}
use Rattle.ocfl_item.proofs.VisitLaws.{unhashed_pending}
use Rattle.ocfl_item.proofs.pending.Pending.of_lines.Goals as goal

pub returns-clause-told : goal.returns-clause-told
returns-clause-told c = λ further root h. unhashed_pending further root c.args.lines _ h refl refl refl
