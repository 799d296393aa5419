use Rattle.std.proofs.Common.{◌∙◌}
use Rattle.ocfl_scrub.proofs.TakeLaws.{judged_memory, lines_written, unjudged}
use Rattle.ocfl_scrub.proofs.taking.take_item.Goals as goal

pub returns-in-Ok-write_all_of-clause-lines : goal.returns-in-Ok-write_all_of-clause-lines
returns-in-Ok-write_all_of-clause-lines g c =
    let piece = c.in-Ok-into_piece.ensures in
    lines_written _ _ _ _ _ (c.deref.ensures.value ∙ piece.text) c.in-Ok-write_all_of.ensures.ok piece.found

pub returns-in_default-clause-told : goal.returns-in_default-clause-told
returns-in_default-clause-told g c further told root over short pending = unjudged further root _ _ _ _ (c.in_default.ensures.told told root over further short pending)

pub returns-in_default-into_piece-clause-told : goal.returns-in_default-into_piece-clause-told
returns-in_default-into_piece-clause-told g c further told root over short pending = judged_memory further root _ _ _ _ _ (c.in-Ok.ensures.told told root over further short pending) _
