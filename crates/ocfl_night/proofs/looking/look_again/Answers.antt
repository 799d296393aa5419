use Rattle.ocfl_night.proofs.Looks.{counts_did, counts_first, counts_unread, failed_unread}
use Rattle.ocfl_night.proofs.Reading.{content_did, content_first, content_unread}
use Rattle.ocfl_night.proofs.Asking.{looks_all, looks_first, looks_unread}
use Rattle.ocfl_night.proofs.looking.look_again.Goals as goal

pub returns-in-Ok-true-clause-counts : goal.returns-in-Ok-true-clause-counts
returns-in-Ok-true-clause-counts g c = λ tells root over short. counts_did (c.in-Ok-true.ensures.opened tells root over)

pub returns-in-Ok-false-clause-counts : goal.returns-in-Ok-false-clause-counts
returns-in-Ok-false-clause-counts g c = λ tells root over short. counts_did (c.in-Ok-false.ensures.opened tells root over)

pub returns-in-Err-Memory-clause-counts : goal.returns-in-Err-Memory-clause-counts
returns-in-Err-Memory-clause-counts g c = λ tells root over short. counts_first (c.in-Err-Memory.ensures.refused tells root over c.in-Err-Memory.field-0-is)

pub returns-in-Ok-true-clause-content : goal.returns-in-Ok-true-clause-content
returns-in-Ok-true-clause-content g c = λ further declares tells root over short. content_did further root _ _ _ declares (c.in-Ok-true.ensures.opened tells root over)

pub returns-in-Ok-false-clause-content : goal.returns-in-Ok-false-clause-content
returns-in-Ok-false-clause-content g c = λ further declares tells root over short. content_did further root _ _ _ declares (c.in-Ok-false.ensures.opened tells root over)

pub returns-in-Err-Undeclared-clause-content : goal.returns-in-Err-Undeclared-clause-content
returns-in-Err-Undeclared-clause-content g c = λ further declares tells root over short. absurd (c.in-Err-Undeclared.ensures.only c.in-Err-Undeclared.field-0-is)

pub returns-in-Err-Unread-clause-content : goal.returns-in-Err-Unread-clause-content
returns-in-Err-Unread-clause-content g c = λ further declares tells root over short. content_unread further root _ _ _ declares short (c.in-Err-Unread.ensures.unread tells root over _ c.in-Err-Unread.field-0-is)

pub returns-in-Err-Memory-clause-content : goal.returns-in-Err-Memory-clause-content
returns-in-Err-Memory-clause-content g c = λ further declares tells root over short. content_first further root _ _ _ declares (c.in-Err-Memory.ensures.refused tells root over c.in-Err-Memory.field-0-is)

pub returns-in-Err-Unread-clause-unread : goal.returns-in-Err-Unread-clause-unread
returns-in-Err-Unread-clause-unread g c = λ tells root over short. failed_unread short (c.in-Err-Unread.ensures.unread tells root over _ c.in-Err-Unread.field-0-is)

pub returns-in-Err-Unread-clause-counts : goal.returns-in-Err-Unread-clause-counts
returns-in-Err-Unread-clause-counts g c = λ tells root over short. counts_unread short (c.in-Err-Unread.ensures.unread tells root over _ c.in-Err-Unread.field-0-is)

pub returns-in-Ok-true-clause-only : goal.returns-in-Ok-true-clause-only
returns-in-Ok-true-clause-only g c = λ tells root over short. looks_all root _ (c.in-Ok-true.ensures.opened tells root over)

pub returns-in-Ok-false-clause-only : goal.returns-in-Ok-false-clause-only
returns-in-Ok-false-clause-only g c = λ tells root over short. looks_all root _ (c.in-Ok-false.ensures.opened tells root over)

pub returns-in-Err-Undeclared-clause-only : goal.returns-in-Err-Undeclared-clause-only
returns-in-Err-Undeclared-clause-only g c = λ tells root over short. absurd (c.in-Err-Undeclared.ensures.only c.in-Err-Undeclared.field-0-is)

pub returns-in-Err-Unread-clause-only : goal.returns-in-Err-Unread-clause-only
returns-in-Err-Unread-clause-only g c = λ tells root over short. looks_unread root _ short (c.in-Err-Unread.ensures.unread tells root over _ c.in-Err-Unread.field-0-is)

pub returns-in-Err-Memory-clause-only : goal.returns-in-Err-Memory-clause-only
returns-in-Err-Memory-clause-only g c = λ tells root over short. looks_first root _ (c.in-Err-Memory.ensures.refused tells root over c.in-Err-Memory.field-0-is)
