use Rattle.std.proofs.Common.{refl}
use Rattle.ocfl_scrub.proofs.ScopeLaws.{as_asked, as_whole}
use Rattle.ocfl_scrub.proofs.part_performing.perform_part.Goals as goal

pub returns-in-Whole-clause-told : goal.returns-in-Whole-clause-told
returns-in-Whole-clause-told g c told root over short =
    as_whole _ _ _ _ _ root _ _ _ _ _ _ _ c.in-Run.is c.in-Whole.is (λ h. h) (c.perform.ensures.told told root over short)

pub returns-in-Branch-clause-told : goal.returns-in-Branch-clause-told
returns-in-Branch-clause-told g c told root over short =
    as_whole _ _ _ _ _ root _ _ _ _ _ _ _ c.in-Run.is c.in-Branch.is (λ h. h) (c.perform-in-Branch.ensures.told told root over short)

pub returns-in-Check-clause-told : goal.returns-in-Check-clause-told
returns-in-Check-clause-told g c told root over short =
    as_whole _ _ _ _ _ root _ _ _ _ _ _ _ c.in-Check.is refl (λ h. h) (c.perform-in-Check.ensures.told told root over short)

pub returns-in-Cycle-clause-told : goal.returns-in-Cycle-clause-told
returns-in-Cycle-clause-told g c told root over short =
    as_whole _ _ _ _ _ root _ _ _ _ _ _ _ c.in-Cycle.is refl (λ h. h) (c.perform-in-Cycle.ensures.told told root over short)

pub returns-in-Part-clause-told : goal.returns-in-Part-clause-told
returns-in-Part-clause-told g c told root over short =
    as_asked _ _ _ _ _ root _ _ _ _ _ _ _ c.in-Run.is c.in-Part.is (c.perform_part_run.ensures.told told root over short)
