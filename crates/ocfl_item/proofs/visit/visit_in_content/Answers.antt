use Rattle.ocfl_item.proofs.VisitLaws.{entry_file, entry_other, file_shut, other_shut, shut_visits, visits_refused}
use Rattle.ocfl_item.proofs.visit.visit_in_content.Goals as goal

pub returns-in_ok-visit_unentered-in-File-clause-told : goal.returns-in_ok-visit_unentered-in-File-clause-told
returns-in_ok-visit_unentered-in-File-clause-told g c = λ h root over further here listed t q content digests.
    shut_visits further root _ _ over (file_shut root _ _ here c.in-File.is) _
    (c.in_ok-visit_unentered-in-File.ensures.told further root t q content digests (entry_file root _ _ here c.in-File.is))

pub returns-in_ok-visit_unentered-in-Other-clause-told : goal.returns-in_ok-visit_unentered-in-Other-clause-told
returns-in_ok-visit_unentered-in-Other-clause-told g c = λ h root over further here listed t q content digests.
    shut_visits further root _ _ over (other_shut root _ _ here c.in-Other.is) _
    (c.in_ok-visit_unentered-in-Other.ensures.told further root t q content digests (entry_other root _ _ here c.in-Other.is))

pub returns-in_err-visit_unentered-in-File-clause-told : goal.returns-in_err-visit_unentered-in-File-clause-told
returns-in_err-visit_unentered-in-File-clause-told g c = λ h root over further here listed t q content digests. visits_refused further root _ _ _ over c.from_residual.ensures.1

pub returns-in_err-visit_unentered-in-Other-clause-told : goal.returns-in_err-visit_unentered-in-Other-clause-told
returns-in_err-visit_unentered-in-Other-clause-told g c = λ h root over further here listed t q content digests. visits_refused further root _ _ _ over c.from_residual-in_err-visit_unentered-in-Other.ensures.1
