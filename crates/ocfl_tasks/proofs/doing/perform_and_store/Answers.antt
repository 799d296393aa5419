use Rattle.std.proofs.Common.{inl, inr}
use Rattle.ocfl_tasks.specs.Calls.{known_of}
use Rattle.ocfl_tasks.proofs.Begun.{ended_status, known_without, not_begun, opened_as, unread_of, unread_status}
use Rattle.ocfl_tasks.proofs.doing.perform_and_store.Goals as goal

pub returns-in-Ok-clause-status : goal.returns-in-Ok-clause-status
returns-in-Ok-clause-status g c = let d = c.perform_opened.ensures in ended_status d.done d.put _ d.performs.any_store.status d.ends

pub returns-in-Ok-clause-does : goal.returns-in-Ok-clause-does
returns-in-Ok-clause-does g c =
    let remaining = g.C.Reader.Read.remaining in
    inl (record {
      known = known_of remaining c.in-Ok.reader;
      without = λ none. known_without remaining c.in-Ok.reader (c.in-Ok.ensures.none none);
      since = _;
      opens = λ told. opened_as remaining c.args.task.now.file c.in-Ok.reader _ _ (c.in-Ok.ensures.calls told);
      does = c.perform_opened.ensures;
    })

pub returns-in-Err-clause-status : goal.returns-in-Err-clause-status
returns-in-Err-clause-status g c = unread_status _ (unread_of c.in-Err.error c.file_note.result _ c.file_note.ensures c.stopped.ensures)

pub returns-in-Err-clause-does : goal.returns-in-Err-clause-does
returns-in-Err-clause-does g c =
    inr (not_begun g.C.Reader.Read.remaining g.C.TaskCalls.told c.args.task.now.file _ _ c.in-Err.error _ c.in-Err.ensures.none c.in-Err.ensures.calls
    (unread_of c.in-Err.error c.file_note.result _ c.file_note.ensures c.stopped.ensures))
