use Rattle.std.proofs.Common.{◌≤◌, IsTrue, subst, length, arith}
use Rattle.ocfl_state.specs.{Content.{Content}, Pieces.{HasRead}}
use Rattle.ocfl_state.proofs.Resuming.{read_tail, tail_fits, resumed_all}
use Rattle.ocfl_state.proofs.comparing.resume_digests.Given as given
use Rattle.ocfl_state.proofs.comparing.resume_digests.Goals as goal

-- the report is as long as its summary says, and its tail was read
looked : (g : given.Over) (c : goal.After-resumed g) → IsTrue g.S.StateFolder.told
    → (c.args.summary.now.bytes ≤ length (g.S.StateFolder.seen c.args.folder.now).report)
    × HasRead c.args.summary.now (g.S.StateFolder.seen c.args.folder.now).report c.in_ok-digests.digests
looked g c told = (
  omega (arith, c.if-branch-summary.false, c.in_ok-length.ensures.value told),
  subst (λ (s : Content). HasRead c.args.summary.now s.report c.in_ok-digests.digests) (c.in_ok-length.ensures.seen told) (c.in_ok-digests.ensures.carried told),
)

pub returns-clause-found : goal.returns-clause-found
returns-clause-found g c = λ told.
    let h = looked g c told in
    tail_fits c.args.summary.now _ c.resumed.result h.0 (c.resumed.ensures.found _ (read_tail c.args.summary.now _ c.in_ok-digests.digests h.1))

pub returns-clause-carried : goal.returns-clause-carried
returns-clause-carried g c = λ told.
    let h = looked g c told in
    resumed_all c.args.summary.now _ c.in_ok-digests.digests c.resumed.result h.0 h.1 c.resumed.ensures.same
