use Rattle.std.proofs.Common.{ℕ, subst}
use Rattle.ocfl_closed.specs.Cut.{Names}
use Rattle.ocfl_mem_disk.specs.Closings.{files_of, state_of}
use Rattle.ocfl_mem_disk.proofs.mem_closings.MemClosingCallsClosingCalls.put_made.Goals as goal

pub returns-clause-names : goal.returns-clause-names
returns-clause-names c = λ told cycle below is ready.
    subst (λ (n : ℕ). Names n (state_of c.args.self.now.closed c.args.self.now.calls.items) (state_of c.args.self.now.closed c.put.new.log.items)) (c.in-Some.ensures cycle is) (c.in_ok-put.ensures (files_of c.args.self.now.closed))
