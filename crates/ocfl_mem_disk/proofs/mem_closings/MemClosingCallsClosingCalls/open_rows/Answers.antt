use Rattle.std.proofs.Common.{◌∙◌, option_map}
use Rattle.ocfl_mem_disk.proofs.Closing.{found_so, rows_so}
use Rattle.ocfl_mem_disk.proofs.mem_closings.MemClosingCallsClosingCalls.open_rows.Goals as goal

pub returns-clause-value : goal.returns-clause-value
returns-clause-value c = λ told cycle below is.
    c.rows_of.ensures ∙ rows_so c.in_ok-found.found _ (c.in_ok-found.ensures ∙ found_so c.args.self.now.closed c.args.self.now.calls.items c.args.path.now c.in-Some.cycle cycle (option_map (λ b. b.now) c.list_at.result) c.in-Some.ensures c.list_at.ensures is)
