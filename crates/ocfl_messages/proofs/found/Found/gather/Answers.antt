use Rattle.std.proofs.{Common.{ap, sym}, lemmas.Result.{on_ok_weaker}}
use Rattle.std.specs.Prelude.{not}
use Rattle.ocfl_messages.specs.Known.{is_unknown}
use Rattle.ocfl_messages.proofs.found.Found.gather.Goals as goal

pub returns-clause-gathered : goal.returns-clause-gathered
returns-clause-gathered c =
    on_ok_weaker c.take.result (λ takes fs s h. takes (is_unknown c.args.known.now) fs s (ap not (sym c.names-is_said.ensures)) h) c.take.ensures
