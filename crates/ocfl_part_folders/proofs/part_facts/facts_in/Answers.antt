use Rattle.ocfl_files.specs.Failing.{Says, stopped_status}
use Rattle.ocfl_state.specs.CheckpointRefusal.{RefusedRightly}
use Rattle.ocfl_part_folders.specs.Refusing.{no_checkpoint_text}
use Rattle.ocfl_part_folders.proofs.Asked.{refused_so}
use Rattle.ocfl_part_folders.proofs.part_facts.facts_in.Goals as goal

pub returns-in-Err-clause-refused : goal.returns-in-Err-clause-refused
returns-in-Err-clause-refused c =
    refused_so c.refused.result c.made.result c.in-Err.why (RefusedRightly c.args.bytes.now) (λ why f. Says stopped_status (no_checkpoint_text c.args.path.now why) f)
    c.made.ensures c.refused.ensures.said c.refused.ensures.memory c.in-Err.ensures.refused
