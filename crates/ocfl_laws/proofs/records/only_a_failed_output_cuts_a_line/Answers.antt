use Rattle.ocfl_laws.proofs.UncutLaws.{uncut_by_a_stop, uncut_by_memory}
use Rattle.ocfl_laws.proofs.records.only_a_failed_output_cuts_a_line.Goals as goal

pub returns : goal.returns
returns c = record {
  stopped = uncut_by_a_stop;
  memory = uncut_by_memory;
  check = λ further s t old new known path said h. h.lines.none;
}
