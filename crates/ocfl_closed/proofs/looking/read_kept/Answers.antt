use Rattle.std.proofs.Common.{Some, ap, sym, ◌∙◌}
use Rattle.std.specs.Option.{option_map}
use Rattle.ocfl_state.specs.Calls.{bytes_of}
use Rattle.ocfl_closed.proofs.Reading.{read_rightly}
use Rattle.ocfl_closed.proofs.looking.read_kept.Goals as goal

pub returns-in-Some-clause-value : goal.returns-in-Some-clause-value
returns-in-Some-clause-value g c = λ told.
    read_rightly c.checkpoint_of.result _ _ _ (ap Some c.deref.ensures.value ∙ ap (option_map bytes_of) (sym c.in-Some.is) ∙ c.in_ok-bytes.ensures.value told) ((g.met.D.ClosedDisk.is_disk told c.args.disk.now).read c.args.cycle) c.checkpoint_of.ensures.value
