use Rattle.std.proofs.Common.{Some, ap, sym, ◌∙◌}
use Rattle.std.specs.Option.{option_map}
use Rattle.ocfl_state.specs.Calls.{bytes_of}
use Rattle.ocfl_closed.proofs.Reading.{checked_kept, none_kept}
use Rattle.ocfl_closed.proofs.check.check_of.Goals as goal

pub returns-in-Some-clause-met : goal.returns-in-Some-clause-met
returns-in-Some-clause-met g c = λ told.
    checked_kept c.check_by.result _ _ _ (ap Some c.deref.ensures.value ∙ ap (option_map bytes_of) (sym c.in-Some.is) ∙ c.in_ok-bytes.ensures.value told) ((g.met.D.ClosedDisk.is_disk told c.args.disk.now).read c.args.cycle) c.check_by.ensures.met

pub returns-in-None-clause-met : goal.returns-in-None-clause-met
returns-in-None-clause-met g c = λ told report. none_kept c.in_ok-bytes.field-0 _ _ report c.in-None.is (c.in_ok-bytes.ensures.value told)
