use Rattle.std.proofs.Common.{Some, ap, sym, ◌∙◌, option_map}
use Rattle.ocfl_state.specs.Calls.{bytes_of}
use Rattle.ocfl_kept.proofs.Readings.{ends_so, read_some}
use Rattle.ocfl_kept.proofs.kept.read_ends.Goals as goal

pub returns-clause-value : goal.returns-clause-value
returns-clause-value g c = λ shown.
    ends_so _ c.deref.result.now c.in-Some-2.checkpoint c.in_ok-ends_of.field-0 (ap Some c.deref.ensures.value ∙ ap (option_map bytes_of) (sym c.in-Some.is) ∙ c.in_ok-bytes.ensures.value shown)
    (read_some _ c.in_ok-checkpoint.field-0 c.in-Some-2.checkpoint c.in-Some-2.is c.in_ok-checkpoint.ensures) c.in_ok-ends_of.ensures
