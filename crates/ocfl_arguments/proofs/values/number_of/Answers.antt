use Rattle.std.proofs.Common.{◌∙◌}
use Rattle.std.specs.Str.Parse.{ParsesUnsigned, ExplainsUnsignedError, HasUnsignedDigitsIfOk}
use Rattle.clap.specs.Words.{found_of}
use Rattle.clap.proofs.WalkLemmas.{one_text-rows}
use Rattle.ocfl_arguments.proofs.Numbers.{read_found, read_missing}
use Rattle.ocfl_arguments.proofs.values.number_of.Goals as goal

pub returns : goal.returns
returns c =
    let same = one_text-rows (found_of c.args.inner.now) c.args.id.now in
    record {
      found = read_found
          (λ t r. ParsesUnsigned 64 10 t r × ExplainsUnsignedError 10 t r × HasUnsignedDigitsIfOk t r)
          (λ t r h. h.0) _ c.get_one.result (λ e. c.get_one.ensures.none (same ∙ e))
          (λ t e. c.get_one.ensures.value t (same ∙ e));
      missing = read_missing
          (λ t r. ParsesUnsigned 64 10 t r × ExplainsUnsignedError 10 t r × HasUnsignedDigitsIfOk t r)
          (λ t r h. h.0) _ c.get_one.result (λ e. c.get_one.ensures.none (same ∙ e))
          (λ t e. c.get_one.ensures.value t (same ∙ e));
    }
