use Rattle.std.proofs.Common.{◌∙◌, ap, sym}
use Rattle.ocfl_state.specs.{Content.{Content}, Pieces.{summary_of}}
use Rattle.ocfl_night.proofs.slicing.extend.Goals as goal

pub returns-clause-mark : goal.returns-clause-mark
returns-clause-mark g c = λ told same.
    c.in_ok-next.ensures.marked told same ∙ ap (λ (x : Content). summary_of x.report) (sym (c.sync.ensures.seen told ∙ c.in_ok-next.ensures.appended told))
