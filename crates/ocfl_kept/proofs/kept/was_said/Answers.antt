use Rattle.std.proofs.Common.{◌∙◌, ap}
use Rattle.ocfl_kept.proofs.kept.was_said.Goals as goal

pub returns : goal.returns
returns g c = λ shown. c.has.ensures shown ∙ ap (g.R.Room.there c.args.rt.now) (c.as_str.ensures.value ∙ c.in_ok-list.ensures)
