use Rattle.std.proofs.Common.{◌∙◌, ap}
use Rattle.ocfl_tree.specs.Place.{Text}
use Rattle.ocfl_kept.specs.FilePaths.{new_list_path}
use Rattle.ocfl_closing.proofs.asking.make_list.Goals as goal

pub returns-clause-calm : goal.returns-clause-calm
returns-clause-calm g c = λ told.
    c.make.ensures.calm told c.args.cycle c.ranges.cycle.fits (c.as_str.ensures.value ∙ c.in_ok-path.ensures ∙ ap (λ (p : Text). new_list_path p c.args.cycle) (c.path.ensures told))
