use Rattle.std.proofs.Common.{◌∙◌, inl, subst}
use Rattle.ocfl_tree.specs.Place.{Text}
use Rattle.ocfl_files.specs.Failing.{OrMemory, StopsOn}
use Rattle.ocfl_closing.proofs.comparing.failed_list.Goals as goal

pub returns-in-Ok : goal.returns-in-Ok
returns-in-Ok c = subst (λ (p : Text). OrMemory (StopsOn p) c.failed_file.result) (c.as_str.ensures.value ∙ c.in-Ok.ensures) c.failed_file.ensures.said

pub returns-in-Err : goal.returns-in-Err
returns-in-Err c = inl c.from.ensures
