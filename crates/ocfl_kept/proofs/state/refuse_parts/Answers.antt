use Rattle.ocfl_files.proofs.Failures.{saying_so}
use Rattle.ocfl_kept.specs.Refusing.{of_parts_text}
use Rattle.ocfl_kept.proofs.state.refuse_parts.Goals as goal

pub returns-then-has_part-clause-said : goal.returns-then-has_part-clause-said
returns-then-has_part-clause-said c = saying_so c.format.result c.saying.result (of_parts_text c.args.state.now) c.saying.ensures c.format.ensures.ok
