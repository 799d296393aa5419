use Rattle.std.proofs.{Common.{ap, ◌∙◌}, lemmas.Result.{on_ok_weaker}}
use Rattle.ocfl_report.specs.Line.{line_of}
use Rattle.ocfl_messages.proofs.Pieces.{whole_taken}
use Rattle.ocfl_messages.proofs.found.Found.take_line.Goals as goal

pub returns-clause-taken : goal.returns-clause-taken
returns-clause-taken c =
    on_ok_weaker c.gather.result
    (λ takes head b line none h.
    whole_taken c.args.known.now head c.args.self.now c.gather.new.self b (line_of c.args.line) h line none (ap (λ r. r.items) c.gather.ensures.rest ∙ none) takes)
    c.gather.ensures.gathered
