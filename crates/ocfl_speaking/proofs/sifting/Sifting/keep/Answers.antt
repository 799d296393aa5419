use Rattle.std.proofs.{Common.{ap}, lemmas.Result.{on_ok_weaker}}
use Rattle.ocfl_report.specs.Line.{line_of}
use Rattle.ocfl_speaking.proofs.Steps.{kept}
use Rattle.ocfl_speaking.proofs.sifting.Sifting.keep.Goals as goal

pub returns-clause-kept : goal.returns-clause-kept
returns-clause-kept c =
    let same = c.note_object.ensures.same in
    on_ok_weaker c.take_line.result
    (λ takes g t h one text not_passed.
    kept c.args.known.now c.args.self.now _ c.note_object.new.self.found g t (line_of c.args.line) h (ap (λ s. s.found) same) one text not_passed takes c.in_ok-note_object.ensures.noted c.take_line.ensures.rest
    (ap (λ s. s.rest) same) (ap (λ s. s.broken) same) (ap (λ s. s.right) same)) c.take_line.ensures.taken
