use Rattle.std.proofs.{Common.{refl}, lemmas.Result.{on_ok_weaker}}
use Rattle.ocfl_report.specs.Line.{line_of}
use Rattle.ocfl_messages.proofs.Gathered.{line_gathered}
use Rattle.ocfl_messages.proofs.gathering.Gathering.take.Goals as goal

pub returns : goal.returns
returns c =
    on_ok_weaker c.keep_said.result
    (λ keeps says fs s e h.
    line_gathered says c.begin.new.self _ _ s (line_of c.args.line) (c.in_ok-begin.ensures says fs s h) c.in_ok-count.ensures.right c.in_ok-count.ensures.wrong (λ gs ls. keeps says gs ls e) refl refl)
    c.keep_said.ensures
