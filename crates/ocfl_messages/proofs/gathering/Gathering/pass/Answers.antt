use Rattle.std.proofs.Common.{refl, subst, sym}
use Rattle.ocfl_report.specs.Line.{line_of}
use Rattle.ocfl_messages.specs.Gravest.{IsOf}
use Rattle.ocfl_messages.proofs.Gathered.{line_gathered, said_same}
use Rattle.ocfl_messages.proofs.gathering.Gathering.pass.Goals as goal

pub returns : goal.returns
returns c = λ says fs s e h.
    let l = line_of c.args.line.now in
    line_gathered says c.begin.new.self _ _ s l (c.in_ok-begin.ensures says fs s h) c.in_ok-count.ensures.right c.in_ok-count.ensures.wrong
    (λ gs ls k. subst (IsOf c.begin.new.self.found) (sym (said_same says c.begin.new.self.heads.last gs ls l e)) k) refl refl
