use Rattle.std.proofs.{Common.{◌++◌, map, subst, sym, ◌∙◌}, lemmas.Result.{on_ok_weaker}}
use Rattle.ocfl_report.specs.Line.{line_of}
use Rattle.ocfl_messages.specs.{Finding.{found_in}, Gathering.{said}, Gravest.{IsOf}}
use Rattle.ocfl_messages.proofs.Gathered.{said_more, said_same}
use Rattle.ocfl_messages.proofs.gathering.keep_said.Goals as goal

pub returns-then-is_said : goal.returns-then-is_said
returns-then-is_said c =
    let head = c.args.heads.now.last in
    on_ok_weaker c.keep.result
    (λ keeps says fs ls e h.
    subst (IsOf c.keep.new.found) (sym (said_more says head fs ls (line_of c.args.line) (e ∙ c.if-is_said.true))) (keeps (said says (fs ++ map (found_in head) ls)) h))
    c.keep.ensures

pub returns : goal.returns
returns c = λ says fs ls e h.
    subst (IsOf c.args.found.now) (sym (said_same says c.args.heads.now.last fs ls (line_of c.args.line) (e ∙ c.if-is_said.false))) h
