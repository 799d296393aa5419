use Rattle.std.proofs.{Common.{[], ap, ◌∙◌}, lemmas.Result.{err_from_is_err_and}}
use Rattle.ocfl_messages.specs.Finding.{first_section, head_after}
use Rattle.ocfl_messages.proofs.Placing.{section_head}
use Rattle.ocfl_messages.proofs.finding.Heads.within.Goals as goal

pub returns-in_err-gathering-clause-bad : goal.returns-in_err-gathering-clause-bad
returns-in_err-gathering-clause-bad c = λ e.
    let passed = err_from_is_err_and c.from_residual.result c.from_residual.ensures.1 in
    c.in_err-gathering.ensures.bad (cc (passed.1, passed.2, e)) c.new.result.last [] (c.new-2.ensures _)

pub returns-clause-ok : goal.returns-clause-ok
returns-clause-ok c =
    let after = c.in_ok-gathering.ensures.ok c.new.result.last [] (c.new-2.ensures _) in
    record {
      lines = after.lines;
      rest = c.in_ok-gathering.field-0.rest.items;
      are = after.are;
      is = after.is;
      unended = after.unended;
      heads = ap (λ x. x.last) c.end-heads.ensures.heads ∙ after.gathered.head ∙ section_head (first_section c.new.result.last) after.lines
          ∙ ap (λ o. head_after o after.lines) c.new.ensures;
    }
