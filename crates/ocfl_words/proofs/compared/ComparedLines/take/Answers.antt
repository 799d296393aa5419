use Rattle.std.proofs.Common.{◌∙◌, cond, ap, subst, sym}
use Rattle.std.proofs.lemmas.Result.{on_ok_weaker}
use Rattle.ocfl_report.specs.Line.{is_finding_code, line_of}
use Rattle.ocfl_messages.specs.Tally.{IsCount, IsTally}
use Rattle.ocfl_words.specs.{Held.{lines_in}, News.{findings_in}}
use Rattle.ocfl_words.proofs.Marking.{findings_one, lines_with, one_counts}
use Rattle.ocfl_words.proofs.compared.ComparedLines.take.Goals as goal

pub returns : goal.returns
returns c = on_ok_weaker c.take.result
    (λ takes h k.
    let l = line_of c.args.line.now in
    let ls = lines_in h.marks in
    let same = sym (lines_with h.marks l) in
    let one = one_counts (is_finding_code l.code) c.one_if.result (c.one_if.ensures ∙ ap (λ b. cond b 1 0) c.is_finding.ensures) in
    let more = c.add_count-self.ensures (findings_in ls) (cond (is_finding_code l.code) 1 0) k.count one in
    record {
      marks = takes h.marks k.marks;
      tally = subst (IsTally c.add.new.self) same (c.in_ok-add.ensures ls k.tally);
      count = subst (IsCount c.add_count-self.result) (sym (findings_one ls l) ∙ ap findings_in same) more;
      again = k.again;
    })
    c.take.ensures
