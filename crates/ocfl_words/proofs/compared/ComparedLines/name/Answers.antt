use Rattle.std.proofs.Common.{◌≡◌, ◌+◌, ◌∙◌, ap, subst, sym, arith}
use Rattle.ocfl_report.specs.Line.{line_of}
use Rattle.ocfl_messages.specs.Tally.{IsCount, IsTally}
use Rattle.ocfl_words.specs.{Held.{AreHeld}, News.{findings_in}}
use Rattle.ocfl_words.proofs.Marking.{lines_named, unsaid_one}
use Rattle.ocfl_words.proofs.compared.ComparedLines.name.Goals as goal

pub returns-else-have_same : goal.returns-else-have_same
returns-else-have_same c = λ h k.
    let old = c.args.self.now in
    let l = line_of c.args.line.now in
    let same = sym (lines_named h.marks l) in
    let none : h.again ≡ h.again + 0 = omega arith in
    subst (AreHeld _) (sym (unsaid_one _ h l (sym c.have_same.ensures ∙ c.if-have_same.false))) (record {
      marks = c.name.ensures h.marks k.marks;
      tally = subst (IsTally old.tally) same k.tally;
      count = subst (IsCount old.count) (ap findings_in same) k.count;
      again = subst (IsCount old.again) none k.again;
    })
