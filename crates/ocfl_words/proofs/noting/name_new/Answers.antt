use Rattle.std.proofs.Common.{◌∙◌, Bor, ap, map, subst, sym}
use Rattle.std.specs.Option.{option_map}
use Rattle.ocfl_report.specs.Line.{line_of}
use Rattle.ocfl_report.specs.declared.line.Line.{Line as MadeLine}
use Rattle.ocfl_compare.specs.Changes.{change_at}
use Rattle.ocfl_words.specs.{Held.{AreHeld}, Noted.{noted}}
use Rattle.ocfl_words.proofs.Marking.{not_new, one_new}
use Rattle.ocfl_words.proofs.noting.name_new.Goals as goal

pub returns-then-not-is_new : goal.returns-then-not-is_new
returns-then-not-is_new c = λ h at k.
    let line = option_map (λ (l : Bor MadeLine). line_of l.now) c.args.line in
    subst (AreHeld c.args.lines.now) (sym (not_new (map line_of c.args.said.now) h (noted (change_at at c.args.change) line c.args.is_known) (sym (c.is_new.ensures at line) ∙ c.if-not-is_new.true))) k

pub returns-in-Some : goal.returns-in-Some
returns-in-Some c = λ h at k.
    let line = option_map (λ (l : Bor MadeLine). line_of l.now) c.args.line in
    let n = noted (change_at at c.args.change) line c.args.is_known in
    subst (AreHeld c.name.new.self)
    (sym (one_new (map line_of c.args.said.now) h n (line_of c.in-Some.line.now) (sym (c.is_new.ensures at line) ∙ c.if-not-is_new.false) (ap (option_map (λ (l : Bor MadeLine). line_of l.now)) c.in-Some.is)))
    (c.name.ensures h k)
