use Rattle.std.proofs.Common.{subst, IsTrue}
use Rattle.std.specs.Option.{option_map}
use Rattle.ocfl_report.specs.Line.{line_of}
use Rattle.ocfl_report.proofs.LineTexts.{line_text_read}
use Rattle.ocfl_joining.specs.Internal.Copying.{IsFitPlace}
use Rattle.ocfl_joining.proofs.Decoded.{not_true}
use Rattle.ocfl_joining.proofs.copying.fit_line.Goals as goal

pub returns-else-is_fit-clause-bad : goal.returns-else-is_fit-clause-bad
returns-else-is_fit-clause-bad c = λ e line f.
    let same = line_text_read c.args.text.now line (line_of c.in-Ok.line) f.is c.in-Ok.ensures.ok in
    let place = subst (λ l. IsFitPlace (option_map (λ p. p.now) c.args.from) (option_map (λ p. p.now) c.args.below) c.args.last.now l.place) same f.at in
    not_true (subst IsTrue c.if-is_fit.false (c.is_fit.ensures.1 place))
