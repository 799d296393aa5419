use Rattle.std.proofs.{Common.{refl, sym, subst}, lemmas.Bool.{false≢true}}
use Rattle.ocfl_cursor.specs.Internal.Body.{AreLinesOf}
use Rattle.ocfl_report.specs.declared.stop.TextStop.TheVariants.{Bad}
use Rattle.ocfl_cursor.proofs.Options.{passed_on}
use Rattle.ocfl_cursor.proofs.CursorTexts.{CountsFit-lines, lines_parts, IsStateLine-read, no_cursor_of-parts, lines_of-parts}
use Rattle.ocfl_cursor.proofs.decoding.read_lines.Goals as goal

pub returns-in_default-clause-bad : goal.returns-in_default-clause-bad
returns-in_default-clause-bad c = λ e d h.
    c.in_default.ensures.missing refl d.cycle d.runs d.spent d.files _ (CountsFit-lines c.args.version c.args.lines.now d h) (lines_parts c.args.version c.args.lines.now d h)

pub returns-in_err-state-clause-bad : goal.returns-in_err-state-clause-bad
returns-in_err-state-clause-bad c = λ e d h.
    let counts = c.in-Some.counts in
    c.in_err-state.ensures.bad (passed_on c.from_residual.result c.in_err-state.field-0.0 Bad c.from_residual.ensures.1 e) d.state
    (IsStateLine-read c.args.lines.now c.in-Some.line.now c.args.version counts.cycle counts.runs counts.spent counts.files d c.in-Some.ensures.fits c.in-Some.ensures.found h)

pub returns-in-Some-from_parts-clause-cursor : goal.returns-in-Some-from_parts-clause-cursor
returns-in-Some-from_parts-clause-cursor c =
    let counts = c.in-Some.counts in
    subst (AreLinesOf c.args.version c.args.lines.now) (sym c.in-Some-from_parts.ensures.value)
    (lines_of-parts c.args.lines.now c.in-Some.line.now c.args.version counts.cycle counts.runs counts.spent counts.files _ _ c.in-Some.ensures.fits
    c.in-Some.ensures.found c.further_of-further.ensures c.in_ok-state.ensures.state (c.in-Some-from_parts.ensures.keeps.0 refl))

pub returns-in-None-clause-bad : goal.returns-in-None-clause-bad
returns-in-None-clause-bad c = λ e d h.
    let counts = c.in-Some.counts in
    no_cursor_of-parts c.args.lines.now c.in-Some.line.now c.args.version counts.cycle counts.runs counts.spent counts.files _ _ c.in-Some.ensures.fits
    c.in-Some.ensures.found c.further_of-further.ensures c.in_ok-state.ensures.state (λ k. false≢true (c.in-None.ensures.keeps.1 k)) d h
