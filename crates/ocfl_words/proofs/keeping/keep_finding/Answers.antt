use Rattle.std.proofs.Common.{◌∙◌, ◌∷◌, ◌++◌, [], ap, map, sym}
use Rattle.std.proofs.lemmas.List.{map-append}
use Rattle.std.specs.Prelude.{is_some}
use Rattle.ocfl_report.specs.Line.{line_of}
use Rattle.ocfl_words.specs.Noted.{first_at}
use Rattle.ocfl_words.proofs.KeptLines.{one_kept, same_kept}
use Rattle.ocfl_words.proofs.keeping.keep_finding.Goals as goal

pub returns-then-has_at : goal.returns-then-has_at
returns-then-has_at c =
    let l = line_of c.args.line.now in
    let same = ap (λ ms. is_some (first_at l.place l.code (map line_of ms))) c.deref.ensures.value in
    same_kept (map line_of c.args.lines.now.items) l (sym same ∙ sym c.has_at.ensures ∙ c.if-has_at.true)

pub returns : goal.returns
returns c =
    let l = line_of c.args.line.now in
    let kept = c.keep_place.new.lines.items in
    let same = ap (λ ms. is_some (first_at l.place l.code (map line_of ms))) c.deref.ensures.value in
    ap (map line_of) c.in_ok-push.ensures.items ∙ map-append line_of kept (c.in_ok-copy_of.field-0 ∷ []) ∙ (λ i. c.keep_place.ensures i ++ c.in_ok-copy_of.ensures i ∷ [])
    ∙ one_kept (map line_of c.args.lines.now.items) l (sym same ∙ sym c.has_at.ensures ∙ c.if-has_at.false)
