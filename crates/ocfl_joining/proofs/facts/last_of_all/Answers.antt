use Rattle.std.proofs.Common.{◌++◌, ◌∷◌, [], ◌∙◌, sym, ap, take}
use Rattle.std.specs.Prelude.{min}
use Rattle.std.proofs.lemmas.List.{take_more}
use Rattle.ocfl_joining.specs.Facts.{last_by, last_of_all}
use Rattle.ocfl_joining.proofs.LastClosed.{last_more}
use Rattle.ocfl_joining.proofs.facts.last_of_all.Goals as goal

pub loop-facts-preserved : goal.loop-facts-preserved
loop-facts-preserved c =
    let fs = c.args.all.now in
    let i = c.loop-facts.facts-index in
    let f = c.facts-item.result in
    let more = take_more fs i f c.loop-facts-test.true ∙ ap (λ y. take i fs ++ y ∷ []) (sym c.facts-item.is) in
    c.lesser-last.ensures ∙ ap (min (last_by f)) c.loop-facts.invariant ∙ sym (last_more (take i fs) f) ∙ ap last_of_all (sym more)
