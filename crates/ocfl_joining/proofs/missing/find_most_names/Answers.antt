use Rattle.std.proofs.Common.{rules, ◌≡◌, ◌+◌, ◌++◌, ◌∷◌, [], ◌∙◌, sym, ap, take}
use Rattle.std.specs.Prelude.{max}
use Rattle.std.proofs.lemmas.List.{take_more}
use Rattle.ocfl_joining.specs.Missing.{most_names}
use Rattle.ocfl_joining.proofs.Parts.{most_more}
use Rattle.ocfl_joining.proofs.missing.find_most_names.Goals as goal

pub loop-part-preserved : goal.loop-part-preserved
loop-part-preserved c =
    let ps = c.args.parts.now in
    let i = c.loop-part.part-index in
    let p = c.part-item.result in
    let more = take_more ps i p c.loop-part-test.true ∙ ap (λ y. take i ps ++ y ∷ []) (sym c.part-item.is) in
    let most : c.max-most.result ≡ max c.known_names.result c.loop-part.most = search rules in
    let all : c.max-most.result ≡ most_names (take (i + 1) ps) =
    most ∙ (λ j. max (c.known_names.ensures j) (c.loop-part.invariant j)) ∙ sym (most_more (take i ps) p) ∙ ap most_names (sym more) in
    all
