use Rattle.std.proofs.Common.{◌≡◌, ◌-◌, [], ◌∷◌, length, ap, ◌∙◌, refl, arith, length-append}
use Rattle.std.proofs.lemmas.List.{get_or_push}
use Rattle.ocfl_tree.specs.Calls.{with_failure}
use Rattle.ocfl_memory.proofs.Lists.{set_last}
use Rattle.ocfl_memory.proofs.openings.note_failure.Goals as goal

pub returns : goal.returns
returns c = λ front last is.
    let long = ap length is ∙ length-append front (last ∷ []) in
    let place : c.len-last.result - 1 ≡ length front = omega (arith, c.len-last.ensures, c.args.openings.now.ok.0, long) in
    let same : c.index_mut.result.now ≡ last = c.index_mut.ensures.value ∙ rw (is, place) (get_or_push front last c.index_mut.result.now (length front) refl) in
    rw (is, place, same) (set_last front last (with_failure last))
