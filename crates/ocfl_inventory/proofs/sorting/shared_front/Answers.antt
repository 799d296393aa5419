use Rattle.std.proofs.{Common.{List, ℕ, ◌+◌, take, subst, sym, ap, ◌∙◌}, lemmas.List.{take_all}}
use Rattle.std.specs.Prelude.{All}
use Rattle.ocfl_tree.specs.Path.{slashed}
use Rattle.ocfl_inventory.specs.{Internal.SharedFront.{IsBelow}, Table.{Triple}}
use Rattle.ocfl_inventory.proofs.SharedFronts.{front_step}
use Rattle.ocfl_inventory.proofs.sorting.shared_front.Goals as goal

pub loop-triple-preserved : goal.loop-triple-preserved
loop-triple-preserved c =
    let text = c.path-in-loop-triple-2.result.now in
    let value = c.path-in-loop-triple-2.ensures.value ∙ ap slashed c.path-in-loop-triple.ensures in
    let known = c.path-in-loop-triple-2.ensures.place ∙ c.path-in-loop-triple.ensures in
    let shared = c.count_shared-count.ensures.shared in
    let step = front_step c.loop-triple.shared.now c.count_shared-count.result c.args.triples.now c.loop-triple.triple-index c.triple-item.result text
    shared.0 c.loop-triple-test.true c.triple-item.is value known (sym c.as_bytes.ensures.value ∙ shared.1) c.loop-triple.invariant in
    subst (λ (front : List ℕ). All (IsBelow front) (take (c.loop-triple.triple-index + 1) c.args.triples.now)) (sym c.split_at.ensures.front) step

pub returns : goal.returns
returns c = subst (λ (xs : List Triple). All (IsBelow c.loop-triple.shared.now) xs) (take_all c.loop-triple.triple-index c.args.triples.now c.loop-triple-test.false) c.loop-triple.invariant
