use Rattle.std.proofs.Common.{◌≡◌, ◌+◌, ◌-◌, length, take, sym, ◌∙◌, ap, arith, rules, ⊎_elim}
use Rattle.std.proofs.lemmas.Bool.{cases_lt}
use Rattle.ocfl_tree.specs.Path.{names_of}
use Rattle.ocfl_tree.proofs.Paths.{place_front, take_one_less, take_none, take_more_than_all}
use Rattle.ocfl_tree.proofs.path.front.Goals as goal

pub split_last-requires : goal.split_last-requires
split_last-requires c = place_front c.args.path.now c.loop.front.now (length (names_of c.args.path.now) - c.loop.counter) c.loop.invariant.2 c.requires

pub loop-preserved : goal.loop-preserved
loop-preserved c =
    let ns = names_of c.args.path.now in
    let left = length ns - (c.loop.counter + 1) in
    let more : left + 1 ≡ length ns - c.loop.counter = omega (arith, c.loop.invariant.1) in
    (search rules, c.loop.invariant.1, sym (take_one_less ns (names_of c.in-Some.parent.now) left _ (omega arith) (ap (λ i. take i ns) more ∙ sym c.loop.invariant.2 ∙ c.in-Some.ensures.0)))

pub returns-in-None : goal.returns-in-None
returns-in-None c =
    let ns = names_of c.args.path.now in
    c.in-None.ensures ∙ sym (take_none ns (length ns - c.loop.counter) c.args.names (sym c.loop.invariant.2 ∙ c.in-None.ensures) (omega (arith, c.loop.invariant.1)))

pub returns : goal.returns
returns c =
    let ns = names_of c.args.path.now in
    let left = length ns - c.loop.counter in
    c.loop.invariant.2 ∙ ⊎_elim
    (λ h. ap (λ i. take i ns) (omega (arith, h, c.loop.invariant.1)))
    (λ h. take_more_than_all ns left c.args.names (omega (arith, h, c.loop.invariant.1)) h)
    (cases_lt c.args.names (length ns))
