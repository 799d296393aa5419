use Rattle.std.proofs.{Common.{◌≡◌, ◌≢◌, ap, sym, ◌∙◌, Some}, lemmas.Slice.Eq.{bytes_eq-Decides}}
use Rattle.ocfl_tree.specs.{Path.{names_of}, StorageRoot.{lookup}}
use Rattle.ocfl_tree.proofs.{Places.{differ}, Paths.{names_once}}
use Rattle.ocfl_tree.proofs.Lists.{drop_item, lookup_here, lookup_other}
use Rattle.ocfl_memory.proofs.Lists.{leaf_at_item}
use Rattle.ocfl_memory.proofs.nodes.position.Goals as goal

pub returns-then-eq : goal.returns-then-eq
returns-then-eq c =
    let e = c.index-nodes-i.result in
    let same : e.0 ≡ names_of c.args.path.now = sym c.path.ensures.place ∙ ap names_of {x = c.path.result.now} {y = c.args.path.now}
    ((bytes_eq-Decides c.path.result.now c.args.path.now).0 (sym c.eq.ensures ∙ c.if-eq.true)) in (
      c.loop-i-test.true,
      c.loop-i.invariant ∙ ap (λ es. lookup es (names_of c.args.path.now)) (drop_item _ _ _ c.loop-i-test.true c.index-nodes-i.is) ∙ lookup_here _ e _ same
          ∙ ap Some (sym (leaf_at_item _ _ _ c.loop-i-test.true c.index-nodes-i.is)),
    )

pub loop-i-preserved : goal.loop-i-preserved
loop-i-preserved c =
    let e = c.index-nodes-i.result in
    let other : e.0 ≢ names_of c.args.path.now = λ is. differ _ _ (bytes_eq-Decides c.path.result.now c.args.path.now)
    (sym c.eq.ensures ∙ c.if-eq.false) (names_once c.path.result.now c.args.path.now (c.path.ensures.place ∙ is)) in
    c.loop-i.invariant ∙ ap (λ es. lookup es (names_of c.args.path.now)) (drop_item _ _ _ c.loop-i-test.true c.index-nodes-i.is) ∙ lookup_other _ e _ other
