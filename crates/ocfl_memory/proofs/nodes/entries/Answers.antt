use Rattle.std.proofs.Common.{◌++◌, [], ◌∷◌, ◌+◌, ◌∙◌, sym, ap, drop, append_assoc}
use Rattle.ocfl_tree.specs.Path.{names_of}
use Rattle.ocfl_memory.specs.Internal.Nodes.{kept_in}
use Rattle.ocfl_memory.proofs.Lists.{kept_more_child}
use Rattle.ocfl_memory.proofs.nodes.entries.Goals as goal

pub loop-place-preserved : goal.loop-place-preserved
loop-place-preserved c =
    let before = c.loop-place.entries.items in
    let behind = kept_in (drop (c.loop-place.place-index + 1) c.args.nodes.now) (names_of c.args.dir.now) in
    let here = kept_more_child c.args.nodes.now c.loop-place.place-index _ (names_of c.args.dir.now) _ c.loop-place-test.true c.loop-place-item.is c.in-Some.ensures.0 in
    ap (λ es. es ++ behind) c.in_ok-push.ensures.items ∙ append_assoc before (c.in_ok-entry.entry ∷ []) behind ∙ ap (λ e. before ++ e ∷ behind) c.in_ok-entry.ensures
    ∙ ap (λ es. before ++ es) (sym here) ∙ c.loop-place.invariant
