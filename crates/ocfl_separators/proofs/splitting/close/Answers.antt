use Rattle.std.proofs.Common.{◌≡◌, ◌<◌, ◌^◌, ◌⊎◌, ◌++◌, inl, inr, ap, arith}
use Rattle.ocfl_separators.proofs.{Orders.{above_next, above_other}, Cuts.{item_stays}}
use Rattle.ocfl_separators.proofs.splitting.close.Goals.{then-item-eq0-via-then-item-eq0, then-item-eq0-via-else-item-eq0+then-spent-budget}
use Rattle.ocfl_separators.proofs.splitting.close.Goals as goal

pub returns-then-item-eq0-clause-cuts : goal.returns-then-item-eq0-clause-cuts
returns-then-item-eq0-clause-cuts c = λ items.
    let small : c.args.budget < 2 ^ 64 = omega arith in
    let stays : (c.args.item.cost ≡ 0) ⊎ (c.args.spent < c.args.budget) =
    elim c.then-item-eq0.branch [ then-item-eq0-via-then-item-eq0 w ↦ inl w.if-item-eq0.true | then-item-eq0-via-else-item-eq0+then-spent-budget w ↦ inr w.if-spent-budget.true ] in
    ap (λ xs. c.args.separators.now ++ xs) (item_stays c.args.budget c.args.spent c.saturating_add.result c.args.item items small stays c.saturating_add.ensures)

pub returns-then-item-eq0-clause-above : goal.returns-then-item-eq0-clause-above
returns-then-item-eq0-clause-above c = λ p name l. above_other c.args.separators.now c.args.item.place p c.requires.above name l

pub returns-in-Ok-clause-above : goal.returns-in-Ok-clause-above
returns-in-Ok-clause-above c = λ p name l. above_next c.args.separators.now c.push.new.self c.args.item.place p c.in-Ok.ensures.ok c.requires.above name l
