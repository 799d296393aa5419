use Rattle.std.proofs.Common.{refl, ap, sym, ◌∙◌, ◌++◌}
use Rattle.ocfl_closed.specs.Files.{kept_of}
use Rattle.ocfl_closed.proofs.Backing.{back_between, moved_lacking, no_items, none_lacking}
use Rattle.ocfl_closed.proofs.back.find_between.Goals as goal

pub returns-then-is_empty-clause-back : goal.returns-then-is_empty-clause-back
returns-then-is_empty-clause-back g c = λ told.
    let k = kept_of (g.D.ClosedDisk.state c.args.disk.now).files in
    let now = c.args.now.now in
    let before = c.args.before.now in
    let lacking = c.in_ok-lacking.lacking in
    none_lacking (now.left ++ before.left) c.args.gone.items (k.reports before.cycle) (k.reports now.cycle) lacking.items
    (moved_lacking k k c.deref.result.now (now.left ++ before.left) c.args.gone.items lacking.items c.cycle.result before.cycle refl (c.deref.ensures.value ∙ c.in_ok-left.ensures.left) c.cycle.ensures (c.in_ok-lacking.ensures.lacking told))
    (no_items _ lacking.items lacking.ok.0 (sym c.is_empty.ensures ∙ c.if-is_empty.true))

pub returns-in-Ok-clause-back : goal.returns-in-Ok-clause-back
returns-in-Ok-clause-back g c = λ told.
    let D = g.D.ClosedDisk in
    let k = kept_of (D.state c.args.disk.now).files in
    let later = kept_of (D.state c.find_lacking.new.disk).files in
    let now = c.args.now.now in
    let before = c.args.before.now in
    let lacking = c.in_ok-lacking.lacking in
    let copy = c.in_ok-copy.copy in
    let still = c.in_ok-still.still in
    back_between (now.left ++ before.left) c.args.gone.items (k.reports before.cycle) (k.reports now.cycle) lacking.items copy.items still.items c.in-Ok.back.items
    (moved_lacking k k c.deref.result.now (now.left ++ before.left) c.args.gone.items lacking.items c.cycle.result before.cycle refl (c.deref.ensures.value ∙ c.in_ok-left.ensures.left) c.cycle.ensures (c.in_ok-lacking.ensures.lacking told))
    (c.in_ok-copy.ensures.copy ∙ c.deref-2.ensures.value)
    (moved_lacking later k c.deref-3.result.now (now.left ++ before.left) copy.items still.items c.cycle-2.result now.cycle (ap kept_of (c.find_lacking.ensures.still told).calm.files) (c.deref-3.ensures.value ∙ c.in_ok-left.ensures.left) c.cycle-2.ensures
    (c.in_ok-still.ensures.lacking told))
    (λ f e. c.in-Ok.ensures f (c.deref-4.ensures.value ∙ e))
