use Rattle.std.proofs.Common.{◌≤◌, ◌<◌, ◌^◌, List, All, length, subst}
use Rattle.ocfl_state.specs.Checkpoint.{Checkpoint, IsLeft, IsCheckpoint}
use Rattle.ocfl_state.specs.declared.checkpoint_parts.Left.{Left}
use Rattle.ocfl_state.proofs.CheckpointTexts.{parts_fit}
use Rattle.ocfl_state.proofs.checkpoint_laws.every_checkpoint_fits.Goals as goal

pub returns : goal.returns
returns c =
    let i = c.checkpoint.inside in
    let v : Checkpoint =
    record { root = i.root; names = i.names; phase = i.phase; whole = i.whole; report = i.report; said = i.said; left = i.left.items; part = i.part; cursor = i.cursor } in
    let left : All IsLeft i.left.items = subst (λ (ls : List Left). All IsLeft ls) c.deref.ensures.value c.each_left_fits.ensures.each in
    let count : length i.left.items < 2 ^ 64 = subst (λ (ls : List Left). length ls < 2 ^ 64) c.deref.ensures.value c.each_left_fits.ensures.count in
    subst (λ (w : Checkpoint). w.said ≤ w.report.bytes → IsCheckpoint w) c.checkpoint.view_is
    (parts_fit v c.root_fits.ensures c.names_fit.ensures c.mark_fits.ensures left count c.part_fits.ensures c.state.ensures.keeps)
