use Rattle.std.proofs.{Common.{◌≢◌, ◌∙◌, [], ap, arith, length, refl, sym}, lemmas.Result.{IfOk-weaker}}
use Rattle.ocfl_state.specs.Content.{Bytes}
use Rattle.ocfl_night.proofs.Newest.{besides_of, none_besides}
use Rattle.ocfl_night.proofs.older.closed_besides.Goals as goal

pub returns-else-branch-eq0-clause-closed : goal.returns-else-branch-eq0-clause-closed
returns-else-branch-eq0-clause-closed g c = λ told.
    let k = c.args.checkpoint.now in
    let another : (g.S.StateFolder.seen c.args.folder.now).report ≢ [] = λ empty. omega (arith, c.in_ok-length-in-Closing.ensures.value told, ap (λ (l : Bytes). length l) empty, c.if-branch-eq0.false) in
    IfOk-weaker c.closed_at.result _ _ (λ found p. besides_of k (c.length.ensures.seen told) c.cycle_of.ensures (sym c.phase_of.ensures ∙ c.in-Closing.is) another found p) (c.closed_at.ensures.closed told c.cycle_of.result refl)

pub returns-else-branch-eq0-clause-none : goal.returns-else-branch-eq0-clause-none
returns-else-branch-eq0-clause-none g c = λ told.
    IfOk-weaker c.closed_at.result _ _ (λ found p none n below b. none_besides c.args.checkpoint.now (c.length.ensures.seen told) c.cycle_of.ensures (p none) n b)
    (c.closed_at.ensures.none told c.cycle_of.result refl (omega (arith, c.cycle_of.type_inv)))
