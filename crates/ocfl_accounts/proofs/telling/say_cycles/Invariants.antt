use Rattle.std.proofs.Common.{◌≡◌, ◌⊎◌, ◌+◌, ◌≤◌, List, length, IsTrue}
use Rattle.ocfl_say.specs.Said.{Grows}
use Rattle.ocfl_accounts.specs.{Crash.{Passes}, Rounds.{MayAccounts}}
use Rattle.ocfl_accounts.specs.Telling.{Outcome, Stand, AreOutcomes, greatest_from}
use Rattle.ocfl_accounts.proofs.telling.say_cycles.Given as goal

abbrev pub invariant-loop-cycle : goal.invariant-loop-cycle
invariant-loop-cycle g l =
    let F = g.C.Closings in
    let first : Stand = record { kept = F.seen l.fn.closings; faults = F.faults l.fn.closings; said = g.S.Say.said l.fn.out } in
    let last : Stand = record { kept = F.seen l.closings; faults = F.faults l.closings; said = g.S.Say.said l.out } in
    let says = F.says (F.with l.fn.closings) in
    let May = MayAccounts first.kept says l.first l.cycle first.said last.said in
    record {
      said : IsTrue F.told → (os : List Outcome)
          × (AreOutcomes first l.first says os last × ((l.first + length os ≡ l.cycle) × (l.status ≡ greatest_from 0 os)));
      may : IsTrue F.told → May first.kept last.kept;
      with : IsTrue F.told → F.with l.closings ≡ F.with l.fn.closings;
      crash : IsTrue F.told → Passes F.may_leave F.moment F.left_since May l.fn.closings l.closings;
      grew : Grows first.said last.said;
      bound : (l.cycle ≤ l.end) ⊎ (l.cycle ≡ l.first);
      from : l.first ≤ l.cycle;
    }
