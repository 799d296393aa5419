use Rattle.std.proofs.Common.{◌≡◌, None, false}
use Rattle.ocfl_walk.specs.Walks.{walk_size}
use Rattle.ocfl_scrub.specs.{Call.{WhereTold}, Starting.{part_of}, Taking.{WritesLines}}
use Rattle.ocfl_scrub.proofs.AuditTurns.{HasTaken}
use Rattle.ocfl_scrub.proofs.auditing.audit_part.Given as goal

abbrev pub invariant-loop-step : goal.invariant-loop-step
invariant-loop-step g l = record {
  lines : WritesLines (g.W.Write.contents l.fn.out) (g.W.Write.contents l.out) l.found;
  silent : l.last ≡ None → l.out ≡ l.fn.out;
  none_found : l.last ≡ None → l.found ≡ false;
  told : WhereTold l.fn.further g.T.Tree.told g.T.Tree.state g.W.Write.contents l.fn.store l.store l.fn.out l.out (λ call.
      HasTaken call.further call.root (part_of l.fn.part) call.before call.after call.old call.new l.walk l.last l.found);
}

abbrev pub decreases-loop-step : goal.decreases-loop-step
decreases-loop-step g l = walk_size l.walk
