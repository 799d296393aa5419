use Rattle.std.proofs.Common.{◌≡◌, ◌≤◌, length}
use Rattle.ocfl_walk.specs.Walks.{walk_size}
use Rattle.ocfl_report.specs.declared.further.Further.{Further}
use Rattle.ocfl_scrub.specs.{Call.{WhereTold}, Running.{limits_of, IsPaid}, Beginning.{IsShort}}
use Rattle.ocfl_scrub.specs.{Starting.{part_of}, Taking.{WritesLines}}
use Rattle.ocfl_scrub.proofs.KeptTurns.{IsOnWay}
use Rattle.ocfl_scrub.proofs.running.pass_on.Given as goal

abbrev pub invariant-loop-alloc : goal.invariant-loop-alloc
invariant-loop-alloc g l = record {
  lines : WritesLines (g.W.Write.contents l.fn.out) (g.W.Write.contents l.out) l.found;
  short : IsShort l.last;
  near : length l.item.place ≤ 255;
  limits : l.meter.limits ≡ l.fn.limits;
  paid : IsPaid (limits_of l.fn.limits) l.meter.spent l.meter.files;
  told : (further : Further) → WhereTold further g.T.Tree.told g.T.Tree.state g.W.Write.contents l.fn.store l.store l.fn.out l.out (λ call.
      IsOnWay call.further call.root (part_of l.fn.part) call.before call.after call.old call.new l.fn.met l.walk l.item l.fn.from l.last
      (limits_of l.fn.limits) l.meter.spent l.meter.files l.found);
}

abbrev pub decreases-loop-alloc : goal.decreases-loop-alloc
decreases-loop-alloc g l = walk_size l.walk
