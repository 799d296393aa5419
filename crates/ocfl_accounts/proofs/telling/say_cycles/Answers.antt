use Rattle.std.proofs.Common.{rules, ◌≡◌, ◌∙◌, inl, [], ◌∷◌, ◌++◌, length-append, Option, ap, subst, sym, arith}
use Rattle.std.specs.Prelude.{max}
use Rattle.ocfl_accounts.specs.{Crash.{Passes}, Rounds.{MayAccounts}, Telling.{IsOutcome, MayAccount, Outcome, Stand, outcome_of}}
use Rattle.ocfl_accounts.specs.declared.closings.ClosingStop.{ClosingStop}
use Rattle.ocfl_say.proofs.Outputs.{grows_on}
use Rattle.ocfl_accounts.proofs.{Outcomes.{outcomes_more, greatest_more}, Passing.{weaker}}
use Rattle.ocfl_accounts.proofs.Rounds.{cycles_pass, may_more, may_within}
use Rattle.ocfl_accounts.proofs.telling.say_cycles.Goals as goal

pub loop-cycle-preserved : goal.loop-cycle-preserved
loop-cycle-preserved g c =
    let F = g.C.Closings in
    let below = c.loop-cycle-test.true in
    let from = c.loop-cycle.invariant.from in
    let first : Stand = record { kept = F.seen c.args.closings.now; faults = F.faults c.args.closings.now; said = g.S.Say.said c.args.out.now } in
    let last : Stand = record { kept = F.seen c.loop-cycle.closings; faults = F.faults c.loop-cycle.closings; said = g.S.Say.said c.loop-cycle.out } in
    let then : Stand = record { kept = F.seen c.say_or_fail.new.closings; faults = F.faults c.say_or_fail.new.closings; said = g.S.Say.said c.say_or_fail.new.out } in
    let cycle = c.loop-cycle.cycle in
    let says = F.says (F.with c.args.closings.now) in
    let grew = c.say_or_fail.ensures.grew in
    record {
      said = λ t.
          let h = c.loop-cycle.invariant.said t in
          let s = subst (λ w. (stop : Option ClosingStop) × IsOutcome last cycle (F.says w) (outcome_of then c.say_or_fail.result stop)) (c.loop-cycle.invariant.with t) (c.say_or_fail.ensures.said t) in
          let o : Outcome = record { after = then; status = c.say_or_fail.result; stop = s.0 } in
          let number = h.1.1.0 in
          let more = length-append h.0 (o ∷ []) in
          let status : c.max-status.result ≡ max c.loop-cycle.status c.say_or_fail.result = search rules in (
            h.0 ++ o ∷ [],
            (
              outcomes_more says o first last c.args.first cycle h.0 h.1.0 number s.1,
              (omega (arith, number, more), status ∙ ap (λ n. max n c.say_or_fail.result) h.1.1.1 ∙ sym (greatest_more says o 0 h.0)),
            ),
          );
      may = λ t.
          let may = c.loop-cycle.invariant.may t in
          may_more first.kept says c.args.first cycle first.said last.said then.said from grew last.kept may first.kept last.kept then.kept may
          (subst (λ w. MayAccount last.kept cycle (F.says w) last.said then.said last.kept then.kept) (c.loop-cycle.invariant.with t) (c.say_or_fail.ensures.may t));
      with = λ t. c.say_or_fail.ensures.with t ∙ c.loop-cycle.invariant.with t;
      crash = λ t.
          cycles_pass first.kept says c.args.first cycle first.said last.said then.said from grew F.may_leave F.moment F.left_since last.kept (c.loop-cycle.invariant.may t)
          c.args.closings.now c.loop-cycle.closings c.say_or_fail.new.closings (c.loop-cycle.invariant.crash t)
          (subst (λ w. Passes F.may_leave F.moment F.left_since (MayAccount last.kept cycle (F.says w) last.said then.said) c.loop-cycle.closings c.say_or_fail.new.closings) (c.loop-cycle.invariant.with t) (c.say_or_fail.ensures.crash t));
      grew = grows_on first.said last.said then.said c.loop-cycle.invariant.grew grew;
      bound = inl (omega (arith, below));
      from = omega (arith, from);
    }

pub returns-clause-crash : goal.returns-clause-crash
returns-clause-crash g c = λ t.
    let F = g.C.Closings in
    let k = F.seen c.args.closings.now in
    let says = F.says (F.with c.args.closings.now) in
    let first = c.args.first in
    let old = g.S.Say.said c.args.out.now in
    let new = g.S.Say.said c.loop-cycle.out in
    weaker F.may_leave F.moment F.left_since (MayAccounts k says first c.loop-cycle.cycle old new) (MayAccounts k says first c.args.end old new)
    (may_within k says first c.loop-cycle.cycle c.args.end old new c.loop-cycle.invariant.bound) c.args.closings.now c.loop-cycle.closings (c.loop-cycle.invariant.crash t)
