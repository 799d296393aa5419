use Rattle.std.proofs.Common.{refl}
use Rattle.ocfl_clock.proofs.Days.{not_come, passed_since, shown_now}
use Rattle.ocfl_clock.proofs.next.comes.Goals as goal

pub returns-then-since-eq0 : goal.returns-then-since-eq0
returns-then-since-eq0 c = (λ _. shown_now c.args.of_day c.args.before c.args.after c.if-after-of_day.false c.if-since-eq0.true, λ _. refl)

pub returns-then-before-after : goal.returns-then-before-after
returns-then-before-after c = (λ _. passed_since c.args.of_day c.args.before c.args.after c.if-after-of_day.false c.if-before-after.true, λ _. refl)

pub returns : goal.returns
returns c = (λ e. cc, λ k. absurd (not_come c.args.of_day c.args.before c.args.after c.if-after-of_day.false c.if-since-eq0.false c.if-before-after.false k))
