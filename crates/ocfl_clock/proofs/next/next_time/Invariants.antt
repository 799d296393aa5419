use Rattle.std.proofs.Common.{◌≡◌, ◌≤◌, ◌<◌, ℕ}
use Rattle.jiff.specs.Words.{plain_zone}
use Rattle.ocfl_clock.specs.Clock.{ComesTo, clock_at}
use Rattle.ocfl_clock.proofs.next.next_time.Given as goal

abbrev pub invariant-loop-second : goal.invariant-loop-second
invariant-loop-second l = record {
  shown : l.before ≡ clock_at (plain_zone l.zone) l.second;
  first : (s : ℕ) → l.now ≤ s → s < l.second → ComesTo (plain_zone l.zone) l.of_day s → ⊥;
}
