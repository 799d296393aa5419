use Rattle.std.proofs.Common.{◌≡◌, ◌≤◌, ◌<◌, ◌+◌, ◌^◌, ℕ, Bool, true, false, arith, refl, subst, sym, ◌∙◌}
use Rattle.std.specs.Prelude.{IfErr, IfOk, Result, Ok, Err}
use Rattle.ocfl_digest.specs.{declared.digests.Digests.{Digests}, declared.stop.ReadStop.{ReadStop}}
use Rattle.ocfl_tree.proofs.Orders.{true_not_false}
use Rattle.ocfl_item.specs.{Internal.FileLines.{given_in}, Judging.{CostFits}}
use Rattle.ocfl_item.proofs.JudgeLaws.{judged_is, judged_known, read_closed, read_largest}
use Rattle.ocfl_item.proofs.judging.judge.Goals as goal

known_fits : (hashed : Bool) → hashed ≡ false → CostFits hashed 0
known_fits false is = refl
known_fits true is = absurd (true_not_false is)

hashed_fits : (hashed : Bool) (bytes : ℕ) → hashed ≡ true → bytes ≤ 2 ^ 62 → CostFits hashed (bytes + 1)
hashed_fits true bytes is few = (omega arith, omega (arith, few))
hashed_fits false bytes is few = absurd (true_not_false (sym is))

few_given : (read : Result (Digests × ℕ) ReadStop) → IfOk read (λ h. h.1 < 2 ^ 62) → IfErr read (λ stop. stop.bytes ≤ 2 ^ 62) → given_in read ≤ 2 ^ 62
few_given (Ok h) short few = omega (arith, short)
few_given (Err stop) short few = few

judged_fits : {X E : Type 0} (hashed : Bool) (given : ℕ) (r : Result (X × ℕ) E) → hashed ≡ true → given ≤ 2 ^ 62 → IfOk r (λ j. j.1 ≡ given + 1) → IfOk r (λ j. CostFits hashed j.1)
judged_fits hashed given (Ok j) is few cost = subst (CostFits hashed) (sym cost) (hashed_fits hashed given is few)
judged_fits hashed given (Err why) is few cost = tt

pub returns-then-not-pending-clause-cost : goal.returns-then-not-pending-clause-cost
returns-then-not-pending-clause-cost g c = known_fits _ c.if-not-pending.true

pub returns-then-not-pending-clause-closed : goal.returns-then-not-pending-clause-closed
returns-then-not-pending-clause-closed g c = λ h hashed. absurd (true_not_false (sym hashed ∙ c.if-not-pending.true))

pub returns-then-not-pending-clause-told : goal.returns-then-not-pending-clause-told
returns-then-not-pending-clause-told g c =
    λ h root over further short pending.
    judged_known further root _ c.args.pending over pending c.if-not-pending.true

pub returns-clause-cost : goal.returns-clause-cost
returns-clause-cost g c = judged_fits _ _ c.judged.result c.if-not-pending.false (few_given c.hash_open-read.result c.hash_open-read.ensures.short c.hash_open-read.ensures.given) c.judged.ensures.cost

pub returns-clause-unasked : goal.returns-clause-unasked
returns-clause-unasked g c = λ unasked. absurd (true_not_false (sym c.if-not-pending.false ∙ unasked))

pub returns-clause-closed : goal.returns-clause-closed
returns-clause-closed g c = λ h hashed. read_closed _ _ _ _ _ c.hash_open-read.result (c.hash_open-read.ensures.hashes h _ refl)

pub returns-clause-largest : goal.returns-clause-largest
returns-clause-largest g c = λ h. read_largest _ _ _ _ _ c.hash_open-read.result (c.hash_open-read.ensures.hashes h _ refl)

pub returns-clause-told : goal.returns-clause-told
returns-clause-told g c =
    λ h root over further short pending.
    judged_is further root _ _ c.args.pending over pending c.if-not-pending.false short c.wanted.result c.wanted.ensures c.hash_open-read.result c.judged.result (c.hash_open-read.ensures.hashes h root over)
    c.judged.ensures.place c.judged.ensures.cost c.judged.ensures.refused c.judged.ensures.whole c.judged.ensures.part
