-- By how much a run passes its budget.
use Rattle.std.proofs.Common.{◌≡◌, ℕ, ◌+◌, ◌<◌, List, [], ◌∷◌, ◌++◌, refl, ◌∙◌, ap, true, false, Bool, Option, arith, eqb-true}
use Rattle.std.specs.Prelude.{cond, ◌==◌}
use Rattle.ocfl_tree.specs.Place.{Place}
use Rattle.ocfl_report.specs.Line.{Item}
use Rattle.ocfl_rules.specs.{Audit.{total_cost}, Parts.{Part}, Runs.{Limits, cut}}
use Rattle.ocfl_scrub.specs.Starting.{items_in}
use Rattle.ocfl_scrub.specs.{Call.{Call}, Running.{taken_in, RunsWithin}}
use Rattle.ocfl_rules.proofs.RunLaws.{cost_append}
use Rattle.ocfl_scrub.proofs.{CutLaws.{last_cost, no_cost, paid_passes}, PartLaws.{cut_paid}}

some_cost : (n : ℕ) → 0 < n → (c : ℕ) → cond (n == 0) c n ≡ n
some_cost n h c = by (n == 0) refl
  where
    by : (b : Bool) → n == 0 ≡ b → cond b c n ≡ n
    by true e = let z = eqb-true n 0 e in absurd (omega (arith, z, h))
    by false e = refl

-- the last item that costs something is the one after which none does
last_is : (front : List Item) (last : Item) (behind : List Item) → 0 < last.cost → total_cost behind ≡ 0 → last_cost (front ++ last ∷ behind) ≡ last.cost
last_is [] last behind h k = ap (λ n. cond (n == 0) last.cost n) (no_cost behind k)
last_is (i ∷ front) last behind h k = ap (λ n. cond (n == 0) i.cost n) (last_is front last behind h k) ∙ some_cost last.cost h i.cost

pub less_than_the_last : (call : Call) (part : Part) (from to next : Option Place) (limits : Limits) (spent files : ℕ) (finding : Bool)
    (run : RunsWithin call part from to limits spent files finding next) (front behind : List Item) (last : Item)
    → taken_in call.further call.root run.trail part from limits ≡ front ++ last ∷ behind → 0 < last.cost → total_cost behind ≡ 0 → spent < limits.budget + last.cost
less_than_the_last call part from to next limits spent files finding run front behind last are h k =
    let items : List Item = items_in call.further call.root run.trail part from in
    let a : spent ≡ total_cost (cut items limits) = run.figures.spent_is in
    let e : total_cost (cut items limits) ≡ total_cost (front ++ last ∷ behind) = ap total_cost are in
    let f = cost_append front (last ∷ behind) in
    let c : last_cost (cut items limits) ≡ last.cost = ap last_cost are ∙ last_is front last behind h k in
    let m = paid_passes limits (cut items limits) (cut_paid limits items) (omega (arith, e, f, h)) in
    omega (arith, a, m, c)
