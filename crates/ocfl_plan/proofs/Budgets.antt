-- What happens to a clock that asks a night to stop once its budget is spent.
use Rattle.std.proofs.Common.{◌≡◌, ℕ, ◌<◌, Bool, true, false, not, ◌||◌, List, [], ◌∷◌, ◌++◌, Option, Some, refl, ap, ◌∙◌, sym, arith}
use Rattle.std.specs.Prelude.{nat_lt}
use Rattle.ocfl_terms.specs.Clock.{Event, Asked, Read, Heard}
use Rattle.ocfl_plan.specs.Budgeted.{budgeted, is_spent, spent_after, spent_in, with_budget}

-- one thing more
pub spent_on : (spent : ℕ) (old : List Event) (e : Event) → spent_in spent (old ++ e ∷ []) ≡ spent_after (spent_in spent old) e
spent_on spent [] e = refl
spent_on spent (x ∷ old) e = spent_on (spent_after spent x) old e

pub budgeted_on : (budget : Option ℕ) (spent : ℕ) (old : List Event) (e : Event) → budgeted budget spent (old ++ e ∷ []) ≡ budgeted budget spent old ++ with_budget budget (spent_in spent old) e ∷ []
budgeted_on budget spent [] e = refl
budgeted_on budget spent (x ∷ old) e = ap (λ es. with_budget budget spent x ∷ es) (budgeted_on budget (spent_after spent x) old e)

-- the same of events that grew by it
pub now_spent : (old new : List Event) (e : Event) (spent : ℕ) → new ≡ old ++ e ∷ [] → spent ≡ spent_in 0 old → spent_after spent e ≡ spent_in 0 new
now_spent old new e spent grew is = ap (λ n. spent_after n e) is ∙ sym (spent_on 0 old e) ∙ ap (spent_in 0) (sym grew)

pub now_happened : (budget : Option ℕ) (old new : List Event) (e : Event) (spent : ℕ) → new ≡ old ++ e ∷ [] → spent ≡ spent_in 0 old → budgeted budget 0 new ≡ budgeted budget 0 old ++ with_budget budget spent e ∷ []
now_happened budget old new e spent grew is =
    ap (budgeted budget 0) grew ∙ budgeted_on budget 0 old e ∙ ap (λ n. budgeted budget 0 old ++ with_budget budget n e ∷ []) (sym is)

-- it asks to stop if the clock does
pub stops_so : (budget : Option ℕ) (old new : List Event) (stops : Bool) (spent : ℕ) → stops ≡ true → new ≡ old ++ Asked stops ∷ [] → spent ≡ spent_in 0 old → budgeted budget 0 new ≡ budgeted budget 0 old ++ Asked stops ∷ []
stops_so budget old new stops spent asked grew is =
    now_happened budget old new (Asked stops) spent grew is
    ∙ ap (λ b. budgeted budget 0 old ++ Asked (b || is_spent budget spent) ∷ []) asked
    ∙ ap (λ b. budgeted budget 0 old ++ Asked b ∷ []) (sym asked)

-- and else if the budget is spent
pub spent_so : (budget : Option ℕ) (old new : List Event) (stops answer : Bool) (spent : ℕ) → stops ≡ false → answer ≡ is_spent budget spent → new ≡ old ++ Asked stops ∷ [] → spent ≡ spent_in 0 old → budgeted budget 0 new ≡ budgeted budget 0 old ++ Asked answer ∷ []
spent_so budget old new stops answer spent unasked same grew is =
    now_happened budget old new (Asked stops) spent grew is
    ∙ ap (λ b. budgeted budget 0 old ++ Asked (b || is_spent budget spent) ∷ []) unasked
    ∙ ap (λ b. budgeted budget 0 old ++ Asked b ∷ []) (sym same)

-- ---- an answer that a night is not asked to stop

-- what was spent is the same by what happened to either clock
same_spent : (budget : Option ℕ) (s spent : ℕ) (e : Event) → spent_after s (with_budget budget spent e) ≡ spent_after s e
same_spent budget s spent (Asked stops) = refl
same_spent budget s spent (Read now) = refl
same_spent budget s spent (Heard made) = refl

or_unspent : (stops : Bool) (budget spent : ℕ) → (stops || not (nat_lt spent budget)) ≡ false → spent < budget
or_unspent true budget spent e = absurd (cc e)
or_unspent false budget spent e = grind (arith, e)

answered : (budget spent : ℕ) (e : Event) → with_budget (Some budget) spent e ≡ Asked false → spent < budget
answered budget spent (Asked stops) e = or_unspent stops budget spent (cc e)
answered budget spent (Read now) e = absurd (cc e)
answered budget spent (Heard made) e = absurd (cc e)

pub unspent : (budget spent : ℕ) (events before after : List Event) → budgeted (Some budget) spent events ≡ before ++ Asked false ∷ after → spent_in spent before < budget
unspent budget spent [] [] after e = absurd (cc e)
unspent budget spent [] (x ∷ before) after e = absurd (cc e)
unspent budget spent (x ∷ events) [] after e = answered budget spent x (cc e)
unspent budget spent (x ∷ events) (y ∷ before) after e =
    let first : with_budget (Some budget) spent x ≡ y = cc e in
    let rest : budgeted (Some budget) (spent_after spent x) events ≡ before ++ Asked false ∷ after = cc e in
    let same : spent_after spent x ≡ spent_after spent y = sym (same_spent (Some budget) spent spent x) ∙ ap (spent_after spent) first in
    unspent budget (spent_after spent y) events before after (ap (λ n. budgeted (Some budget) n events) (sym same) ∙ rest)
