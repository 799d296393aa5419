use Rattle.std.proofs.Common.{◌∙◌, Err, List, Ok, Option, Result, ap, sym, ℕ}
use Rattle.std.specs.Prelude.{IfOk}
use Rattle.ocfl_tree.specs.Place.{Place}
use Rattle.ocfl_night.specs.{Done.{done_of}, Leaving.{tried_by, with_remedy}, declared.tally.Tally.{Tally}}
use Rattle.ocfl_night.proofs.Branches.{untried}
use Rattle.ocfl_night.proofs.tally.Tally.remedy.Goals as goal

both_ok : {X E : Type 0} (r : Result X E) {P Q R : X → Type 0} → ((x : X) → P x → Q x → R x) → IfOk r P → IfOk r Q → IfOk r R
both_ok (Ok x) both p q = both x p q
both_ok (Err e) both p q = tt

pub returns-clause-done : goal.returns-clause-done
returns-clause-done c =
    let p = c.args.place.now in
    let d = done_of c.args.self.now in
    let same = c.leave_out_at.ensures.same in
    let none = ap (λ (x : Tally). x.tried) same ∙ c.take-tried.ensures.after in
    both_ok c.leave_out_at.result (λ remedy is left.
    let tried = none ∙ sym (untried p _) ∙ ap (tried_by p) (sym is) in
    ap (λ (x : Tally). record (done_of x) { tried = c.leave_out_at.new.self.tried; left = c.leave_out_at.new.self.left.items }) same
    ∙ ap (λ (n : ℕ). record d { stops = n; tried = c.leave_out_at.new.self.tried; left = c.leave_out_at.new.self.left.items }) c.saturating_add-self.ensures
    ∙ ap (λ (t : Option Place). record (with_remedy p remedy d) { tried = t; left = c.leave_out_at.new.self.left.items }) tried
    ∙ ap (λ (l : List Place). record (with_remedy p remedy d) { left = l }) left) c.leave_out_at.ensures.is c.leave_out_at.ensures.left
