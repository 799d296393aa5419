use Rattle.std.proofs.Common.{◌≡◌, ◌∙◌, ◌++◌, ◌∷◌, [], ap, refl, sym, subst, Some, false}
use Rattle.std.proofs.lemmas.Result.{err_from_is_err_and}
use Rattle.ocfl_walk.specs.{Before.{place_before}, Ends.{is_past}}
use Rattle.ocfl_walk.specs.{Standing.{IsStanding, piles_in, spot_of}, declared.stand.Stand.{Stand}}
use Rattle.ocfl_walk.proofs.{WalkCallLaws.{no_memory}, EndLaws.{not_past_down}}
use Rattle.ocfl_walk.proofs.FirstSteps.{cut_held, cut_in_order, cut_no_more, cut_trims, ends_at, entry_turn, goes_at_entry, goes_at_missing, missing_next, missing_turn, one_directory, stays_before, steps_at}
use Rattle.ocfl_walk.proofs.{NextLaws.{turn_within}, StandLaws.{steps_out_to}}
use Rattle.ocfl_walk.proofs.stand.Stand.step_to.Goals as goal

pub returns-in_err-place-clause-told : goal.returns-in_err-place-clause-told
returns-in_err-place-clause-told g c = λ h root over d q st first.
    let p = err_from_is_err_and c.from_residual.result c.from_residual.ensures.1 in
    rw (p.1, p.2) (no_memory c.args.further root (g.T.Tree.state c.args.store.now) over)

pub returns-then-is_past-clause-told : goal.returns-then-is_past-clause-told
returns-then-is_past-clause-told g c = λ h root over d q st first.
    let same = one_directory c.args.self.now.last c.in-Some.directory d c.in-Some.is st.0 in
    let own = c.in_ok-place.ensures ∙ ap (λ y. y ++ c.args.name.now ∷ []) same in
    ends_at root (d ++ c.args.name.now ∷ []) q first c.args.end.now (ap (is_past c.args.end.now) (sym own) ∙ sym c.is_past.ensures ∙ c.if-is_past.true) c.args.further
    (g.T.Tree.state c.args.store.now) c.args.self.now over

pub returns-in_err-entry-clause-orderly : goal.returns-in_err-entry-clause-orderly
returns-in_err-entry-clause-orderly g c =
    let is = c.begin_at.ensures (spot_of c.args.self.now.last) in
    cut_in_order c.args.further c.args.self.now c.in-Some.directory c.args.name.now c.begin_at.new.listings c.in-Some.is c.requires is

pub returns-in_err-entry-clause-told : goal.returns-in_err-entry-clause-told
returns-in_err-entry-clause-told g c = λ h root over d q st first.
    let p = err_from_is_err_and c.from_residual-in_err-entry.result c.from_residual-in_err-entry.ensures.1 in
    rw (p.1, p.2) (no_memory c.args.further root (g.T.Tree.state c.args.store.now) over)

pub take_entry-requires-clause-orderly : goal.take_entry-requires-clause-orderly
take_entry-requires-clause-orderly g c =
    let is = c.begin_at.ensures (spot_of c.args.self.now.last) in
    cut_in_order c.args.further c.args.self.now c.in-Some.directory c.args.name.now c.begin_at.new.listings c.in-Some.is c.requires is

pub take_missing-requires-clause-orderly : goal.take_missing-requires-clause-orderly
take_missing-requires-clause-orderly g c =
    let is = c.begin_at.ensures (spot_of c.args.self.now.last) in
    cut_in_order c.args.further c.args.self.now c.in-Some.directory c.args.name.now c.begin_at.new.listings c.in-Some.is c.requires is

pub take_missing-requires-clause-next : goal.take_missing-requires-clause-next
take_missing-requires-clause-next g c =
    let is = c.begin_at.ensures (spot_of c.args.self.now.last) in
    missing_next c.args.further c.args.self.now c.in-Some.directory c.args.name.now c.begin_at.new.listings c.in-Some.is c.requires is c.in_ok-place.place
    c.in_ok-place.ensures c.in_ok-entry.entry c.in-None.ensures c.in_ok-entry.ensures

pub take_missing-requires-clause-trim : goal.take_missing-requires-clause-trim
take_missing-requires-clause-trim g c =
    let is = c.begin_at.ensures (spot_of c.args.self.now.last) in
    cut_trims c.args.further c.args.self.now c.in-Some.directory c.args.name.now c.begin_at.new.listings c.in-Some.is c.requires is

pub returns-in-Some-unless_above-clause-goes_on : goal.returns-in-Some-unless_above-clause-goes_on
returns-in-Some-unless_above-clause-goes_on g c =
    let is = c.begin_at.ensures (spot_of c.args.self.now.last) in
    let mid : Stand = record { listings = c.begin_at.new.listings; around = c.args.self.now.around; last = c.args.self.now.last } in
    goes_at_entry c.args.self.now mid c.take_entry.new.self c.in-Some-unless_above.entry refl
    (cut_no_more c.args.further c.args.self.now c.in-Some.directory c.args.name.now c.begin_at.new.listings c.in-Some.is c.requires is) c.take_entry.result
    c.take_entry.ensures.goes_on c.take_entry.ensures.there

pub returns-in-Some-unless_above-clause-before : goal.returns-in-Some-unless_above-clause-before
returns-in-Some-unless_above-clause-before g c =
    let is = c.begin_at.ensures (spot_of c.args.self.now.last) in
    let mid : Stand = record { listings = c.begin_at.new.listings; around = c.args.self.now.around; last = c.args.self.now.last } in
    let goes = goes_at_entry c.args.self.now mid c.take_entry.new.self c.in-Some-unless_above.entry refl
    (cut_no_more c.args.further c.args.self.now c.in-Some.directory c.args.name.now c.begin_at.new.listings c.in-Some.is c.requires is) c.take_entry.result
    c.take_entry.ensures.goes_on c.take_entry.ensures.there in
    let kept : is_past c.args.end.now c.in-Some-unless_above.entry ≡ false =
    not_past_down c.args.end.now c.in_ok-place.place c.in-Some-unless_above.entry (sym c.is_past.ensures ∙ c.if-is_past.false) c.in-Some-unless_above.ensures.1 in
    stays_before c.args.end.now c.args.self.now c.take_entry.new.self c.in-Some-unless_above.entry kept c.take_entry.result goes c.take_entry.ensures.there

pub returns-in-Some-unless_above-clause-told : goal.returns-in-Some-unless_above-clause-told
returns-in-Some-unless_above-clause-told g c = λ h root over d q st first.
    let is = c.begin_at.ensures (spot_of c.args.self.now.last) in
    let same = one_directory c.args.self.now.last c.in-Some.directory d c.in-Some.is st.0 in
    let there = subst (λ y. IsStanding c.args.further root y (piles_in c.args.self.now.last c.args.self.now.listings.items) c.args.self.now.around) (sym same) st.1 in
    let begins = subst (λ y. place_before root (y ++ c.args.name.now ∷ []) ≡ Some q) (sym same) first in
    let turn = entry_turn c.args.further c.args.self.now c.in-Some.directory c.args.name.now c.begin_at.new.listings c.in-Some.is c.requires is root q begins there
    c.in-Some-unless_above.entry c.in_ok-place.place c.in_ok-place.ensures c.in_ok-entry.entry c.in_ok-entry.ensures c.in-Some-unless_above.ensures.0 c.in-Some-unless_above.ensures.1 in
    let held = cut_held c.args.further c.args.self.now c.in-Some.directory c.args.name.now c.begin_at.new.listings c.in-Some.is c.requires is root q begins there in
    let kept : is_past c.args.end.now c.in-Some-unless_above.entry ≡ false =
    not_past_down c.args.end.now c.in_ok-place.place c.in-Some-unless_above.entry (sym c.is_past.ensures ∙ c.if-is_past.false) c.in-Some-unless_above.ensures.1 in
    steps_at c.args.further root (g.T.Tree.state c.args.store.now) (g.T.Tree.state c.take_entry.new.store) q c.in-Some-unless_above.entry c.args.end.now c.args.self.now
    c.take_entry.new.self c.take_entry.result c.take_entry.ensures.there
    (steps_out_to c.args.further root (g.T.Tree.state c.args.store.now) (g.T.Tree.state c.take_entry.new.store) (Some q) c.args.end.now c.in-Some-unless_above.entry
    c.take_entry.new.self c.take_entry.result c.take_entry.ensures.there turn.above (turn_within c.args.further root q c.in-Some-unless_above.entry _ turn) kept
    (c.take_entry.ensures.told h root over c.in-Some.directory q c.in-Some.is held turn))

pub returns-in-None-clause-goes_on : goal.returns-in-None-clause-goes_on
returns-in-None-clause-goes_on g c =
    let is = c.begin_at.ensures (spot_of c.args.self.now.last) in
    let mid : Stand = record { listings = c.begin_at.new.listings; around = c.args.self.now.around; last = c.args.self.now.last } in
    goes_at_missing c.args.self.now mid c.take_missing.new.self c.in_ok-place.place refl
    (cut_no_more c.args.further c.args.self.now c.in-Some.directory c.args.name.now c.begin_at.new.listings c.in-Some.is c.requires is) c.take_missing.result
    c.take_missing.ensures.goes_on c.take_missing.ensures.there

pub returns-in-None-clause-told : goal.returns-in-None-clause-told
returns-in-None-clause-told g c = λ h root over d q st first.
    let is = c.begin_at.ensures (spot_of c.args.self.now.last) in
    let same = one_directory c.args.self.now.last c.in-Some.directory d c.in-Some.is st.0 in
    let there = subst (λ y. IsStanding c.args.further root y (piles_in c.args.self.now.last c.args.self.now.listings.items) c.args.self.now.around) (sym same) st.1 in
    let begins = subst (λ y. place_before root (y ++ c.args.name.now ∷ []) ≡ Some q) (sym same) first in
    let turn = missing_turn c.args.further c.args.self.now c.in-Some.directory c.args.name.now c.begin_at.new.listings c.in-Some.is c.requires is root q begins
    there c.in_ok-place.place c.in_ok-place.ensures c.in_ok-entry.entry c.in-None.ensures c.in_ok-entry.ensures in
    steps_at c.args.further root (g.T.Tree.state c.args.store.now) (g.T.Tree.state c.args.store.now) q c.in_ok-place.place c.args.end.now c.args.self.now
    c.take_missing.new.self c.take_missing.result c.take_missing.ensures.there
    (steps_out_to c.args.further root (g.T.Tree.state c.args.store.now) (g.T.Tree.state c.args.store.now) (Some q) c.args.end.now c.in_ok-place.place c.take_missing.new.self
    c.take_missing.result c.take_missing.ensures.there turn.1.above (turn_within c.args.further root q c.in_ok-place.place _ turn.1) (sym c.is_past.ensures ∙ c.if-is_past.false)
    (c.take_missing.ensures.told c.args.further (g.T.Tree.state c.args.store.now) root over q turn.0 turn.1 turn.2))
