use Rattle.std.proofs.{Common.{[], sym, ◌∙◌, Some, None}, lemmas.Result.{err_from_is_err_and}}
use Rattle.ocfl_walk.specs.{Internal.Walking.{StepsOutTo}, WalkCalls.{next_due}}
use Rattle.ocfl_walk.specs.declared.stand.Turn.TheVariants as turn
use Rattle.ocfl_walk.proofs.Chosen.{at_first, chosen_base, chosen_begun, chosen_entry, chosen_path, kept_turn}
use Rattle.ocfl_walk.proofs.FirstSteps.{goes_less, stays_before}
use Rattle.ocfl_walk.proofs.StandLaws.{path_stands, stands_before, steps_out_to}
use Rattle.ocfl_walk.proofs.StandSteps.{by_turn, ends_here, held, path_named, path_next}
use Rattle.ocfl_walk.proofs.{NextLaws.{turn_within, within_root}, WalkCallLaws.{no_memory}}
use Rattle.ocfl_walk.proofs.stand.Stand.step.Goals as goal

pub returns-in_err-turn-clause-told : goal.returns-in_err-turn-clause-told
returns-in_err-turn-clause-told g c = λ h root over last st.
    let p = err_from_is_err_and c.from_residual.result c.from_residual.ensures.1 in
    rw (p.1, p.2) (no_memory c.args.further root (g.T.Tree.state c.args.store.now) over)

pub take_base-requires-clause-first : goal.take_base-requires-clause-first
take_base-requires-clause-first g c =
    chosen_base c.args.self.now.last _ c.args.self.now.around c.in_ok-turn.turn c.in_ok-turn.ensures.base c.in_ok-turn.ensures.next
    (kept_turn c.args.end.now c.in_ok-turn.turn turn.Base (sym c.in-Base.is ∙ c.unless_past.ensures) (λ e. cc)).0

pub take_entry-requires-clause-next : goal.take_entry-requires-clause-next
take_entry-requires-clause-next g c =
    chosen_entry c.args.self.now.last _ c.args.self.now.around c.in_ok-turn.turn c.in_ok-turn.ensures.base c.in_ok-turn.ensures.next c.in-Entry.place
    (kept_turn c.args.end.now c.in_ok-turn.turn (turn.Entry c.in-Entry.place) (sym c.in-Entry.is ∙ c.unless_past.ensures) (λ e. cc)).0

pub take_missing-requires-clause-next : goal.take_missing-requires-clause-next
take_missing-requires-clause-next g c =
    path_next _ c.args.self.now.around c.in-Path.place c.args.self.now.last c.requires.orderly
    (chosen_path c.args.self.now.last _ c.args.self.now.around c.in_ok-turn.turn c.in_ok-turn.ensures.base c.in_ok-turn.ensures.next c.in-Path.place
    (kept_turn c.args.end.now c.in_ok-turn.turn (turn.Path c.in-Path.place) (sym c.in-Path.is ∙ c.unless_past.ensures) (λ e. cc)).0)

pub returns-in-Base-clause-told : goal.returns-in-Base-clause-told
returns-in-Base-clause-told g c = λ h root over last st.
    let kept = (kept_turn c.args.end.now c.in_ok-turn.turn turn.Base (sym c.in-Base.is ∙ c.unless_past.ensures) (λ e. cc)) in
    at_first c.args.further root c.args.self.now (λ l. StepsOutTo c.args.further root (g.T.Tree.state c.args.store.now) (g.T.Tree.state c.take_base.new.store) l c.args.end.now c.take_base.new.self c.take_base.result) last st
    (chosen_base c.args.self.now.last _ c.args.self.now.around c.in_ok-turn.turn c.in_ok-turn.ensures.base c.in_ok-turn.ensures.next kept.0)
    (steps_out_to c.args.further root (g.T.Tree.state c.args.store.now) (g.T.Tree.state c.take_base.new.store) None c.args.end.now [] c.take_base.new.self c.take_base.result
    c.take_base.ensures.there tt (within_root (next_due c.args.further root None)) kept.1 (c.take_base.ensures.told h root over c.args.further))

pub returns-in-Base-clause-before : goal.returns-in-Base-clause-before
returns-in-Base-clause-before g c =
    stands_before c.args.end.now c.args.self.now c.take_base.new.self []
    (kept_turn c.args.end.now c.in_ok-turn.turn turn.Base (sym c.in-Base.is ∙ c.unless_past.ensures) (λ e. cc)).1 c.take_base.result c.take_base.ensures.goes_on c.take_base.ensures.there

pub returns-in-Entry-clause-told : goal.returns-in-Entry-clause-told
returns-in-Entry-clause-told g c = λ h root over last st.
    let kept = (kept_turn c.args.end.now c.in_ok-turn.turn (turn.Entry c.in-Entry.place) (sym c.in-Entry.is ∙ c.unless_past.ensures) (λ e. cc)) in
    by_turn c.args.further root c.args.self.now c.requires.trim c.in_ok-turn.turn (turn.Entry c.in-Entry.place) kept.0 (λ e. cc) c.in_ok-turn.ensures.base
    c.in_ok-turn.ensures.next c.requires.orderly
    (λ l. StepsOutTo c.args.further root (g.T.Tree.state c.args.store.now) (g.T.Tree.state c.take_entry.new.store) l c.args.end.now c.take_entry.new.self c.take_entry.result) last st
    (λ p f is go. steps_out_to c.args.further root (g.T.Tree.state c.args.store.now) (g.T.Tree.state c.take_entry.new.store) (Some p) c.args.end.now c.in-Entry.place
    c.take_entry.new.self c.take_entry.result c.take_entry.ensures.there go.above (turn_within c.args.further root p c.in-Entry.place _ go) kept.1 (c.take_entry.ensures.told h root over p p f (held c.args.further root p _ _ is) go))

pub returns-in-Entry-clause-before : goal.returns-in-Entry-clause-before
returns-in-Entry-clause-before g c =
    stands_before _ _ _ _ (kept_turn c.args.end.now c.in_ok-turn.turn (turn.Entry c.in-Entry.place) (sym c.in-Entry.is ∙ c.unless_past.ensures) (λ e. cc)).1 _ c.take_entry.ensures.goes_on c.take_entry.ensures.there

pub returns-in-Path-clause-goes_on : goal.returns-in-Path-clause-goes_on
returns-in-Path-clause-goes_on g c =
    let kept = (kept_turn c.args.end.now c.in_ok-turn.turn (turn.Path c.in-Path.place) (sym c.in-Path.is ∙ c.unless_past.ensures) (λ e. cc)).0 in
    let begun = chosen_begun c.args.self.now.last _ c.args.self.now.around c.in_ok-turn.turn c.in_ok-turn.ensures.base c.in_ok-turn.ensures.next c.in-Path.place kept in
    let next = chosen_path c.args.self.now.last _ c.args.self.now.around c.in_ok-turn.turn c.in_ok-turn.ensures.base c.in_ok-turn.ensures.next c.in-Path.place kept in
    let named = path_named _ c.args.self.now.around c.in-Path.place c.args.self.now.last c.requires.orderly begun next in
    goes_less c.args.self.now c.take_missing.new.self c.in-Path.place c.take_missing.result c.take_missing.ensures.goes_on c.take_missing.ensures.there (c.take_missing.ensures.falls named)

pub returns-in-Path-clause-told : goal.returns-in-Path-clause-told
returns-in-Path-clause-told g c = λ h root over last st.
    let kept = (kept_turn c.args.end.now c.in_ok-turn.turn (turn.Path c.in-Path.place) (sym c.in-Path.is ∙ c.unless_past.ensures) (λ e. cc)) in
    let next = chosen_path c.args.self.now.last _ c.args.self.now.around c.in_ok-turn.turn c.in_ok-turn.ensures.base c.in_ok-turn.ensures.next c.in-Path.place kept.0 in
    by_turn c.args.further root c.args.self.now c.requires.trim c.in_ok-turn.turn (turn.Path c.in-Path.place) kept.0 (λ e. cc) c.in_ok-turn.ensures.base
    c.in_ok-turn.ensures.next c.requires.orderly
    (λ l. StepsOutTo c.args.further root (g.T.Tree.state c.args.store.now) (g.T.Tree.state c.args.store.now) l c.args.end.now c.take_missing.new.self c.take_missing.result) last st
    (λ p f is go.
    let there = held c.args.further root c.in-Path.place _ _ (path_stands c.args.further root p c.in-Path.place _ _ is go.0 (next p f).0) in
    steps_out_to c.args.further root (g.T.Tree.state c.args.store.now) (g.T.Tree.state c.args.store.now) (Some p) c.args.end.now c.in-Path.place c.take_missing.new.self
    c.take_missing.result c.take_missing.ensures.there go.0.above (turn_within c.args.further root p c.in-Path.place _ go.0) kept.1 (c.take_missing.ensures.told c.args.further (g.T.Tree.state c.args.store.now) root over p there go.0 go.1))

pub returns-in-Path-clause-before : goal.returns-in-Path-clause-before
returns-in-Path-clause-before g c =
    stays_before _ _ _ _ (kept_turn c.args.end.now c.in_ok-turn.turn (turn.Path c.in-Path.place) (sym c.in-Path.is ∙ c.unless_past.ensures) (λ e. cc)).1 _ c.take_missing.ensures.goes_on c.take_missing.ensures.there

pub returns-in-End-clause-told : goal.returns-in-End-clause-told
returns-in-End-clause-told g c = λ h root over last st.
    ends_here c.args.further root c.args.self.now c.requires.trim c.in_ok-turn.turn c.in_ok-turn.ensures.base c.in_ok-turn.ensures.next c.requires.orderly c.args.end.now
    (sym c.in-End.is ∙ c.unless_past.ensures) (g.T.Tree.state c.args.store.now) over last st
