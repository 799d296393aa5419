use Rattle.std.proofs.Common.{◌≡◌, ◌∙◌, ◌+◌, ◌-◌, ◌^◌, ap, map, min, subst, sym}
use Rattle.std.specs.Prelude.{is_some}
use Rattle.ocfl_report.specs.Line.{line_of}
use Rattle.ocfl_closed.specs.{Cut.{ClosedState}, Words.{Means, means_of}}
use Rattle.ocfl_closing.specs.Closing.{HasSaid}
use Rattle.ocfl_closing.proofs.Closings.{said_from}
use Rattle.ocfl_closing.proofs.closing.say_closings.Goals as goal

pub returns : goal.returns
returns g c = λ told.
    let state = g.C.ClosingCalls.state in
    let said = g.S.Say.said in
    let by = c.args.said_by.now in
    let means : Means = record { root = by.about.names.root.now; state = by.about.names.state.now; is_part = is_some by.about.names.part; known = by.about.known.now; said = map line_of by.said.now } in
    let searched = c.find_unsaid.ensures.crash told in
    let crash = c.say_cycles-status.ensures.crash told in
    let begun = ap state (sym (ap (λ d. d.calls) c.over-closings.ensures.disk ∙ c.over-disk.ensures.calls)) in
    let ended = ap state (sym (c.into_calls-calls.ensures ∙ ap (λ d. d.calls) c.into_disk.ensures)) in
    let given : means_of c.over-closings.result.with ≡ means = ap means_of c.over-closings.ensures.with ∙ (λ i. record { root = means.root; state = means.state; is_part = c.is_some.ensures i; known = means.known; said = means.said }) in
    let with = c.find_unsaid.ensures.with told ∙ (λ i. (given i, (state c.over-closings.result.disk.calls).files.checkpoint)) in
    let has = said_from means _ by.before by.closed c.find_unsaid.new.first c.max-2.result c.saturating_add-end.result _ _ c.say_cycles-status.result
    (state c.over-closings.result.disk.calls) (state c.find_unsaid.new.closings.disk.calls) (state c.say_cycles-status.new.closings.disk.calls) (said c.args.out.now) (said c.say_cycles-status.new.out)
    (c.find_unsaid.ensures.below told) c.find_unsaid.ensures.within c.max-2.ensures (c.saturating_add-end.ensures ∙ ap (λ n. min (n + 1) (2 ^ 64 - 1)) c.max.ensures) (c.find_unsaid.ensures.seen told) with
    (record { later = searched.later; now = searched.now; meanwhile = searched.meanwhile; keeps = searched.keeps })
    (c.say_cycles-status.ensures.said told)
    (record { later = crash.later; now = crash.now; meanwhile = crash.meanwhile; keeps = crash.keeps })
    c.say_cycles-status.ensures.grew in
    subst (λ (s : ClosedState). HasSaid means by.before by.closed (state c.args.calls) s (said c.args.out.now) (said c.say_cycles-status.new.out) c.say_cycles-status.result) ended
    (subst (λ (s : ClosedState). HasSaid means by.before by.closed s (state c.say_cycles-status.new.closings.disk.calls) (said c.args.out.now) (said c.say_cycles-status.new.out) c.say_cycles-status.result) (sym begun) has)
