use Rattle.std.proofs.Common.{◌∙◌, ◌++◌, ◌∷◌, [], ℕ, List, Option, None, ap, arith, refl, sym, subst}
use Rattle.std.specs.Prelude.{◌≡◌, IfSome, IsTrue}
use Rattle.std.proofs.lemmas.Result.{err_from_is_err_and}
use Rattle.ocfl_scrub.specs.Starting.{part_of}
use Rattle.ocfl_state.specs.{Checkpoint.{Checkpoint}, Content.{Closed, is_closed}}
use Rattle.ocfl_night.specs.{Beginning.{Position, StandsAt}, Looks.{Rounds, of_any}}
use Rattle.ocfl_tree.specs.Place.{Text}
use Rattle.ocfl_night.specs.{Done.{done_of}, Ending.{cycle_of}, Sound.{IsAt, IsOneMore, IsReady}, Stopping.{ForRuns, IsGiven}}
use Rattle.ocfl_terms.specs.Output.{HasFailed}
use Rattle.ocfl_night.proofs.Beginnings.{ended_in, none_ended, one_more_since, shut_before}
use Rattle.ocfl_night.proofs.Runs.{halted_so, made_so, troubled_after, troubled_in}
use Rattle.ocfl_night.proofs.{Moments.{joined_moments}, Heard.{grows_none, said_on, silent}}
use Rattle.ocfl_night.proofs.Whole.{closing_by, come_whole, grown_whole, said_whole}
use Rattle.ocfl_night.proofs.Reasons.{close_reason, put_closed, put_on, put_self, speak_reason, stops_at}
use Rattle.ocfl_night.proofs.Reading.{read_to}
use Rattle.ocfl_night.proofs.Again.{little_on}
use Rattle.ocfl_night.proofs.nights.make_runs.Goals as goal

pub returns-in_err-last-clause-heard : goal.returns-in_err-last-clause-heard
returns-in_err-last-clause-heard g c = λ told tells root over short known one t r.
    silent (c.runs.ensures.any_moment told tells root over short known one t r)

pub returns-in_err-said-clause-heard : goal.returns-in_err-said-clause-heard
returns-in_err-said-clause-heard g c = λ told tells root over short known one t r.
    let rounds : Rounds = record { part = part_of c.args.part.now; further = c.args.checkpoint.cursor.further; known = known } in
    let ready = c.in_ok-last.ensures.ready told tells root over short known one t r in
    joined_moments (silent (c.runs.ensures.any_moment told tells root over short known one t r)) (c.speak.ensures.heard told rounds t ready)

pub returns-in_err-ended-clause-heard : goal.returns-in_err-ended-clause-heard
returns-in_err-ended-clause-heard g c = λ told tells root over short known one t r.
    let rounds : Rounds = record { part = part_of c.args.part.now; further = c.args.checkpoint.cursor.further; known = known } in
    let ready = c.in_ok-last.ensures.ready told tells root over short known one t r in
    let said = c.in_ok-said.ensures.ready told rounds t ready in
    said_on said (joined_moments (silent (c.runs.ensures.any_moment told tells root over short known one t r)) (c.speak.ensures.heard told rounds t ready)) (c.finish.ensures.any_moment told rounds (t ++ said.more) said.ready)

pub returns-clause-heard : goal.returns-clause-heard
returns-clause-heard g c = λ told tells root over short known one t r.
    let rounds : Rounds = record { part = part_of c.args.part.now; further = c.args.checkpoint.cursor.further; known = known } in
    let ready = c.in_ok-last.ensures.ready told tells root over short known one t r in
    let said = c.in_ok-said.ensures.ready told rounds t ready in
    said_on said (joined_moments (silent (c.runs.ensures.any_moment told tells root over short known one t r)) (c.speak.ensures.heard told rounds t ready)) (c.finish.ensures.any_moment told rounds (t ++ said.more) said.ready)

pub returns-in_err-last-clause-counts : goal.returns-in_err-last-clause-counts
returns-in_err-last-clause-counts g c = λ tells root over short. c.runs.ensures.counts tells root over short

pub returns-in_err-said-clause-counts : goal.returns-in_err-said-clause-counts
returns-in_err-said-clause-counts g c = λ tells root over short. c.runs.ensures.counts tells root over short

pub returns-in_err-ended-clause-counts : goal.returns-in_err-ended-clause-counts
returns-in_err-ended-clause-counts g c = λ tells root over short. c.runs.ensures.counts tells root over short

pub returns-clause-counts : goal.returns-clause-counts
returns-clause-counts g c = λ tells root over short. c.runs.ensures.counts tells root over short

pub returns-clause-ended : goal.returns-clause-ended
returns-clause-ended g c = λ told tells root over short known one t r cycle is.
    let rounds : Rounds = record { part = part_of c.args.part.now; further = c.args.checkpoint.cursor.further; known = known } in
    let s = g.S.StateFolder.seen in
    let said = c.in_ok-said.ensures.ready told rounds t (c.in_ok-last.ensures.ready told tells root over short known one t r) in
    let closed = c.in_ok-ended.ensures.closed told rounds (t ++ said.more) said.ready in
    let ends = c.halt_after.ensures.ended cycle (cc is) in
    let more = subst (λ (o : Option ℕ). IfSome o (λ n. IsOneMore rounds n (s c.speak.new.folder) (s c.finish.new.folder))) ends closed in
    let same = c.in_ok-said.ensures.closed told ∙ c.in_ok-last.ensures.closed told in
    let it : cycle ≡ cycle_of c.args.checkpoint = ended_in c.in_ok-said.said cycle (sym ends ∙ c.in_ok-ended.ensures.ended) ∙ ap cycle_of c.in_ok-said.ensures.all ∙ c.in_ok-last.ensures.cycle in
    one_more_since same (λ shut. shut_before rounds c.args.checkpoint (s c.args.folder.now) it (subst (λ (l : List Closed). IsTrue (is_closed l cycle)) same shut.closed) r.at r.stands) more

pub returns-clause-goes_on : goal.returns-clause-goes_on
returns-clause-goes_on g c = λ told other.
    c.in_ok-ended.ensures.goes_on told (none_ended c.in_ok-ended.ended c.in_ok-last.pause c.halt_after.ensures.is other) ∙ c.in_ok-said.ensures.closed told ∙ c.in_ok-last.ensures.closed told

pub returns-clause-said : goal.returns-clause-said
returns-clause-said g c = λ told tells root over short t r.
    let rounds = of_any c.args.checkpoint.cursor.further (part_of c.args.part.now) in
    let said = c.in_ok-said.ensures.ready told rounds t (c.in_ok-last.ensures.ready told tells root over short None tt t r) in
    let all = c.in_ok-said.ensures.all in
    c.in_ok-ended.ensures.said told rounds (t ++ said.more) said.ready (ap (λ (x : Checkpoint). x.said) all ∙ sym (ap (λ (x : Checkpoint). x.report.bytes) all))

pub returns-in_err-last-clause-told : goal.returns-in_err-last-clause-told
returns-in_err-last-clause-told g c = λ told.
    let p = err_from_is_err_and c.from_residual.result c.from_residual.ensures.1 in
    made_so (troubled_in (λ (p : Position). IsTrue g.S.StateFolder.told → IsAt c.args.checkpoint (g.S.StateFolder.seen c.args.folder.now) → StandsAt (g.S.StateFolder.seen c.runs.new.folder) p) c.args.plan.now (done_of c.runs.new.tally) p.1) (c.in_err-last.ensures.told told)

pub returns-in_err-said-clause-told : goal.returns-in_err-said-clause-told
returns-in_err-said-clause-told g c = λ told.
    let p = err_from_is_err_and c.from_residual-in_err-said.result c.from_residual-in_err-said.ensures.1 in
    made_so (troubled_after (λ (p : Position). IsTrue g.S.StateFolder.told → IsAt c.args.checkpoint (g.S.StateFolder.seen c.args.folder.now) → StandsAt (g.S.StateFolder.seen c.speak.new.folder) p) c.args.plan.now (done_of c.runs.new.tally) c.in_ok-last.last c.in_ok-last.pause p.1) (c.in_ok-last.ensures.told told)

pub returns-in_err-ended-clause-told : goal.returns-in_err-ended-clause-told
returns-in_err-ended-clause-told g c = λ told.
    let p = err_from_is_err_and c.from_residual-in_err-ended.result c.from_residual-in_err-ended.ensures.1 in
    made_so (troubled_after (λ (p : Position). IsTrue g.S.StateFolder.told → IsAt c.args.checkpoint (g.S.StateFolder.seen c.args.folder.now) → StandsAt (g.S.StateFolder.seen c.finish.new.folder) p) c.args.plan.now (done_of c.runs.new.tally) c.in_ok-last.last c.in_ok-last.pause p.1) (c.in_ok-last.ensures.told told)

pub returns-clause-told : goal.returns-clause-told
returns-clause-told g c = λ told.
    made_so (halted_so (λ (p : Position). IsTrue g.S.StateFolder.told → IsAt c.args.checkpoint (g.S.StateFolder.seen c.args.folder.now) → StandsAt (g.S.StateFolder.seen c.finish.new.folder) p) c.args.plan.now (done_of c.runs.new.tally) c.in_ok-last.last c.in_ok-said.said c.in_ok-last.pause c.in_ok-ended.ended c.in_ok-said.ensures.all c.in_ok-ended.ensures.ended c.halt_after.ensures.is (λ tells at. c.in_ok-ended.ensures.stands tells (c.in_ok-said.ensures.at tells (c.in_ok-last.ensures.at tells at)))) (c.in_ok-last.ensures.told told)

pub returns-clause-whole : goal.returns-clause-whole
returns-clause-whole g c = λ told tells root over short t r cycle is d come.
    let rounds = of_any c.args.checkpoint.cursor.further (part_of c.args.part.now) in
    let said = c.in_ok-said.ensures.ready told rounds t (c.in_ok-last.ensures.ready told tells root over short None tt t r) in
    let ends = closing_by c.in_ok-said.said.phase c.in_ok-said.said.cursor.cycle cycle (sym c.in_ok-ended.ensures.ended ∙ c.halt_after.ensures.ended cycle (cc is)) in
    let closed = c.in_ok-said.ensures.closed told ∙ c.in_ok-last.ensures.closed told in
    let fits = come_whole ends said.ready (c.in_ok-ended.ensures.finished told ends) d (come ∙ ap (λ (l : List Closed). l ++ d ∷ []) (sym closed)) in
    let all = said_whole c.in_ok-last.last c.in_ok-said.ensures.all (grown_whole c.in_ok-last.ensures.leads) in
    ((λ it. all.0 (fits.0 it)), (λ both. fits.1 (all.1 both)))

pub returns-in_err-last-clause-grew : goal.returns-in_err-last-clause-grew
returns-in_err-last-clause-grew g c = grows_none _

pub returns-in_err-said-clause-stop : goal.returns-in_err-said-clause-stop
returns-in_err-said-clause-stop g c = λ may.
    let r = c.from_residual-in_err-said.result in
    let p = err_from_is_err_and r c.from_residual-in_err-said.ensures.1 in
    let why = c.in_err-said.field-0.0 in
    let there = (t : Text) × IsReady g.S.StateFolder (of_any c.args.checkpoint.cursor.further (part_of c.args.part.now)) t c.args.checkpoint c.args.folder.now in
    let given = IsGiven g.S.StateFolder.told g.T.Tree.told (g.T.Tree.state c.args.tree.now) there in
    let silenced = HasFailed (g.O.Output.said c.args.out.now).failures (g.O.Output.said c.speak.new.out).failures in
    stops_at given (ForRuns silenced c.args.checkpoint c.runs.new.tally.runs) _ _ r why (cc (p.1, p.2))
    (speak_reason (IsTrue g.S.StateFolder.told) given silenced c.args.checkpoint c.in_ok-last.last (g.S.StateFolder.seen c.runs.new.folder) (g.O.Output.said c.args.out.now) (g.O.Output.said c.speak.new.out) c.runs.new.tally.runs _ (g.S.StateFolder.faults c.runs.new.folder) _ why
    (put_on c.in_ok-last.ensures.leads.alike c.in_ok-last.ensures.cycle (put_self c.in_ok-last.last refl)) (λ at. at.folder) (λ at. c.in_ok-last.ensures.stop may at)
    (λ at. (of_any c.args.checkpoint.cursor.further (part_of c.args.part.now), (at.holds.0, (c.in_ok-last.ensures.ready at.folder at.store _ refl at.short None tt at.holds.0 at.holds.1).stands)))
    (λ failed. failed) c.in_err-said.ensures.stop)

pub returns-in_err-ended-clause-stop : goal.returns-in_err-ended-clause-stop
returns-in_err-ended-clause-stop g c = λ may.
    let r = c.from_residual-in_err-ended.result in
    let p = err_from_is_err_and r c.from_residual-in_err-ended.ensures.1 in
    let why = c.in_err-ended.field-0.0 in
    let there = (t : Text) × IsReady g.S.StateFolder (of_any c.args.checkpoint.cursor.further (part_of c.args.part.now)) t c.args.checkpoint c.args.folder.now in
    let given = IsGiven g.S.StateFolder.told g.T.Tree.told (g.T.Tree.state c.args.tree.now) there in
    let silenced = HasFailed (g.O.Output.said c.args.out.now).failures (g.O.Output.said c.speak.new.out).failures in
    let all = c.in_ok-said.ensures.all in
    stops_at given (ForRuns silenced c.args.checkpoint c.runs.new.tally.runs) _ _ r why (cc (p.1, p.2))
    (close_reason (IsTrue g.S.StateFolder.told) given silenced c.args.checkpoint c.in_ok-said.said c.runs.new.tally.runs _ (g.S.StateFolder.faults c.speak.new.folder) _ why
    (ap (λ (x : Checkpoint). x.said) all ∙ sym (ap (λ (x : Checkpoint). x.report.bytes) all))
    (λ l is. put_on c.in_ok-last.ensures.leads.alike c.in_ok-last.ensures.cycle (put_closed c.in_ok-last.last all is))
    (λ at. at.folder) (λ at. let a = c.in_ok-last.ensures.stop may at in let b = c.in_ok-said.ensures.stop at.folder in omega arith)
    c.in_err-ended.ensures.stop)

pub returns-in_err-last-clause-beyond : goal.returns-in_err-last-clause-beyond
returns-in_err-last-clause-beyond g c = λ declares tells root over short. c.runs.ensures.beyond declares tells root over short

pub returns-in_err-said-clause-beyond : goal.returns-in_err-said-clause-beyond
returns-in_err-said-clause-beyond g c = λ declares tells root over short. c.runs.ensures.beyond declares tells root over short

pub returns-in_err-ended-clause-beyond : goal.returns-in_err-ended-clause-beyond
returns-in_err-ended-clause-beyond g c = λ declares tells root over short. c.runs.ensures.beyond declares tells root over short

pub returns-clause-beyond : goal.returns-clause-beyond
returns-clause-beyond g c = λ declares tells root over short. c.runs.ensures.beyond declares tells root over short

pub returns-clause-read : goal.returns-clause-read
returns-clause-read g c = λ told declares tells root over short t r order.
    let rounds = of_any c.args.checkpoint.cursor.further (part_of c.args.part.now) in
    let said = c.in_ok-said.ensures.ready told rounds t (c.in_ok-last.ensures.ready told tells root over short None tt t r) in
    let stands = c.in_ok-ended.ensures.stands told said.ready.at in
    read_to c.in_ok-last.last c.in_ok-said.said c.in_ok-ended.ended c.in_ok-last.pause c.in_ok-said.ensures.all c.in_ok-ended.ensures.ended c.halt_after.ensures.is stands (c.in_ok-last.ensures.read declares tells root over short) order

pub returns-in_err-last-clause-again : goal.returns-in_err-last-clause-again
returns-in_err-last-clause-again g c = λ told folder_told declares tells root over short named t r. c.runs.ensures.again told folder_told declares tells root over short named t r

pub returns-in_err-said-clause-again : goal.returns-in_err-said-clause-again
returns-in_err-said-clause-again g c = λ told folder_told declares tells root over short named t r.
    let rounds = of_any c.args.checkpoint.cursor.further (part_of c.args.part.now) in
    let ready = c.in_ok-last.ensures.ready folder_told tells root over short None tt t r in
    let so = c.runs.ensures.again told folder_told declares tells root over short named t r in
    let spoke = little_on so ready.at (λ le. g.met.S.StateFolder.counts_now folder_told c.runs.new.folder (g.S.StateFolder.moment so.left) _ le (g.met.S.StateFolder.stays folder_told c.runs.new.folder)) (c.speak.ensures.crash folder_told rounds t ready) in
    spoke

pub returns-in_err-ended-clause-again : goal.returns-in_err-ended-clause-again
returns-in_err-ended-clause-again g c = λ told folder_told declares tells root over short named t r.
    let rounds = of_any c.args.checkpoint.cursor.further (part_of c.args.part.now) in
    let ready = c.in_ok-last.ensures.ready folder_told tells root over short None tt t r in
    let so = c.runs.ensures.again told folder_told declares tells root over short named t r in
    let spoke = little_on so ready.at (λ le. g.met.S.StateFolder.counts_now folder_told c.runs.new.folder (g.S.StateFolder.moment so.left) _ le (g.met.S.StateFolder.stays folder_told c.runs.new.folder)) (c.speak.ensures.crash folder_told rounds t ready) in
    let said = c.in_ok-said.ensures.ready folder_told rounds t ready in
    little_on spoke said.ready.at (λ le. g.met.S.StateFolder.counts_now folder_told c.speak.new.folder (g.S.StateFolder.moment spoke.left) _ le (g.met.S.StateFolder.stays folder_told c.speak.new.folder)) (c.finish.ensures.crash folder_told rounds (t ++ said.more) said.ready)

pub returns-clause-again : goal.returns-clause-again
returns-clause-again g c = λ told folder_told declares tells root over short named t r.
    let rounds = of_any c.args.checkpoint.cursor.further (part_of c.args.part.now) in
    let ready = c.in_ok-last.ensures.ready folder_told tells root over short None tt t r in
    let so = c.runs.ensures.again told folder_told declares tells root over short named t r in
    let spoke = little_on so ready.at (λ le. g.met.S.StateFolder.counts_now folder_told c.runs.new.folder (g.S.StateFolder.moment so.left) _ le (g.met.S.StateFolder.stays folder_told c.runs.new.folder)) (c.speak.ensures.crash folder_told rounds t ready) in
    let said = c.in_ok-said.ensures.ready folder_told rounds t ready in
    little_on spoke said.ready.at (λ le. g.met.S.StateFolder.counts_now folder_told c.speak.new.folder (g.S.StateFolder.moment spoke.left) _ le (g.met.S.StateFolder.stays folder_told c.speak.new.folder)) (c.finish.ensures.crash folder_told rounds (t ++ said.more) said.ready)
