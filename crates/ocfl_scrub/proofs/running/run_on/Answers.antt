use Rattle.std.proofs.Common.{◌≡◌, false, refl, true, arith, None}
use Rattle.std.specs.Prelude.{IsTrue}
use Rattle.ocfl_tree.specs.StorageRoot.{StorageRoot}
use Rattle.ocfl_item.specs.Judging.{HasShortFiles}
use Rattle.ocfl_cursor.specs.{Cursor.{Cursor}, Moves.{after_run}, State.{state_of}}
use Rattle.ocfl_scrub.specs.{Call.{call_of}, Keeping.{HasOther, IsReady, IsReadyIn, met_in}, Passes.{IsPass}}
use Rattle.ocfl_scrub.specs.{Running.{limits_of, place_in}, Starting.{part_of}}
use Rattle.ocfl_scrub.specs.declared.running.RunStatus.TheVariants as status
use Rattle.ocfl_scrub.specs.declared.stop.ReportStop.TheVariants as halt
use Rattle.ocfl_scrub.proofs.KeptRuns.{PassesWith, made_run, met_item, met_lost, met_none, no_pass, ready_after, ready_given, ready_left, ready_unused, runs_alone, runs_kept, tree_on, used_other, used_ready}
use Rattle.ocfl_scrub.proofs.{KeptTurns.{pass_is}, MeterLaws.{paid_none}, RunLaws.{lent_place, run_counted}}
use Rattle.ocfl_scrub.proofs.TakeLaws.{nothing_written}
use Rattle.ocfl_scrub.proofs.running.run_on.Goals.{After-after_run, in-Ok-Some, in-Ok-None, in-Err-meet}
use Rattle.ocfl_scrub.proofs.running.run_on.Given as given
use Rattle.ocfl_scrub.proofs.running.run_on.Goals as goal

-- the pass, from the item that was met or over none
passed : (g : given.Over) (c : After-after_run g) → IsPass (g.W.Write.contents c.args.out.now) (g.W.Write.contents c.match-meet.out) c.args.limits c.match-meet.last
passed g c =
    let short = c.in-Ok.ensures.begins.short in
    elim c.match-meet.branch [
      | in-Ok-Some w ↦ rw (w.out-is, w.last-is) w.pass_on.ensures.any_store
      | in-Ok-None w ↦ let e = w.no_pass.ensures in
          rw (w.out-is, w.last-is) (no_pass w.no_pass.result _ c.args.limits _ status.Ended short (λ x. cc) (λ x. cc) (pass_is w.no_pass.result _ _ _ _ _ _ e.last e.spent e.files e.found e.end e.met))
      | in-Err-meet w ↦ let e = w.no_pass-in-Err-meet.ensures in
          rw (w.out-is, w.last-is) (no_pass w.no_pass-in-Err-meet.result _ c.args.limits _ (status.Stopped (halt.Fault w.in-Err-meet.why)) short (λ x. cc) (λ x. cc) (pass_is w.no_pass-in-Err-meet.result _ _ _ _ _ _ e.last e.spent e.files e.found e.end e.met))
    ]

-- what it does on a store that tells its tree, if the walk that it uses is ready
passes : (g : given.Over) (c : After-after_run g) → IsTrue g.T.Tree.told → (root : StorageRoot) → (g.T.Tree.state c.args.store.now).tree ≡ root → HasShortFiles root
    → IsReadyIn c.args.cursor.further root (part_of c.args.part.now) c.in-Ok.begun.1 c.used-met.result
    → PassesWith (call_of c.args.cursor.further root (g.T.Tree.state c.args.store.now) (g.T.Tree.state c.match-meet.store) (g.W.Write.contents c.args.out.now) (g.W.Write.contents c.match-meet.out))
    (part_of c.args.part.now) (met_in c.used-met.result) c.in-Ok.begun.1 (limits_of c.args.limits) c.match-meet.last
passes g c told root over short given =
    let further = c.args.cursor.further in
    let part = part_of c.args.part.now in
    let limits = limits_of c.args.limits in
    let met = rw (c.further-further.ensures, lent_place _ _ c.as_ref.ensures.value) at (c.meet.ensures told root over) in
    elim c.match-meet.branch [
      | in-Ok-Some w ↦ rw (w.store-is, w.out-is, w.last-is)
          (met_item further root part _ _ _ _ _ limits _ c.used-met.result w.in-Ok-Some.met w.pass_on.result over given (rw (w.in-Ok-Some.is, w.in-Ok-Some.field-0-is) at met) (λ same. w.pass_on.ensures.told further told root same short))
      | in-Ok-None w ↦ let e = w.no_pass.ensures in
          rw (w.store-is, w.out-is, w.last-is)
          (met_none further root part _ _ _ _ _ limits c.used-met.result w.no_pass.result (rw (w.in-Ok-None.is, w.in-Ok-None.field-0-is) at met) (pass_is w.no_pass.result _ _ _ _ _ _ e.last e.spent e.files e.found e.end e.met) refl)
      | in-Err-meet w ↦ let e = w.no_pass-in-Err-meet.ensures in
          rw (w.store-is, w.out-is, w.last-is)
          (met_lost further root part _ _ _ _ _ limits c.used-met.result w.in-Err-meet.why w.no_pass-in-Err-meet.result (rw w.in-Err-meet.is at met)
          (pass_is w.no_pass-in-Err-meet.result _ _ _ _ _ _ e.last e.spent e.files e.found e.end e.met) refl)
    ]

-- the walk that it uses is the one that is kept, if that is ready
used_kept : (g : given.Over) (c : After-after_run g) (root : StorageRoot) → IsReady c.args.cursor.further root (part_of c.args.part.now) (place_in c.args.cursor.state) c.args.kept.now
    → c.used-met.result ≡ c.args.kept.now.met
used_kept g c root ready =
    used_ready c.args.cursor.further root (part_of c.args.part.now) _ c.args.kept.now _ _ _ c.further-further.ensures c.take.ensures.value c.used-met.ensures.same ready

kept_given : (g : given.Over) (c : After-after_run g) (root : StorageRoot) → IsReady c.args.cursor.further root (part_of c.args.part.now) (place_in c.args.cursor.state) c.args.kept.now
    → IsReadyIn c.args.cursor.further root (part_of c.args.part.now) c.in-Ok.begun.1 c.used-met.result
kept_given g c root ready = ready_given c.args.cursor.further root (part_of c.args.part.now) c.args.cursor _ _ c.in-Ok.ensures.begins c.args.kept.now _ (used_kept g c root ready) ready

-- and none if it is of an audit with the other option
used_none : (g : given.Over) (c : After-after_run g) (root : StorageRoot) → HasOther c.args.cursor.further c.args.kept.now.met → c.used-met.result ≡ None
used_none g c root other =
    used_other c.args.cursor.further root (part_of c.args.part.now) c.args.kept.now _ _ _ c.further-further.ensures c.take.ensures.value c.used-met.ensures.other other

none_given : (g : given.Over) (c : After-after_run g) (root : StorageRoot) → HasOther c.args.cursor.further c.args.kept.now.met
    → IsReadyIn c.args.cursor.further root (part_of c.args.part.now) c.in-Ok.begun.1 c.used-met.result
none_given g c root other = ready_unused c.args.cursor.further root (part_of c.args.part.now) _ _ (used_none g c root other)

pub returns-in-Err-clause-any_store : goal.returns-in-Err-clause-any_store
returns-in-Err-clause-any_store g c =
    let worn = c.in-Err.ensures.worn in
    record {
      worn = (λ e. worn.0, λ e. refl);
      worn_cursor = λ e. worn.1;
      worn_figures = λ e. (refl, refl, refl);
      worn_silent = λ e. (refl, refl);
      cursor = λ n. absurd (n refl);
      paid = paid_none (limits_of c.args.limits);
      overrun = omega arith;
      lines = λ n. nothing_written (g.W.Write.contents c.args.out.now);
    }

pub unreachable-requires : goal.unreachable-requires
unreachable-requires g c =
    let b = c.in-Ok.ensures.begins in
    let p = passed g (goal.at.unreachable-requires g c).After-after_run in
    let e : false ≡ true = c.in-None.ensures.keeps.1 (run_counted _ _ _ _ _ b.keeps b.room p.fits p.paid c.left_state-left.ensures.short) in
    cc

pub returns-clause-any_store : goal.returns-clause-any_store
returns-clause-any_store g c =
    made_run g.W.Write.contents c.args.store.now c.match-meet.store c.args.out.now c.match-meet.out c.args.cursor _ _ c.args.limits c.match-meet.last
    c.in-Ok.ensures.begins (passed g (goal.at.returns-clause-any_store g c).After-after_run) _ _ c.in-Some.ensures.value c.left_state-left.ensures.state

pub returns-clause-told : goal.returns-clause-told
returns-clause-told g c told root over short worked ready =
    let at = (goal.at.returns-clause-told g c).After-after_run in
    runs_kept c.args.cursor.further root (part_of c.args.part.now) _ _ _ _ _ (limits_of c.args.limits) c.args.kept.now _ (used_kept g at root ready) c.match-meet.last c.args.cursor _ c.in-Ok.ensures.begins
    (passes g at told root over short (kept_given g at root ready)) _ _ c.in-Some.ensures.value c.left_state-left.ensures.state

pub returns-clause-root : goal.returns-clause-root
returns-clause-root g c told root over short ready =
    let at = (goal.at.returns-clause-root g c).After-after_run in
    tree_on c.args.cursor.further root (part_of c.args.part.now) _ _ _ _ _ (limits_of c.args.limits) _ c.match-meet.last over (passes g at told root over short (kept_given g at root ready))

pub returns-clause-other : goal.returns-clause-other
returns-clause-other g c told root over short worked other =
    let at = (goal.at.returns-clause-other g c).After-after_run in
    runs_alone c.args.cursor.further root (part_of c.args.part.now) _ _ _ _ _ (limits_of c.args.limits) _ (used_none g at root other) c.match-meet.last c.args.cursor _ c.in-Ok.ensures.begins
    (passes g at told root over short (none_given g at root other)) _ _ c.in-Some.ensures.value c.left_state-left.ensures.state

-- the walk that is left is ready, if the one that was used was
left_ready : (g : given.Over) (c : After-after_run g) → IsTrue g.T.Tree.told → (root : StorageRoot) → (g.T.Tree.state c.args.store.now).tree ≡ root → HasShortFiles root
    → IsReadyIn c.args.cursor.further root (part_of c.args.part.now) c.in-Ok.begun.1 c.used-met.result
    → (reached : Cursor) → reached ≡ after_run c.in-Ok.begun.0 c.match-meet.last.spent c.match-meet.last.files (state_of c.left_state-left.result)
    → IsReadyIn c.args.cursor.further root (part_of c.args.part.now) (place_in reached.state) c.match-meet.last.met
left_ready g c told root over short given reached is =
    let further = c.args.cursor.further in
    let part = part_of c.args.part.now in
    let pass = c.match-meet.last in
    ready_left further root part c.args.cursor _ _ c.in-Ok.ensures.begins reached pass.spent pass.files _ pass.end pass.last pass.met is c.left_state-left.ensures.state (passed g c).unspent
    (ready_after further root part _ _ _ _ _ (limits_of c.args.limits) _ pass (passes g c told root over short given))

pub returns-clause-ready : goal.returns-clause-ready
returns-clause-ready g c told root over short ready =
    let at = (goal.at.returns-clause-ready g c).After-after_run in
    left_ready g at told root over short (kept_given g at root ready) _ c.in-Some.ensures.value

pub returns-clause-other_ready : goal.returns-clause-other_ready
returns-clause-other_ready g c told root over short other =
    let at = (goal.at.returns-clause-other_ready g c).After-after_run in
    left_ready g at told root over short (none_given g at root other) _ c.in-Some.ensures.value

pub returns-clause-spent : goal.returns-clause-spent
returns-clause-spent g c = (passed g (goal.at.returns-clause-spent g c).After-after_run).spent
