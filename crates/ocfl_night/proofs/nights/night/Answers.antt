use Rattle.std.proofs.Common.{◌≡◌, ◌≤◌, ◌++◌, ◌∷◌, ◌∙◌, [], All, Bool, Err, Global, List, None, Option, Vec, ap, inl, inr, length, refl, subst, sym}
use Rattle.std.specs.Prelude.{IsTrue}
use Rattle.ocfl_tree.specs.{Place.{Place, Text}, StorageRoot.{StorageRoot}}
use Rattle.ocfl_item.specs.Judging.{HasShortFiles}
use Rattle.ocfl_rules.specs.Parts.{Part}
use Rattle.ocfl_state.specs.Content.{Closed, Content}
use Rattle.ocfl_night.specs.{Again.{IsLittleAgain}, Done.{Done, done_of}, Leaving.{has_end}, Sound.{IsSafeNight}, Site.{IsOfStore, part_at}}
use Rattle.ocfl_night.specs.Looks.{Counts, IsOneOf, Known, Rounds, look_between, of_any}
use Rattle.ocfl_scrub.specs.Starting.{part_of}
use Rattle.ocfl_night.specs.{Beginning.{Position, StandsAt}, Ending.{cycle_of, ended_by}, Sound.{IsAt, IsKept, IsOneMore, IsReady}, Steps.{IsNotBegun}}
use Rattle.ocfl_terms.specs.Output.{HasFailed}
use Rattle.ocfl_night.specs.declared.nights.Begun.{Begun}
use Rattle.ocfl_night.specs.Stopping.{ForNight, ForRuns, IsGiven, IsUnlooked, TellsKept, course}
use Rattle.ocfl_night.proofs.Beginnings.{one_more_since, refused_still, shut_since, still_on}
use Rattle.ocfl_night.proofs.{Moments.{leaves_weaker}, Runs.{left_so, made_from, made_so}}
use Rattle.ocfl_night.proofs.Looks.{counts_on, last_of}
use Rattle.ocfl_night.proofs.Heard.{heard_through, on_ok, ready_since, since_sound, said_since}
use Rattle.ocfl_night.proofs.Halting.{counts_failed, failed_first}
use Rattle.ocfl_night.proofs.{Foreigners.{of_store}, Newest.{newest}}
use Rattle.ocfl_night.proofs.Reasons.{ended_troubled, failed_since, night_reason, opened_reason, stopped_reason, unbegun_reason, unbegun_troubled}
use Rattle.ocfl_night.specs.Reading.{AreBeyond, IsReadTo, content_since, reached}
use Rattle.ocfl_terms.specs.declared.plan.Halt.{Halt}
use Rattle.ocfl_night.proofs.Reading.{in_order, night_beyond, night_read, none_beyond, unbegun_order}
use Rattle.ocfl_night.proofs.nights.night.Given as given
use Rattle.ocfl_night.proofs.nights.night.Goals.{After-make_runs-through}
use Rattle.ocfl_night.proofs.nights.night.Goals as goal
use Rattle.ocfl_report.specs.declared.further.Further.{Further}

abbrev rounds_over : Further → Part → Option Known → Rounds
rounds_over further part known = record { part = part; further = further; known = known }

-- its runs check what the night does, and are over its part
checks : (g : given.Over) (c : After-make_runs-through g) → c.in-Ok.begun.checkpoint.cursor.further ≡ c.args.site.now.further
checks g c = c.in-Ok.ensures.own.own.checks

alike : (g : given.Over) (c : After-make_runs-through g) (known : Option Known)
    → rounds_over c.in-Ok.begun.checkpoint.cursor.further (part_of c.in-Ok.begun.part) known ≡ rounds_over c.args.site.now.further (part_at c.args.site.now.ends) known
alike g c known =
    ap (λ (f : Further). rounds_over f (part_of c.in-Ok.begun.part) known) (checks g c) ∙ ap (λ (p : Part). rounds_over c.args.site.now.further p known) c.in-Ok.ensures.part

-- what a night promises that was begun
module _ (g : given.Over) (c : After-make_runs-through g) (tells : IsTrue g.T.Tree.told) (root : StorageRoot) (over : (g.T.Tree.state c.args.tree.now).tree ≡ root) (short : HasShortFiles root) where
  set_out_counts : Counts (g.T.Tree.state c.args.tree.now) (g.T.Tree.state c.set_out.new.tree)
  set_out_counts = c.set_out.ensures.counts tells root over short

  runs_count : Counts (g.T.Tree.state c.set_out.new.tree) (g.T.Tree.state c.make_runs-through.new.tree)
  runs_count = c.make_runs-through.ensures.counts tells root (c.set_out.ensures.root tells ∙ over) short

  -- what its runs looked at is within what it did
  last_at : (known : Option Known) → IsOneOf known (look_between c.args.site.now.further root (g.T.Tree.state c.args.tree.now) (g.T.Tree.state c.make_runs-through.new.tree))
      → IsOneOf known (look_between c.in-Ok.begun.checkpoint.cursor.further root (g.T.Tree.state c.set_out.new.tree) (g.T.Tree.state c.make_runs-through.new.tree))
  last_at known one =
      subst (λ (f : Further). IsOneOf known (look_between f root (g.T.Tree.state c.set_out.new.tree) (g.T.Tree.state c.make_runs-through.new.tree))) (sym (checks g c))
      (last_of c.args.site.now.further root known set_out_counts runs_count one)

  heard : IsTrue g.S.StateFolder.told
      → IsSafeNight g.S.StateFolder c.args.site.now.further (part_at c.args.site.now.ends) (look_between c.args.site.now.further root (g.T.Tree.state c.args.tree.now) (g.T.Tree.state c.make_runs-through.new.tree)) c.args.folder.now c.make_runs-through.new.folder (g.O.Output.said c.args.out.now) (g.O.Output.said c.make_runs-through.new.out)
  heard told known one kept =
      let rounds = rounds_over c.args.site.now.further (part_at c.args.site.now.ends) known in
      let same = alike g c known in
      let r = c.in-Ok.ensures.ready told rounds refl kept in
      let last = last_at known one in
      let runs = c.make_runs-through.ensures.heard told tells root (c.set_out.ensures.root tells ∙ over) short known last (said_since same r) (ready_since same r) in
      heard_through same r (c.set_out.ensures.heard told rounds refl kept) c.make_runs-through.ensures.grew runs

pub returns : goal.returns
returns g c =
    let at = (goal.at.returns g c).After-make_runs-through in
    let part = of_any c.args.site.now.further (part_at c.args.site.now.ends) in
    let same = alike g at None in
    let runs = c.make_runs-through in
    let s = g.S.StateFolder.seen in
    let left = runs.ensures.left (c.none-tally.ensures.left c.args.plan.now.stop_at_faults) in
    record {
      any_moment = λ told tells root over short known one kept. leaves_weaker (λ x h. since_sound h) (heard g at tells root over short told known one kept);
      kept = λ told tells root over short known one kept d left.
          let there = heard g at tells root over short told known one kept in
          since_sound (there.each d (g.met.S.StateFolder.counts_now told runs.new.folder (g.S.StateFolder.moment c.args.folder.now) d there.later left));
      heard = λ told tells root over short known one. heard g at tells root over short told known one;
      root = λ tells root over short. runs.ensures.root tells root (c.set_out.ensures.root tells ∙ over) short;
      counts = λ tells root over short. counts_on (set_out_counts g at tells root over short) (runs_count g at tells root over short);
      beyond = λ told tells root over short.
          night_beyond c.args.site.now.further root (set_out_counts g at tells root over short) (runs_count g at tells root over short) (c.set_out.ensures.content tells root over short) (c.in-Ok.ensures.begins told)
          (subst (λ (f : Further). AreBeyond (reached c.in-Ok.begun.checkpoint) (content_since f root (g.T.Tree.state c.set_out.new.tree) (g.T.Tree.state runs.new.tree))) (checks g at)
          (runs.ensures.beyond (c.in-Ok.ensures.declares tells root over) tells root (c.set_out.ensures.root tells ∙ over) short));
      read = λ told tells root over short kept order.
          let all = runs.ensures.read told (c.in-Ok.ensures.declares tells root over) tells root (c.set_out.ensures.root tells ∙ over) short _ (ready_since same (c.in-Ok.ensures.ready told part refl kept)) in
          night_read c.args.site.now.further root (set_out_counts g at tells root over short) (runs_count g at tells root over short) (c.set_out.ensures.content tells root over short) (c.in-Ok.ensures.begins told)
          (subst (λ (f : Further). IsReadTo (g.T.Tree.state c.set_out.new.tree) (g.T.Tree.state runs.new.tree) (reached c.in-Ok.begun.checkpoint) c.account-2.result.end (s runs.new.folder) (content_since f root (g.T.Tree.state c.set_out.new.tree) (g.T.Tree.state runs.new.tree))) (checks g at)
          (in_order (λ (h : Halt). IsReadTo (g.T.Tree.state c.set_out.new.tree) (g.T.Tree.state runs.new.tree) (reached c.in-Ok.begun.checkpoint) h (s runs.new.folder) (content_since c.in-Ok.begun.checkpoint.cursor.further root (g.T.Tree.state c.set_out.new.tree) (g.T.Tree.state runs.new.tree)))
          runs.result (c.account-2.ensures.end ∙ c.ended.ensures.is) all order));
      said = λ told tells root over short kept well other.
          on_ok runs.result (c.ended.ensures.said (λ why is. well why (c.account-2.ensures.end ∙ is))) (runs.ensures.said told tells root (c.set_out.ensures.root tells ∙ over) short _ (ready_since same (c.in-Ok.ensures.ready told part refl kept)));
      refused = λ told why is. absurd (runs.ensures.unrefused why (c.ended.ensures.refused why (sym c.account-2.ensures.end ∙ is)));
      rightly = λ told why is. absurd (runs.ensures.unrefused why (c.ended.ensures.refused why (sym c.account-2.ensures.end ∙ is)));
      barred = λ told barred. absurd (cc (c.in-Ok.ensures.barred told barred).0);
      newest = λ told rounds kept cycle is. absurd (runs.ensures.unrefused _ (c.ended.ensures.refused _ (sym c.account-2.ensures.end ∙ is)));
      lost = λ told k at lost well other. subst (λ (b : Bool). IsTrue b) (sym c.account-2.ensures.lost) (c.in-Ok.ensures.lost told k at lost);
      lost_only = λ told is. c.set_out.ensures.lost_only told refl (sym c.account-2.ensures.lost ∙ is);
      ended = λ told tells root over short known one kept cycle is.
          let rounds = rounds_over c.args.site.now.further (part_at c.args.site.now.ends) known in
          let last = last_at g at tells root over short known one in
          let ready = c.in-Ok.ensures.ready told rounds refl kept in
          one_more_since (c.in-Ok.ensures.closed told) (λ shut. shut_since (c.in-Ok.ensures.begins told) ready.heard.ready.at (c.in-Ok.ensures.closed told) shut)
          (subst (λ (p : Rounds). IsOneMore p cycle (s c.set_out.new.folder) (s runs.new.folder)) (alike g at known)
          (runs.ensures.ended told tells root (c.set_out.ensures.root tells ∙ over) short known last _ (ready_since (alike g at known) ready) cycle (c.ended.ensures.ended cycle (sym c.account-2.ensures.end ∙ is))));
      goes_on = λ told well other.
          still_on runs.result (c.ended.ensures.said (λ why is. well why (c.account-2.ensures.end ∙ is))) (runs.ensures.goes_on told) (c.account-2.ensures.end ∙ c.ended.ensures.is) other ∙ c.in-Ok.ensures.closed told;
      whole = λ told tells root over short kept cycle is d come.
          let come_then = come ∙ ap (λ (l : List Closed). l ++ d ∷ []) (sym (c.in-Ok.ensures.closed told)) in
          let fits = runs.ensures.whole told tells root (c.set_out.ensures.root tells ∙ over) short _ (ready_since same (c.in-Ok.ensures.ready told part refl kept)) cycle (c.ended.ensures.ended cycle (sym c.account-2.ensures.end ∙ is)) d come_then in
          let begun = c.in-Ok.ensures.whole told in
          let none = ap (λ (x : Done). x.left) c.none-tally.ensures.nothing in
          let now = ap (λ (v : Vec Place Global). v.items) c.account-2.ensures.left in (
            (λ it. let all = fits.0 it in let both = begun.0 all.0 in record { before = both.1; lost = c.account-2.ensures.lost ∙ both.0; left = now ∙ all.1 ∙ none }),
            (λ all. fits.1 (begun.1 (sym c.account-2.ensures.lost ∙ all.lost, all.before), sym now ∙ all.left ∙ sym none)),
          );
      troubled = λ why is.
          let err = ended_troubled runs.result why (sym (c.account-2.ensures.end ∙ c.ended.ensures.is) ∙ is) runs.ensures.untroubled in
          let may = c.none-tally.ensures.left c.args.plan.now.stop_at_faults in
          let there = (t : Text) × IsReady g.S.StateFolder (of_any c.in-Ok.begun.checkpoint.cursor.further (part_of c.in-Ok.begun.part)) t c.in-Ok.begun.checkpoint c.set_out.new.folder in
          let ready = IsGiven g.S.StateFolder.told g.T.Tree.told (g.T.Tree.state c.set_out.new.tree) there in
          let kept = IsGiven g.S.StateFolder.told g.T.Tree.told (g.T.Tree.state c.args.tree.now) (IsKept g.S.StateFolder part c.args.folder.now) in
          let silenced = HasFailed (g.O.Output.said c.set_out.new.out).failures (g.O.Output.said runs.new.out).failures in
          night_reason ready kept silenced (IsUnlooked g.T.Tree.told (g.T.Tree.state c.args.tree.now) (g.T.Tree.state runs.new.tree)) (IsOfStore g.T.Tree.told (g.T.Tree.state c.args.tree.now) c.args.site.now) (course c.args.site.now.further c.args.plan.now.create (s c.args.folder.now) c.account-2.result.runs (g.O.Output.said c.args.out.now) (g.O.Output.said runs.new.out)) c.in-Ok.begun.checkpoint runs.new.tally.runs _ (g.S.StateFolder.faults c.set_out.new.folder) _ why
          (λ l alike. of_store alike c.in-Ok.ensures.own)
          (λ at. record {
            folder = at.folder;
            store = at.store;
            short = subst (λ (x : StorageRoot). HasShortFiles x) (sym (c.set_out.ensures.root at.store)) at.short;
            holds = (_, ready_since same (c.in-Ok.ensures.ready at.folder part refl at.holds));
          })
          (λ at. c.in-Ok.ensures.stop (at.folder, (part, (refl, at.holds))))
          (λ at. c.in-Ok.ensures.begins at.folder)
          (failed_since c.set_out.ensures.grew.failures) (sym c.account-2.ensures.runs)
          (stopped_reason ready (ForRuns silenced c.in-Ok.begun.checkpoint runs.new.tally.runs) _ _ runs.result why err (runs.ensures.stop may));
      few = subst (λ (v : Vec Place Global). length v.items ≤ 16) (sym c.account-2.ensures.left) left.few;
      none_left = λ strict. subst (λ (v : Vec Place Global). v.items ≡ []) (sym c.account-2.ensures.left) (left.none strict);
      ends = subst (λ (v : Vec Place Global). All (λ b. IsTrue (has_end b)) v.items) (sym c.account-2.ensures.left) left.ends;
      again = λ told folder_told tells root over short kept.
          let mine = runs.ensures.again told folder_told (c.in-Ok.ensures.declares tells root over) tells root (c.set_out.ensures.root tells ∙ over) short (c.in-Ok.ensures.declared tells root over) _ (ready_since same (c.in-Ok.ensures.ready folder_told part refl kept)) in
          inr (record {
            start = c.in-Ok.begun.checkpoint;
            begins = c.in-Ok.ensures.begins folder_told;
            there = g.T.Tree.state c.set_out.new.tree;
            looked = record { counts = set_out_counts g at tells root over short; content = c.set_out.ensures.content tells root over short; only = c.set_out.ensures.looks tells root over short };
            little = subst (λ (p : Part). IsLittleAgain root p g.S.StateFolder (cycle_of c.in-Ok.begun.checkpoint) (g.C.Clock.events c.args.clock.now) (g.C.Clock.events runs.new.clock) (g.T.Tree.state c.set_out.new.tree) (g.T.Tree.state runs.new.tree) runs.new.folder) c.in-Ok.ensures.part mine;
          });
      failed = λ told tells root over short. failed_first (set_out_counts g at tells root over short) (runs.ensures.failed told tells root (c.set_out.ensures.root tells ∙ over) short);
      told = λ told. inl (record {
        start = c.in-Ok.begun.checkpoint;
        begins = c.in-Ok.ensures.begins;
        done = done_of runs.new.tally;
        runs = made_from (λ (p : Position). IsTrue g.S.StateFolder.told → StandsAt (s runs.new.folder) p) c.args.plan.now (g.C.Clock.events c.args.clock.now) (g.C.Clock.events runs.new.clock) (done_of runs.new.tally) c.in-Ok.begun.checkpoint c.none-tally.ensures.nothing (c.account-2.ensures.end ∙ c.ended.ensures.is)
            (made_so (λ d k last is. left_so (λ (p : Position). IsTrue g.S.StateFolder.told → IsAt c.in-Ok.begun.checkpoint (s c.set_out.new.folder) → StandsAt (s runs.new.folder) p) (λ (p : Position). IsTrue g.S.StateFolder.told → StandsAt (s runs.new.folder) p)
            c.args.plan.now (ended_by runs.result) (done_of runs.new.tally) d k last (λ p stands tells. stands tells (c.in-Ok.ensures.at tells)) is) (runs.ensures.told told));
        begun = c.account-2.ensures.runs;
        left = ap (λ (v : Vec Place Global). v.items) c.account-2.ensures.left;
      });
    }

-- it was not begun
pub returns-in-Err : goal.returns-in-Err
returns-in-Err g c =
    let part = part_at c.args.site.now.ends in
    let left = c.none-tally.ensures.left c.args.plan.now.stop_at_faults in
    record {
      any_moment = λ told tells root over short known one kept. leaves_weaker (λ x h. since_sound h) (c.set_out.ensures.heard told (rounds_over c.args.site.now.further part known) refl kept);
      kept = λ told tells root over short known one kept d left.
          let there = c.set_out.ensures.heard told (rounds_over c.args.site.now.further part known) refl kept in
          since_sound (there.each d (g.met.S.StateFolder.counts_now told c.set_out.new.folder (g.S.StateFolder.moment c.args.folder.now) d there.later left));
      heard = λ told tells root over short known one kept. c.set_out.ensures.heard told (rounds_over c.args.site.now.further part known) refl kept;
      root = λ tells root over short. c.set_out.ensures.root tells ∙ over;
      counts = λ tells root over short. c.set_out.ensures.counts tells root over short;
      beyond = λ told tells root over short k at. none_beyond (c.set_out.ensures.content tells root over short);
      read = λ told tells root over short kept order. absurd (unbegun_order _ (subst IsNotBegun (sym c.account.ensures.end) c.unbegun.ensures.not_begun) order);
      said = λ told tells root over short kept well unrefused. absurd (c.unbegun.ensures.said (λ why is. well why (c.account.ensures.end ∙ is)) (λ why is. unrefused why (c.account.ensures.end ∙ is)));
      refused = λ told why is. c.in-Err.ensures.refused told why (ap Err (c.unbegun.ensures.refused why (sym c.account.ensures.end ∙ is)));
      rightly = λ told why is. c.in-Err.ensures.rightly told why (ap Err (c.unbegun.ensures.refused why (sym c.account.ensures.end ∙ is)));
      barred = λ told barred. (subst IsNotBegun (sym c.account.ensures.end) c.unbegun.ensures.not_begun, (c.set_out.ensures.barred told barred).1);
      newest = λ told rounds kept cycle is. newest rounds (kept _ (g.met.S.StateFolder.stays told c.args.folder.now)) (c.in-Err.ensures.rightly told _ (ap Err (c.unbegun.ensures.refused _ (sym c.account.ensures.end ∙ is))));
      lost_only = λ told is. c.set_out.ensures.lost_only told refl (sym c.account.ensures.lost ∙ is);
      lost = λ told k at lost well unrefused. absurd (c.unbegun.ensures.said (λ why is. well why (c.account.ensures.end ∙ is)) (λ why is. unrefused why (c.account.ensures.end ∙ is)));
      ended = λ told tells root over short known one kept cycle is. absurd (subst IsNotBegun (sym c.account.ensures.end ∙ is) c.unbegun.ensures.not_begun);
      whole = λ told tells root over short kept cycle is d come. absurd (subst IsNotBegun (sym c.account.ensures.end ∙ is) c.unbegun.ensures.not_begun);
      goes_on = λ told well other.
          refused_still c.in-Err.why (c.account.ensures.end ∙ c.unbegun.ensures.is) well (λ why is. ap (λ (x : Content). x.closed) (c.in-Err.ensures.refused told why (ap Err is)));
      troubled = λ why is.
          let troubled = unbegun_troubled c.in-Err.why why (sym (c.account.ensures.end ∙ c.unbegun.ensures.is) ∙ is) in
          let none = c.account.ensures.runs ∙ ap (λ (d : Done). d.runs) c.none-tally.ensures.nothing in
          let unlooked = IsUnlooked g.T.Tree.told (g.T.Tree.state c.args.tree.now) (g.T.Tree.state c.set_out.new.tree) in
          let given = IsGiven g.S.StateFolder.told g.T.Tree.told (g.T.Tree.state c.args.tree.now) (IsKept g.S.StateFolder (of_any c.args.site.now.further part) c.args.folder.now) in
          let kept = TellsKept g.S.StateFolder c.args.site.now.further c.args.folder.now in
          let now = course c.args.site.now.further c.args.plan.now.create (g.S.StateFolder.seen c.args.folder.now) 0 (g.O.Output.said c.args.out.now) (g.O.Output.said c.set_out.new.out) in
          let store = IsOfStore g.T.Tree.told (g.T.Tree.state c.args.tree.now) c.args.site.now in
          unbegun_reason kept given unlooked store c.args.site.now.further c.args.plan.now.create (g.S.StateFolder.seen c.args.folder.now) 0 c.account.result.runs (g.O.Output.said c.args.out.now) (g.O.Output.said c.set_out.new.out) _ _ why
          (λ at. (at.folder, (of_any c.args.site.now.further part, (refl, at.holds)))) (sym none)
          (opened_reason kept (ForNight unlooked store now) _ _ Begun c.in-Err.why why troubled c.in-Err.ensures.stop);
      few = subst (λ (v : Vec Place Global). length v.items ≤ 16) (sym c.account.ensures.left) left.few;
      none_left = λ strict. subst (λ (v : Vec Place Global). v.items ≡ []) (sym c.account.ensures.left) (left.none strict);
      ends = subst (λ (v : Vec Place Global). All (λ b. IsTrue (has_end b)) v.items) (sym c.account.ensures.left) left.ends;
      again = λ told folder_told tells root over short kept.
          inl (record { counts = c.set_out.ensures.counts tells root over short; content = c.set_out.ensures.content tells root over short; only = c.set_out.ensures.looks tells root over short });
      failed = λ told tells root over short. counts_failed (c.set_out.ensures.counts tells root over short);
      told = λ told. inr (record {
        not_begun = subst IsNotBegun (sym c.account.ensures.end) c.unbegun.ensures.not_begun;
        same = refl;
        runs = c.account.ensures.runs ∙ ap (λ (d : Done). d.runs) c.none-tally.ensures.nothing;
        left = ap (λ (v : Vec Place Global). v.items) c.account.ensures.left ∙ ap (λ (d : Done). d.left) c.none-tally.ensures.nothing;
      });
    }
