use Rattle.std.proofs.Common.{◌≡◌, ◌∙◌, [], ap, refl, sym, subst}
use Rattle.std.proofs.lemmas.Result.{err_from_is_err_and}
use Rattle.ocfl_tree.specs.StorageRoot.{StorageRoot}
use Rattle.ocfl_report.specs.declared.further.Further.{Further}
use Rattle.ocfl_cursor.specs.Cursor.{Cursor}
use Rattle.ocfl_scrub.specs.{Keeping.{IsReady, met_at}, Starting.{part_of}, Running.{limits_of, place_in}}
use Rattle.ocfl_night.proofs.Chains.{begun_checks}
use Rattle.ocfl_night.specs.{Site.{IsStill}}
use Rattle.ocfl_night.proofs.{Extending.{run_ascends, run_beyond, run_counts, run_failed, run_of, run_read, run_took}, Looks.{counts_either, counts_on}}
use Rattle.ocfl_night.proofs.Reading.{beyond_by, beyond_either, content_first_alone, content_same, read_then}
use Rattle.ocfl_night.specs.{Ending.{slice_end}, Halting.{stopped_at}}
use Rattle.ocfl_night.proofs.Halting.{failed_later, unread_sooner}
use Rattle.ocfl_night.proofs.Again.{opened_then, up_either, up_then}
use Rattle.ocfl_night.proofs.Asking.{asked_either, asked_so, looks_none, met_by}
use Rattle.ocfl_night.proofs.slicing.make_run.Goals as goal

pub returns-clause-run : goal.returns-clause-run
returns-clause-run g c = λ tells root over short ready.
    let part = part_of c.args.part.now in
    let s = g.T.Tree.state c.args.tree.now in
    let t = g.T.Tree.state c.run_on-ran.new.store in
    let old = c.new-lines.result.items in
    let new = c.run_on-ran.new.out.items in
    let runs = c.run_on-ran.ensures.told tells root over short c.in_default.ensures.made ready in
    let after = c.look_again.ensures.counts tells root (c.run_on-ran.ensures.root tells root over short ready) short in
    run_of root s t old new part c.args.cursor (limits_of c.args.limits) c.run_on-ran.result (met_at c.args.kept.now) runs after c.new-lines.ensures.items c.in_default.ensures.whole

pub returns-clause-walk : goal.returns-clause-walk
returns-clause-walk g c = λ tells root over short ready.
    let same : c.run_on-ran.result.cursor.further ≡ c.args.cursor.further = ap (λ (x : Cursor). x.further) (c.run_on-ran.ensures.any_store.cursor c.in_default.ensures.made).1 ∙ begun_checks c.args.cursor in
    subst (λ (f : Further). IsReady f root (part_of c.args.part.now) (place_in c.run_on-ran.result.cursor.state) c.run_on-ran.new.kept) (sym same) (c.run_on-ran.ensures.ready tells root over short ready)

pub returns-in-Some-clause-root : goal.returns-in-Some-clause-root
returns-in-Some-clause-root g c = λ tells root over short ready. c.run_on-ran.ensures.root tells root over short ready

pub returns-in_err-look_again-clause-root : goal.returns-in_err-look_again-clause-root
returns-in_err-look_again-clause-root g c = λ tells root over short ready. c.look_again.ensures.keeps tells ∙ c.run_on-ran.ensures.root tells root over short ready

pub returns-clause-root : goal.returns-clause-root
returns-clause-root g c = λ tells root over short ready. c.look_again.ensures.keeps tells ∙ c.run_on-ran.ensures.root tells root over short ready

pub returns-clause-still : goal.returns-clause-still
returns-clause-still g c = λ tells.
    let t = (g.T.Tree.state c.run_on-ran.new.store).tree in
    subst (λ (x : StorageRoot). IsStill c.args.identity.now x) (sym (c.look_again.ensures.keeps tells)) (c.in_ok-look_again.ensures.still tells t refl)

pub returns-in_err-look_again-clause-counts : goal.returns-in_err-look_again-clause-counts
returns-in_err-look_again-clause-counts g c = λ tells root over short ready.
    let runs = c.run_on-ran.ensures.told tells root over short c.in_default.ensures.made ready in
    let after = c.look_again.ensures.counts tells root (c.run_on-ran.ensures.root tells root over short ready) short in
    counts_on (run_counts root _ _ c.new-lines.result.items c.run_on-ran.new.out.items (part_of c.args.part.now) c.args.cursor (limits_of c.args.limits) c.run_on-ran.result (met_at c.args.kept.now) runs) after

pub returns-clause-counts : goal.returns-clause-counts
returns-clause-counts g c = λ tells root over short ready.
    let runs = c.run_on-ran.ensures.told tells root over short c.in_default.ensures.made ready in
    let after = c.look_again.ensures.counts tells root (c.run_on-ran.ensures.root tells root over short ready) short in
    counts_on (run_counts root _ _ c.new-lines.result.items c.run_on-ran.new.out.items (part_of c.args.part.now) c.args.cursor (limits_of c.args.limits) c.run_on-ran.result (met_at c.args.kept.now) runs) after

pub returns-in-Some-clause-counts : goal.returns-in-Some-clause-counts
returns-in-Some-clause-counts g c = λ tells root over short ready.
    counts_either c.run_on-ran.result.end
    (λ made. run_counts root _ _ c.new-lines.result.items c.run_on-ran.new.out.items (part_of c.args.part.now) c.args.cursor (limits_of c.args.limits) c.run_on-ran.result (met_at c.args.kept.now) (c.run_on-ran.ensures.told tells root over short made ready))
    (λ worn. ap g.T.Tree.state (c.run_on-ran.ensures.any_store.worn_silent worn).0)

pub returns-in-Some-clause-beyond : goal.returns-in-Some-clause-beyond
returns-in-Some-clause-beyond g c = λ declares tells root over short ready.
    beyond_either c.run_on-ran.result.end
    (λ made. run_beyond root _ _ c.new-lines.result.items c.run_on-ran.new.out.items (part_of c.args.part.now) c.args.cursor (limits_of c.args.limits) c.run_on-ran.result (met_at c.args.kept.now) (c.run_on-ran.ensures.told tells root over short made ready))
    (λ worn. content_same c.args.cursor.further root _ _ (ap g.T.Tree.state (c.run_on-ran.ensures.any_store.worn_silent worn).0))

pub returns-in_err-look_again-clause-beyond : goal.returns-in_err-look_again-clause-beyond
returns-in_err-look_again-clause-beyond g c = λ declares tells root over short ready.
    let runs = c.run_on-ran.ensures.told tells root over short c.in_default.ensures.made ready in
    let there = c.run_on-ran.ensures.root tells root over short ready in
    let counts = run_counts root _ _ c.new-lines.result.items c.run_on-ran.new.out.items (part_of c.args.part.now) c.args.cursor (limits_of c.args.limits) c.run_on-ran.result (met_at c.args.kept.now) runs in
    let after = c.look_again.ensures.counts tells root there short in
    let none = c.look_again.ensures.content c.args.cursor.further declares tells root there short in
    beyond_by (content_first_alone c.args.cursor.further root counts after none) (run_beyond root _ _ c.new-lines.result.items c.run_on-ran.new.out.items (part_of c.args.part.now) c.args.cursor (limits_of c.args.limits) c.run_on-ran.result (met_at c.args.kept.now) runs)

pub returns-clause-beyond : goal.returns-clause-beyond
returns-clause-beyond g c = λ declares tells root over short ready.
    let runs = c.run_on-ran.ensures.told tells root over short c.in_default.ensures.made ready in
    let there = c.run_on-ran.ensures.root tells root over short ready in
    let counts = run_counts root _ _ c.new-lines.result.items c.run_on-ran.new.out.items (part_of c.args.part.now) c.args.cursor (limits_of c.args.limits) c.run_on-ran.result (met_at c.args.kept.now) runs in
    let after = c.look_again.ensures.counts tells root there short in
    let none = c.look_again.ensures.content c.args.cursor.further declares tells root there short in
    beyond_by (content_first_alone c.args.cursor.further root counts after none) (run_beyond root _ _ c.new-lines.result.items c.run_on-ran.new.out.items (part_of c.args.part.now) c.args.cursor (limits_of c.args.limits) c.run_on-ran.result (met_at c.args.kept.now) runs)

pub returns-clause-read : goal.returns-clause-read
returns-clause-read g c = λ declares tells root over short ready.
    let runs = c.run_on-ran.ensures.told tells root over short c.in_default.ensures.made ready in
    let there = c.run_on-ran.ensures.root tells root over short ready in
    let counts = run_counts root _ _ c.new-lines.result.items c.run_on-ran.new.out.items (part_of c.args.part.now) c.args.cursor (limits_of c.args.limits) c.run_on-ran.result (met_at c.args.kept.now) runs in
    let after = c.look_again.ensures.counts tells root there short in
    let none = c.look_again.ensures.content c.args.cursor.further declares tells root there short in
    read_then c.args.cursor.further root counts after none (run_read root _ _ c.new-lines.result.items c.run_on-ran.new.out.items (part_of c.args.part.now) c.args.cursor (limits_of c.args.limits) c.run_on-ran.result (met_at c.args.kept.now) runs c.in_default.ensures.made c.in_default.ensures.whole)

pub returns-clause-failed : goal.returns-clause-failed
returns-clause-failed g c = λ tells root over short ready.
    let runs = c.run_on-ran.ensures.told tells root over short c.in_default.ensures.made ready in
    let after = c.look_again.ensures.counts tells root (c.run_on-ran.ensures.root tells root over short ready) short in
    failed_later (g.T.Tree.state c.args.tree.now) (g.T.Tree.state c.run_on-ran.new.store) (g.T.Tree.state c.look_again.new.tree) (stopped_at (slice_end c.run_on-ran.result.end)) after (run_failed root _ _ c.new-lines.result.items c.run_on-ran.new.out.items (part_of c.args.part.now) c.args.cursor (limits_of c.args.limits) c.run_on-ran.result (met_at c.args.kept.now) runs)

pub returns-in_err-look_again-clause-unread : goal.returns-in_err-look_again-clause-unread
returns-in_err-look_again-clause-unread g c = λ tells root over short ready.
    let runs = c.run_on-ran.ensures.told tells root over short c.in_default.ensures.made ready in
    let counts = run_counts root _ _ c.new-lines.result.items c.run_on-ran.new.out.items (part_of c.args.part.now) c.args.cursor (limits_of c.args.limits) c.run_on-ran.result (met_at c.args.kept.now) runs in
    let after = c.in_err-look_again.ensures.unread tells root (c.run_on-ran.ensures.root tells root over short ready) short in
    let p = err_from_is_err_and c.from_residual.result c.from_residual.ensures.1 in
    unread_sooner (g.T.Tree.state c.args.tree.now) (g.T.Tree.state c.run_on-ran.new.store) (g.T.Tree.state c.look_again.new.tree) c.from_residual.result c.in_err-look_again.field-0.0 (cc (p.1, p.2)) counts after

pub returns-clause-took : goal.returns-clause-took
returns-clause-took g c = λ declares tells root over short ready.
    let runs = c.run_on-ran.ensures.told tells root over short c.in_default.ensures.made ready in
    let there = c.run_on-ran.ensures.root tells root over short ready in
    let counts = run_counts root _ _ c.new-lines.result.items c.run_on-ran.new.out.items (part_of c.args.part.now) c.args.cursor (limits_of c.args.limits) c.run_on-ran.result (met_at c.args.kept.now) runs in
    let after = c.look_again.ensures.counts tells root there short in
    let none = c.look_again.ensures.content c.args.cursor.further declares tells root there short in
    opened_then c.args.cursor.further root counts after none (run_took root _ _ c.new-lines.result.items c.run_on-ran.new.out.items (part_of c.args.part.now) c.args.cursor (limits_of c.args.limits) c.run_on-ran.result (met_at c.args.kept.now) runs c.in_default.ensures.whole)

pub returns-in-Some-clause-once : goal.returns-in-Some-clause-once
returns-in-Some-clause-once g c = λ declares tells root over short ready.
    up_either c.run_on-ran.result.end
    (λ made. run_ascends root _ _ c.new-lines.result.items c.run_on-ran.new.out.items (part_of c.args.part.now) c.args.cursor (limits_of c.args.limits) c.run_on-ran.result (met_at c.args.kept.now) (c.run_on-ran.ensures.told tells root over short made ready))
    (λ worn. content_same c.args.cursor.further root _ _ (ap g.T.Tree.state (c.run_on-ran.ensures.any_store.worn_silent worn).0))

pub returns-in_err-look_again-clause-once : goal.returns-in_err-look_again-clause-once
returns-in_err-look_again-clause-once g c = λ declares tells root over short ready.
    let runs = c.run_on-ran.ensures.told tells root over short c.in_default.ensures.made ready in
    let there = c.run_on-ran.ensures.root tells root over short ready in
    let counts = run_counts root _ _ c.new-lines.result.items c.run_on-ran.new.out.items (part_of c.args.part.now) c.args.cursor (limits_of c.args.limits) c.run_on-ran.result (met_at c.args.kept.now) runs in
    let after = c.look_again.ensures.counts tells root there short in
    let none = c.look_again.ensures.content c.args.cursor.further declares tells root there short in
    up_then c.args.cursor.further root counts after none (run_ascends root _ _ c.new-lines.result.items c.run_on-ran.new.out.items (part_of c.args.part.now) c.args.cursor (limits_of c.args.limits) c.run_on-ran.result (met_at c.args.kept.now) runs)

pub returns-clause-once : goal.returns-clause-once
returns-clause-once g c = λ declares tells root over short ready.
    let runs = c.run_on-ran.ensures.told tells root over short c.in_default.ensures.made ready in
    let there = c.run_on-ran.ensures.root tells root over short ready in
    let counts = run_counts root _ _ c.new-lines.result.items c.run_on-ran.new.out.items (part_of c.args.part.now) c.args.cursor (limits_of c.args.limits) c.run_on-ran.result (met_at c.args.kept.now) runs in
    let after = c.look_again.ensures.counts tells root there short in
    let none = c.look_again.ensures.content c.args.cursor.further declares tells root there short in
    up_then c.args.cursor.further root counts after none (run_ascends root _ _ c.new-lines.result.items c.run_on-ran.new.out.items (part_of c.args.part.now) c.args.cursor (limits_of c.args.limits) c.run_on-ran.result (met_at c.args.kept.now) runs)

pub returns-clause-asks : goal.returns-clause-asks
returns-clause-asks g c = λ tells root over short ready.
    record { limits = limits_of c.args.limits; old = c.new-lines.result.items; new = c.run_on-ran.new.out.items; ran = c.run_on-ran.result; end = g.T.Tree.state c.run_on-ran.new.store; run = c.run_on-ran.ensures.told tells root over short c.in_default.ensures.made ready; look = c.look_again.ensures.only tells root (c.run_on-ran.ensures.root tells root over short ready) short; gave = refl }

pub returns-in-Some-clause-unmade : goal.returns-in-Some-clause-unmade
returns-in-Some-clause-unmade g c = λ tells root over short ready.
    asked_either c.run_on-ran.result.end
    (λ made. record { limits = limits_of c.args.limits; old = c.new-lines.result.items; new = c.run_on-ran.new.out.items; ran = c.run_on-ran.result; end = g.T.Tree.state c.run_on-ran.new.store; run = c.run_on-ran.ensures.told tells root over short made ready; look = looks_none c.args.identity.now.declarations.items [] (g.T.Tree.state c.run_on-ran.new.store) _ refl; gave = tt })
    (λ worn. ap g.T.Tree.state (c.run_on-ran.ensures.any_store.worn_silent worn).0)

pub returns-in_err-look_again-clause-unmade : goal.returns-in_err-look_again-clause-unmade
returns-in_err-look_again-clause-unmade g c = λ tells root over short ready.
    asked_so (g.T.Tree.state c.look_again.new.tree ≡ g.T.Tree.state c.args.tree.now) c.from_residual.result
    (record { limits = limits_of c.args.limits; old = c.new-lines.result.items; new = c.run_on-ran.new.out.items; ran = c.run_on-ran.result; end = g.T.Tree.state c.run_on-ran.new.store; run = c.run_on-ran.ensures.told tells root over short c.in_default.ensures.made ready; look = c.look_again.ensures.only tells root (c.run_on-ran.ensures.root tells root over short ready) short; gave = tt })

pub returns-clause-met : goal.returns-clause-met
returns-clause-met g c = met_by c.run_on-ran.result.end c.run_on-ran.new.kept c.in_default.ensures.made c.in_default.ensures.whole c.run_on-ran.ensures.spent c.run_on-ran.ensures.unspent
