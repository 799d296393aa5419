use Rattle.std.specs.Prelude.{◌≡◌, ◌≢◌, IsTrue}
use Rattle.ocfl_tree.specs.StorageRoot.{StorageRoot}
use Rattle.ocfl_item.specs.Judging.{HasShortFiles}
use Rattle.ocfl_scrub.specs.{Call.{call_of}, Running.{RunsFromWithin, limits_of, place_in}, Starting.{part_of}}
use Rattle.ocfl_scrub.specs.declared.running.RunStatus.TheVariants as status
use Rattle.ocfl_scrub.proofs.KeptRuns.{begins_so, cleanly_so, ready_none}
use Rattle.ocfl_scrub.proofs.running.run_part.Goals as goal

pub returns : goal.returns
returns g c =
    let part = part_of c.args.part.now in
    let kept = c.none-kept.result in
    let s = g.T.Tree.state c.args.store.now in
    let t = g.T.Tree.state c.run_on.new.store in
    let old = g.W.Write.contents c.args.out.now in
    let new = g.W.Write.contents c.run_on.new.out in
    let limits = limits_of c.args.limits in
    let further = c.args.cursor.further in
    let runs : IsTrue g.T.Tree.told → (root : StorageRoot) → s.tree ≡ root → HasShortFiles root → c.run_on.result.end ≢ status.Worn → RunsFromWithin (call_of further root s t old new) part c.args.cursor limits c.run_on.result = λ told root over short made.
    begins_so (call_of further root s t old new) part kept c.args.cursor limits c.run_on.result c.none-kept.ensures
    (c.run_on.ensures.told told root over short made (ready_none further root part (place_in c.args.cursor.state) kept c.none-kept.ensures)) in
    record {
      any_store = c.run_on.ensures.any_store;
      told = runs;
      unfailing = λ told root over short same. cleanly_so further root part s t old new c.args.cursor limits c.run_on.result same (runs told root over short);
    }
