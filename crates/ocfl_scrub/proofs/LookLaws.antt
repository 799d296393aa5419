-- What a call over a part looks at, after the way down to where it begins.
use Rattle.std.proofs.Common.{◌++◌, [], List, Option, None, refl, sym, subst, append-nil, ℕ}
use Rattle.ocfl_tree.specs.{Place.{Place}, StorageRoot.{StorageRoot}, Store.{Store}}
use Rattle.ocfl_tree.specs.declared.store.Opening.{Opening}
use Rattle.ocfl_rules.specs.Parts.{Part}
use Rattle.ocfl_item.specs.{Looking.{IsFront, failed_place}, Auditing.{Audits, Fails}}
use Rattle.ocfl_item.specs.declared.fault.Fault.{Fault}
use Rattle.ocfl_scrub.specs.Types.{ReportStop}
use Rattle.ocfl_item.proofs.AuditingLaws.{audits_fail, audits_on}
use Rattle.ocfl_report.specs.declared.further.Further.{Further}
use Rattle.ocfl_walk.specs.WalkCalls.{GoesDown, GoDownFails}
use Rattle.ocfl_scrub.specs.Call.{call_of}
use Rattle.ocfl_scrub.proofs.WayOrder.{way_is, held_in}
use Rattle.ocfl_scrub.specs.Starting.{FilesLieIn, entry, looked_in, read_in, LooksOver, StopsLooking}
use Rattle.ocfl_scrub.specs.declared.stop.ReportStop.TheVariants as halt
use Rattle.ocfl_scrub.specs.Taking.{stop_place}

module _ (further : Further) (root : StorageRoot) (part : Part) (s t u : Store) (old new : Option (List ℕ)) (from : Option Place) (g : GoesDown further root s t (entry part from)) where
  pub looks_over : (to : Option Place) (done : List Place) (os : List Opening)
      → FilesLieIn further root done (g.listed ++ looked_in root part from to) → Audits further root t u done (looked_in root part from to) (read_in root part from to) os
      → LooksOver (call_of further root s u old new) part from to done (g.trail ++ os)
  looks_over to done os files k = record {
    down = g.listed;
    held = g.heads;
    audits = audits_on further root s t u [] done g.listed (looked_in root part from to) g.heads (read_in root part from to) g.trail os g.audits k;
    down_front = subst (IsFront g.listed) (way_is part from) g.listed_front;
    files_lie = files;
    held_front = subst (IsFront g.heads) (held_in part from root) g.heads_front;
  }

  unfoldable pub stops_looking : (why : ReportStop) (begun listed heads : List Place) (os : List Opening) → Fails further root t u begun listed heads os (stop_place why)
      → IsFront listed (looked_in root part from None) → IsFront heads (read_in root part from None) → FilesLieIn further root begun (g.listed ++ listed)
      → StopsLooking (call_of further root s u old new) part from begun (g.trail ++ os) why
  stops_looking why begun listed heads os k listed_front heads_front files = record {
    down = g.listed;
    listed = listed;
    held = g.heads;
    heads = heads;
    fails = audits_fail further root s t u [] begun g.listed listed g.heads heads g.trail os _ g.audits k;
    down_front = subst (IsFront g.listed) (way_is part from) g.listed_front;
    listed_front = listed_front;
    held_front = subst (IsFront g.heads) (held_in part from root) g.heads_front;
    heads_front = heads_front;
    files_lie = files;
  }

-- it did not come to where it begins
unfoldable pub stops_above : (further : Further) (root : StorageRoot) (part : Part) (s t : Store) (old new : Option (List ℕ)) (from : Option Place) (why : Fault)
    (g : GoDownFails further root s t (entry part from) why) → StopsLooking (call_of further root s t old new) part from [] g.trail (halt.Fault why)
stops_above further root part s t old new from why g =
    let no_directory : IsFront [] (looked_in root part from None) = (looked_in root part from None, refl) in
    let no_head : IsFront [] (read_in root part from None) = (read_in root part from None, refl) in
    record {
      down = g.listed;
      listed = [];
      held = g.heads;
      heads = [];
      fails = subst (λ ls. Fails further root s t [] ls (g.heads ++ []) g.trail (failed_place why)) (sym (append-nil g.listed)) (subst (λ hs. Fails further root s t [] g.listed hs g.trail (failed_place why)) (sym (append-nil g.heads)) g.fails);
      down_front = subst (IsFront g.listed) (way_is part from) g.listed_front;
      listed_front = no_directory;
      held_front = subst (IsFront g.heads) (held_in part from root) g.heads_front;
      heads_front = no_head;
      files_lie = λ p i h. absurd i;
    }
