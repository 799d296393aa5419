use Rattle.std.proofs.Common.{◌≡◌, ◌∙◌, List, ⊎_elim, ap, refl, rules, subst, sym}
use Rattle.ocfl_tree.specs.{Place.{Place, Text, place_cmp}, Ascending.{IsAscending}, StorageRoot.{StorageRoot}, Store.{Store}}
use Rattle.ocfl_cursor.specs.Cursor.{Cursor}
use Rattle.ocfl_scrub.specs.declared.running.RunEnd.{RunEnd}
use Rattle.ocfl_scrub.specs.{Keeping.{IsReady, met_at}, Running.{begun, place_in}, Starting.{part_of}}
use Rattle.ocfl_state.specs.Checkpoint.{Checkpoint}
use Rattle.ocfl_night.specs.{Chain.{part_after}, Ending.{place_or_pause, slice_end}, Looks.{look_between}, Reading.{AreBeyond, HasRead, content_since}, Steps.{IsRun, IsWalkAt}}
use Rattle.ocfl_night.proofs.{Extending.{run_at}, KeptWalks.{walk_from, walk_made}}
use Rattle.ocfl_night.proofs.{Moments.{leaves_weaker, unmoved}, Sound.{ready_sound}, Stopped.{made_stops, unkept_stops}}
use Rattle.ocfl_night.proofs.Reading.{content_none, kept_read, none_beyond, slice_beyond, unkept_read}
use Rattle.ocfl_night.proofs.slicing.slice.Given as given
use Rattle.ocfl_night.proofs.slicing.slice.Goals.{In_ok-rest}
use Rattle.ocfl_night.proofs.Lasting.{unkept_at}
use Rattle.ocfl_night.specs.Halting.{unread_at}
use Rattle.ocfl_night.proofs.Halting.{kept_failed, unkept_failed}
use Rattle.ocfl_night.specs.Again.{GoesOn, TookOrBegan}
use Rattle.ocfl_night.proofs.Again.{goes_next, goes_self, kept_opened, ready_there, unkept_opened, up_none}
use Rattle.ocfl_night.proofs.Asking.{asked_from, kept_asked, kept_no_more, met_kept, met_unkept, nothing_asked, unkept_asked, unkept_no_more, unmade_from}
use Rattle.ocfl_night.proofs.slicing.slice.Goals as goal
use Rattle.ocfl_report.specs.declared.further.Further.{Further}

-- the run is made of what comes after the branches that were left out
rest_is : (g : given.Over) (c : In_ok-rest g) → part_of c.in_ok-rest.rest ≡ part_after (part_of c.args.part.now) c.args.checkpoint.left
rest_is g c = c.in_ok-rest.ensures.next ∙ ap (part_after (part_of c.args.part.now)) (c.as_slice.ensures.value ∙ ap (λ (x : Checkpoint). x.left) c.checkpoint.view_is)

-- and goes on with the walk that is kept
goes_on : (g : given.Over) (c : In_ok-rest g) (root : StorageRoot) → IsWalkAt root (part_of c.args.part.now) c.args.checkpoint c.args.kept.now → IsReady c.in_ok-cursor.cursor.further root (part_of c.in_ok-rest.rest) (place_in c.in_ok-cursor.cursor.state) c.args.kept.now
goes_on g c root walk = walk_from root c.args.kept.now _ (part_of c.args.part.now) c.args.checkpoint _ (rest_is g c) c.in_ok-cursor.ensures walk

-- it checks what the checkpoint's cursor does
checks : (g : given.Over) (c : In_ok-rest g) → c.in_ok-cursor.cursor.further ≡ c.args.checkpoint.cursor.further
checks g c = ap (λ (x : Cursor). x.further) c.in_ok-cursor.ensures

-- so what it opened is known by two names
content_at : (g : given.Over) (c : In_ok-rest g) (Holds : List Place → Type 0) (root : StorageRoot) (s t : Store)
    → Holds (content_since c.in_ok-cursor.cursor.further root s t) → Holds (content_since c.args.checkpoint.cursor.further root s t)
content_at g c Holds root s t h = subst (λ (f : Further). Holds (content_since f root s t)) (checks g c) h

look_at : (g : given.Over) (c : In_ok-rest g) (root : StorageRoot) (s t : Store) (lines : Text) (ran : RunEnd)
    → IsRun (part_of c.in_ok-rest.rest) c.in_ok-cursor.cursor (look_between c.in_ok-cursor.cursor.further root s t) lines ran
    → IsRun (part_of c.in_ok-rest.rest) c.in_ok-cursor.cursor (look_between c.args.checkpoint.cursor.further root s t) lines ran
look_at g c root s t lines ran run =
    subst (λ (f : Further). IsRun (part_of c.in_ok-rest.rest) c.in_ok-cursor.cursor (look_between f root s t) lines ran) (checks g c) run

pub returns-in_err-cursor-clause-any_moment : goal.returns-in_err-cursor-clause-any_moment
returns-in_err-cursor-clause-any_moment g c = λ told tells root over short walk known one t r. unmoved (g.met.S.StateFolder.only_now told) (ready_sound r)

pub returns-in_err-rest-clause-any_moment : goal.returns-in_err-rest-clause-any_moment
returns-in_err-rest-clause-any_moment g c = λ told tells root over short walk known one t r. unmoved (g.met.S.StateFolder.only_now told) (ready_sound r)

pub returns-clause-any_moment : goal.returns-clause-any_moment
returns-clause-any_moment g c = λ told tells root over short walk known one t r.
    let at = (goal.at.returns-clause-any_moment g c).In_ok-rest in
    let made = look_at g at root (g.T.Tree.state c.args.tree.now) (g.T.Tree.state c.make_run.new.tree) c.in-Ok.made.1.items c.in-Ok.made.0 (c.in-Ok.ensures.run tells root over short (goes_on g at root walk)) in
    c.keep.ensures.any_moment told (record { part = part_of c.args.part.now; further = c.args.checkpoint.cursor.further; known = known }) _ one (run_at (rest_is g at) c.in_ok-cursor.ensures (sym c.deref.ensures.value) made) t r

pub returns-clause-ready : goal.returns-clause-ready
returns-clause-ready g c = λ told tells root over short walk known one t r.
    let at = (goal.at.returns-clause-ready g c).In_ok-rest in
    let made = look_at g at root (g.T.Tree.state c.args.tree.now) (g.T.Tree.state c.make_run.new.tree) c.in-Ok.made.1.items c.in-Ok.made.0 (c.in-Ok.ensures.run tells root over short (goes_on g at root walk)) in
    c.keep.ensures.ready told (record { part = part_of c.args.part.now; further = c.args.checkpoint.cursor.further; known = known }) _ one (run_at (rest_is g at) c.in_ok-cursor.ensures (sym c.deref.ensures.value) made) t r

pub returns-in-Err-clause-counts : goal.returns-in-Err-clause-counts
returns-in-Err-clause-counts g c = λ tells root over short walk.
    c.make_run.ensures.counts tells root over short (goes_on g (goal.at.returns-in-Err-clause-counts g c).In_ok-rest root walk)

pub returns-clause-counts : goal.returns-clause-counts
returns-clause-counts g c = λ tells root over short walk.
    c.make_run.ensures.counts tells root over short (goes_on g (goal.at.returns-clause-counts g c).In_ok-rest root walk)

pub returns-in-Err-clause-root : goal.returns-in-Err-clause-root
returns-in-Err-clause-root g c = λ tells root over short walk. c.make_run.ensures.root tells root over short (goes_on g (goal.at.returns-in-Err-clause-root g c).In_ok-rest root walk)

pub returns-clause-root : goal.returns-clause-root
returns-clause-root g c = λ tells root over short walk. c.make_run.ensures.root tells root over short (goes_on g (goal.at.returns-clause-root g c).In_ok-rest root walk)

pub returns-clause-walk : goal.returns-clause-walk
returns-clause-walk g c = λ tells root over short walk.
    let at = (goal.at.returns-clause-walk g c).In_ok-rest in
    walk_made root (part_of c.args.part.now) c.args.checkpoint c.in-Ok.made.0 c.keep.result c.keep.ensures.next c.make_run.new.kept (part_of c.in_ok-rest.rest) (rest_is g at) (c.in-Ok.ensures.walk tells root over short (goes_on g at root walk))

pub returns-in-Err-clause-stops : goal.returns-in-Err-clause-stops
returns-in-Err-clause-stops g c = λ tells root over short walk. unkept_stops root (part_of c.args.part.now) c.args.checkpoint c.unkept.result c.unkept.ensures.unkept

pub returns-clause-stops : goal.returns-clause-stops
returns-clause-stops g c = λ tells root over short walk.
    let at = (goal.at.returns-clause-stops g c).In_ok-rest in
    let made = look_at g at root (g.T.Tree.state c.args.tree.now) (g.T.Tree.state c.make_run.new.tree) c.in-Ok.made.1.items c.in-Ok.made.0 (c.in-Ok.ensures.run tells root over short (goes_on g at root walk)) in
    made_stops root (part_of c.args.part.now) c.args.checkpoint (look_between c.args.checkpoint.cursor.further root (g.T.Tree.state c.args.tree.now) (g.T.Tree.state c.make_run.new.tree)) c.in-Ok.made.0 _ refl (run_at (rest_is g at) c.in_ok-cursor.ensures refl made) c.keep.result c.keep.ensures.next c.keep.ensures.made

pub returns-in-Err-clause-at : goal.returns-in-Err-clause-at
returns-in-Err-clause-at g c = λ told at. unkept_at c.args.checkpoint (g.S.StateFolder.seen c.args.folder.now) c.unkept.result c.unkept.ensures.unkept at

pub returns-in_err-cursor-clause-beyond : goal.returns-in_err-cursor-clause-beyond
returns-in_err-cursor-clause-beyond g c = λ declares tells root over short walk. none_beyond (content_none c.args.checkpoint.cursor.further root (g.T.Tree.state c.args.tree.now))

pub returns-in_err-rest-clause-beyond : goal.returns-in_err-rest-clause-beyond
returns-in_err-rest-clause-beyond g c = λ declares tells root over short walk. none_beyond (content_none c.args.checkpoint.cursor.further root (g.T.Tree.state c.args.tree.now))

pub returns-in-Err-clause-beyond : goal.returns-in-Err-clause-beyond
returns-in-Err-clause-beyond g c = λ declares tells root over short walk.
    slice_beyond c.args.checkpoint c.in_ok-cursor.cursor (search rules) c.in_ok-cursor.ensures (content_at g (goal.at.returns-in-Err-clause-beyond g c).In_ok-rest (AreBeyond (begun c.in_ok-cursor.cursor).state) root (g.T.Tree.state c.args.tree.now) (g.T.Tree.state c.make_run.new.tree) (c.make_run.ensures.beyond declares tells root over short (goes_on g (goal.at.returns-in-Err-clause-beyond g c).In_ok-rest root walk)))

pub returns-clause-beyond : goal.returns-clause-beyond
returns-clause-beyond g c = λ declares tells root over short walk.
    slice_beyond c.args.checkpoint c.in_ok-cursor.cursor (search rules) c.in_ok-cursor.ensures (content_at g (goal.at.returns-clause-beyond g c).In_ok-rest (AreBeyond (begun c.in_ok-cursor.cursor).state) root (g.T.Tree.state c.args.tree.now) (g.T.Tree.state c.make_run.new.tree) (c.make_run.ensures.beyond declares tells root over short (goes_on g (goal.at.returns-clause-beyond g c).In_ok-rest root walk)))

pub returns-in-Err-clause-read : goal.returns-in-Err-clause-read
returns-in-Err-clause-read g c = λ declares tells root over short walk. unkept_read _ _ _ c.args.checkpoint c.unkept.result c.unkept.ensures.unkept

pub returns-clause-read : goal.returns-clause-read
returns-clause-read g c = λ declares tells root over short walk.
    let at = (goal.at.returns-clause-read g c).In_ok-rest in
    let s = g.T.Tree.state c.args.tree.now in
    let t = g.T.Tree.state c.make_run.new.tree in
    let read = content_at g at (HasRead s t (begun c.in_ok-cursor.cursor).state c.in-Ok.made.0.cursor.state (place_or_pause (slice_end c.in-Ok.made.0.end))) root s t (c.in-Ok.ensures.read declares tells root over short (goes_on g at root walk)) in
    kept_read _ _ _ c.args.checkpoint c.in_ok-cursor.cursor c.in-Ok.made.0 (search rules) c.in_ok-cursor.ensures c.in-Ok.ensures.keeps read c.keep.result c.keep.ensures.next c.keep.ensures.made

pub returns-in-Err-clause-failed : goal.returns-in-Err-clause-failed
returns-in-Err-clause-failed g c = λ tells root over short walk.
    unkept_failed (g.T.Tree.state c.args.tree.now) (g.T.Tree.state c.make_run.new.tree) (unread_at c.in-Err.why) c.unkept.result (c.in-Err.ensures.unread tells root over short (goes_on g (goal.at.returns-in-Err-clause-failed g c).In_ok-rest root walk)) c.unkept.ensures.at

pub returns-clause-failed : goal.returns-clause-failed
returns-clause-failed g c = λ tells root over short walk.
    kept_failed (g.T.Tree.state c.args.tree.now) (g.T.Tree.state c.make_run.new.tree) c.in-Ok.made.0 c.keep.result (c.in-Ok.ensures.failed tells root over short (goes_on g (goal.at.returns-clause-failed g c).In_ok-rest root walk)) c.keep.ensures.made

pub returns-in_err-cursor-clause-once : goal.returns-in_err-cursor-clause-once
returns-in_err-cursor-clause-once g c = λ declares tells root over short walk. up_none (content_none c.args.checkpoint.cursor.further root (g.T.Tree.state c.args.tree.now))

pub returns-in_err-rest-clause-once : goal.returns-in_err-rest-clause-once
returns-in_err-rest-clause-once g c = λ declares tells root over short walk. up_none (content_none c.args.checkpoint.cursor.further root (g.T.Tree.state c.args.tree.now))

pub returns-in-Err-clause-once : goal.returns-in-Err-clause-once
returns-in-Err-clause-once g c = λ declares tells root over short walk.
    content_at g (goal.at.returns-in-Err-clause-once g c).In_ok-rest (IsAscending place_cmp) root (g.T.Tree.state c.args.tree.now) (g.T.Tree.state c.make_run.new.tree) (c.make_run.ensures.once declares tells root over short (goes_on g (goal.at.returns-in-Err-clause-once g c).In_ok-rest root walk))

pub returns-clause-once : goal.returns-clause-once
returns-clause-once g c = λ declares tells root over short walk.
    content_at g (goal.at.returns-clause-once g c).In_ok-rest (IsAscending place_cmp) root (g.T.Tree.state c.args.tree.now) (g.T.Tree.state c.make_run.new.tree) (c.make_run.ensures.once declares tells root over short (goes_on g (goal.at.returns-clause-once g c).In_ok-rest root walk))

pub returns-in-Err-clause-took : goal.returns-in-Err-clause-took
returns-in-Err-clause-took g c = λ declares tells root over short walk. unkept_opened c.args.checkpoint _ c.unkept.result c.unkept.ensures.unkept

pub returns-clause-took : goal.returns-clause-took
returns-clause-took g c = λ declares tells root over short walk.
    let at = (goal.at.returns-clause-took g c).In_ok-rest in
    let took = content_at g at (TookOrBegan c.in-Ok.made.0.cursor.state (slice_end c.in-Ok.made.0.end)) root (g.T.Tree.state c.args.tree.now) (g.T.Tree.state c.make_run.new.tree) (c.in-Ok.ensures.took declares tells root over short (goes_on g at root walk)) in
    kept_opened c.args.checkpoint c.in-Ok.made.0 c.in-Ok.ensures.keeps took c.keep.result c.keep.ensures.next c.keep.ensures.made

pub returns-in_err-cursor-clause-crash : goal.returns-in_err-cursor-clause-crash
returns-in_err-cursor-clause-crash g c = λ told declares tells root over short walk rounds t r. unmoved (g.met.S.StateFolder.only_now told) (ready_there (GoesOn c.args.checkpoint) (goes_self c.args.checkpoint) r)

pub returns-in_err-rest-clause-crash : goal.returns-in_err-rest-clause-crash
returns-in_err-rest-clause-crash g c = λ told declares tells root over short walk rounds t r. unmoved (g.met.S.StateFolder.only_now told) (ready_there (GoesOn c.args.checkpoint) (goes_self c.args.checkpoint) r)

pub returns-in-Err-clause-crash : goal.returns-in-Err-clause-crash
returns-in-Err-clause-crash g c = λ told declares tells root over short walk rounds t r. unmoved (g.met.S.StateFolder.only_now told) (ready_there (GoesOn c.args.checkpoint) (goes_self c.args.checkpoint) r)

pub returns-clause-crash : goal.returns-clause-crash
returns-clause-crash g c = λ told declares tells root over short walk rounds t r.
    let k = c.args.checkpoint in
    let read = c.in-Ok.ensures.read declares tells root over short (goes_on g (goal.at.returns-clause-crash g c).In_ok-rest root walk) in
    leaves_weaker (λ d there l at. ⊎_elim (λ same. subst (GoesOn k) (sym same) (goes_self k)) (λ next. goes_next (search rules) c.in_ok-cursor.ensures c.in-Ok.ensures.keeps read.stays next) (there l at)) (c.keep.ensures.crash told rounds t r)

-- what the run asked for, of which nothing is kept
pub returns-in-Err-clause-asks : goal.returns-in-Err-clause-asks
returns-in-Err-clause-asks g c = λ tells root over short walk.
    let at = (goal.at.returns-in-Err-clause-asks g c).In_ok-rest in
    let k = c.args.checkpoint in
    unkept_asked root (part_of c.args.part.now) c.args.identity.now.declarations.items (met_at c.args.kept.now) k (g.T.Tree.state c.args.tree.now) (g.T.Tree.state c.make_run.new.tree) c.in-Err.why c.unkept.result (unmade_from root (part_of c.args.part.now) c.args.identity.now.declarations.items (met_at c.args.kept.now) k (g.T.Tree.state c.args.tree.now) (g.T.Tree.state c.make_run.new.tree) (part_of at.in_ok-rest.rest) at.in_ok-cursor.cursor c.in-Err.why (rest_is g at) at.in_ok-cursor.ensures (c.in-Err.ensures.unmade tells root over short (goes_on g at root walk))) c.unkept.ensures.untroubled c.unkept.ensures.unkept

pub returns-in-Err-clause-asks_no_more : goal.returns-in-Err-clause-asks_no_more
returns-in-Err-clause-asks_no_more g c = λ tells root over short walk.
    let at = (goal.at.returns-in-Err-clause-asks_no_more g c).In_ok-rest in
    let k = c.args.checkpoint in
    unkept_no_more root (part_of c.args.part.now) c.args.identity.now.declarations.items (met_at c.args.kept.now) k (g.T.Tree.state c.args.tree.now) (g.T.Tree.state c.make_run.new.tree) c.in-Err.why c.unkept.result (unmade_from root (part_of c.args.part.now) c.args.identity.now.declarations.items (met_at c.args.kept.now) k (g.T.Tree.state c.args.tree.now) (g.T.Tree.state c.make_run.new.tree) (part_of at.in_ok-rest.rest) at.in_ok-cursor.cursor c.in-Err.why (rest_is g at) at.in_ok-cursor.ensures (c.in-Err.ensures.unmade tells root over short (goes_on g at root walk)))

-- or all
pub returns-clause-asks : goal.returns-clause-asks
returns-clause-asks g c = λ tells root over short walk.
    let at = (goal.at.returns-clause-asks g c).In_ok-rest in
    let k = c.args.checkpoint in
    kept_asked root (part_of c.args.part.now) c.args.identity.now.declarations.items (met_at c.args.kept.now) k c.in-Ok.made.0 c.keep.result (asked_from root (part_of c.args.part.now) c.args.identity.now.declarations.items (met_at c.args.kept.now) k (part_of at.in_ok-rest.rest) at.in_ok-cursor.cursor (rest_is g at) at.in_ok-cursor.ensures (c.in-Ok.ensures.asks tells root over short (goes_on g at root walk))) c.keep.ensures.made

pub returns-clause-asks_no_more : goal.returns-clause-asks_no_more
returns-clause-asks_no_more g c = λ tells root over short walk.
    let at = (goal.at.returns-clause-asks_no_more g c).In_ok-rest in
    let k = c.args.checkpoint in
    kept_no_more root (part_of c.args.part.now) c.args.identity.now.declarations.items (met_at c.args.kept.now) k c.keep.result (asked_from root (part_of c.args.part.now) c.args.identity.now.declarations.items (met_at c.args.kept.now) k (part_of at.in_ok-rest.rest) at.in_ok-cursor.cursor (rest_is g at) at.in_ok-cursor.ensures (c.in-Ok.ensures.asks tells root over short (goes_on g at root walk)))

pub returns-in_err-cursor-clause-asks_no_more : goal.returns-in_err-cursor-clause-asks_no_more
returns-in_err-cursor-clause-asks_no_more g c = λ tells root over short walk. nothing_asked root (part_of c.args.part.now) c.args.identity.now.declarations.items (met_at c.args.kept.now) c.args.checkpoint c.from_residual.result refl

pub returns-in_err-rest-clause-asks_no_more : goal.returns-in_err-rest-clause-asks_no_more
returns-in_err-rest-clause-asks_no_more g c = λ tells root over short walk. nothing_asked root (part_of c.args.part.now) c.args.identity.now.declarations.items (met_at c.args.kept.now) c.args.checkpoint c.from_residual-in_err-rest.result refl

pub returns-in-Err-clause-met : goal.returns-in-Err-clause-met
returns-in-Err-clause-met g c = met_unkept c.forget.new.self c.args.checkpoint c.unkept.result c.forget.ensures c.unkept.ensures.unkept

pub returns-clause-met : goal.returns-clause-met
returns-clause-met g c = met_kept _ c.in-Ok.made.0 c.keep.result c.in-Ok.ensures.met c.keep.ensures.made
