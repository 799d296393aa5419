use Rattle.std.proofs.Common.{[], ◌∷◌, None, refl}
use Rattle.ocfl_night.specs.Looks.{look_between, of_any}
use Rattle.ocfl_night_laws.specs.Nights.{Night}
use Rattle.ocfl_night.specs.{Site.{part_at}, Sound.{IsKept}}
use Rattle.ocfl_night_laws.proofs.{AnyNights.{empty_sound, untidied}, Readings.{two_read}}
use Rattle.ocfl_night.proofs.Heard.{since_sound}
use Rattle.ocfl_night_laws.proofs.nights.two_nights.Goals as goal

pub returns-clause-whole : goal.returns-clause-whole
returns-clause-whole g c = λ told root short tells over1 over2 fresh well1 well2 d left.
    let part = part_at c.args.site.now.ends in
    let f0 = c.args.folder.now in
    let f1 = c.night-one.new.folder in
    let f2 = c.night-two.new.folder in
    let s1 = g.T.Tree.state c.args.first.now in
    let t1 = g.T.Tree.state c.night-one.new.tree in
    let s2 = g.T.Tree.state c.args.second.now in
    let t2 = g.T.Tree.state c.night-two.new.tree in
    let l1 = look_between c.args.site.now.further root s1 t1 in
    let l2 = look_between c.args.site.now.further root s2 t2 in
    let safe1 = c.night-one.ensures.heard told tells root over1 short in
    let safe2 = c.night-two.ensures.heard told tells root over2 short in
    let n1 : Night _ = record { gone = []; began = f0; ended = f1; look = l1; before = g.O.Output.said c.args.out.now; said = g.O.Output.said c.night-one.new.out } in
    let n2 : Night _ = record { gone = []; began = f1; ended = f2; look = l2; before = g.O.Output.said c.night-one.new.out; said = g.O.Output.said c.night-two.new.out } in
    let first = safe1 None tt (λ x l. ([], empty_sound (of_any c.args.site.now.further part) x (fresh x l))) in
    let read1 = c.where_nothing_failed_all_was_read.ensures c.args.site.now.further root s1 t1 (c.night-one.ensures.counts tells root over1 short) well1 in
    let read2 = c.where_nothing_failed_all_was_read.ensures c.args.site.now.further root s2 t2 (c.night-two.ensures.counts tells root over2 short) well2 in
    let all = c.each_whole_report_is_the_audit.ensures.exact c.args.site.now.further root part (n1 ∷ n2 ∷ []) ((λ x l. (x, fresh x l, untidied x)), safe1, ((λ x l. (x, g.met.S.StateFolder.counts_now told f1 (g.S.StateFolder.moment f0) x first.later l, untidied x)), safe2, tt))
    (refl, (refl, tt)) (read1, (read2, tt)) in
    let later = (safe2 None tt (λ x l. since_sound (first.each x (g.met.S.StateFolder.counts_now told f1 (g.S.StateFolder.moment f0) x first.later l)))).later in
    all.1.0 d (g.met.S.StateFolder.counts_now told f2 (g.S.StateFolder.moment f1) d later left)

pub returns-clause-read : goal.returns-clause-read
returns-clause-read g c = λ told root short tells over1 over2 fresh well1 well2 order1 other order2.
    let part = part_at c.args.site.now.ends in
    let kept : IsKept g.S.StateFolder (of_any c.args.site.now.further part) c.args.folder.now = λ x l. ([], empty_sound (of_any c.args.site.now.further part) x (fresh x l)) in
    let one = c.night-one.ensures in
    let two = c.night-two.ensures in
    two_read (one.read told tells root over1 short kept order1) (two.beyond told tells root over2 short)
    (two.read told tells root over2 short (one.kept told tells root over1 short None tt kept) order2) other well1 well2
