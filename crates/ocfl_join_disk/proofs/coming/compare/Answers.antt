use Rattle.ocfl_join_disk.proofs.Endings.{compared_came}
use Rattle.ocfl_join_disk.proofs.coming.compare.Goals as goal

pub returns : goal.returns
returns g c = record {
  came = λ told.
      compared_came g.D.JoinDisk.parts g.D.JoinDisk.state c.args.separators.now c.args.parts.now c.args.cycle c.find_root-root.result.now c.find_root-root.ensures
      c.args.disk c.over-reports.result.parts.disk c.join-found.new.reports.parts.disk c.into_disk-disk.result c.over-reports.result.cycle c.join-found.new.reports.cycle _ _ (g.S.Say.said c.args.out.now) (g.S.Say.said c.join-found.new.out)
      c.over-reports.ensures.cycle c.over-reports.ensures.disk c.into_disk-disk.ensures c.join-found.result
      c.join-found.ensures.none_hinders c.join-found.ensures.whole c.join-found.ensures.missing c.join-found.ensures.unhindered c.join-found.ensures.part c.join-found.ensures.grew c.join-found.ensures.silent
      c.args.whole c.over-reports.result.whole c.join-found.new.reports.whole c.over-reports.ensures.whole _ _ _ _ c.over-reports.ensures.found
      (c.join-found.ensures.reports told) (c.join-found.ensures.changed told) (c.join-found.ensures.joined told);
}
