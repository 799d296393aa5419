use Rattle.std.specs.Option.{option_map}
use Rattle.ocfl_join_disk.proofs.Endings.{made_came}
use Rattle.ocfl_join_disk.proofs.coming.make.Goals as goal

pub returns : goal.returns
returns g c = record {
  came = λ told.
      made_came g.D.JoinDisk.parts g.D.JoinDisk.state c.args.separators.now c.args.parts.now c.args.cycle c.find_root-root.result.now c.find_root-root.ensures
      c.args.disk c.over-reports.result.parts.disk c.join-joined.new.reports.parts.disk c.into_disk-disk.result c.over-reports.result.cycle c.join-joined.new.reports.cycle _ _
      (g.S.Say.said c.args.out.now) (g.S.Say.said c.join-joined.new.out)
      c.over-reports.ensures.cycle c.over-reports.ensures.disk c.into_disk-disk.ensures c.join-joined.result
      c.join-joined.ensures.none_hinders c.join-joined.ensures.whole c.join-joined.ensures.missing c.join-joined.ensures.unhindered c.join-joined.ensures.part c.join-joined.ensures.grew c.join-joined.ensures.silent
      (option_map g.D.JoinDisk.number c.over-reports.result.made) (option_map g.D.JoinDisk.number c.join-joined.new.reports.made) c.over-reports.result.buffer.items c.join-joined.new.reports.buffer.items
      (c.join-joined.ensures.reports told) (c.join-joined.ensures.changed told) (c.join-joined.ensures.joined told) (c.join-joined.ensures.unput told) (c.join-joined.ensures.may told);
}
