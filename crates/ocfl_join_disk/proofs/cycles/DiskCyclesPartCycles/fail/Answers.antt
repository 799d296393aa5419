use Rattle.std.proofs.Common.{refl, Some}
use Rattle.ocfl_join_disk.proofs.Endings.{said_on}
use Rattle.ocfl_join_disk.proofs.cycles.DiskCyclesPartCycles.fail.Goals as goal

pub returns-in-Some : goal.returns-in-Some
returns-in-Some g c = record {
  says = λ told.
      let s = c.note_stop.ensures.says told in (
        s.0,
        (
          s.1.0,
          said_on g.D.JoinDisk.parts g.D.JoinDisk.state c.args.self.now.separators.now c.args.self.now.facts.now (g.S.Say.said c.args.self.now.out) c.in-Some.disk c.note_stop.new.disk c.args.self.now.disk (Some c.note_stop.new.disk) s.0
              c.in-Some.is refl s.1.1 (c.note_stop.ensures.seen told),
        ),
      );
}
