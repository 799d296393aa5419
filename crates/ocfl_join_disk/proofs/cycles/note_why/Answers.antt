use Rattle.std.specs.Prelude.{string_bytes}
use Rattle.ocfl_join_disk.proofs.Telling.{said_noted}
use Rattle.ocfl_join_disk.proofs.cycles.note_why.Goals as goal

pub returns-clause-said : goal.returns-clause-said
returns-clause-said g c = λ told.
    said_noted string_bytes c.say_stop-text.result c.note_made.result _ (g.D.JoinDisk.parts c.args.disk.now) (g.D.JoinDisk.parts c.note_made.new.disk)
    c.say_stop-text.ensures (c.note_made.ensures.said told) (c.note_made.ensures.silent told)
