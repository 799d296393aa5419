use Rattle.std.proofs.Common.{Err, ap, ◌∙◌}
use Rattle.ocfl_closed.proofs.RowTexts.{bad_list}
use Rattle.ocfl_closed.proofs.back.take_opened.Goals as goal

pub refuse_rows-requires : goal.refuse_rows-requires
refuse_rows-requires g c = record { bad = λ told. bad_list (g.D.Rows.Read.remaining c.args.list) ((g.D.ClosedDisk.state c.args.disk.now).files.lists c.args.cycle) (c.requires.list told) (c.take_rows.ensures.bad (c.in-Err-Bad.is ∙ ap Err c.in-Err-Bad.field-0-is)) }
