use Rattle.std.proofs.Common.{Some, ap, option_map, sym, ◌∙◌}
use Rattle.ocfl_closed.specs.Files.{Files}
use Rattle.ocfl_closed.proofs.Lost.{keeps_opened, keeps_where_none}
use Rattle.ocfl_closed.proofs.back.take_list.Goals as goal

pub returns-in-Some-clause-taken : goal.returns-in-Some-clause-taken
returns-in-Some-clause-taken g c = λ told.
    keeps_opened c.take_opened.result g.D.Rows.Read.remaining c.in_ok-list.field-0 c.in-Some.list ((g.D.ClosedDisk.state c.args.disk.now).files.lists c.args.cycle) c.args.gone.now.items c.take_opened.new.gone.items
    c.in-Some.is (c.in_ok-list.ensures.value told) c.take_opened.ensures.taken

pub returns-in-None-clause-taken : goal.returns-in-None-clause-taken
returns-in-None-clause-taken g c = λ told.
    keeps_where_none g.D.Rows.Read.remaining c.in_ok-list.field-0 ((g.D.ClosedDisk.state c.args.disk.now).files.lists c.args.cycle) c.args.gone.now.items c.in-None.is (c.in_ok-list.ensures.value told)

pub take_opened-requires : goal.take_opened-requires
take_opened-requires g c = record {
  list = λ told. sym (ap (option_map g.D.Rows.Read.remaining) c.in-Some.is) ∙ c.in_ok-list.ensures.value told ∙ ap (λ (f : Files). option_map Some (f.lists c.args.cycle)) (sym (c.open_list.ensures.still told).calm.files);
}
