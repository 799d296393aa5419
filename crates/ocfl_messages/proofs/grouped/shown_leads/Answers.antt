use Rattle.std.proofs.{Common.{◌∙◌, ap, sym, map, take}, lemmas.List.{take-map}}
use Rattle.ocfl_messages.specs.{Finding.{finding_of}}
use Rattle.ocfl_messages.proofs.grouped.shown_leads.Goals as goal

pub returns : goal.returns
returns c = ap (map finding_of) c.truncate.ensures.items ∙ sym (take-map finding_of c.args.room c.in_ok-leads.leads.items) ∙ ap (take c.args.room) c.in_ok-leads.ensures
