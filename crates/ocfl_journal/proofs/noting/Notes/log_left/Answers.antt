use Rattle.std.proofs.Common.{[], ap, sym, option_map, string_bytes}
use Rattle.std.specs.Prelude.{unwrap_or}
use Rattle.ocfl_journal.specs.Rows.{left_row}
use Rattle.ocfl_journal.proofs.Lines.{logged_as}
use Rattle.ocfl_journal.proofs.noting.Notes.log_left.Goals as goal

pub returns-in_default-clause-logged : goal.returns-in_default-clause-logged
returns-in_default-clause-logged g c = λ told.
    let night = c.args.self.now.journal.night in
    logged_as c.left.result (left_row night c.args.cycle c.args.left.now []) _ _ _
    (ap (λ w. left_row night c.args.cycle c.args.left.now (unwrap_or (option_map string_bytes w) [])) (sym c.in_default.is)) (c.left.ensures.logged told)
