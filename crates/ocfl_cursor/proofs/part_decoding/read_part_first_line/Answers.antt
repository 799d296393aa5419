use Rattle.std.proofs.Common.{refl}
use Rattle.ocfl_cursor.proofs.PartTexts.{no_part_first_line}
use Rattle.ocfl_cursor.proofs.part_decoding.read_part_first_line.Goals as goal

pub returns-in_err-after_prefix-clause-missing : goal.returns-in_err-after_prefix-clause-missing
returns-in_err-after_prefix-clause-missing c = λ e. no_part_first_line c.args.body.now (c.in_default.ensures.missing refl) (c.in_err-after_prefix.ensures.missing refl)
