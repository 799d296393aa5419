use Rattle.std.proofs.Common.{refl}
use Rattle.ocfl_cursor.proofs.CursorTexts.{no_version_line}
use Rattle.ocfl_cursor.proofs.decoding.read_first_line.Goals as goal

pub returns-in_err-after_prefix-clause-missing : goal.returns-in_err-after_prefix-clause-missing
returns-in_err-after_prefix-clause-missing c = λ e.
    no_version_line c.args.body.now (c.in_default.ensures.missing refl) (c.in_default-after_prefix.ensures.missing refl) (c.in_err-after_prefix.ensures.missing refl)
