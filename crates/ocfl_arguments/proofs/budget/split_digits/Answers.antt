use Rattle.std.proofs.Common.{◌∙◌, ap, subst, sym}
use Rattle.std.specs.{Char.{is_ascii_digit}, List.{prefix_len}, Str.{IsCharBoundary}}
use Rattle.ocfl_arguments.proofs.Units.{digits_boundary}
use Rattle.ocfl_arguments.proofs.budget.split_digits.Goals as goal

pub split_at-requires : goal.split_at-requires
split_at-requires c = subst (IsCharBoundary c.args.text.now)
    (sym (c.count_digits.ensures ∙ ap (prefix_len is_ascii_digit) c.as_bytes.ensures.value))
    (digits_boundary c.args.text.now c.utf8.text)
