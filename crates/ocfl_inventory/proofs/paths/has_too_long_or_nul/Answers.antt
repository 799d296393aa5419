use Rattle.std.proofs.Common.{sym, ap, ◌∙◌}
use Rattle.std.specs.{Prelude.{◌==◌, ◌||◌}, List.{list_any}}
use Rattle.ocfl_inventory.proofs.PathTexts.{too_long_or_nul_is}
use Rattle.ocfl_inventory.proofs.paths.has_too_long_or_nul.Goals as goal

pub returns-then-has_long : goal.returns-then-has_long
returns-then-has_long c = c.if-has_long.true ∙ sym (too_long_or_nul_is c.args.text.now ∙ ap (λ a. a || list_any (λ b. b == 0) c.args.text.now) (sym c.has_long.ensures ∙ c.if-has_long.true))

pub returns-else-has_long : goal.returns-else-has_long
returns-else-has_long c = c.has_byte.ensures ∙ ap (list_any (λ b. b == 0)) c.as_bytes.ensures.value
    ∙ sym (too_long_or_nul_is c.args.text.now ∙ ap (λ a. a || list_any (λ b. b == 0) c.args.text.now) (sym c.has_long.ensures ∙ c.if-has_long.false))
