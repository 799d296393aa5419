use Rattle.std.proofs.Common.{[], Bool, sym, ◌∙◌, ap}
use Rattle.std.specs.Prelude.{not}
use Rattle.ocfl_inventory.specs.Note.{plain}
use Rattle.ocfl_report.specs.declared.code.Code.TheVariants.{E080}
use Rattle.ocfl_rules.specs.Head.{on, or_clean}
use Rattle.ocfl_item.proofs.base.known_code.Goals as goal

pub returns-then-is_exact : goal.returns-then-is_exact
returns-then-is_exact c = λ root h. ap (λ (b : Bool). or_clean (on (not b) (plain E080))) (sym c.if-is_exact.true ∙ c.is_exact.ensures root [] h)

pub returns : goal.returns
returns c = λ root h. ap (λ (b : Bool). or_clean (on (not b) (plain E080))) (sym c.if-is_exact.false ∙ c.is_exact.ensures root [] h)
