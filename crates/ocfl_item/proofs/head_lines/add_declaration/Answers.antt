use Rattle.std.proofs.Common.{◌≡◌, true, OnOk, sym, ◌∙◌, ap, subst}
use Rattle.std.specs.Prelude.{not}
use Rattle.ocfl_inventory.specs.{Note.{plain}, declared.declaration.Level.TheVariants.{Object}}
use Rattle.ocfl_report.specs.declared.code.Code.TheVariants.{E007}
use Rattle.ocfl_rules.specs.Head.{on, is_exact_declaration}
use Rattle.ocfl_item.specs.Internal.Lines.{Adds}
use Rattle.ocfl_item.proofs.LinesLaws.{adds_not}
use Rattle.ocfl_item.proofs.head_lines.add_declaration.Goals as goal

pub returns-then-is_exact-clause-lines : goal.returns-then-is_exact-clause-lines
returns-then-is_exact-clause-lines c = λ root o h. adds_not c.args.lines.now _ _ (ap not (sym (c.is_exact.ensures root o h) ∙ c.if-is_exact.true))

pub returns-clause-lines : goal.returns-clause-lines
returns-clause-lines c = λ root o h.
    let missing : true ≡ not (is_exact_declaration root o Object c.args.version) = ap not (sym c.if-is_exact.false ∙ c.is_exact.ensures root o h) in
    subst (λ b. OnOk c.add_plain.result (Adds c.args.lines.now c.add_plain.new.self (on b (plain E007)))) missing c.add_plain.ensures
