use Rattle.std.proofs.Common.{◌≡◌, ◌++◌, ◌∙◌, ap, subst, List, map}
use Rattle.std.specs.Prelude.{OnOk}
use Rattle.ocfl_tree.specs.{Place.{Place}, Path.{slashed}}
use Rattle.ocfl_inventory.specs.{Note.{note, Note}, Remark.{remark_view}}
use Rattle.ocfl_inventory.specs.declared.remark.Remark.{Remark}
use Rattle.ocfl_report.specs.declared.code.Code.TheVariants.{E101}
use Rattle.ocfl_inventory.proofs.Inventories.{others_joined}
use Rattle.ocfl_inventory.proofs.notes.add_others.Goals as goal

pub returns : goal.returns
returns c =
    let lines = λ (rs : List Remark). map remark_view rs in
    subst (λ (ns : List Note). OnOk c.add_unsupported.result (lines c.add_unsupported.new.out.items ≡ ns))
    (others_joined (lines c.args.lines.now.items) (lines c.add_faults.new.out.items) (lines c.add_faults-2.new.out.items) (lines c.add_conflicts.new.out.items) _ _ _ _
    c.in_ok-add_faults.ensures c.in_ok-add_faults-2.ensures
    (c.in_ok-add_conflicts.ensures ∙ ap (λ (ps : List Place). lines c.add_faults-2.new.out.items ++ map (λ p. note E101 (slashed p)) ps) c.deref.ensures.value))
    c.add_unsupported.ensures
