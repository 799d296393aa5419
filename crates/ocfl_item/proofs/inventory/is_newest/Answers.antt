use Rattle.std.proofs.{Common.{◌∙◌, ap, sym}, lemmas.List.{same_from_push}}
use Rattle.ocfl_rules.specs.Inventories.{is_text}
use Rattle.ocfl_rules.proofs.AuditExists.{not_empty}
use Rattle.ocfl_item.specs.Root.{root_view}
use Rattle.ocfl_item.proofs.inventory.is_newest.Goals as goal

pub returns-in-Some : goal.returns-in-Some
returns-in-Some c = λ o v is. c.names.ensures ∙ ap (λ w. is_text w (root_view c.args.root.now).head) (same_from_push _ o c.in-Some.version.now v (sym c.in-Some.ensures.0 ∙ is)).1

pub returns-in-None : goal.returns-in-None
returns-in-None c = λ o v is. absurd (not_empty o v (sym is ∙ rw c.in-None.is at c.split_last.ensures))
