use Rattle.std.proofs.Common.{◌≡◌, Some, subst, sym}
use Rattle.std.specs.Prelude.{IfOk}
use Rattle.ocfl_item.specs.{Internal.Content.{IsSight, content_at}, Meeting.{IsItemAt}}
use Rattle.ocfl_item.proofs.content.content_item_at.Goals as goal

pub returns-clause-told : goal.returns-clause-told
returns-clause-told c = λ further root t q content digests sight.
    let copy = c.in_ok-try_clone.ensures in
    subst (λ x. IfOk c.content_item.result (λ item. IsItemAt further root x item)) copy
    (c.content_item.ensures.told further root t q (subst (λ x. content_at root x ≡ Some (t, q)) (sym copy) content) digests (subst (λ x. IsSight root x c.args.sight) (sym copy) sight))
