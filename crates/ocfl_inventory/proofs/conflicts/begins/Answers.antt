use Rattle.std.proofs.Common.{◌≡◌, ◌∙◌, true}
use Rattle.std.specs.{Prelude.{nat_eq}, List.{starts_with}}
use Rattle.ocfl_inventory.proofs.SharedFronts.{not_begun}
use Rattle.ocfl_inventory.proofs.conflicts.begins.Goals as goal

pub returns-else-may_begin : goal.returns-else-may_begin
returns-else-may_begin c =
    let tells : starts_with nat_eq c.path-2.result.now c.path.result.now ≡ true → c.may_begin.result ≡ true =
    λ h. c.may_begin.ensures ((λ i. starts_with nat_eq (c.as_bytes-2.ensures.value i) (c.as_bytes.ensures.value i)) ∙ h) in
    not_begun c.path.result.now c.path-2.result.now c.args.triple.now.path c.args.other.now.path c.may_begin.result (c.path.ensures.place ∙ c.path-path.ensures)
    (c.path-2.ensures.place ∙ c.path-beside.ensures) tells c.if-may_begin.false
