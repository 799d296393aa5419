use Rattle.std.proofs.{Common.{◌≡◌, ◌-◌, ◌∙◌, ◌++◌, ◌∷◌, [], rules, length, subst, sym}, lemmas.Result.{err_from_is_err_and}}
use Rattle.ocfl_report.specs.declared.further.Further.TheVariants.{Inventories}
use Rattle.ocfl_item.specs.Internal.HeadFiles.{HaveSidecars}
use Rattle.ocfl_rules.specs.Zone.{inventory_name}
use Rattle.ocfl_item.proofs.VersionReads.{directory_is, have_sidecars, inventory_refused, inventory_stops, inventory_visits, whole}
use Rattle.ocfl_item.proofs.VisitLaws.{visits_refused}
use Rattle.ocfl_item.proofs.inventory.visit_inventory.Goals as goal

pub returns-in_err-directory-clause-told : goal.returns-in_err-directory-clause-told
returns-in_err-directory-clause-told g c = λ h root over o v at now told. visits_refused Inventories root _ _ _ over c.from_residual.ensures.1

pub returns-in_err-sidecars-clause-told : goal.returns-in_err-sidecars-clause-told
returns-in_err-sidecars-clause-told g c = λ h root over o v at now told.
    let e = c.args.place in
    let p = err_from_is_err_and c.from_residual-in_err-sidecars.result c.from_residual-in_err-sidecars.ensures.1 in
    let up : c.saturating_sub.result ≡ length e - 1 = search rules in
    let is = c.in_ok-directory.ensures ∙ directory_is e (o ++ v ∷ []) inventory_name c.saturating_sub.result (whole root e o v at) up in
    let have = subst (λ x. HaveSidecars Inventories root x c.args.behind.now) (sym is) (have_sidecars root e o v at c.args.behind.now told) in
    rw (p.1, p.2) (inventory_stops root e o v at _ _ _ is _ (c.in_err-sidecars.ensures.told h root over Inventories have))

pub returns-in_err-item-clause-told : goal.returns-in_err-item-clause-told
returns-in_err-item-clause-told g c = λ h root over o v at now told.
    let e = c.args.place in
    let p = err_from_is_err_and c.from_residual-in_err-item.result c.from_residual-in_err-item.ensures.1 in
    let up : c.saturating_sub.result ≡ length e - 1 = search rules in
    let is = c.in_ok-directory.ensures ∙ directory_is e (o ++ v ∷ []) inventory_name c.saturating_sub.result (whole root e o v at) up in
    let have = subst (λ x. HaveSidecars Inventories root x c.args.behind.now) (sym is) (have_sidecars root e o v at c.args.behind.now told) in
    rw (p.1, p.2) (inventory_refused root e o v at _ _ _ is (c.in_ok-sidecars.ensures.told h root over Inventories have).0)

pub returns-clause-told : goal.returns-clause-told
returns-clause-told g c = λ h root over o v at now told.
    let e = c.args.place in
    let up : c.saturating_sub.result ≡ length e - 1 = search rules in
    let is = c.in_ok-directory.ensures ∙ directory_is e (o ++ v ∷ []) inventory_name c.saturating_sub.result (whole root e o v at) up in
    let have = subst (λ x. HaveSidecars Inventories root x c.args.behind.now) (sym is) (have_sidecars root e o v at c.args.behind.now told) in
    let read = c.in_ok-sidecars.ensures.told h root over Inventories have in
    let made = c.in_ok-item.ensures in
    inventory_visits root e o v at _ _ _ is read.0 c.of_item.result c.in_ok-item.item (made.told root o v at is now (read.1, read.2)) made.place
    c.of_item.ensures.item c.of_item.ensures.folder c.of_item.ensures.table
