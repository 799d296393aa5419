use Rattle.std.proofs.Common.{◌≡◌, ◌<◌, ◌≤◌, ◌∙◌, sym, subst, Some, length, rules}
use Rattle.std.proofs.lemmas.Result.{err_from_is_err_and}
use Rattle.ocfl_item.specs.{Internal.Content.{IsSight, content_at}, Meeting.{IsItemAt}}
use Rattle.ocfl_item.proofs.{LooksEntries.{no_entries, some_entries}, ShutLaws.{shut_deep}}
use Rattle.ocfl_item.proofs.VisitLaws.{content_no_head, deep_sight, dir_sight, empty_sight, entered_meets, listable, looked_listed, reached_here, shut_visits, visit_of_folder, visits_memory, visits_refused, visits_told, visits_stop}
use Rattle.ocfl_item.proofs.visit.visit_content_directory.Goals.{then-is_empty, else-is_empty}
use Rattle.ocfl_item.proofs.visit.visit_content_directory.Goals as goal

pub returns-then-depth-gt-MAX_LISTED_DEPTH-clause-told :
    goal.returns-then-depth-gt-MAX_LISTED_DEPTH-clause-told
returns-then-depth-gt-MAX_LISTED_DEPTH-clause-told g c = λ h root over further here t q content digests.
    let e = c.args.place in
    let deep : 127 < length e = search rules in
    shut_visits further root _ e over (shut_deep root e deep) _ (c.in_ok-visit_unentered.ensures.told further root t q content digests (deep_sight root e here deep))

pub returns-in_err-visit_unentered-clause-told : goal.returns-in_err-visit_unentered-clause-told
returns-in_err-visit_unentered-clause-told g c = λ h root over further here t q content digests. visits_refused further root _ _ _ over c.from_residual.ensures.1

pub returns-in_err-item-clause-told : goal.returns-in_err-item-clause-told
returns-in_err-item-clause-told g c = λ h root over further here t q content digests.
    let e = c.args.place in
    let short : length e ≤ 127 = search rules in
    let inner = c.in_ok-folder.ensures.told h root over further (listable root e here short) in
    let p = err_from_is_err_and c.from_residual-in_err-item.result c.from_residual-in_err-item.ensures.1 in
    rw (p.1, p.2) (visits_memory further root _ _ e (entered_meets further root _ _ e _ _ over inner (looked_listed root e here short) (content_no_head root e (t, q) content)))

pub returns-clause-told : goal.returns-clause-told
returns-clause-told g c = λ h root over further here t q content digests.
    let e = c.args.place in
    let f = c.in_ok-folder.folder in
    let short : length e ≤ 127 = search rules in
    let inner = c.in_ok-folder.ensures.told h root over further (listable root e here short) in
    let sight : IsSight root e c.if-is_empty.sight =
    elim c.if-is_empty.branch as (λ _. IsSight root e c.if-is_empty.sight) [
      | then-is_empty w ↦ subst (IsSight root e) (sym w.sight-is)
          (empty_sight root e here f.entries.items short inner.listing (no_entries f.entries.items f.entries.len f.entries.ok.0 (sym w.if-is_empty.true ∙ c.is_empty.ensures)))
      | else-is_empty w ↦ subst (IsSight root e) (sym w.sight-is)
          (dir_sight root e here f.entries.items short inner.listing (some_entries f.entries.items f.entries.len f.entries.ok.0 (sym w.if-is_empty.false ∙ c.is_empty.ensures)))
    ] in
    let item = c.in_ok-item.ensures.told further root t q (subst (λ x. content_at root x ≡ Some (t, q)) (sym inner.is) content) digests
    (subst (λ x. IsSight root x c.if-is_empty.sight) (sym inner.is) sight) in
    visits_told further root _ _ e _ (entered_meets further root _ _ e _ _ over inner (looked_listed root e here short) (content_no_head root e (t, q) content))
    (visit_of_folder further root e c.of_folder.result f
    (subst (IsItemAt further root e) (sym c.of_folder.ensures.item) (subst (λ x. IsItemAt further root x c.in_ok-item.item) inner.is item)) c.of_folder.ensures.folder
    c.of_folder.ensures.table (content_no_head root e (t, q) content) inner.is (reached_here root e here short) inner.listing)

pub returns-in_err-folder-clause-told : goal.returns-in_err-folder-clause-told
returns-in_err-folder-clause-told g c = λ h root over further here t q content digests.
    let e = c.args.place in
    let short : length e ≤ 127 = search rules in
    let p = err_from_is_err_and c.from_residual-in_err-folder.result c.from_residual-in_err-folder.ensures.1 in
    rw (p.1, p.2) (visits_stop further root _ _ e _ (looked_listed root e here short) (c.in_err-folder.ensures.told h root over further (listable root e here short)))
