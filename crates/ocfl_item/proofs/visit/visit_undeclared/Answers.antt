use Rattle.std.proofs.Common.{◌≡◌, ◌∙◌, [], sym, refl}
use Rattle.ocfl_item.proofs.LooksEntries.{no_entries, some_entries}
use Rattle.ocfl_item.proofs.VisitPlaces.{empty_names, empty_plain, full_visit}
use Rattle.ocfl_item.proofs.visit.visit_undeclared.Goals as goal

pub returns-then-is_empty-clause-told : goal.returns-then-is_empty-clause-told
returns-then-is_empty-clause-told c = λ further root h.
    let f = c.args.folder in
    let none : f.entries.items ≡ [] = no_entries f.entries.items f.entries.len f.entries.ok.0 (sym c.if-is_empty.true ∙ c.is_empty.ensures) in
    c.visit_plain.ensures.told further root (empty_plain further root f.place f.entries.items h none) (empty_names root f.place f.entries.items h none)

pub returns-clause-told : goal.returns-clause-told
returns-clause-told c = λ further root h.
    let f = c.args.folder in
    let full = some_entries f.entries.items f.entries.len f.entries.ok.0 (sym c.if-is_empty.false ∙ c.is_empty.ensures) in
    full_visit further root f.place f.entries.items h c.of_folder.result f full c.of_folder.ensures.item c.of_folder.ensures.folder c.of_folder.ensures.table refl refl
