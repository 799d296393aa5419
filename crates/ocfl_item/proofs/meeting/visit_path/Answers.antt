use Rattle.std.proofs.Common.{◌≡◌, ◌∙◌, ap, sym, subst, [], length, drop, map}
use Rattle.ocfl_inventory.specs.TripleView.{named_view}
use Rattle.ocfl_item.specs.Around.{IsTableAround}
use Rattle.ocfl_item.proofs.LooksEntries.{no_entries, some_entries}
use Rattle.ocfl_item.proofs.PathItems.{named_around, named_content, named_in_table, some_named, unseen_lines, untabled}
use Rattle.ocfl_item.proofs.meeting.visit_path.Goals as goal

pub returns-in_default-clause-told : goal.returns-in_default-clause-told
returns-in_default-clause-told c = λ further root h unseen.
    unseen_lines root c.args.place.now further unseen (untabled root c.args.place.now further (subst (IsTableAround further root c.args.place.now) c.in_default.is h))

pub returns-then-is_empty-clause-told : goal.returns-then-is_empty-clause-told
returns-then-is_empty-clause-told c = λ further root h unseen.
    let p = c.args.place.now in
    let a = c.in-Some.around in
    let around = subst (IsTableAround further root p) c.in-Some.is h in
    let items = c.in_ok-named.named.items in
    let none : items ≡ [] = no_entries items c.in_ok-named.named.len c.in_ok-named.named.ok.0 (sym c.if-is_empty.true ∙ c.is_empty.ensures) in
    unseen_lines root p further unseen (named_around root p further a around ∙ sym c.in_ok-named.ensures ∙ ap (map named_view) none)

pub returns-clause-named : goal.returns-clause-named
returns-clause-named c =
    let items = c.in_ok-named.named.items in
    let some = some_named items (some_entries items c.in_ok-named.named.len c.in_ok-named.named.ok.0 (sym c.if-is_empty.false ∙ c.is_empty.ensures)) in
    named_in_table c.args.place.now c.args.around.now c.in-Some.around c.in-Some.is (λ e. some (c.in_ok-named.ensures ∙ e)) c.content_item_at.result

pub returns-clause-told : goal.returns-clause-told
returns-clause-told c = λ further root h unseen.
    let p = c.args.place.now in
    let a = c.in-Some.around in
    let around = subst (IsTableAround further root p) c.in-Some.is h in
    let items = c.in_ok-named.named.items in
    let some = some_named items (some_entries items c.in_ok-named.named.len c.in_ok-named.named.ok.0 (sym c.if-is_empty.false ∙ c.is_empty.ensures)) in
    let content = named_content root p further a around (λ e. some (c.in_ok-named.ensures ∙ sym (named_around root p further a around) ∙ e)) in
    c.content_item_at.ensures.told further root a.table (drop (length a.place) p) content c.in_ok-named.ensures unseen
