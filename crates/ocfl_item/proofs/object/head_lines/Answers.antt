use Rattle.std.proofs.{Common.{◌∙◌}, lemmas.Result.{err_from_is_err_and}}
use Rattle.ocfl_inventory.specs.declared.declaration.Level.TheVariants.{Object}
use Rattle.ocfl_item.proofs.{HeadCalls.{known_lines, known_root, known_table, stopped_head}, HeadLaws.{unknown_stops}}
use Rattle.ocfl_item.proofs.HeadOpens.{declaration_stops, declared_known, head_memory, head_opened, inventory_stops, listed_object, none_memory, stop_opens_none}
use Rattle.ocfl_item.proofs.object.head_lines.Goals as goal

pub returns-in_err-lines-clause-opened : goal.returns-in_err-lines-clause-opened
returns-in_err-lines-clause-opened g c = λ h root over here.
    let p = err_from_is_err_and c.from_residual.result c.from_residual.ensures.1 in
    rw (p.1, p.2) (none_memory c.args.further root _ _ _ over)

pub returns-in_default : goal.returns-in_default
returns-in_default g c = record {
  fit = tt;
  place = c.in_ok-lines.ensures.place;
  told = λ h root over here.
      let stops = unknown_stops Object _ _ c.in_default.not-One here.points in
      stopped_head c.args.further root _ _ c.args.declared c.in_ok-lines.lines here stops (c.in_ok-lines.ensures.lines root stops here.points);
  opened = λ h root over here. stop_opens_none c.args.further root _ _ c.args.declared _ over here (unknown_stops Object _ _ c.in_default.not-One here.points);
}

pub returns-in_err-try_clone-clause-opened : goal.returns-in_err-try_clone-clause-opened
returns-in_err-try_clone-clause-opened g c = λ h root over here.
    let p = err_from_is_err_and c.from_residual-in_err-try_clone.result c.from_residual-in_err-try_clone.ensures.1 in
    rw (p.1, p.2) (none_memory c.args.further root _ _ _ over)

pub returns-in_err-add_declaration_file-clause-opened :
    goal.returns-in_err-add_declaration_file-clause-opened
returns-in_err-add_declaration_file-clause-opened g c = λ h root over here.
    let p = err_from_is_err_and c.from_residual-in_err-add_declaration_file.result c.from_residual-in_err-add_declaration_file.ensures.1 in
    rw (p.1, p.2) (declaration_stops c.args.further root _ _ _ _ c.in-One.is here _ _ _ (c.in_err-add_declaration_file.ensures.told h root over c.args.further (listed_object root _ _ _ here)))

pub returns-in_err-table-clause-opened : goal.returns-in_err-table-clause-opened
returns-in_err-table-clause-opened g c = λ h root over here.
    let p = err_from_is_err_and c.from_residual-in_err-table.result c.from_residual-in_err-table.ensures.1 in
    let read = c.in_ok-add_declaration_file.ensures.told h root over c.args.further (listed_object root _ _ _ here) in
    rw (p.1, p.2)
    (inventory_stops c.args.further root _ _ _ _ c.in-One.is here _ _ _ _ read.0 (c.in_err-table.ensures.opened h root (read.0.did.tree ∙ read.0.over) (listed_object root _ _ _ here)))

pub returns-in_err-add_clean-clause-opened : goal.returns-in_err-add_clean-clause-opened
returns-in_err-add_clean-clause-opened g c = λ h root over here.
    let p = err_from_is_err_and c.from_residual-in_err-add_clean.result c.from_residual-in_err-add_clean.ensures.1 in
    let read = c.in_ok-add_declaration_file.ensures.told h root over c.args.further (listed_object root _ _ _ here) in
    rw (p.1, p.2)
    (head_memory c.args.further root _ _ _ _ c.in-One.is here _ _ _ read.0 (c.in_ok-table.ensures.opened h root (read.0.did.tree ∙ read.0.over) (listed_object root _ _ _ here)))

pub returns-in_err-add_root_note-clause-opened : goal.returns-in_err-add_root_note-clause-opened
returns-in_err-add_root_note-clause-opened g c = λ h root over here.
    let p = err_from_is_err_and c.from_residual-in_err-add_root_note.result c.from_residual-in_err-add_root_note.ensures.1 in
    let read = c.in_ok-add_declaration_file.ensures.told h root over c.args.further (listed_object root _ _ _ here) in
    rw (p.1, p.2)
    (head_memory c.args.further root _ _ _ _ c.in-One.is here _ _ _ read.0 (c.in_ok-table.ensures.opened h root (read.0.did.tree ∙ read.0.over) (listed_object root _ _ _ here)))

pub returns : goal.returns
returns g c = record {
  fit = c.in_ok-table.ensures.fit;
  place = c.in_ok-add_root_note.ensures.0 ∙ c.in_ok-add_clean.ensures.place ∙ c.in_ok-table.ensures.place ∙ c.in_ok-add_declaration_file.ensures.place ∙ c.new-lines.ensures.place ∙ c.in_ok-try_clone.ensures;
  told = λ h root over here.
      let known = declared_known root _ _ _ _ c.in-One.is here in
      let read = c.in_ok-add_declaration_file.ensures.told h root over c.args.further (listed_object root _ _ _ here) in
      let more = c.in_ok-table.ensures.told h root (read.0.did.tree ∙ read.0.over) (listed_object root _ _ _ here) in
      let made = known_root c.args.further root _ c.in-One.version _ known more.1 in (
        known_lines c.args.further root _ here.zone c.in-One.version c.new-lines.result c.add_declaration_file.new.lines c.add_inventory_file.new.lines c.add_clean.new.lines
            c.add_root_note.new.lines _ known c.new-lines.ensures.lines read.1 more.2 c.in_ok-add_clean.ensures.lines c.in_ok-add_root_note.ensures made,
        known_table root _ c.in-One.version _ known more.0,
        made,
      );
  opened = λ h root over here.
      let read = c.in_ok-add_declaration_file.ensures.told h root over c.args.further (listed_object root _ _ _ here) in
      head_opened c.args.further root _ _ _ _ c.in-One.is here _ _ _ read.0 (c.in_ok-table.ensures.opened h root (read.0.did.tree ∙ read.0.over) (listed_object root _ _ _ here));
}
