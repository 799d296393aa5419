use Rattle.std.proofs.Common.{[], ◌∷◌, ◌++◌, ◌∙◌, ◌==◌, Err, true≢false, refl, sym, ap, length}
use Rattle.std.proofs.{lemmas.List.{append-nil}, lemmas.List.Elements.{All-nil}}
use Rattle.ocfl_tree.specs.Place.{Text}
use Rattle.ocfl_messages.specs.List.{IsRow, rows_text}
use Rattle.ocfl_messages.proofs.Lists.{entries_more, no_more, rows_all, rows_counted, rows_more}
use Rattle.ocfl_messages.proofs.list.read_rows.Goals as goal

pub loop-number-init : goal.loop-number-init
loop-number-init c = record { rows = []; are = All-nil IsRow; cut = refl; entries = c.new-entries.ensures.items; number = refl }

pub loop-number-preserved : goal.loop-number-preserved
loop-number-preserved c =
    let inv = c.loop-number.invariant in
    let taken = c.in-Ok.ensures.ok in
    record {
      rows = inv.rows ++ taken.0 ∷ [];
      are = rows_all inv.rows taken.0 inv.are taken.1;
      cut = rows_more c.args.bytes.now c.loop-number.rest.now c.in-Ok.after.now inv.rows taken.0 inv.cut taken.2;
      entries = entries_more c.loop-number.entries.items c.take_row.new.entries.items inv.rows taken.0 inv.entries taken.3;
      number = rows_counted c.loop-number.number inv.rows taken.0 inv.number;
    }

pub returns-then-is_empty-clause-known : goal.returns-then-is_empty-clause-known
returns-then-is_empty-clause-known c =
    let inv = c.loop-number.invariant in
    let none = no_more c.loop-number.rest.now (sym c.is_empty.ensures ∙ c.if-is_empty.true) in
    record {
      rows = inv.rows;
      are = inv.are;
      is = inv.cut ∙ ap (λ t. rows_text inv.rows ++ t) none ∙ append-nil (rows_text inv.rows);
      entries = inv.entries;
    }

pub returns-in-Err-Bad-clause-refused : goal.returns-in-Err-Bad-clause-refused
returns-in-Err-Bad-clause-refused c =
    let inv = c.loop-number.invariant in
    record {
      before = inv.rows;
      rest = c.loop-number.rest.now;
      are = inv.are;
      is = inv.cut;
      more = λ none. true≢false (sym (ap (λ (t : Text). length t == 0) none) ∙ sym c.is_empty.ensures ∙ c.if-is_empty.false);
      number = inv.number;
      bad = c.in-Err-Bad.ensures.bad (ap Err c.in-Err-Bad.field-0-is);
    }
