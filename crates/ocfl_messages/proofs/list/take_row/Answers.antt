use Rattle.std.proofs.{Common.{None, Some, refl, sym, subst}, lemmas.List.{append-nil}}
use Rattle.std.specs.Prelude.{IsNone}
use Rattle.ocfl_messages.proofs.Lists.{row_cut, row_refused}
use Rattle.ocfl_messages.proofs.list.take_row.Goals as goal

pub returns-then-is_remark-clause-ok : goal.returns-then-is_remark-clause-ok
returns-then-is_remark-clause-ok c = (
  (c.in-Some.row.now, None),
  (c.in-Some.ensures.first, c.is_remark.ensures.0 c.if-is_remark.true),
  row_cut c.args.text.now c.in-Some.row.now c.in-Some.after.now None c.in-Some.ensures.found,
  sym (append-nil c.args.entries.now.items),
)

pub returns-in-Ok-None-clause-bad : goal.returns-in-Ok-None-clause-bad
returns-in-Ok-None-clause-bad c = λ _.
    row_refused c.args.text.now c.in-Some.row.now c.in-Some.after.now c.in-Some.ensures.found c.in-Some.ensures.first
    (λ k. cc (c.is_remark.ensures.1 k, c.if-is_remark.false)) (c.in-Ok-None.ensures.missing (subst IsNone (sym c.in-Ok-None.field-0-is) refl))

pub returns-clause-ok : goal.returns-clause-ok
returns-clause-ok c = (
  (c.in-Some.row.now, Some c.in-Ok-Some.entry),
  (c.in-Some.ensures.first, (λ k. cc (c.is_remark.ensures.1 k, c.if-is_remark.false), rw c.in-Ok-Some.field-0-is at c.in-Ok-Some.ensures.found)),
  row_cut c.args.text.now c.in-Some.row.now c.in-Some.after.now (Some c.in-Ok-Some.entry) c.in-Some.ensures.found,
  c.in_ok-put_entry.ensures,
)
