use Rattle.std.proofs.{Common.{◌∙◌, ap, sym}, lemmas.List.{at_drop_all}}
use Rattle.ocfl_tree.specs.{Place.{text_eq}, Listing.{kind_in}}
use Rattle.ocfl_item.proofs.LooksEntries.{kind_found, kind_goes_on}
use Rattle.ocfl_item.proofs.folder.kind_of.Goals as goal

pub returns-then-is_text : goal.returns-then-is_text
returns-then-is_text c =
    kind_found c.args.entries.now c.loop-entry.entry-index c.entry-item.result c.args.name.now c.is_text.result c.loop-entry-test.true c.entry-item.is c.loop-entry.invariant
    (c.is_text.ensures ∙ ap (λ x. text_eq x c.args.name.now) c.as_str.ensures.value) c.if-is_text.true

pub loop-entry-preserved : goal.loop-entry-preserved
loop-entry-preserved c =
    kind_goes_on c.args.entries.now c.loop-entry.entry-index c.entry-item.result c.args.name.now c.is_text.result c.loop-entry-test.true c.entry-item.is c.loop-entry.invariant
    (c.is_text.ensures ∙ ap (λ x. text_eq x c.args.name.now) c.as_str.ensures.value) c.if-is_text.false

pub returns : goal.returns
returns c = sym (c.loop-entry.invariant ∙ at_drop_all (λ xs. kind_in xs c.args.name.now) c.args.entries.now c.loop-entry.entry-index c.loop-entry-test.false)
