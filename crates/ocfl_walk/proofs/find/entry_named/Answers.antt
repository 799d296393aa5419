use Rattle.std.proofs.{Common.{◌≡◌, ◌∙◌, sym, refl}, lemmas.List.{at_drop_all}}
use Rattle.ocfl_tree.specs.{Place.{text_eq}, Listing.{kind_in}}
use Rattle.ocfl_rules.proofs.BelowLaws.{text_from_test}
use Rattle.ocfl_item.proofs.LooksEntries.{kind_found, kind_goes_on}
use Rattle.ocfl_walk.proofs.find.entry_named.Goals as goal

pub loop-entry-init : goal.loop-entry-init
loop-entry-init c = refl

pub returns-then-is_text : goal.returns-then-is_text
returns-then-is_text c =
    let is : c.is_text.result ≡ text_eq c.entry-item.result.name c.args.name.now = c.is_text.ensures ∙ (λ i. text_eq (c.as_str.ensures.value i) (c.as_str-in-loop-entry.ensures.value i)) in (
      text_from_test c.entry-item.result.name c.args.name.now (sym is ∙ c.if-is_text.true),
      sym (kind_found c.args.entries.now c.loop-entry.entry-index c.entry-item.result c.args.name.now c.is_text.result c.loop-entry-test.true c.entry-item.is
          c.loop-entry.invariant is c.if-is_text.true),
    )

pub loop-entry-preserved : goal.loop-entry-preserved
loop-entry-preserved c =
    kind_goes_on c.args.entries.now c.loop-entry.entry-index c.entry-item.result c.args.name.now c.is_text.result c.loop-entry-test.true c.entry-item.is c.loop-entry.invariant
    (c.is_text.ensures ∙ (λ i. text_eq (c.as_str.ensures.value i) (c.as_str-in-loop-entry.ensures.value i))) c.if-is_text.false

pub returns : goal.returns
returns c = c.loop-entry.invariant ∙ at_drop_all (λ xs. kind_in xs c.args.name.now) c.args.entries.now c.loop-entry.entry-index c.loop-entry-test.false
