use Rattle.std.proofs.{Common.{◌≡◌, ◌∙◌, ap, sym, refl}, lemmas.List.{at_drop_all}}
use Rattle.ocfl_tree.specs.{Place.{text_eq}, Listing.{kind_in}}
use Rattle.ocfl_rules.proofs.BelowLaws.{text_from_test}
use Rattle.ocfl_item.specs.Internal.Ways.{is_file_kind}
use Rattle.ocfl_item.proofs.LooksEntries.{kind_found, kind_goes_on, file_kind, other_kind}
use Rattle.ocfl_item.proofs.object.file_named.Goals as goal

pub loop-entry-init : goal.loop-entry-init
loop-entry-init c = refl

pub returns-in-File : goal.returns-in-File
returns-in-File c =
    let is : c.is_text.result ≡ text_eq c.entry-item.result.name c.args.name.now = c.is_text.ensures ∙ ap (λ x. text_eq x c.args.name.now) c.as_str.ensures.value in (
      text_from_test c.entry-item.result.name c.args.name.now (sym is ∙ c.if-is_text.true),
      sym (ap is_file_kind (kind_found c.args.entries.now c.loop-entry.entry-index c.entry-item.result c.args.name.now c.is_text.result c.loop-entry-test.true
          c.entry-item.is c.loop-entry.invariant is c.if-is_text.true)) ∙ file_kind c.entry-item.result.kind c.in-File.is,
    )

pub returns-in-Dir : goal.returns-in-Dir
returns-in-Dir c =
    let is : c.is_text.result ≡ text_eq c.entry-item.result.name c.args.name.now = c.is_text.ensures ∙ ap (λ x. text_eq x c.args.name.now) c.as_str.ensures.value in
    sym (ap is_file_kind (kind_found c.args.entries.now c.loop-entry.entry-index c.entry-item.result c.args.name.now c.is_text.result c.loop-entry-test.true
    c.entry-item.is c.loop-entry.invariant is c.if-is_text.true))
    ∙ other_kind c.entry-item.result.kind c.in-Dir.is

pub loop-entry-preserved : goal.loop-entry-preserved
loop-entry-preserved c =
    kind_goes_on c.args.entries.now c.loop-entry.entry-index c.entry-item.result c.args.name.now c.is_text.result c.loop-entry-test.true c.entry-item.is c.loop-entry.invariant
    (c.is_text.ensures ∙ ap (λ x. text_eq x c.args.name.now) c.as_str.ensures.value) c.if-is_text.false

pub returns : goal.returns
returns c = ap is_file_kind (c.loop-entry.invariant ∙ at_drop_all (λ xs. kind_in xs c.args.name.now) c.args.entries.now c.loop-entry.entry-index c.loop-entry-test.false)
