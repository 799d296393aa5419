use Rattle.std.proofs.Common.{◌≡◌, List, ◌∷◌, [], OnOk, Some, sym, ◌∙◌, ap, subst}
use Rattle.std.proofs.lemmas.Option.{slice_get-get_or, slice_get_past}
use Rattle.std.specs.Prelude.{slice_get}
use Rattle.ocfl_inventory.specs.{Note.{note, Note}, Declaration.{after_prefix}}
use Rattle.ocfl_report.specs.declared.code.Code.TheVariants.{S01}
use Rattle.ocfl_item.specs.Internal.Lines.{Adds}
use Rattle.ocfl_item.proofs.HeadLaws.{unknown_name, unknown_there}
use Rattle.ocfl_item.proofs.declarations.add_stop.Goals as goal

pub returns-in-Some-clause-lines : goal.returns-in-Some-clause-lines
returns-in-Some-clause-lines c = λ root o h points.
    let at = c.in-Some.ensures.lookup in
    let entry : slice_get c.args.entries.now c.in-Unknown.index ≡ Some c.in-Some.entry.now =
    slice_get-get_or c.args.entries.now c.in-Unknown.index c.in-Some.entry.now at.3.0 ∙ ap Some (sym at.1) in
    let k = unknown_name root o c.args.level c.args.entries.now c.args.declared c.in-Unknown.index c.in-Some.entry.now c.in-Unknown.is entry points in
    let named = c.as_str.ensures.value in
    let Lines : List Note → Type 0 = λ ns. OnOk c.add_unknown.result (Adds c.args.lines.now c.add_unknown.new.lines ns) in
    subst Lines (ap (λ n. note S01 (after_prefix c.args.level n) ∷ []) named ∙ sym k.lines) (c.add_unknown.ensures.lines (after_prefix c.args.level c.in-Some.entry.now.name) (named ∙ k.begins))

pub returns-in-None-get-clause-lines : goal.returns-in-None-get-clause-lines
returns-in-None-get-clause-lines c = λ root o h points.
    let past = slice_get_past c.args.entries.now c.in-Unknown.index c.in-None-get.ensures.lookup.3 in
    absurd (unknown_there c.args.level c.args.entries.now c.args.declared c.in-Unknown.index c.in-Unknown.is past points)
