use Rattle.std.proofs.Common.{◌≡◌, ◌-◌, ◌<◌, ◌≤◌, ◌∙◌, ap, sym, length, rules}
use Rattle.std.specs.Prelude.{◌&&◌, codes, nat_eq}
use Rattle.ocfl_tree.specs.Place.{text_eq}
use Rattle.ocfl_item.proofs.VisitPlaces.{entry_met, extensions_alone, file_deeper, file_in_root, other_directory, other_in_hierarchy}
use Rattle.ocfl_item.proofs.role.role_in_hierarchy.Goals as goal

pub returns-in-File : goal.returns-in-File
returns-in-File c = λ further root d met.
    let deep : 1 < length c.args.place.now = search rules in
    file_deeper further root _ d _ met.is met.part _ (entry_met further root d _ _ c.args.entry.now met) c.in-File.is deep

pub returns-in-File-2 : goal.returns-in-File-2
returns-in-File-2 c = λ further root d met.
    let short : length c.args.place.now ≤ 1 = search rules in
    file_in_root further root _ d _ met.is met.part _ (entry_met further root d _ _ c.args.entry.now met) c.in-File-2.is short

pub returns-in-Other : goal.returns-in-Other
returns-in-Other c = λ further root d met. other_in_hierarchy further root _ d _ met.is met.part _ (entry_met further root d _ _ c.args.entry.now met) c.in-Other.is

pub returns-in-Dir : goal.returns-in-Dir
returns-in-Dir c = λ further root d met.
    let above : length c.args.place.now - 1 ≡ c.saturating_sub-above.result = search rules in
    let named = ap (λ k. nat_eq k 0 && text_eq c.args.entry.now.name (codes "extensions")) above ∙ sym c.names_extensions.ensures ∙ c.if-names_extensions.true in
    extensions_alone further root _ d _ met.is met.part _ (entry_met further root d _ _ c.args.entry.now met) c.in-Dir.is named

pub returns-in-Dir-2 : goal.returns-in-Dir-2
returns-in-Dir-2 c = λ further root d met.
    let above : length c.args.place.now - 1 ≡ c.saturating_sub-above.result = search rules in
    let other = ap (λ k. nat_eq k 0 && text_eq c.args.entry.now.name (codes "extensions")) above ∙ sym c.names_extensions.ensures ∙ c.if-names_extensions.false in
    other_directory further root _ d _ met.is met.part _ (entry_met further root d _ _ c.args.entry.now met) c.in-Dir-2.is other
