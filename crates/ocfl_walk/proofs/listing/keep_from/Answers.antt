use Rattle.std.proofs.{Common.{rules, ◌∙◌, ap, not}, lemmas.Fn.{filter_same}}
use Rattle.std.specs.Ordering.{is_lt}
use Rattle.ocfl_tree.specs.{Place.{text_cmp}, declared.store.Entry.{Entry}}
use Rattle.ocfl_walk.specs.Standing.{back}
use Rattle.ocfl_walk.proofs.Backs.{back_filter}
use Rattle.ocfl_walk.proofs.listing.keep_from.Goals as goal

pub returns : goal.returns
returns c =
    let test = λ (e : Entry). not (is_lt (text_cmp e.name c.args.name.now)) in
    ap (back (λ x. x)) (filter_same _ test _ (λ x b f' k. search rules) _ _ c.retain.ensures.filtered) ∙ back_filter test _
