use Rattle.std.proofs.Common.{◌++◌, ◌∙◌, All, map, subst}
use Rattle.std.proofs.lemmas.Result.{on_ok_weaker, IfErr-weaker}
use Rattle.ocfl_tree.specs.Name.{IsPlace}
use Rattle.ocfl_report.specs.Text.{lines_text}
use Rattle.ocfl_compare.specs.Internal.Listing.{as_object}
use Rattle.ocfl_compare.proofs.Listings.{known_searched, known_stops}
use Rattle.ocfl_compare.proofs.expecting.find_expected.Goals as goal

pub returns-in-Ok-clause-searched : goal.returns-in-Ok-clause-searched
returns-in-Ok-clause-searched g c =
    let whole = c.as_slice-before.ensures.value ∙ c.in-Ok.ensures.text ∙ (λ i. c.new-text.ensures.items i ++ lines_text (map as_object (c.as_slice.ensures.value i))) in
    on_ok_weaker c.answer.result (λ h.
    known_searched c.args.left.now c.args.listed.now.items c.sort_unstable.new.self.items c.as_slice-before.result.now (g.R.Read.remaining c.args.report.now)
    (λ changes. g.T.TakeChange.takes c.args.taker.now changes c.answer.new.taker) c.sort_unstable.ensures.permutation c.sort_unstable.ensures.sorted (subst (All IsPlace) c.as_slice.ensures.value c.in-Ok.ensures.names) whole h)
    c.answer.ensures.answered

pub returns-in-Ok-clause-refused : goal.returns-in-Ok-clause-refused
returns-in-Ok-clause-refused g c =
    let whole = c.as_slice-before.ensures.value ∙ c.in-Ok.ensures.text ∙ (λ i. c.new-text.ensures.items i ++ lines_text (map as_object (c.as_slice.ensures.value i))) in
    IfErr-weaker c.answer.result _ _ (λ stop h.
    known_stops c.sort_unstable.new.self.items c.as_slice-before.result.now (g.R.Read.remaining c.args.report.now) stop c.sort_unstable.ensures.sorted
    (subst (All IsPlace) c.as_slice.ensures.value c.in-Ok.ensures.names) whole h) c.answer.ensures.refused
