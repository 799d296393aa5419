use Rattle.std.proofs.Common.{◌≡◌, sym, subst, ◌∙◌, length, ◌-◌, arith, true}
use Rattle.ocfl_tree.specs.Place.{text_eq}
use Rattle.ocfl_inventory.specs.ListedPath.{is_version_name}
use Rattle.ocfl_walk.specs.Internal.Entering.{LeadsOn}
use Rattle.ocfl_walk.proofs.LeadsLaws.{leads_zero, leads_one, leads_more, not_deeper}
use Rattle.ocfl_walk.proofs.entry.leads_on.Goals as goal

pub overflow_sub-depth : goal.overflow_sub-depth
overflow_sub-depth c = let n = not_deeper c.args.folder.now.place c.args.object.now c.in-Some.object c.in-Some.is c.requires in omega (arith, n, c.depth.ensures, c.depth-2.ensures)

pub returns-then-depth-eq0 : goal.returns-then-depth-eq0
returns-then-depth-eq0 c = λ root at. subst (λ x. LeadsOn root c.args.folder.now.place c.args.name.now x c.is_version_name.result) (sym c.in-Some.is) (λ s z t.
    let k : length c.args.folder.now.place - length c.in-Some.object.place ≡ 0 = (λ i. sym c.depth.ensures i - sym c.depth-2.ensures i) ∙ c.if-depth-eq0.true in
    c.is_version_name.ensures ∙ (λ i. is_version_name (c.as_str.ensures.value i)) ∙ leads_zero root c.args.folder.now.place c.args.name.now _ c.in-Some.object at s z t k)

pub returns-then-depth-eq1 : goal.returns-then-depth-eq1
returns-then-depth-eq1 c = λ root at. subst (λ x. LeadsOn root c.args.folder.now.place c.args.name.now x c.is_text.result) (sym c.in-Some.is) (λ s z t.
    let k : length c.args.folder.now.place - length c.in-Some.object.place ≡ 1 = (λ i. sym c.depth.ensures i - sym c.depth-2.ensures i) ∙ c.if-depth-eq1.true in
    c.is_text.ensures ∙ (λ i. text_eq (c.as_str-then-depth-eq1.ensures.value i) (c.content_directory.ensures i)) ∙ leads_one root c.args.folder.now.place c.args.name.now _ c.in-Some.object at s z t k)

pub returns-else-depth-eq1 : goal.returns-else-depth-eq1
returns-else-depth-eq1 c = λ root at. subst (λ x. LeadsOn root c.args.folder.now.place c.args.name.now x true) (sym c.in-Some.is) (λ s z t.
    let same : length c.args.folder.now.place - length c.in-Some.object.place ≡ c.depth.result - c.depth-2.result = λ i. sym c.depth.ensures i - sym c.depth-2.ensures i in
    leads_more root c.args.folder.now.place c.args.name.now _ c.in-Some.object at s z t (λ e. c.if-depth-eq0.false (sym same ∙ e)) (λ e. c.if-depth-eq1.false (sym same ∙ e)))
