use Rattle.std.proofs.Common.{◌≡◌, ◌∙◌, ◌++◌, ap, append_assoc, codes, map}
use Rattle.ocfl_tree.specs.Place.{Text}
use Rattle.ocfl_messages.specs.{Finding.{finding_of}, Grouped.{brief_body, brief_head, count_with, first_with}}
use Rattle.ocfl_messages.proofs.Made.{made_text}
use Rattle.ocfl_messages.proofs.grouped.put_brief.Goals as goal

three : (a b c d : Text) → ((a ++ b) ++ c) ++ d ≡ a ++ (b ++ c ++ d)
three a b c d = simp append_assoc

pub returns : goal.returns
returns c =
    let F = finding_of c.args.finding.now in
    let A = map finding_of c.args.sorted.now.alone.now in
    let head = made_text c.brief_head_of.result _ _ _ c.brief_head_of.ensures c.in_ok-put_made.ensures in
    c.in_ok-push.ensures.items ∙ ap (λ t. t ++ codes "\n") (c.in_ok-put_brief_body.ensures ∙ (λ j. head j ++ brief_body (c.count_with-count.ensures j) F (c.first_with.ensures j)))
    ∙ three c.args.text.now.items (brief_head c.args.finding.now.object) (brief_body (count_with F (map finding_of c.args.sorted.now.all.now)) F (first_with F A)) (codes "\n")
