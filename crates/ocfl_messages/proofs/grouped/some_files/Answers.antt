use Rattle.std.proofs.{Common.{◌≡◌, ◌++◌, ap, codes, decimal, string_bytes, ◌∙◌, append_assoc}, lemmas.Result.{IfOk-weaker}}
use Rattle.ocfl_messages.specs.{Grouped.{extent_text}, Many.{many_text}}
use Rattle.ocfl_messages.proofs.grouped.some_files.Goals as goal

pub returns : goal.returns
returns c =
    let n = c.args.counts in
    let D = decimal n.right in
    let rest : D ++ (codes " of " ++ (string_bytes c.in_ok-files.files ++ c.extent-extent.result.now)) ≡ ((D ++ codes " of ") ++ many_text n.files (codes "file") (codes "files")) ++ extent_text n.is_whole =
    simp (append_assoc, c.in_ok-files.ensures, c.extent-extent.ensures) in
    IfOk-weaker c.format.result _ _ (λ s h. h ∙ ap (λ t. codes ", " ++ t) rest) c.format.ensures.ok
