-- What is read of a report in pieces.
use Rattle.std.proofs.Common.{◌≡◌, ℕ, ◌+◌, ◌-◌, ◌≤◌, ◌++◌, length, take, drop, sym, ◌∙◌, ap, arith}
use Rattle.std.proofs.{lemmas.List.{drop-drop, take-take, length-take-le}, Math.Seq.{take-add}}
use Rattle.ocfl_tree.specs.Place.{Text}

-- one piece more
pub piece_on : (report : Text) (start at count : ℕ) → start ≤ at → take (at - start) (drop start report) ++ take count (drop at report) ≡ take (at + count - start) (drop start report)
piece_on report start at count le =
    let n = at - start in
    let there : start + n ≡ at = omega (arith, le) in
    let same : drop at report ≡ drop n (drop start report) = ap (λ (m : ℕ). drop m report) (sym there) ∙ sym (drop-drop n start report) in
    let whole : n + count ≡ at + count - start = omega (arith, le) in
    ap (λ (l : Text). take n (drop start report) ++ take count l) same ∙ sym (take-add n count (drop start report)) ∙ ap (λ (m : ℕ). take m (drop start report)) whole

-- a beginning of what was read
pub piece_read : (report buffer : Text) (start count given : ℕ) → given ≤ count → count ≤ length buffer → take count buffer ≡ take (length (take count buffer)) (drop start report) → take given buffer ≡ take given (drop start report)
piece_read report buffer start count given le room is =
    let long : length (take count buffer) ≡ count = length-take-le count buffer room in
    sym (take-take given count buffer le) ∙ ap (take given) is ∙ ap (λ (m : ℕ). take given (take m (drop start report))) long ∙ take-take given count (drop start report) le
