use Rattle.std.proofs.Common.{◌≡◌, ◌∙◌, Some, ap, sym}
use Rattle.ocfl_walk.specs.{Standing.{piles_in}, Internal.Standing.{next_of, path_from}}
use Rattle.ocfl_walk.proofs.Chosen.{tie}
use Rattle.ocfl_walk.proofs.stand.choose.Goals as goal

pub returns-then-is_next_entry-clause-next : goal.returns-then-is_next_entry-clause-next
returns-then-is_next_entry-clause-next c = λ p is.
    let entry = ap (λ l. next_of (piles_in l c.args.listings.now.items)) c.in-Some.is ∙ c.is_next_entry.ensures.0 c.if-is_next_entry.true in
    let both : Some c.in-Some.last ≡ Some p = sym c.in-Some.is ∙ is in
    let same : p ≡ c.in-Some.last = cc in
    let path = ap (λ l. path_from l c.args.around.now) same ∙ sym c.in_ok-path.ensures ∙ c.in-Some-2.is in
    tie _ _ c.in-Some-2.path entry path
