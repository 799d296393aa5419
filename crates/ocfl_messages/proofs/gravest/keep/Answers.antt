use Rattle.std.proofs.Common.{◌≡◌, ◌<◌, ◌≤◌, [], ◌∷◌, ◌++◌, length, map, take, sym, subst, arith}
use Rattle.ocfl_messages.specs.{Finding.{finding_of}, Gravest.{most_kept}}
use Rattle.ocfl_messages.proofs.Taking.{kept_full, kept_more}
use Rattle.ocfl_messages.proofs.gravest.keep.Goals as goal

pub returns-then-len-ge-KEPT-clause-ok : goal.returns-then-len-ge-KEPT-clause-ok
returns-then-len-ge-KEPT-clause-ok c = λ ls h.
    let full : most_kept ≤ length c.args.kept.now.items = omega arith in
    kept_full c.args.kept.now.items ls (finding_of c.args.finding) full h

pub returns-clause-ok : goal.returns-clause-ok
returns-clause-ok c = λ ls h.
    let few : length c.args.kept.now.items < most_kept = omega arith in
    subst (λ xs. map finding_of xs ≡ take most_kept (ls ++ finding_of c.args.finding ∷ [])) (sym c.in_ok-push.ensures.items) (kept_more c.args.kept.now.items ls c.args.finding few h)
