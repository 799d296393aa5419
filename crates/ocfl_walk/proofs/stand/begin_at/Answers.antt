use Rattle.std.proofs.Common.{◌∙◌, ap}
use Rattle.ocfl_walk.specs.{Standing.{piles_at}, Internal.Standing.{cut_top, trimmed}}
use Rattle.ocfl_walk.proofs.stand.begin_at.Goals as goal

pub returns : goal.returns
returns c = λ p. c.drop_empty.ensures p ∙ ap trimmed (c.drop_before.ensures p)
    ∙ ap (λ k. trimmed (cut_top k c.args.name.now (piles_at p c.args.listings.now.items))) c.depth.ensures
