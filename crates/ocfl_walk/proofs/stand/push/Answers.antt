use Rattle.std.proofs.{lemmas.List.{length-append}, Common.{◌∙◌, [], ◌∷◌, ap, length}}
use Rattle.ocfl_walk.proofs.PlacedLaws.{pushed_at}
use Rattle.ocfl_walk.proofs.stand.push.Goals as goal

pub returns-clause-count : goal.returns-clause-count
returns-clause-count c = ap length c.push.ensures.items ∙ length-append c.args.listings.now.items (c.args.folder.entries ∷ [])

pub returns-clause-piles : goal.returns-clause-piles
returns-clause-piles c = λ p q way depth. pushed_at p q c.args.listings.now.items c.push.new.self.items c.args.folder c.push.ensures.items way depth
