use Rattle.std.proofs.Common.{◌∙◌, Option, ap, nat_cmp, sym}
use Rattle.std.specs.Cmp.Lexicographic.{lists_ties, slice_cmp, texts_ties}
use Rattle.ocfl_tree.specs.Place.{Place}
use Rattle.ocfl_night.specs.Leaving.{is_at}
use Rattle.ocfl_night.proofs.tally.is_at.Goals as goal

pub returns-in-Some : goal.returns-in-Some
returns-in-Some c =
    let p = c.args.place.now in
    c.eq.ensures ∙ lists_ties (slice_cmp nat_cmp) texts_ties c.in-Some.tried p ∙ ap (λ (o : Option Place). is_at o p) (sym c.in-Some.is)
