use Rattle.std.proofs.Common.{◌∙◌, Option, ap, sym}
use Rattle.ocfl_tree.specs.Place.{Place}
use Rattle.ocfl_rules.specs.Parts.{Part}
use Rattle.ocfl_scrub.specs.Starting.{part_of}
use Rattle.ocfl_night.specs.Chain.{from_after}
use Rattle.ocfl_night.proofs.Chains.{after_is}
use Rattle.ocfl_night.proofs.leaving.part_past.Goals as goal

pub returns-clause-next : goal.returns-clause-next
returns-clause-next c =
    let p = part_of c.args.part.now in
    ap (λ (x : Option Place). part_at x c.in_ok-under.under c.in_ok-below.below) c.in_ok-from.ensures.next
    ∙ ap (λ (x : Place). part_at (from_after p.from c.args.left.now) x c.in_ok-below.below) c.in_ok-under.ensures
    ∙ ap (λ (x : Option Place). part_at (from_after p.from c.args.left.now) p.under x) c.in_ok-below.ensures
    ∙ sym (after_is p.under p.from p.below c.args.left.now)
  where
    part_at : Option Place → Place → Option Place → Part
    part_at f u b = record { under = u; from = f; below = b }
