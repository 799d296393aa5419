-- What is left of a part lies ahead of what was looked into.
use Rattle.std.proofs.Common.{◌≡◌, ◌⊎◌, inl, inr, List, [], ◌∷◌, ◌++◌, sym, ap, subst, false, Option, Some}
use Rattle.std.specs.Ordering.{is_lt}
use Rattle.std.specs.declared.cmp.Ordering.TheVariants.{Less}
use Rattle.ocfl_tree.specs.{Place.{Place, place_cmp}, Ascending.{IsAmong}, StorageRoot.{StorageRoot}, Store.{Store}}
use Rattle.ocfl_tree.proofs.{Orders.{among_from_filter, among_left}, Stores.{among_either}}
use Rattle.ocfl_rules.specs.{Between.{IsBeyond}, Due.{due}, Parts.{Part, lies_in}}
use Rattle.ocfl_rules.proofs.PartLaws.{places_within_is}
use Rattle.ocfl_item.specs.Looking.{IsFront, LiesUpTo}
use Rattle.ocfl_report.specs.declared.further.Further.{Further}
use Rattle.ocfl_item.specs.declared.fault.Fault.{Fault}
use Rattle.ocfl_item.specs.declared.fault.Fault.TheVariants as fault
use Rattle.ocfl_item.proofs.UpToLaws.{not_less_or}
use Rattle.ocfl_walk.specs.WalkCalls.{GoDownFails, way_of}
use Rattle.ocfl_walk.proofs.BeforeLaws.{not_below}
use Rattle.ocfl_scrub.specs.Starting.{AreAhead, due_within, entry}
use Rattle.ocfl_scrub.proofs.{PartStarts.{entry_beyond}, PassLaws.{among_beyond}, WayOrder.{way_beyond}}

-- what a part has above a place is above where the walk goes down to
due_far : (further : Further) (root : StorageRoot) (part : Part) (from : Option Place) (y : Place) → IsAmong (due_within further root part from) y → IsBeyond (entry part from) y
due_far further root part from y j =
    let k = among_from_filter (lies_in part) (due further root from) y (subst (λ ps. IsAmong ps y) (places_within_is part (due further root from)) j) in
    entry_beyond part from y k.1 (among_beyond further root from y k.0)

-- what a part has above a place is not before a directory on the way down to where it begins
pub way_ahead : (further : Further) (root : StorageRoot) (part : Part) (from : Option Place) (listed : List Place) → IsFront listed (way_of (entry part from)) → AreAhead listed (due_within further root part from)
way_ahead further root part from listed front d y i j =
    let far : IsBeyond (entry part from) y = due_far further root part from y j in
    not_below d y (way_beyond (entry part from) d y (subst (λ ps. IsAmong ps d) (sym front.1) (among_left listed front.0 d i)) far)

-- nor before the directory in which the store failed on that way
pub down_up_to : (further : Further) (root : StorageRoot) (part : Part) (s t : Store) (from : Option Place) (why : Fault) → GoDownFails further root s t (entry part from) why
    → (q y : Place) → why ≡ fault.Store q → IsAmong (due_within further root part from) y → LiesUpTo (Some y) q
down_up_to further root part s t from why g q y e i d n is =
    let to = g.up_to q e in
    not_less_or y to.0 d (not_below to.0 y (subst (λ o. IsBeyond o y) to.1.0 (due_far further root part from y i))) (to.1.1 d n is)

pub ahead_both : (xs ys ps : List Place) → AreAhead xs ps → AreAhead ys ps → AreAhead (xs ++ ys) ps
ahead_both xs ys ps f g d p i j = by (among_either xs ys d i)
  where
    by : IsAmong xs d ⊎ IsAmong ys d → is_lt (place_cmp p d) ≡ false
    by (inl k) = f d p k j
    by (inr k) = g d p k j
