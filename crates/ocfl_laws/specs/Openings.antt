-- Where the files are that a call opens.
use Rattle.std.specs.Prelude.{◌≡◌, ◌⊎◌, List, ◌++◌, true, false, Option, Some}
use Rattle.ocfl_tree.specs.{Place.{Place}, Ascending.{IsAmong}}
use Rattle.ocfl_tree.specs.declared.store.Opening.{Opening}
use Rattle.ocfl_rules.specs.{Parts.{Part, lies_in}, Trail.{is_meta}}
use Rattle.ocfl_item.specs.Auditing.{LiesIn, LiesNear}
use Rattle.ocfl_scrub.specs.{Call.{Call}, Starting.{entry}}

-- these directories were listed, and each file that was opened is right in one of them; a sidecar of
-- an inventory of a version is so, or is beside such an inventory
pub record OpensNear (call : Call) (listed : List Place) : Type 0 where
  pub trail : List Opening
  pub openings_are : call.after.openings ≡ call.before.openings ++ trail
  pub listings_are : call.after.listings ≡ call.before.listings ++ listed
  pub near : (o : Opening) → IsAmong trail o → LiesNear call.further call.root listed o.place
  pub content : (o : Opening) → IsAmong trail o → is_meta call.further call.root o.place ≡ false → LiesIn listed o.place

-- and each of these directories is in the part, or is on the way down to where the call began
pub record OpensWithin (part : Part) (from : Option Place) (call : Call) : Type 0 where
  pub listed : List Place
  pub opens : OpensNear call listed
  pub there : (d : Place) → IsAmong listed d → (lies_in part d ≡ true) ⊎ ((q : Place) × (entry part from ≡ Some (d ++ q)))
