-- A run that goes on with the walk of the run before it.
use Rattle.std.specs.Prelude.{◌≡◌, ◌≢◌, List, ◌++◌, false, Option, Some, None, IfSome, ⊤}
use Rattle.ocfl_tree.specs.{Place.{Place}, StorageRoot.{StorageRoot}, Store.{Store}}
use Rattle.ocfl_tree.specs.declared.store.Opening.{Opening}
use Rattle.ocfl_rules.specs.{Parts.{Part}, Runs.{Limits}, Trail.{heads_of}}
use Rattle.ocfl_cursor.specs.Cursor.{Cursor}
use Rattle.ocfl_item.specs.Looking.{IsFront}
use Rattle.ocfl_report.specs.declared.further.Further.{Further}
use Rattle.ocfl_walk.specs.{Ends.{is_past}, WalkCalls.{GoesDown, Walks}, Walks.{Gives, further_of}}
use Rattle.ocfl_scrub.specs.{Alike.{IsAlike}, Call.{Call, call_of}, Types.{RunEnd}}
use Rattle.ocfl_scrub.specs.Running.{RunsFromWithin, place_in}
use Rattle.ocfl_scrub.specs.Starting.{end_of, entry, looked_in, read_in, stand}
use Rattle.ocfl_scrub.specs.{declared.kept.KeptWalk.{KeptWalk}, declared.kept.Met.{Met}}

-- the place of the item that the walk met, and none where the next run begins a walk
abbrev pub met_in : Option Met → Option Place
met_in None = None
met_in (Some m) = Some m.item.place

abbrev pub met_at : KeptWalk → Option Place
met_at kept = met_in kept.met

-- Calls of the walk, from where a run above a place begins, gave this item before the part's end,
-- and the walk stands after it. It is a walk of an audit with this option.
pub record IsMet (further : Further) (root : StorageRoot) (part : Part) (from : Option Place) (m : Met) : Type 0 where
  pub before : Store
  pub after : Store
  pub gives : Gives further root before after (stand root part from) m.walk (Some m.item)
  pub in_front : is_past (end_of part) m.item.place ≡ false

abbrev pub IsReadyIn : Further → StorageRoot → Part → Option Place → Option Met → Type 0
IsReadyIn further root part from None = ⊤
IsReadyIn further root part from (Some m) = IsMet further root part from m

-- a run with this option, of this part above this place, may go on with it
abbrev pub IsReady : Further → StorageRoot → Part → Option Place → KeptWalk → Type 0
IsReady further root part from kept = IsReadyIn further root part from kept.met

-- a walk that is kept is of an audit with this option
abbrev pub HasOption : Further → Option Met → Type 0
HasOption further met = IfSome met (λ m. further_of m.walk ≡ further)

-- or of one with the other option: then a run does not use it
abbrev pub HasOther : Further → Option Met → Type 0
HasOther further met = IfSome met (λ m. further_of m.walk ≢ further)

-- In a part, only directories above a place were listed, the first of them, each once and in order,
-- and only inventories of objects above it were read, so too.
pub record LooksAbove (call : Call) (part : Part) (p : Place) : Type 0 where
  pub listed : List Place
  pub trail : List Opening
  pub listings_are : call.after.listings ≡ call.before.listings ++ listed
  pub openings_are : call.after.openings ≡ call.before.openings ++ trail
  pub listed_front : IsFront listed (looked_in call.root part (Some p) None)
  pub heads_front : IsFront (heads_of call.root trail) (read_in call.root part (Some p) None)

-- A run that began with an item that was met before. There is a run from the same cursor that goes
-- down to where it begins, walks on to that item, and from there on does what this one did. This
-- one did no more than that.
pub record GoesOnFrom (call : Call) (part : Part) (p : Place) (c : Cursor) (limits : Limits) (ran : RunEnd) : Type 0 where
  pub before : Store
  pub begun : Store
  pub there : Store
  pub behind : Store
  pub down : GoesDown call.further call.root before begun (entry part (place_in c.state))
  pub way : Walks call.further call.root begun there (stand call.root part (place_in c.state)) (Some p)
  pub alike : IsAlike call.before call.after there behind
  pub runs : RunsFromWithin (call_of call.further call.root before behind call.old call.new) part c limits ran
  pub looks : LooksAbove call part p

-- a run from a cursor, with a walk that met an item there, or that begins
abbrev pub RunsOn : Call → Part → Option Place → Cursor → Limits → RunEnd → Type 0
RunsOn call part None c limits ran = RunsFromWithin call part c limits ran
RunsOn call part (Some p) c limits ran = GoesOnFrom call part p c limits ran
