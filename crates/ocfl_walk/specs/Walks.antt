-- A walk as those above it see it.
use Rattle.std.specs.Prelude.{◌≡◌, ◌<◌, ◌≤◌, ◌+◌, ℕ, ◌∷◌, ◌++◌, List, [], Option, Some, None, length, ⊤}
use Rattle.ocfl_tree.specs.{Place.{Place, Text}, StorageRoot.{StorageRoot}, Store.{Store}}
use Rattle.ocfl_tree.specs.declared.store.Opening.{Opening}
use Rattle.ocfl_report.specs.declared.further.Further.{Further}
use Rattle.ocfl_rules.specs.{Due.{due}, Between.{IsBeyond}}
use Rattle.ocfl_walk.specs.{Before.{place_before}, Ends.{before_end}, WalkCalls.{Walks, WalksOut}}
use Rattle.ocfl_walk.specs.{Standing.{StandsAt, stand_size}, declared.end.End.{End}}
use Rattle.ocfl_walk.specs.{declared.stand.Stand.{Stand}, declared.walk.Walk.{Walk}}
use Rattle.ocfl_item.specs.{Ways.{AreInventories}, Pending.{IsPending}}
use Rattle.ocfl_item.specs.declared.pending.Pending.{Pending}

-- what its audit checks beside what every audit checks
abbrev pub further_of : Walk → Further
further_of walk = walk.further

-- the place after which it stands
abbrev pub last_of : Walk → Option Place
last_of walk = walk.stand.last

abbrev pub first_size : Option Text → ℕ
first_size None = 0
first_size (Some n) = 1

-- a number that each item lowers, on every store
unfoldable pub walk_size : Walk → ℕ
walk_size walk = first_size walk.first + stand_size walk.stand

-- a walk that begins at a name of the directory after which it stands, stands after the place
-- before that
abbrev pub StandsFrom : Further → StorageRoot → Option Text → Stand → Option Place → Type 0
StandsFrom further root None s last = StandsAt further root s last
StandsFrom further root (Some n) s last = (d : Place) × StandsAt further root s (Some d) × (last ≡ place_before root (d ++ n ∷ []))

-- it checks this beside what each audit checks, and stands over this tree, after this place
abbrev pub Stands : Further → StorageRoot → Walk → Option Place → Type 0
Stands further root walk last = (walk.further ≡ further) × StandsFrom further root walk.first walk.stand last

-- from s to t no file was opened but inventories
pub record OpensInventories (root : StorageRoot) (s t : Store) : Type 0 where
  pub trail : List Opening
  pub opened : t.openings ≡ s.openings ++ trail
  pub only : AreInventories root trail

-- on every store: it goes on to a greater place of at most 255 names, and what is left gets less
abbrev pub GoesOn : Walk → Walk → Option Pending → Type 0
GoesOn old new None = ⊤
GoesOn old new (Some p) = (last_of new ≡ Some p.place) × IsBeyond (last_of old) p.place × (walk_size new < walk_size old) × (length p.place ≤ 255)

-- nothing is left above the place after which it stands
abbrev pub HasEnded : Further → StorageRoot → Walk → Type 0
HasEnded further root walk = (x : Option Place) × Stands further root walk x × (due further root x ≡ [])

-- the first of what is due, or none if nothing is, then and from then on
abbrev pub Gives : Further → StorageRoot → Store → Store → Option Place → Walk → Option Pending → Type 0
Gives further root s t last new None = Walks further root s t last None × (due further root last ≡ []) × HasEnded further root new
Gives further root s t last new (Some p) =
    Walks further root s t last (Some p.place) × Stands further root new (Some p.place) × IsPending further root p × (due further root last ≡ p.place ∷ due further root (Some p.place))

-- ---- up to an end

-- nothing is left before the end above the place after which it stands
abbrev pub HasEndedOut : Further → StorageRoot → End → Walk → Type 0
HasEndedOut further root e walk = (x : Option Place) × Stands further root walk x × (before_end e (due further root x) ≡ [])

-- the first of what is due, or none where nothing is due before the end
abbrev pub GivesOut : Further → StorageRoot → Store → Store → Option Place → End → Walk → Option Pending → Type 0
GivesOut further root s t last e new None = WalksOut further root s t last e × (before_end e (due further root last) ≡ []) × HasEndedOut further root e new
GivesOut further root s t last e new (Some p) = Gives further root s t last new (Some p)
