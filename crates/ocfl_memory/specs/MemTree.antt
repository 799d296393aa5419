-- What a tree in memory tells, and what its builders do.
use Rattle.std.specs.Prelude.{◌≡◌, ◌≢◌, IsTrue, IsErr, ℕ, ◌+◌, ◌-◌, ◌^◌, Bool, false, not, ◌&&◌, nat_lt, nat_le, [], ◌∷◌, ◌++◌, Option, Some, None, is_some, IsOkUnless, MatchOption, OnErr, OnOk, Result, Err, length, min, if◌then◌else◌, slice_get}
use Rattle.std.specs.Option.{option_map_or}
use Rattle.ocfl_tree.specs.Place.{Text, Place, place_eq, begins}
use Rattle.ocfl_tree.specs.StorageRoot.{StorageRoot, Leaf, at, is_dir, names_in, max_entries}
use Rattle.ocfl_tree.specs.{Store.{Store, empty_store}, declared.store.Opening.{Opening}}
use Rattle.ocfl_tree.specs.declared.store.Trouble.{Trouble}
use Rattle.ocfl_tree.specs.declared.store.Trouble.TheVariants.{Absent}
use Rattle.ocfl_memory.specs.Faults.{Faults, no_faults, is_struck, within_step}
use Rattle.ocfl_memory.specs.{declared.plan.Point.{Point}, declared.build.BuildStop.{BuildStop}}
use Rattle.ocfl_memory.specs.declared.build.BuildStop.TheVariants.{Exists, NoParent, Full, Memory}
use Rattle.ocfl_memory.specs.declared.plan.Point.TheVariants as point

-- a store that tells its tree, and which of its calls are made to fail
pub record Held : Type 0 where
  pub store : Store
  pub faults : Faults

abbrev pub nothing_held : Held
nothing_held = record { store = empty_store; faults = no_faults }

abbrev pub with_step : ℕ → Held → Held
with_step n h = record h { faults = record h.faults { step = Some n } }

abbrev pub with_call : ℕ → Held → Held
with_call k h = record h { faults = record h.faults { call = Some k } }

abbrev pub with_point : Place → Point → Held → Held
with_point p point h = record h { faults = record h.faults { points = h.faults.points ++ (p, point) ∷ [] } }

-- whether the next call, this one at p, answers that the device failed; the count of failures has a
-- limit
abbrev pub fails : Held → Place → Point → Bool
fails h p call = nat_lt (h.store.failures + 1) (2 ^ 64) && is_struck h.faults p call

-- a call that is made to fail does so, and not as if nothing were there
abbrev pub FailsWhereStruck : {X : Type 0} → Bool → Result X Trouble → Type 0
FailsWhereStruck struck result = IsTrue struck → IsErr result × (result ≢ Err Absent)

abbrev pub last_opening : Store → Option Opening
last_opening s = slice_get s.openings (length s.openings - 1)

-- the same of a read, if a file is open: that of the last opening
abbrev pub read_fails : Held → Bool
read_fails h = option_map_or (λ o. fails h o.place (point.Read o.given)) (last_opening h.store) false

-- how many bytes a read of what is left gives into a buffer with this room
abbrev pub given_of : Option ℕ → Option Text → ℕ → ℕ
given_of step None room = 0
given_of step (Some left) room = within_step step (min (length left) room)

-- all names but the last
abbrev pub parent : Place → Place
parent [] = []
parent (n ∷ []) = []
parent (n ∷ m ∷ p) = n ∷ parent (m ∷ p)

-- why nothing is put at a place: the first reason that applies
abbrev pub put_refusal : StorageRoot → Place → Option BuildStop
put_refusal root p =
    if is_some (at root p) then Some Exists
    else (if not (is_dir root (parent p)) then Some NoParent
    else (if nat_le max_entries (length (names_in root (parent p))) then Some Full else None))

-- no file is open, and all else but the tree stays
pub record Changes (s t : Store) : Type 0 where
  pub closed : t.rest ≡ None
  pub openings_are : t.openings ≡ s.openings
  pub listings_are : t.listings ≡ s.listings
  pub failed_are : t.failed_listings ≡ s.failed_listings
  pub failures_are : t.failures ≡ s.failures
  pub largest : t.largest ≡ s.largest

-- after a put at p: this leaf there, and else what was
abbrev pub after_put : StorageRoot → Place → Leaf → Place → Option Leaf
after_put root p leaf q = if place_eq q p then Some leaf else at root q

-- after p is taken away: nothing there and below it, and else what was
abbrev pub after_removal : StorageRoot → Place → Place → Option Leaf
after_removal root p q = if begins p q then None else at root q

pub record Puts (s t : Store) (p : Place) (leaf : Leaf) : Type 0 where
  pub tree : (q : Place) → at t.tree q ≡ after_put s.tree p leaf q
  pub changes : Changes s t

-- what a call that puts this leaf at p does and answers
pub record PutAnswer {A : Type 0} (h k : Held) (p : Place) (leaf : Leaf) (r : Result A BuildStop) : Type 0 where
  pub ok : OnOk r (Puts h.store k.store p leaf)
  pub faults : k.faults ≡ h.faults
  pub err : OnErr r (k ≡ h)
  pub refused : MatchOption (put_refusal h.store.tree p) (IsOkUnless r Memory) (λ stop. r ≡ Err stop)

pub record Removes (s t : Store) (p : Place) : Type 0 where
  pub tree : (q : Place) → at t.tree q ≡ after_removal s.tree p q
  pub changes : Changes s t
