-- What calls looked at: which storage root, and which content files they could not read.
use Rattle.std.specs.Prelude.{◌≡◌, ◌&&◌, ℕ, ◌+◌, ◌≤◌, List, ◌++◌, Option, None, IfSome, drop, filter, length}
use Rattle.ocfl_tree.specs.{Place.{Place, place_eq}, Ascending.{IsAmong}, StorageRoot.{StorageRoot}}
use Rattle.ocfl_tree.specs.{Store.{Store, failed_openings}, declared.store.Opening.{Opening}}
use Rattle.ocfl_report.specs.declared.further.Further.{Further}
use Rattle.ocfl_rules.specs.{Audit.{Unread}, Parts.{Part}, Trail.{unread_of}}

-- ---- of a store

-- the openings that a store counts and did not count before
abbrev pub opened_since : Store → Store → List Opening
opened_since s t = drop (length s.openings) t.openings

-- how many of these openings and of these listings that failed are of a place
abbrev pub failed_in : Place → List Opening → List Place → ℕ
failed_in p openings listings = length (filter (λ o. o.failed && place_eq o.place p) openings) + length (filter (λ q. place_eq q p) listings)

-- how often a store has failed at a place
abbrev pub failed_at : Place → Store → ℕ
failed_at p s = failed_in p s.openings s.failed_listings

-- those are all that it did not count before, and each of them that failed is counted as a failure;
-- what it has counted of a place stays counted
pub record Counts (s t : Store) : Type 0 where
  pub openings : t.openings ≡ s.openings ++ opened_since s t
  pub failures : s.failures + failed_openings (opened_since s t) ≤ t.failures
  pub failed : (p : Place) → failed_at p s ≤ failed_at p t

-- ---- looks

-- a storage root, and the content files that could not be read
pub record Look : Type 0 where
  pub root : StorageRoot
  pub unread : Unread

-- what a store of this root was looked at for from one moment to another, by an audit that checks this
abbrev pub look_between : Further → StorageRoot → Store → Store → Look
look_between further root s t = record { root = root; unread = unread_of further root (opened_since s t) }

-- no more was unread
abbrev pub IsNoMore : Unread → Unread → Type 0
IsNoMore few most = (e : Place × ℕ) → IsAmong few e → IsAmong most e

-- a look at the same root, in which no more was unread
pub record IsWithin (small large : Look) : Type 0 where
  pub root : small.root ≡ large.root
  pub unread : IsNoMore small.unread large.unread

-- ---- what nights are over

-- what is known of nights: the looks that their runs are within, and of which cycles closed reports
-- may have been taken away between them
pub record Known : Type 0 where
  pub looks : List Look
  pub gone : List ℕ

-- within one of these looks, if any are known
abbrev pub IsOneOf : Option Known → Look → Type 0
IsOneOf known l = IfSome known (λ k. (large : Look) × (IsAmong k.looks large × IsWithin l large))

-- the storage root of one of these looks, if any are known
abbrev pub IsRootOf : Option Known → StorageRoot → Type 0
IsRootOf known root = IfSome known (λ k. (l : Look) × (IsAmong k.looks l × (l.root ≡ root)))

-- the closed report of a cycle may have been taken away
abbrev pub MayBeGone : Option Known → ℕ → Type 0
MayBeGone known cycle = IfSome known (λ k. IsAmong k.gone cycle)

-- this holds if something is known
abbrev pub IfGiven : Option Known → Type 0 → Type 0
IfGiven known Holds = IfSome known (λ k. Holds)

-- A part, what its audit checks, and what is known of the nights. If anything is, no report of theirs
-- was ever found to be another one than its checkpoint says.
pub record Rounds : Type 0 where
  pub part : Part
  pub further : Further
  pub known : Option Known

-- over a part, whatever their runs looked at, and whatever was taken away
abbrev pub of_any : Further → Part → Rounds
of_any further part = record { part = part; further = further; known = None }

-- whatever is known, if this is within one of its looks
abbrev pub WithLook : Further → Part → Look → (Rounds → Type 0) → Type 0
WithLook further part look Holds = (known : Option Known) → IsOneOf known look → Holds (record { part = part; further = further; known = known })
