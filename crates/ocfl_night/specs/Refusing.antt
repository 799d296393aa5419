-- When a night is refused, for each reason: the first that applies.
use Rattle.std.specs.Prelude.{◌≡◌, ◌≢◌, ◌⊎◌, ◌-◌, ◌<◌, ◌^◌, [], Bool, IsTrue, true, false, Some, None, Result, Err, IsErr, ℕ}
use Rattle.ocfl_tree.specs.{Place.{Text}, Listing.{entries_in}, StorageRoot.{StorageRoot}, Store.{Store, IfTold}}
use Rattle.ocfl_identity.specs.Identity.{IsIdentityOf, declarations_among}
use Rattle.ocfl_identity.specs.declared.identity.Identity.{Identity}
use Rattle.ocfl_cursor.specs.declared.refused.Refused.TheVariants as refused
use Rattle.ocfl_state.specs.{Checkpoint.{Checkpoint}, CheckpointRefusal.{RefusedRightly}}
use Rattle.ocfl_state.specs.declared.folder.StateFolder as state
use Rattle.ocfl_state.specs.{Content.{Content, is_closed}}
use Rattle.ocfl_night.specs.Older.{IsOlder}
use Rattle.ocfl_night.specs.{Site.{AreMostGone, IsAnothers, IsForeign, IsOtherThan, IsOwn}, Sound.{IsAt}, Steps.{IsUntouched}}
use Rattle.ocfl_terms.specs.declared.plan.Plan.{Plan}
use Rattle.ocfl_night.specs.declared.site.Site.{Site}
use Rattle.ocfl_night.specs.{declared.not_opened.NotOpened.{NotOpened}, declared.not_opened.NotOpened.TheVariants.{Refused}}
use Rattle.ocfl_terms.specs.declared.refusal.Refusal.{Refusal}
use Rattle.ocfl_terms.specs.declared.refusal.Refusal.TheVariants.{NoCheckpoint, HasReports, Unread, NoRoot, OtherRoot, OtherPart, OtherAudit, OtherDeclaration, NamesGone, Older}

-- if a night is refused, this holds of the reason
abbrev pub IfRefused : {A : Type 0} → Result A NotOpened → (Refusal → Type 0) → Type 0
IfRefused result Holds = (why : Refusal) → result ≡ Err (Refused why) → Holds why

-- if a night is refused, this holds
abbrev pub OnRefused : {A : Type 0} → Result A NotOpened → Type 0 → Type 0
OnRefused result Holds = (why : Refusal) → result ≡ Err (Refused why) → Holds

-- no night is begun, and the folder stays as it was, whenever a crash comes
abbrev pub IsTurnedAway : {A F : Type 0} → Result A NotOpened → state.Ghosts F → F → F → Type 0
IsTurnedAway result S old new = IsErr result × IsUntouched S old new

-- the open report has bytes, or that of the first cycle is closed
abbrev pub HasReport : Content → Type 0
HasReport c = (c.report ≢ []) ⊎ IsTrue (is_closed c.closed 1)

-- in a folder without a checkpoint: none is to be made, or reports are there
abbrev pub IsUnbegun : Bool → Content → Refusal → Type 0
IsUnbegun create c NoCheckpoint = create ≡ false
IsUnbegun create c HasReports = (create ≡ true) × HasReport c
IsUnbegun create c _ = ⊥

-- for bytes in a checkpoint's place: they are not the text of one, and memory is not the reason
abbrev pub IsUnread : Text → Refusal → Type 0
IsUnread bytes (Unread why) = (why ≢ refused.Memory) × RefusedRightly bytes why
IsUnread bytes _ = ⊥

-- such bytes are in the checkpoint's place
abbrev pub HasUnread : Content → Refusal → Type 0
HasUnread c why = (bytes : Text) × ((c.checkpoint ≡ Some bytes) × IsUnread bytes why)

-- for a checkpoint: it is of a root at another path, or of another part, or of an audit that checks
-- something else
abbrev pub IsMisplaced : Site → Checkpoint → Refusal → Type 0
IsMisplaced site k (OtherRoot path) = (k.root.path ≡ path) × (path ≢ site.path)
IsMisplaced site k OtherPart = (k.root.path ≡ site.path) × (k.part ≢ site.ends)
IsMisplaced site k (OtherAudit further) = (k.root.path ≡ site.path) × (k.part ≡ site.ends) × (k.cursor.further ≡ further) × (further ≢ site.further)
IsMisplaced site k _ = ⊥

-- the root has another declaration than the checkpoint, or most of its names are gone
abbrev pub IsChangedRoot : Identity → Checkpoint → Refusal → Type 0
IsChangedRoot id k OtherDeclaration = k.root.declared ≢ id.declared
IsChangedRoot id k (NamesGone gone before) = (k.root.declared ≡ id.declared) × (AreMostGone id k × ((before ≡ k.names.count) × (gone ≡ before - id.count)))
IsChangedRoot id k _ = ⊥

-- it is misplaced, or unless forced the root is not as it was
abbrev pub IsDisowned : Site → Identity → Bool → Checkpoint → Refusal → Type 0
IsDisowned site id force k why = IsMisplaced site k why ⊎ (IsOwn site k × ((force ≡ false) × IsChangedRoot id k why))

-- for a checkpoint: the closed report of that cycle shows that it is an older one
abbrev pub IsOutdated : Checkpoint → Content → Refusal → Type 0
IsOutdated k c (Older cycle) = IsOlder k c cycle
IsOutdated k c _ = ⊥

-- a folder of this content is refused, over a root with this identity
pub data IsFolderRefused (site : Site) (id : Identity) (plan : Plan) (c : Content) (why : Refusal) : Type 0 where
  none : c.checkpoint ≡ None → IsUnbegun plan.create c why → IsFolderRefused site id plan c why
  unread : HasUnread c why → IsFolderRefused site id plan c why
  not_own : (k : Checkpoint) → IsAt k c → IsDisowned site id plan.force_root k why → IsFolderRefused site id plan c why
  outdated : (k : Checkpoint) → IsAt k c → IsOwn site k → IsOutdated k c why → IsFolderRefused site id plan c why

-- a night over a store is refused: the root has no declaration, or with its identity the folder is
pub data IsRefused (told : Bool) (s : Store) (site : Site) (plan : Plan) (c : Content) (why : Refusal) : Type 0 where
  no_root : why ≡ NoRoot → IfTold told s (λ root. declarations_among (entries_in root []) ≡ []) → IsRefused told s site plan c why
  in_folder : (id : Identity) → IfTold told s (λ root. IsIdentityOf root id) → IsFolderRefused site id plan c why → IsRefused told s site plan c why

-- ---- what no night is begun in

-- if a folder of this content has a checkpoint with which no night is begun
abbrev pub IfForeign : Site → Identity → Plan → Content → Type 0 → Type 0
IfForeign site id plan c Holds = (k : Checkpoint) → IsAt k c → IsForeign site id plan.force_root k → Holds

-- the checkpoint in a folder of this content is of another root, part or audit or an older one, or
-- unless forced the root of a store is not as it was, or it has no declaration
pub data IsBarred (told : Bool) (s : Store) (site : Site) (plan : Plan) (c : Content) : Type 0 where
  another : (k : Checkpoint) → IsAt k c → IsAnothers site k → IsBarred told s site plan c
  other_root : IsTrue told → (root : StorageRoot) → s.tree ≡ root → (k : Checkpoint) → IsAt k c → IsOtherThan root k → plan.force_root ≡ false → IsBarred told s site plan c
  older : (k : Checkpoint) → IsAt k c → (cycle : ℕ) → cycle < 2 ^ 64 → IsOlder k c cycle → IsBarred told s site plan c
  undeclared : IsTrue told → (root : StorageRoot) → s.tree ≡ root → declarations_among (entries_in root []) ≡ [] → IsBarred told s site plan c
