-- Whose a checkpoint is, and what it says of the root.
use Rattle.std.specs.Prelude.{◌≡◌, ◌≢◌, ◌⊎◌, ◌||◌, ◌+◌, ◌<◌, ◌≤◌, [], Bool, true, false, Option, Some, None, if◌then◌else◌, is_none, length, nat_lt}
use Rattle.ocfl_rules.specs.Parts.{Part, whole}
use Rattle.ocfl_cursor.specs.{Cursor.{new_cursor}, declared.ends.PartEnds.{PartEnds}}
use Rattle.ocfl_scope.specs.Numbered.{part_between}
use Rattle.ocfl_scrub.specs.Running.{place_in}
use Rattle.ocfl_state.specs.{Checkpoint.{Checkpoint}, Pieces.{summary_of}}
use Rattle.ocfl_state.specs.declared.checkpoint_parts.ReportMark.{ReportMark}
use Rattle.ocfl_state.specs.declared.checkpoint_parts.TopNames.{TopNames}
use Rattle.ocfl_state.specs.declared.checkpoint_parts.Phase.TheVariants.{Open}
use Rattle.ocfl_tree.specs.{Listing.{entries_in}, StorageRoot.{StorageRoot}, Store.{Store, IfTold}}
use Rattle.ocfl_identity.specs.Identity.{declared_by, declarations_among}
use Rattle.ocfl_identity.specs.declared.identity.Identity.{Identity}
use Rattle.ocfl_night.specs.declared.site.Site.{Site}

-- the part with these ends, or all of the root
abbrev pub part_at : Option PartEnds → Part
part_at None = whole
part_at (Some e) = part_between e

-- ---- what a checkpoint has of the root and of the report

abbrev pub names_now : Identity → TopNames
names_now id = record { count = id.count; digest = id.names }

-- that of an empty report
abbrev pub no_report : ReportMark
no_report = summary_of []

-- the first one, whose cursor checks what the site's audit does
abbrev pub first_checkpoint : Site → Identity → Checkpoint
first_checkpoint site id = record {
  root = record { path = site.path; declared = id.declared };
  names = names_now id;
  phase = Open;
  whole = true;
  report = no_report;
  said = 0;
  left = [];
  part = site.ends;
  cursor = new_cursor site.further;
}

-- its names become those of now: the next run begins a cycle, or more than half of them are gone
abbrev pub are_renewed : Identity → Checkpoint → Bool
are_renewed id k = is_none (place_in k.cursor.state) || nat_lt (id.count + id.count) k.names.count

-- the same with the declaration that the root has now, and with its names if they are renewed
abbrev pub with_root : Identity → Checkpoint → Checkpoint
with_root id k = record k {
  root = record { path = k.root.path; declared = id.declared };
  names = if are_renewed id k then names_now id else k.names;
}

-- ---- whose it is

-- of this path and part, with a cursor that checks the same
pub record IsOwn (site : Site) (k : Checkpoint) : Type 0 where
  pub path : k.root.path ≡ site.path
  pub part : k.part ≡ site.ends
  pub checks : k.cursor.further ≡ site.further

-- of this declaration too
pub record IsOfSite (site : Site) (id : Identity) (k : Checkpoint) : Type 0 where
  pub own : IsOwn site k
  pub declared : k.root.declared ≡ id.declared

-- the root of a store has the declaration that it has
abbrev pub IsDeclaredIn : StorageRoot → Checkpoint → Type 0
IsDeclaredIn root k = declared_by root (declarations_among (entries_in root [])) ≡ Some k.root.declared

-- of a site, and of the root of a store, if that tells
pub record IsOfStore (told : Bool) (s : Store) (site : Site) (k : Checkpoint) : Type 0 where
  pub own : IsOwn site k
  pub declared : IfTold told s (λ root. IsDeclaredIn root k)

-- two are of the same root and part, with the same names, and their cursors check the same
pub record IsAlike (k l : Checkpoint) : Type 0 where
  pub root : l.root ≡ k.root
  pub names : l.names ≡ k.names
  pub part : l.part ≡ k.part
  pub checks : l.cursor.further ≡ k.cursor.further

-- of another root or part, or with a cursor that checks something else
abbrev pub IsAnothers : Site → Checkpoint → Type 0
IsAnothers site k = (k.root.path ≢ site.path) ⊎ ((k.part ≢ site.ends) ⊎ (k.cursor.further ≢ site.further))

-- more than half of the names of before are gone
abbrev pub AreMostGone : Identity → Checkpoint → Type 0
AreMostGone id k = id.count + id.count < k.names.count

-- the root has the same declaration, and at least half of the names
pub record IsSameRoot (id : Identity) (k : Checkpoint) : Type 0 where
  pub declared : k.root.declared ≡ id.declared
  pub names : k.names.count ≤ id.count + id.count

-- the root has another declaration, or more than half of the names are gone
abbrev pub IsOther : Identity → Checkpoint → Type 0
IsOther id k = (k.root.declared ≢ id.declared) ⊎ AreMostGone id k

-- no night is begun with this checkpoint
abbrev pub IsForeign : Site → Identity → Bool → Checkpoint → Type 0
IsForeign site id force k = IsAnothers site k ⊎ ((force ≡ false) × IsOther id k)

-- the same of a storage root
abbrev pub IsOtherThan : StorageRoot → Checkpoint → Type 0
IsOtherThan root k = (IsDeclaredIn root k → ⊥)
    ⊎ (length (entries_in root []) + length (entries_in root []) < k.names.count)

-- the files that declared the root are there and are the same
abbrev pub IsStill : Identity → StorageRoot → Type 0
IsStill id root = declared_by root id.declarations.items ≡ Some id.declared
