-- A call over a storage root: what it checks beside what every audit checks, what the store tells,
-- and what is known of the output, before it and after it.
use Rattle.std.specs.{Prelude.{◌≡◌, ℕ, List, Bool, Option, Some}, Io.KnownBytes.{Appends}}
use Rattle.ocfl_tree.specs.{Place.{Text}, StorageRoot.{StorageRoot}, Store.{Store, IfTold}}
use Rattle.ocfl_item.specs.Judging.{HasShortFiles}
use Rattle.ocfl_report.specs.declared.further.Further.{Further}

pub record Call : Type 0 where
  pub further : Further
  pub root : StorageRoot
  -- the store
  pub before : Store
  pub after : Store
  -- the output
  pub old : Option (List ℕ)
  pub new : Option (List ℕ)

abbrev pub call_of : Further → StorageRoot → Store → Store → Option (List ℕ) → Option (List ℕ) → Call
call_of further root before after old new = record { further = further; root = root; before = before; after = after; old = old; new = new }

-- the call that wrote to an output that is known
abbrev pub known_call : Further → StorageRoot → Store → Store → Text → Text → Call
known_call further root before after old new = call_of further root before after (Some old) (Some new)

-- it wrote these bytes
abbrev pub Writes : Call → Text → Type 0
Writes call bytes = Appends call.old call.new bytes

-- it counted no failure
abbrev pub IsUnfailing : Call → Type 0
IsUnfailing call = call.after.failures ≡ call.before.failures

-- of a call over a store that tells its tree, in which no file is too large, by what the store and
-- the output are before it and after it
abbrev pub WhereTold : {S O : Type 0} → Further → Bool → (S → Store) → (O → Option (List ℕ)) → S → S → O → O → (Call → Type 0) → Type 0
WhereTold further told state contents before after old new Holds =
    IfTold told (state before) (λ root. HasShortFiles root → Holds (call_of further root (state before) (state after) (contents old) (contents new)))
