-- What an output was given, what of that it has committed, and how often it has failed.
use Rattle.std.specs.Prelude.{◌≡◌, ℕ, ◌-◌, ◌^◌, ◌≤◌, ◌++◌, Option, Result, Ok, Err, length, take}
use Rattle.std.specs.Io.KnownBytes.{Appends}
use Rattle.std.specs.Option.{option_map}
use Rattle.ocfl_tree.specs.Place.{Text}

-- all that it was given, and all of that that it has committed, as far as these are known; and how
-- often it has failed
pub record Said : Type 0 where
  pub given : Option Text
  pub committed : Option Text
  pub failures : ℕ

-- it has failed since then: more often than before, unless that was so often that no more is counted
pub record HasFailed (old new : ℕ) : Type 0 where
  pub later : old ≤ new
  pub more : new ≡ old → 2 ^ 64 - 1 ≤ new

-- a call that fails is counted, and no other one
abbrev pub CountsFailure : {T E : Type 0} → ℕ → ℕ → Result T E → Type 0
CountsFailure old new (Ok x) = new ≡ old
CountsFailure old new (Err why) = HasFailed old new

-- what is known of one of these grows
abbrev pub Grew : Option Text → Option Text → Type 0
Grew old new = (more : Text) × Appends old new more

-- all of this grows
pub record Grows (old new : Said) : Type 0 where
  pub given : Grew old.given new.given
  pub committed : Grew old.committed new.committed
  pub failures : old.failures ≤ new.failures

-- it was given a text, and has committed all that it was given
pub record HasCommitted (text : Text) (old new : Said) : Type 0 where
  pub gave : Appends old.given new.given text
  pub all : new.committed ≡ new.given

-- it has taken a text since: it was given that first, and has committed it
abbrev pub HasTaken : Text → Said → Said → Type 0
HasTaken text old new = (others : Text) × Appends old.given new.committed (text ++ others)

-- ---- over a writer

-- of what a writer took all but so many bytes at its end
abbrev pub flushed : ℕ → Text → Text
flushed n taken = take (length taken - n) taken

-- over a writer that has taken this since it was made, of which so many bytes were not flushed yet, and
-- that failed so often
abbrev pub said_by : Option Text → ℕ → ℕ → Said
said_by taken n failures = record { given = taken; committed = option_map (flushed n) taken; failures = failures }
