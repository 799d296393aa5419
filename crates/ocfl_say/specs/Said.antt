-- What was said on an output.
use Rattle.std.specs.Prelude.{◌≡◌, ℕ, ◌-◌, ◌^◌, ◌≤◌, Option, Some, None, ⊤}
use Rattle.std.specs.Io.KnownBytes.{Appends}
use Rattle.ocfl_tree.specs.Place.{Text}

-- all that an output was given, and all of that that it has committed, and how often it has failed,
-- as far as these are known
pub record Said : Type 0 where
  pub given : Option Text
  pub committed : Option Text
  pub failures : Option ℕ

-- it was given a text, and has committed all that it was given, and has not failed
pub record HasSaid (text : Text) (old new : Said) : Type 0 where
  pub gave : Appends old.given new.given text
  pub all : new.committed ≡ new.given
  pub well : new.failures ≡ old.failures

-- it has failed since, if how often it has is known: more often than before, unless that was so often
-- that no more is counted
abbrev pub HasFailed : Option ℕ → Option ℕ → Type 0
HasFailed (Some m) (Some n) = (m ≤ n) × (n ≡ m → 2 ^ 64 - 1 ≤ n)
HasFailed (Some m) None = ⊥
HasFailed None new = ⊤

-- it has failed as often, or more often, as far as that is known
abbrev pub NotLessOften : Option ℕ → Option ℕ → Type 0
NotLessOften (Some m) (Some n) = m ≤ n
NotLessOften (Some m) None = ⊥
NotLessOften None new = ⊤

-- what is known of a text grows
abbrev pub Grew : Option Text → Option Text → Type 0
Grew old new = (more : Text) × Appends old new more

-- all of this grows
pub record Grows (old new : Said) : Type 0 where
  pub given : Grew old.given new.given
  pub committed : Grew old.committed new.committed
  pub failures : NotLessOften old.failures new.failures

-- of an output of which nothing is known
abbrev pub unknown : Said
unknown = record { given = None; committed = None; failures = None }
