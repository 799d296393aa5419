-- An output in memory.
use Rattle.std.specs.Prelude.{ℕ, Some}
use Rattle.ocfl_tree.specs.Place.{Text}
use Rattle.ocfl_say.specs.Said.{Said}

-- what it has taken, all of which is committed, and how often it has failed
abbrev pub said_so : Text → ℕ → Said
said_so text failures = record { given = Some text; committed = Some text; failures = Some failures }
