-- The exit status of what lacks or finds something.
use Rattle.std.specs.Prelude.{ℕ, Bool, if◌then◌else◌}

-- what is lacking is graver than what was found
abbrev pub status_of : Bool → Bool → ℕ
status_of lacks finds = if lacks then 3 else if finds then 1 else 0
