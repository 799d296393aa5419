-- The text of a time of day.
use Rattle.std.specs.Prelude.{◌≡◌, ℕ, ◌+◌, ◌/◌, ◌%◌, ◌<◌, ◌∷◌, ◌++◌, [], codes}
use Rattle.clap.specs.Words.{Text}

-- a number below 100 in two decimal digits, of which 48 is the code of 0
abbrev pub two_digits : ℕ → Text
two_digits n = (48 + n / 10) ∷ (48 + n % 10) ∷ []

-- the text writes this time: two digits of the hour, 00 to 23, a colon, two of the minute, 00 to 59
pub record IsTimeText (t : Text) (hour minute : ℕ) : Type 0 where
  pub text : t ≡ two_digits hour ++ codes ":" ++ two_digits minute
  pub hours : hour < 24
  pub minutes : minute < 60
