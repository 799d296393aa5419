-- What the name of a directory's entry is.
use Rattle.std.specs.{Prelude.{◌≢◌, ℕ, ◌≤◌, List, [], length, All, codes}, Str.{IsUtf8}}

-- 1 to 255 bytes without `/` and NUL, and neither `.` nor `..`
pub record HasNameBytes (bytes : List ℕ) : Type 0 where
  pub not_empty : bytes ≢ []
  pub short : length bytes ≤ 255
  pub plain : All (λ b. (b ≢ 47) × (b ≢ 0)) bytes
  pub not_dot : bytes ≢ codes "."
  pub not_dots : bytes ≢ codes ".."

-- text of such bytes
pub record IsName (bytes : List ℕ) : Type 0 where
  pub text : ∥ IsUtf8 bytes ∥₁
  pub fits : HasNameBytes bytes

-- a place of names
abbrev pub IsPlace : List (List ℕ) → Type 0
IsPlace names = All IsName names
