-- What the first bytes of a reader tell of all of them.
use Rattle.std.proofs.Common.{◌≡◌, ℕ, ◌<◌, ◌≤◌, Option, IfSome, length, take, take_all, arith, length-take}
use Rattle.ocfl_tree.specs.Place.{Text}

-- the bytes that were read are the first of those, as many as the limit
abbrev pub IsReadTo : ℕ → Option Text → Text → Type 0
IsReadTo limit known read = IfSome known (λ b. read ≡ take limit b)

-- if fewer bytes were read than the limit, all were read
pub all_read : (limit most : ℕ) (b : Text) → most < limit → length (take limit b) ≤ most → take limit b ≡ b
all_read limit most b over short =
    let whole : length b ≤ limit = omega (arith, over, short, length-take limit b) in
    take_all limit b whole
