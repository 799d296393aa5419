-- Scanning a sidecar.
use Rattle.std.proofs.Common.{◌≡◌, ℕ, ◌<◌, Bool, true, false, refl, ap, cond, arith, take, drop, length, length-take, None}
use Rattle.std.proofs.lemmas.Bool.Decides.{nat_tests}
use Rattle.std.specs.Prelude.{nat_le, ◌==◌, ◌&&◌}
use Rattle.ocfl_tree.specs.Place.{Text}
use Rattle.ocfl_inventory.specs.Sidecar.{decoded, is_after_digits, sidecar_of_len}

no_sidecar : (n : ℕ) (b : Text) → length (take n b) == n ≡ false → sidecar_of_len n b ≡ None
no_sidecar n b h = by (nat_le (length b) 4096)
  where
    by : (c : Bool) → cond (c && (length (take n b) == n && is_after_digits (drop n b))) (decoded (take n b)) None ≡ None
    by true = ap (λ e. cond (e && is_after_digits (drop n b)) (decoded (take n b)) None) h
    by false = refl

pub too_short : (n : ℕ) (b : Text) → length b < n → sidecar_of_len n b ≡ None
too_short n b h =
    let e : length (take n b) < n = simp length-take (omega arith) in
    no_sidecar n b (grind (arith, nat_tests))
