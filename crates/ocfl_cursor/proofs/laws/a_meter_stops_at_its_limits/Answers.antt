use Rattle.std.proofs.Common.{◌≡◌, ◌⊎◌, inl, inr, ℕ, ◌<◌, ◌≤◌, Bool, true, false, refl, ltb-true, ltb-false}
use Rattle.std.proofs.Math.Nat.{eq-or-lt_of_le}
use Rattle.std.specs.Prelude.{nat_lt}
use Rattle.ocfl_cursor.proofs.laws.a_meter_stops_at_its_limits.Goals as goal

at_one_of_two : (a b f n : ℕ) → f ≤ n → ((a < b) × (f < n) → ⊥) → (b ≤ a) ⊎ (f ≡ n)
at_one_of_two a b f n u h = by (nat_lt a b) refl
  where
    files : a < b → (f ≡ n) ⊎ (f < n) → f ≡ n
    files l (inl e) = e
    files l (inr k) = absurd (h (l, k))

    by : (t : Bool) → nat_lt a b ≡ t → (b ≤ a) ⊎ (f ≡ n)
    by true e = inr (files (ltb-true a b e) (eq-or-lt_of_le u))
    by false e = inl (ltb-false a b e)

pub returns : goal.returns
returns c = λ m k h. at_one_of_two m.spent m.limits.budget m.files m.limits.files k.files h
