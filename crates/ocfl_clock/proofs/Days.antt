-- When a clock comes to a time of day, by the seconds since that time.
use Rattle.std.proofs.Common.{◌≡◌, ◌≢◌, ℕ, ℤ, pos, negsuc, ◌<ℤ◌, ◌≤ℤ◌, ◌+◌, ◌-◌, ◌*◌, ◌/◌, ◌%◌, ◌^◌, ◌<◌, ◌≤◌, ◌⊎◌, inl, inr, refl, sym, subst, unsigned_abs, arith}
use Rattle.std.proofs.lemmas.Bool.{cases_lt}
use Rattle.jiff_core.specs.Timestamp.{IsOffsetSeconds}
use Rattle.jiff_core.proofs.SignedLemmas.{signed_arith}
use Rattle.jiff_tz.specs.declared.timezone.TimeZone.{TimeZone}
use Rattle.ocfl_clock.specs.Clock.{Comes, ComesTo, IsNextTime, clock_at, shifted}

-- the clock shows it
pub shown_now : (of_day before after : ℕ) → of_day ≤ after → (after - of_day) % 86400 ≡ 0 → Comes of_day before after
shown_now of_day before after l e =
    let day : ℕ = (after - of_day) / 86400 in
    let same : 86400 * day + of_day ≡ after = omega (arith, l, e) in
    (day, omega (arith, same), inr same)

-- it was passed since the first
pub passed_since : (of_day before after : ℕ) → of_day ≤ after → before < after - (after - of_day) % 86400 → Comes of_day before after
passed_since of_day before after l h =
    let day : ℕ = (after - of_day) / 86400 in
    let same : 86400 * day + of_day + (after - of_day) % 86400 ≡ after = omega (arith, l) in
    (day, omega (arith, same), inl (omega (arith, same, h)))

-- or neither
neither : (of_day before after day : ℕ) → of_day ≤ after → (after - of_day) % 86400 ≢ 0 → after - (after - of_day) % 86400 ≤ before → 86400 * day + of_day ≤ after
    → (before < 86400 * day + of_day) ⊎ (86400 * day + of_day ≡ after) → ⊥
neither of_day before after day l some h le (inl lt) = omega (arith, l, h, le, lt)
neither of_day before after day l some h le (inr e) =
    let none : (after - of_day) % 86400 ≡ 0 = omega (arith, l, e) in
    some none

pub not_come : (of_day before after : ℕ) → of_day ≤ after → (after - of_day) % 86400 ≢ 0 → after - (after - of_day) % 86400 ≤ before → Comes of_day before after → ⊥
not_come of_day before after l some h c = neither of_day before after c.0 l some h c.1 c.2

-- ---- seconds

-- an offset is small
pub small_offset : (z : ℤ) → IsOffsetSeconds z → unsigned_abs z < 2 ^ 31
small_offset (pos n) h = omega (arith, signed_arith, h)
small_offset (negsuc n) h = omega (arith, signed_arith, h)

-- a clock behind UTC, and one that is not
pub shifted_back : (z : ℤ) (s : ℕ) → z <ℤ pos 0 → shifted z s ≡ s + 172800 - unsigned_abs z
shifted_back (pos n) s h = absurd (omega (arith, signed_arith, h))
shifted_back (negsuc n) s h = refl

pub shifted_on : (z : ℤ) (s : ℕ) → pos 0 ≤ℤ z → shifted z s ≡ s + 172800 + unsigned_abs z
shifted_on (pos n) s h = refl
shifted_on (negsuc n) s h = absurd (omega (arith, signed_arith, h))

-- no second up to one came to it, and neither does the next
pub none_next : (zone : TimeZone) (of now second before after : ℕ) → before ≡ clock_at zone second → after ≡ clock_at zone (second + 1) → (Comes of before after → ⊥)
    → ((s : ℕ) → now ≤ s → s < second → ComesTo zone of s → ⊥) → (s : ℕ) → now ≤ s → s < second + 1 → ComesTo zone of s → ⊥
none_next zone of now second before after e f none before_it s a b k = by (cases_lt s second)
  where
    by : (s < second) ⊎ (second ≤ s) → ⊥
    by (inl l) = before_it s a l k
    by (inr l) =
        let same : s ≡ second = omega (arith, b, l) in
        let here : ComesTo zone of second = subst (ComesTo zone of) same k in
        none (subst (λ x. Comes of x after) (sym e) (subst (Comes of (clock_at zone second)) (sym f) here))

-- the first second that came to it
pub found_next : (zone : TimeZone) (of now second before after : ℕ) → now ≤ second → second + 1 ≤ now + 86400 → before ≡ clock_at zone second
    → after ≡ clock_at zone (second + 1) → Comes of before after → ((s : ℕ) → now ≤ s → s < second → ComesTo zone of s → ⊥) → IsNextTime zone of now (second + 1)
found_next zone of now second before after a b e f comes first = record {
  later = omega (arith, a);
  soon = b;
  first = λ s k l. first s k (omega (arith, l));
  comes = λ _ s g.
      let same : s ≡ second = omega (arith, g) in
      subst (ComesTo zone of) (sym same) (subst (Comes of (clock_at zone second)) f (subst (λ x. Comes of x after) e comes));
}

-- a day without one
pub none_found : (zone : TimeZone) (of now second : ℕ) → now + 86399 ≤ second → ((s : ℕ) → now ≤ s → s < second → ComesTo zone of s → ⊥) → IsNextTime zone of now (now + 86400)
none_found zone of now second a first = record {
  later = omega arith;
  soon = omega arith;
  first = λ s k l. first s k (omega (arith, a, l));
  comes = λ l. absurd (omega (arith, l));
}
