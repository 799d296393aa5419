-- The numbers that `get_one` reads.
use Rattle.std.proofs.Common.{◌≡◌, ◌^◌, ◌<◌, ℕ, Option, Some, None, Result, Ok, Err, refl, subst, true≢false, ap}
use Rattle.std.specs.{Prelude.{IfSome, IsNone, IsSomeAnd, is_some}, Str.Parse.{ParsesUnsigned}}
use Rattle.clap.specs.Words.{ReadsOne, Text}
use Rattle.ocfl_arguments.specs.Asks.{IsNumberText}

-- the number is read by `parse`
module _ {E : Type 0} (G : Text → Result ℕ E → Type 0) (parses : (t : Text) (r : Result ℕ E) → G t r → ParsesUnsigned 64 10 t r) where
  -- what is read is the number that the text writes
  pub read_found : (o : Option Text) (r : Option ℕ) → (o ≡ None → r ≡ None) → ((t : Text) → o ≡ Some t → ReadsOne G t r)
      → IfSome r (λ n. IsSomeAnd o (IsNumberText n))
  read_found o None none value = tt
  read_found None (Some n) none value = true≢false (ap is_some (none refl))
  read_found (Some t) (Some n) none value = let h = parses t (Ok n) (value t refl) in (h.0.0, h.1)

  -- and what is not read writes no number of 64 bits
  pub read_missing : (o : Option Text) (r : Option ℕ) → (o ≡ None → r ≡ None) → ((t : Text) → o ≡ Some t → ReadsOne G t r)
      → IsNone r → (n : ℕ) → n < 2 ^ 64 → IsSomeAnd o (IsNumberText n) → ⊥
  read_missing None None none value e n l h = h
  read_missing (Some t) None none value e n l h =
      let read = value t refl in
      parses t (Err read.0) read.1 (h.0, subst (λ m. m < 2 ^ 64) h.1 l)
  read_missing o (Some m) none value e n l h = true≢false e
