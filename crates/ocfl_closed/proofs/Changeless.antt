-- Reports that are as they were closed.
use Rattle.std.proofs.Common.{◌≡◌, true, Some, None, refl, sym, subst, eq-eqb}
use Rattle.ocfl_accounts.specs.{Cycle.{Cycle}, declared.pair.Pair.{Pair}}
use Rattle.ocfl_closed.specs.{Files.{Files}, Unchanged.{IsBeforeUnchanged, IsSinceUnchanged, IsUnchangedSince, is_number}}

pub before_of : (f : Files) (pair : Pair) (b : Cycle) → pair.before ≡ Some b → IsUnchangedSince f pair b.cycle → IsBeforeUnchanged f pair
before_of f pair b e u = subst (IsSinceUnchanged f pair) (sym e) (u.0, u.1 (subst (λ o. is_number o b.cycle ≡ true) (sym e) (eq-eqb b.cycle b.cycle refl)))

pub none_before : (f : Files) (pair : Pair) → pair.before ≡ None → IsBeforeUnchanged f pair
none_before f pair e = subst (IsSinceUnchanged f pair) (sym e) tt
