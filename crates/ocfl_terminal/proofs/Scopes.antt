-- A part of some text of separators, of which nothing is said.
use Rattle.std.proofs.Common.{ℕ, Option, None, Result, Ok, Err, IfOk, IfErr}
use Rattle.ocfl_tree.specs.Place.{Text}
use Rattle.ocfl_scope.specs.Finding.{IsPartScope, PartStops}
use Rattle.ocfl_scope.specs.declared.{scope.Scope.{Scope}, stop.ScopeStop.{ScopeStop}}
use Rattle.ocfl_scope.specs.declared.scope.Scope.TheVariants as scope
use Rattle.ocfl_scope.specs.declared.stop.ScopeStop.TheVariants as stop

any_part : (known : Option Text) (n : ℕ) (s : Scope) → IsPartScope known n s → IsPartScope None n s
any_part known n (scope.Part e) it = tt
any_part known n scope.Whole it = it
any_part known n (scope.Branch p) it = it

any_stop : (known : Option Text) (n : ℕ) (why : ScopeStop) → PartStops known n why → PartStops None n why
any_stop known n stop.BadPath it = it
any_stop known n stop.NoSuchPart it = tt
any_stop known n (stop.Parts why) it = tt
any_stop known n stop.Memory it = tt

pub found_any : (r : Result Scope ScopeStop) (known : Option Text) (n : ℕ) → IfOk r (IsPartScope known n) → IfOk r (IsPartScope None n)
found_any (Ok s) known n it = any_part known n s it
found_any (Err why) known n it = it

pub stopped_any : (r : Result Scope ScopeStop) (known : Option Text) (n : ℕ) → IfErr r (PartStops known n) → IfErr r (PartStops None n)
stopped_any (Ok s) known n it = it
stopped_any (Err why) known n it = any_stop known n why it
