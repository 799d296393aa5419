-- Which items of the storage root are chosen.
use Rattle.std.specs.Prelude.{◌≡◌, ℕ, Option, Some, None, string_bytes}
use Rattle.ocfl_arguments.specs.declared.task.Chosen.{Chosen}
use Rattle.ocfl_arguments.specs.declared.task.Chosen.TheVariants as chosen
use Rattle.ocfl_cursor.specs.declared.ends.PartEnds.{PartEnds}
use Rattle.ocfl_scope.specs.Finding.{BranchStops, IsBranchScope, IsPartScope, PartStops}
use Rattle.ocfl_scope.specs.declared.{scope.Scope.{Scope}, stop.ScopeStop.{ScopeStop}}
use Rattle.ocfl_scope.specs.declared.scope.Scope.TheVariants as scope

-- all of them, the branch of the path that is given, or a part, of which the file of separators is not
-- known
abbrev pub IsScopeOf : Chosen → Scope → Type 0
IsScopeOf chosen.All s = s ≡ scope.Whole
IsScopeOf (chosen.Branch path) s = IsBranchScope (string_bytes path) s
IsScopeOf (chosen.Part parts number) s = IsPartScope None number s

-- all of them are always there
abbrev pub ScopeStops : Chosen → ScopeStop → Type 0
ScopeStops chosen.All why = ⊥
ScopeStops (chosen.Branch path) why = BranchStops (string_bytes path) why
ScopeStops (chosen.Part parts number) why = PartStops None number why

-- the ends of a part
abbrev pub ends_of : Scope → Option PartEnds
ends_of (scope.Part e) = Some e
ends_of _ = None

-- those of the part that is chosen, and none of all of them or of a branch
abbrev pub AreEndsOf : Chosen → Option PartEnds → Type 0
AreEndsOf chosen ends = (s : Scope) × IsScopeOf chosen s × (ends ≡ ends_of s)

abbrev pub part_number : Chosen → Option ℕ
part_number (chosen.Part parts number) = Some number
part_number _ = None
