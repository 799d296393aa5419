-- The scope that is found, and what it says that none is.
use Rattle.std.specs.Prelude.{◌≡◌, ◌≢◌, ℕ, Option, IfSome, ⊤}
use Rattle.ocfl_tree.specs.{Place.{Text, Place}, Name.{IsPlace}}
use Rattle.ocfl_report.specs.Text.{place_text}
use Rattle.ocfl_separators.specs.Stop.{StopsRightly}
use Rattle.ocfl_scope.specs.{Numbered.{IsPartOf, HasNoSuchPart}, declared.scope.Scope.{Scope}}
use Rattle.ocfl_scope.specs.declared.stop.ScopeStop.{ScopeStop}
use Rattle.ocfl_scope.specs.declared.scope.Scope.TheVariants as scope
use Rattle.ocfl_scope.specs.declared.stop.ScopeStop.TheVariants as stop

-- ---- a branch

-- the path of no place
abbrev pub IsNoPath : Text → Type 0
IsNoPath path = (p : Place) → IsPlace p → path ≢ place_text p

-- the branch of the place with this path
abbrev pub IsBranchScope : Text → Scope → Type 0
IsBranchScope path (scope.Branch p) = IsPlace p × (path ≡ place_text p)
IsBranchScope path s = ⊥

abbrev pub BranchStops : Text → ScopeStop → Type 0
BranchStops path stop.BadPath = IsNoPath path
BranchStops path stop.Memory = ⊤
BranchStops path why = ⊥

-- ---- a part

-- a part, and if the bytes are known, the one with this number of those that they cut
abbrev pub IsPartScope : Option Text → ℕ → Scope → Type 0
IsPartScope known number (scope.Part e) = IfSome known (λ b. IsPartOf b number e)
IsPartScope known number s = ⊥

-- if the bytes are known, they are rightly refused, or have no such part
abbrev pub PartStops : Option Text → ℕ → ScopeStop → Type 0
PartStops known number (stop.Parts why) = IfSome known (λ b. StopsRightly b why)
PartStops known number stop.NoSuchPart = IfSome known (λ b. HasNoSuchPart b number)
PartStops known number stop.Memory = ⊤
PartStops known number why = ⊥
