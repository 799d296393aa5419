-- Findings and their weights.
use Rattle.std.proofs.Common.{◌≡◌, ℕ, ◌+◌, Bool, true, false, refl}
use Rattle.std.specs.Prelude.{is_some}
use Rattle.ocfl_report.specs.{Line.{is_finding_code}, declared.code.Code.{Code}}
use Rattle.ocfl_report.specs.declared.code.Code.TheVariants.{Clean, E001, E003, E007, E015, E017, E018, E023, E024, E025, E033, E036, E041, E058, E060, E061, E063, E064, E069, E072, E073, E076, E080, E092, E093, E096, E097, E099, E100, E101, S01, S02, S03, S04, S05, S06, S07, S08, S09}
use Rattle.ocfl_codes.specs.Weight.{weight_of, is_weight}
use Rattle.ocfl_codes.specs.declared.weight.Weight.TheVariants.{Bytes, Object, Record, Position}

-- how many of one line are taken by a test
abbrev pub one : Bool → ℕ
one true = 1
one false = 0

-- just the findings have a weight, and each of them has one
pub weights : (c : Code) → (is_some (weight_of c) ≡ is_finding_code c) × (one (is_weight Bytes (weight_of c)) + one (is_weight Object (weight_of c)) + one (is_weight Record (weight_of c)) + one (is_weight Position (weight_of c)) ≡ one (is_finding_code c))
weights Clean = (refl, refl)
weights E001 = (refl, refl)
weights E003 = (refl, refl)
weights E007 = (refl, refl)
weights E015 = (refl, refl)
weights E017 = (refl, refl)
weights E018 = (refl, refl)
weights E023 = (refl, refl)
weights E024 = (refl, refl)
weights E025 = (refl, refl)
weights E033 = (refl, refl)
weights E036 = (refl, refl)
weights E041 = (refl, refl)
weights E058 = (refl, refl)
weights E060 = (refl, refl)
weights E061 = (refl, refl)
weights E063 = (refl, refl)
weights E064 = (refl, refl)
weights E069 = (refl, refl)
weights E072 = (refl, refl)
weights E073 = (refl, refl)
weights E076 = (refl, refl)
weights E080 = (refl, refl)
weights E092 = (refl, refl)
weights E093 = (refl, refl)
weights E096 = (refl, refl)
weights E097 = (refl, refl)
weights E099 = (refl, refl)
weights E100 = (refl, refl)
weights E101 = (refl, refl)
weights S01 = (refl, refl)
weights S02 = (refl, refl)
weights S03 = (refl, refl)
weights S04 = (refl, refl)
weights S05 = (refl, refl)
weights S06 = (refl, refl)
weights S07 = (refl, refl)
weights S08 = (refl, refl)
weights S09 = (refl, refl)

pub weighed : (c : Code) → is_some (weight_of c) ≡ is_finding_code c
weighed c = (weights c).0
