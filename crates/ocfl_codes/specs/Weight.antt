-- How serious a finding is.
use Rattle.std.specs.Prelude.{Bool, true, false, Option, Some, None}
use Rattle.ocfl_report.specs.{Line.{Line}, declared.code.Code.{Code}}
use Rattle.ocfl_report.specs.declared.code.Code.TheVariants.{Clean, E001, E003, E007, E015, E017, E018, E023, E024, E025, E033, E036, E041, E058, E060, E061, E063, E064, E069, E072, E073, E076, E080, E092, E093, E096, E097, E099, E100, E101, S01, S02, S03, S04, S05, S06, S07, S08, S09}
use Rattle.ocfl_codes.specs.declared.weight.Weight.{Weight}
use Rattle.ocfl_codes.specs.declared.weight.Weight.TheVariants.{Bytes, Object, Record, Position}

-- what is right has none, and neither has the note on an unsupported algorithm
abbrev pub weight_of : Code → Option Weight
weight_of Clean = None
weight_of E001 = Some Position
weight_of E003 = Some Object
weight_of E007 = Some Record
weight_of E015 = Some Position
weight_of E017 = Some Object
weight_of E018 = Some Object
weight_of E023 = Some Record
weight_of E024 = Some Position
weight_of E025 = Some Object
weight_of E033 = Some Object
weight_of E036 = Some Object
weight_of E041 = Some Object
weight_of E058 = Some Record
weight_of E060 = Some Object
weight_of E061 = Some Record
weight_of E063 = Some Object
weight_of E064 = Some Object
weight_of E069 = Some Object
weight_of E072 = Some Position
weight_of E073 = Some Position
weight_of E076 = Some Object
weight_of E080 = Some Record
weight_of E092 = Some Bytes
weight_of E093 = Some Bytes
weight_of E096 = Some Record
weight_of E097 = Some Record
weight_of E099 = Some Record
weight_of E100 = Some Record
weight_of E101 = Some Record
weight_of S01 = Some Object
weight_of S02 = Some Object
weight_of S03 = Some Object
weight_of S04 = Some Record
weight_of S05 = Some Object
weight_of S06 = Some Record
weight_of S07 = None
weight_of S08 = Some Bytes
weight_of S09 = None

abbrev pub is_weight : Weight → Option Weight → Bool
is_weight Bytes (Some Bytes) = true
is_weight Object (Some Object) = true
is_weight Record (Some Record) = true
is_weight Position (Some Position) = true
is_weight _ _ = false

-- the line is a finding of this weight
abbrev pub has_weight : Weight → Line → Bool
has_weight w l = is_weight w (weight_of l.code)
