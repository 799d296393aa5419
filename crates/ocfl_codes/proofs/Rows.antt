-- Each code has one row.
use Rattle.std.proofs.Common.{◌≡◌, length, refl}
use Rattle.std.specs.List.{filter}
use Rattle.ocfl_report.specs.declared.code.Code.{Code}
use Rattle.ocfl_report.specs.declared.code.Code.TheVariants.{Clean, E001, E003, E007, E015, E017, E018, E023, E024, E025, E033, E036, E041, E058, E060, E061, E063, E064, E069, E072, E073, E076, E080, E092, E093, E096, E097, E099, E100, E101, S01, S02, S03, S04, S05, S06, S07, S08, S09}
use Rattle.ocfl_codes.specs.Table.{every_code, has_text_of}

pub one_row : (c : Code) → length (filter (has_text_of c) every_code) ≡ 1
one_row Clean = refl
one_row E001 = refl
one_row E003 = refl
one_row E007 = refl
one_row E015 = refl
one_row E017 = refl
one_row E018 = refl
one_row E023 = refl
one_row E024 = refl
one_row E025 = refl
one_row E033 = refl
one_row E036 = refl
one_row E041 = refl
one_row E058 = refl
one_row E060 = refl
one_row E061 = refl
one_row E063 = refl
one_row E064 = refl
one_row E069 = refl
one_row E072 = refl
one_row E073 = refl
one_row E076 = refl
one_row E080 = refl
one_row E092 = refl
one_row E093 = refl
one_row E096 = refl
one_row E097 = refl
one_row E099 = refl
one_row E100 = refl
one_row E101 = refl
one_row S01 = refl
one_row S02 = refl
one_row S03 = refl
one_row S04 = refl
one_row S05 = refl
one_row S06 = refl
one_row S07 = refl
one_row S08 = refl
one_row S09 = refl
