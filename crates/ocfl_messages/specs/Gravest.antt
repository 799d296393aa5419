-- The most serious findings among those of a report.
use Rattle.std.specs.{Prelude.{◌≡◌, ℕ, ◌^◌, ◌<◌, List, ◌++◌, Bool, length, take, map}, List.{filter}}
use Rattle.ocfl_report.specs.Line.{is_finding_code}
use Rattle.ocfl_codes.specs.{Weight.{has_weight}, declared.weight.Weight.{Weight}}
use Rattle.ocfl_codes.specs.declared.weight.Weight.TheVariants.{Bytes, Object, Record, Position}
use Rattle.ocfl_messages.specs.Finding.{Finding, finding_of}
use Rattle.ocfl_messages.specs.{declared.gravest.Kept.{Kept}, declared.gravest.Gravest.{Gravest}}

-- how many findings are kept of each weight
abbrev pub most_kept : ℕ
most_kept = 200

abbrev pub findings : List Finding → List Finding
findings fs = filter (λ f. is_finding_code f.line.code) fs

abbrev pub is_of_weight : Weight → Finding → Bool
is_of_weight w f = has_weight w f.line

abbrev pub of_weight : Weight → List Finding → List Finding
of_weight w fs = filter (is_of_weight w) fs

-- all findings, the most serious first, and those of one weight in the order of the lines
abbrev pub by_weight : List Finding → List Finding
by_weight fs = of_weight Bytes fs ++ of_weight Object fs ++ of_weight Record fs ++ of_weight Position fs

abbrev pub gravest : List Finding → List Finding
gravest fs = take most_kept (by_weight fs)

-- the first of these findings, and how many there are; of 2^64 or more the number is not kept
pub record IsFirst (k : Kept) (fs : List Finding) : Type 0 where
  pub first : map finding_of k.first.items ≡ take most_kept fs
  pub count : length fs < 2 ^ 64 → k.count ≡ length fs

-- the same of each weight, of the findings among these lines
pub record IsOf (g : Gravest) (fs : List Finding) : Type 0 where
  pub bytes : IsFirst g.bytes (of_weight Bytes fs)
  pub objects : IsFirst g.objects (of_weight Object fs)
  pub records : IsFirst g.records (of_weight Record fs)
  pub positions : IsFirst g.positions (of_weight Position fs)
