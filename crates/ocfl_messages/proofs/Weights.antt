-- Findings and their weights.
use Rattle.std.proofs.Common.{◌≡◌, ◌+◌, List, [], ◌∷◌, length, Bool, true, false, cond, refl, ◌∙◌, length-append, arith}
use Rattle.std.specs.List.{filter}
use Rattle.ocfl_report.specs.Line.{is_finding_code}
use Rattle.ocfl_codes.specs.declared.weight.Weight.TheVariants.{Bytes, Object, Record, Position}
use Rattle.ocfl_codes.proofs.Weights.{one, weights}
use Rattle.ocfl_messages.specs.{Finding.{Finding}, Gravest.{findings, by_weight, is_of_weight, of_weight}}

length_more : (p : Finding → Bool) (l : Finding) (ls : List Finding) → length (filter p (l ∷ ls)) ≡ one (p l) + length (filter p ls)
length_more p l ls = elim (p l) as (λ b. length (cond b (l ∷ filter p ls) (filter p ls)) ≡ one b + length (filter p ls)) [ true ↦ omega arith | false ↦ omega arith ]

pub length_by_weight : (ls : List Finding) → length (by_weight ls) ≡ length (of_weight Bytes ls) + length (of_weight Object ls) + length (of_weight Record ls) + length (of_weight Position ls)
length_by_weight ls = simp length-append

sums : (ls : List Finding) → length (of_weight Bytes ls) + length (of_weight Object ls) + length (of_weight Record ls) + length (of_weight Position ls) ≡ length (findings ls)
sums [] = refl
sums (l ∷ ls) =
    let b = length_more (is_of_weight Bytes) l ls in
    let o = length_more (is_of_weight Object) l ls in
    let r = length_more (is_of_weight Record) l ls in
    let p = length_more (is_of_weight Position) l ls in
    let f = length_more (λ m. is_finding_code m.line.code) l ls in
    let w = (weights l.line.code).1 in
    let s = sums ls in
    omega (arith, b, o, r, p, f, w, s)

-- no finding is lost
pub all_weighed : (ls : List Finding) → length (by_weight ls) ≡ length (findings ls)
all_weighed ls = length_by_weight ls ∙ sums ls
