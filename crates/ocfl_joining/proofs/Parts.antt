-- The parts that are missing, one by one.
use Rattle.std.proofs.Common.{◌≡◌, ℕ, ◌+◌, List, [], ◌∷◌, ◌++◌, Bool, true, false, Option, Some, None, refl, sym, ap, ◌∙◌, arith}
use Rattle.std.proofs.lemmas.Bool.{eqb-true}
use Rattle.std.specs.Prelude.{cond, ◌==◌, not, max, flat_map}
use Rattle.ocfl_tree.proofs.Bools.{and_first, and_second}
use Rattle.ocfl_tree.proofs.Places.{text_eq-Decides, place_eq-Decides}
use Rattle.ocfl_separators.specs.Separators.{start_of_part, end_of_part}
use Rattle.ocfl_tree.specs.Place.{Text, Place, text_eq}
use Rattle.ocfl_report.specs.declared.further.Further.{Further}
use Rattle.ocfl_report.specs.declared.further.Further.TheVariants.{Nothing, Inventories}
use Rattle.ocfl_joining.specs.Missing.{KnownPart, check_same, further_of, same_end, has_ends, is_part, is_few, closed_fault, fault_of, part_at, named, names_of, most_names, missing_at, numbers}
use Rattle.ocfl_joining.proofs.Numbers.{flat_more}
use Rattle.ocfl_joining.specs.declared.part.MissingPart.{MissingPart}
use Rattle.ocfl_joining.specs.declared.part.PartFault.{PartFault}
use Rattle.ocfl_joining.specs.declared.part.PartFault.TheVariants.{NoPart, OtherRoot, OtherPart, OtherAudit, OtherCycle, ClosingUnsaid, FewNames, Incomplete}

-- ---- one more part

pub most_more : (parts : List (Option KnownPart)) (part : Option KnownPart) → most_names (parts ++ part ∷ []) ≡ max (names_of part) (most_names parts)
most_more [] part = refl
most_more (p ∷ parts) part =
    let swap : max (names_of p) (max (names_of part) (most_names parts)) ≡ max (names_of part) (max (names_of p) (most_names parts)) = omega arith in
    ap (max (names_of p)) (most_more parts part) ∙ swap

pub missing_step : (separators : List Place) (root : Text) (further : Further) (cycle most : ℕ) (parts : List (Option KnownPart)) (n : ℕ) (old new : List MissingPart) (fault : Option PartFault) (part : Option KnownPart)
    → further ≡ further_of parts → most ≡ most_names parts → old ≡ flat_map (missing_at separators root cycle parts) (numbers n) → new ≡ old ++ named (n + 1) fault → fault ≡ fault_of separators root further cycle most (n + 1) part → part ≡ part_at parts (n + 1)
    → new ≡ flat_map (missing_at separators root cycle parts) (numbers (n + 1))
missing_step separators root further cycle most parts n old new fault part k m e f g h =
    f ∙ (λ i. e i ++ named (n + 1) ((g ∙ (λ j. fault_of separators root (k j) cycle (m j) (n + 1) (h j))) i))
    ∙ sym (flat_more (missing_at separators root cycle parts) n)

-- ---- a part without a fault

seven_tests : (a b h c d f g : Bool)
    → cond (not a) (Some OtherRoot) (cond (not b) (Some OtherPart) (cond (not h) (Some OtherAudit) (cond (not c) (Some OtherCycle) (cond (not d) (Some ClosingUnsaid) (cond f (Some FewNames) (cond (not g) (Some Incomplete) None)))))) ≡ None
    → (a ≡ true) × ((b ≡ true) × ((h ≡ true) × ((c ≡ true) × ((d ≡ true) × ((f ≡ false) × (g ≡ true))))))
seven_tests true true true true true false true e = (refl, (refl, (refl, (refl, (refl, (refl, refl))))))
seven_tests true true true true true false false e = cc
seven_tests true true true true true true g e = cc
seven_tests true true true true false f g e = cc
seven_tests true true true false d f g e = cc
seven_tests true true false c d f g e = cc
seven_tests true false h c d f g e = cc
seven_tests false b h c d f g e = cc

pub same_checked : (f g : Further) → check_same f g ≡ true → f ≡ g
same_checked Nothing Nothing e = refl
same_checked Nothing Inventories e = cc
same_checked Inventories Nothing e = cc
same_checked Inventories Inventories e = refl

end_from_same : (a b : Option Place) → same_end a b ≡ true → a ≡ b
end_from_same None None e = refl
end_from_same None (Some q) e = cc
end_from_same (Some p) None e = cc
end_from_same (Some p) (Some q) e = ap Some ((place_eq-Decides p q).0 e)

module _ (separators : List Place) (root : Text) (further : Further) (cycle most number : ℕ) (part : KnownPart) where
  abbrev right : Type 0
  right =
      (part.root ≡ root)
      × ((part.from ≡ start_of_part separators number) × ((part.below ≡ end_of_part separators number) × ((part.further ≡ further) × ((part.cycle ≡ cycle) × ((part.has_said ≡ true) × (part.whole ≡ true))))))

  closed_right : closed_fault root further cycle most (start_of_part separators number) (end_of_part separators number) part ≡ None → right
  closed_right e =
      let k = seven_tests (text_eq part.root root) (has_ends part (start_of_part separators number) (end_of_part separators number)) (check_same part.further further) (part.cycle == cycle) part.has_said (is_few most part.names) part.whole e in
      let from = same_end part.from (start_of_part separators number) in
      let below = same_end part.below (end_of_part separators number) in (
        (text_eq-Decides part.root root).0 k.0,
        (
          end_from_same part.from (start_of_part separators number) (and_first from below k.1.0),
          (
            end_from_same part.below (end_of_part separators number) (and_second from below k.1.0),
            (same_checked part.further further k.1.1.0, (eqb-true part.cycle cycle k.1.1.1.0, (k.1.1.1.1.0, k.1.1.1.1.1.1))),
          ),
        ),
      )

  pub part_right : fault_of separators root further cycle most number (Some part) ≡ None → right
  part_right e = by (is_part separators number) e
    where
      by : (b : Bool) → cond b (closed_fault root further cycle most (start_of_part separators number) (end_of_part separators number) part) (Some NoPart) ≡ None → right
      by true f = closed_right f
      by false f = cc
