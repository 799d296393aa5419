-- If no part keeps the others from being joined, all check the same.
use Rattle.std.proofs.Common.{◌≡◌, ◌⊎◌, inl, inr, ℕ, zero, suc, ◌+◌, ◌-◌, ◌<◌, List, [], ◌∷◌, ◌++◌, length, Bool, true, false, Option, Some, None, refl, sym, ap, ◌∙◌, add-one, arith}
use Rattle.std.proofs.lemmas.Bool.{cases_order}
use Rattle.std.proofs.lemmas.List.Elements.{filter-append}
use Rattle.std.proofs.lemmas.Option.{slice_get_within}
use Rattle.std.specs.Prelude.{cond, filter, flat_map, not, slice_get, ◌==◌}
use Rattle.ocfl_tree.specs.Place.{Text, Place, text_eq}
use Rattle.ocfl_report.specs.declared.further.Further.{Further}
use Rattle.ocfl_separators.specs.Separators.{start_of_part, end_of_part}
use Rattle.ocfl_joining.specs.Missing.{KnownPart, check_same, closed_fault, fault_of, further_of, has_ends, hindering_of, hinders, is_few, is_part, missing_at, most_names, named, numbers, part_at, part_count}
use Rattle.ocfl_joining.specs.declared.part.MissingPart.{MissingPart}
use Rattle.ocfl_joining.specs.declared.part.PartFault.{PartFault}
use Rattle.ocfl_joining.specs.declared.part.PartFault.TheVariants.{NoPart, OtherRoot, OtherPart, OtherAudit, OtherCycle, ClosingUnsaid, FewNames, Incomplete}
use Rattle.ocfl_joining.proofs.{Numbers.{flat_more}, Parts.{same_checked}}

-- those of a list that keep parts from being joined
abbrev kept_from : List MissingPart → List MissingPart
kept_from ms = filter (λ m. hinders m.fault) ms

both_none : {A : Type 0} (xs ys : List A) → xs ++ ys ≡ [] → (xs ≡ []) × (ys ≡ [])
both_none [] ys e = (refl, e)
both_none (x ∷ xs) ys e = cc

-- ---- one part

-- what is wrong with a part whose audit checks the same
abbrev rest_fault : ℕ → ℕ → KnownPart → Option PartFault
rest_fault cycle most part =
    cond (not (part.cycle == cycle)) (Some OtherCycle) (cond (not part.has_said) (Some ClosingUnsaid) (cond (is_few most part.names) (Some FewNames) (cond (not part.whole) (Some Incomplete) None)))

third_test : (number : ℕ) (a b h : Bool) (rest : Option PartFault)
    → kept_from (named number (cond (not a) (Some OtherRoot) (cond (not b) (Some OtherPart) (cond (not h) (Some OtherAudit) rest)))) ≡ [] → h ≡ true
third_test number true true true rest e = refl
third_test number true true false rest e = cc
third_test number true false h rest e = cc
third_test number false b h rest e = cc

module _ (separators : List Place) (root : Text) (further : Further) (cycle most number : ℕ) (part : KnownPart) where
  part_checks : kept_from (named number (fault_of separators root further cycle most number (Some part))) ≡ [] → part.further ≡ further
  part_checks e = by (is_part separators number) e
    where
      by : (b : Bool) → kept_from (named number (cond b (closed_fault root further cycle most (start_of_part separators number) (end_of_part separators number) part) (Some NoPart))) ≡ [] → part.further ≡ further
      by true f =
          same_checked part.further further (third_test number (text_eq part.root root) (has_ends part (start_of_part separators number) (end_of_part separators number)) (check_same part.further further) (rest_fault cycle most part) f)
      by false f = cc

-- ---- all parts

module _ (separators : List Place) (root : Text) (cycle : ℕ) (parts : List (Option KnownPart)) where
  abbrev missing : ℕ → List MissingPart
  missing = missing_at separators root cycle parts

  none_at : (count : ℕ) → kept_from (flat_map missing (numbers count)) ≡ [] → (n : ℕ) → n < count → kept_from (missing (n + 1)) ≡ []
  none_at zero e n less = absurd (omega arith)
  none_at (suc count) e n less = by (cases_order n count) (none_at count split.0 n)
    where
      split : (kept_from (flat_map missing (numbers count)) ≡ []) × (kept_from (missing (count + 1)) ≡ [])
      split =
          both_none (kept_from (flat_map missing (numbers count))) (kept_from (missing (count + 1)))
          (sym (filter-append (λ m. hinders m.fault) (flat_map missing (numbers count)) (missing (count + 1))) ∙ ap kept_from (sym (flat_more missing count)) ∙ ap (λ m. kept_from (flat_map missing (numbers m))) (add-one count) ∙ e)

      by : (n ≡ count) ⊎ ((n < count) ⊎ (count < n)) → (n < count → kept_from (missing (n + 1)) ≡ []) → kept_from (missing (n + 1)) ≡ []
      by (inl same) earlier = ap (λ m. kept_from (missing (m + 1))) same ∙ split.1
      by (inr (inl before)) earlier = earlier before
      by (inr (inr after)) earlier = absurd (omega arith)

  part_is : (number : ℕ) (part : KnownPart) → slice_get parts (number - 1) ≡ Some (Some part) → part_at parts number ≡ Some part
  part_is number part e = cc

  pub each_checks : hindering_of separators root cycle parts ≡ [] → (n : ℕ) (part : KnownPart) → slice_get parts n ≡ Some (Some part) → part.further ≡ further_of parts
  each_checks none n part is =
      let at : slice_get parts ((n + 1) - 1) ≡ Some (Some part) = ap (slice_get parts) (omega arith) ∙ is in
      let within : n < length parts = slice_get_within parts n (Some part) is in
      let known : part_at parts (n + 1) ≡ Some part = part_is (n + 1) part at in
      part_checks separators root (further_of parts) cycle (most_names parts) (n + 1) part
      (ap (λ p. kept_from (named (n + 1) (fault_of separators root (further_of parts) cycle (most_names parts) (n + 1) p))) (sym known) ∙ none_at (part_count separators parts) none n (omega arith))
