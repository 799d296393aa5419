-- Which codes, items and lists of items are findings.
use Rattle.std.proofs.Common.{◌≡◌, ◌↔◌, ◌⊎◌, inl, inr, true, false, List, Any, refl, ap}
use Rattle.std.proofs.lemmas.List.Folds.{Any-from_list_any, list_any-from_Any}
use Rattle.ocfl_tree.proofs.Orders.{true_not_false}
use Rattle.ocfl_report.specs.Line.{Item, is_finding_code, has_finding, found}
use Rattle.ocfl_report.specs.declared.code.Code.{Code}
use Rattle.ocfl_report.specs.declared.code.Code.TheVariants.{Clean, E001, E003, E007, E015, E017, E018, E023, E024, E025, E033, E036, E041, E058, E060, E061, E063, E064, E069, E072, E073, E076, E080, E092, E093, E096, E097, E099, E100, E101, S01, S02, S03, S04, S05, S06, S07, S08, S09}

pub finding_codes : (c : Code) → (is_finding_code c ≡ false) ↔ ((c ≡ Clean) ⊎ ((c ≡ S07) ⊎ (c ≡ S09)))
finding_codes c = (to c, back)
  where
    to : (c : Code) → is_finding_code c ≡ false → (c ≡ Clean) ⊎ ((c ≡ S07) ⊎ (c ≡ S09))
    to Clean e = inl refl
    to S07 e = inr (inl refl)
    to S09 e = inr (inr refl)
    to E001 e = absurd (true_not_false e)
    to E003 e = absurd (true_not_false e)
    to E007 e = absurd (true_not_false e)
    to E015 e = absurd (true_not_false e)
    to E017 e = absurd (true_not_false e)
    to E018 e = absurd (true_not_false e)
    to E023 e = absurd (true_not_false e)
    to E024 e = absurd (true_not_false e)
    to E025 e = absurd (true_not_false e)
    to E033 e = absurd (true_not_false e)
    to E036 e = absurd (true_not_false e)
    to E041 e = absurd (true_not_false e)
    to E058 e = absurd (true_not_false e)
    to E060 e = absurd (true_not_false e)
    to E061 e = absurd (true_not_false e)
    to E063 e = absurd (true_not_false e)
    to E064 e = absurd (true_not_false e)
    to E069 e = absurd (true_not_false e)
    to E072 e = absurd (true_not_false e)
    to E073 e = absurd (true_not_false e)
    to E076 e = absurd (true_not_false e)
    to E080 e = absurd (true_not_false e)
    to E092 e = absurd (true_not_false e)
    to E093 e = absurd (true_not_false e)
    to E096 e = absurd (true_not_false e)
    to E097 e = absurd (true_not_false e)
    to E099 e = absurd (true_not_false e)
    to E100 e = absurd (true_not_false e)
    to E101 e = absurd (true_not_false e)
    to S01 e = absurd (true_not_false e)
    to S02 e = absurd (true_not_false e)
    to S03 e = absurd (true_not_false e)
    to S04 e = absurd (true_not_false e)
    to S05 e = absurd (true_not_false e)
    to S06 e = absurd (true_not_false e)
    to S08 e = absurd (true_not_false e)

    back : (c ≡ Clean) ⊎ ((c ≡ S07) ⊎ (c ≡ S09)) → is_finding_code c ≡ false
    back (inl e) = ap is_finding_code e
    back (inr (inl e)) = ap is_finding_code e
    back (inr (inr e)) = ap is_finding_code e

-- an item is one if one of its lines is
pub finding_items : (i : Item) → (has_finding i ≡ true) ↔ Any (λ l. is_finding_code l.code ≡ true) i.lines
finding_items i = (Any-from_list_any (λ l. is_finding_code l.code) i.lines, list_any-from_Any (λ l. is_finding_code l.code) i.lines)

-- and items if one of them is
pub finding_lists : (items : List Item) → (found items ≡ true) ↔ Any (λ i. has_finding i ≡ true) items
finding_lists items = (Any-from_list_any has_finding items, list_any-from_Any has_finding items)
