-- Worked cases: separators and their lines, what lines of a report cost, and where it is cut.
use Rattle.std.proofs.Common.{◌≡◌, ◌==◌, ◌+◌, ℕ, ◌≤◌, ◌<◌, List, [], ◌∷◌, ◌++◌, codes, length, map, refl, sym, append-nil, arith, Some, None, true, false}
use Rattle.std.specs.{List.{slice_split}, Str.{chars, is_utf8}, Fmt.{digits}}
use Rattle.std.specs.declared.cmp.Ordering.TheVariants.{Less, Greater}
use Rattle.std.proofs.Math.Utf8.{encode}
use Rattle.std.proofs.lemmas.{List.Elements.{All-cons, All-nil}, Str.{IsUtf8-from_is_utf8}}
use Prim.Native.String.{String}
use Rattle.ocfl_tree.specs.{Place.{Text, Place}}
use Rattle.ocfl_tree.proofs.PathNames.{place_from_tests}
use Rattle.ocfl_report.specs.{Line.{Line}, Text.{lines_text}}
use Rattle.ocfl_report.specs.declared.code.Code.TheVariants.{Clean}
use Rattle.ocfl_separators.specs.{Separators.{AreSeparators, part_line, parts_text}, Parts.{max_bytes, IsPartsText}}
use Rattle.ocfl_separators.specs.{Stop.{StopsRightly, LinesStop}, Costs.{is_size, item_cost}}
use Rattle.ocfl_separators.specs.Splits.{items_from, item_costs, as_item, reported, cuts, HasText, IsNotLess, AreInOrder, AreLines, IsSplit, IsBadReportLine, HasManyCuts}
use Rattle.ocfl_separators.specs.SplitStop.{SplitStopsRightly}
use Rattle.ocfl_separators.specs.declared.costs.ItemCost.{ItemCost}
use Rattle.ocfl_separators.specs.declared.reading.PartsStop.TheVariants.{Long, Line as BadLine}
use Rattle.ocfl_separators.specs.declared.splitting.SplitStop.TheVariants.{Line as BadReportLine}

-- a place by its path
abbrev place : String → Place
place t = slice_split (λ b. b == 47) (codes t)

greater_is_not_less : Greater ≡ Less → ⊥
greater_is_not_less e = cc

less_is_not_greater : Less ≡ Greater → ⊥
less_is_not_greater e = cc

-- ---- separators

line_of_a_separator : part_line (place "o/f") ≡ codes "o/f\n"
line_of_a_separator = refl

lines_of_separators : parts_text (place "a" ∷ place "b" ∷ []) ≡ codes "a\nb\n"
lines_of_separators = refl

separators_do_not_go_down : AreSeparators (place "b" ∷ place "a" ∷ []) → ⊥
separators_do_not_go_down h = greater_is_not_less h.ascend.0.0

most_bytes_of_separators : max_bytes ≡ 16777216
most_bytes_of_separators = refl

one_separator_too_many : (b : Text) (ps : List Place) → length ps ≡ 100001 → IsPartsText b ps → ⊥
one_separator_too_many b ps n h = let few : length ps ≤ 100000 = h.few in omega (arith, n, few)

-- whatever the line behind 100,000 separators is
one_line_too_many : (ps : List Place) → AreSeparators ps → length ps ≡ 100000 → LinesStop (parts_text ps ++ codes "x") Long
one_line_too_many ps are n = record { before = ps; rest = codes "x"; begins = record { separators = are; is = refl; more = λ e. cc }; all = n }

-- lines are counted from 1
no_bad_line_is_line_zero : (b : Text) → StopsRightly b (BadLine 0) → ⊥
no_bad_line_is_line_zero b h = let e : 0 ≡ length h.first.before + 1 = h.first.number in omega (arith, e)

-- ---- costs

-- a content file has fewer than 2^62 bytes
largest_size : (is_size (codes "4611686018427387903") ≡ true) × (is_size (codes "4611686018427387904") ≡ false)
unfolding digits
largest_size = (refl, refl)

-- a line of a file that is right, with how many bytes it has
abbrev ok : String → String → Line
ok p size = record { code = Clean; place = place p; detail = codes size }

abbrev costs : String → ℕ → ItemCost
costs p cost = record { place = place p; cost = cost }

cost_of_three_bytes : item_cost (ok "o/f" "3") ≡ costs "o/f" 4
unfolding digits
cost_of_three_bytes = refl

lines_of_one_place_together : items_from None (ok "f" "3" ∷ ok "f" "4" ∷ ok "g" "0" ∷ []) ≡ costs "f" 9 ∷ costs "g" 1 ∷ []
unfolding digits
lines_of_one_place_together = refl

items_of_two_files : item_costs (ok "f" "3" ∷ ok "g" "4" ∷ []) ≡ costs "f" 4 ∷ costs "g" 5 ∷ []
unfolding digits
items_of_two_files = refl

item_of_a_cost : (as_item (costs "f" 4)).cost ≡ 4
item_of_a_cost = refl

reported_costs : map (λ i. i.cost) (reported (ok "f" "3" ∷ ok "g" "4" ∷ [])) ≡ 4 ∷ 5 ∷ []
unfolding digits
reported_costs = refl

-- ---- cuts

cut_at_the_second_file : cuts 1 (ok "a" "3" ∷ ok "b" "3" ∷ []) ≡ place "b" ∷ []
unfolding digits
cut_at_the_second_file = refl

-- ---- lines of reports

names_of_lines_are_not_empty : HasText (record { code = Clean; place = [] ∷ []; detail = [] }) → ⊥
names_of_lines_are_not_empty h = let first : 0 < 1 = omega arith in (h.place 0 [] first).fits.not_empty refl

a_comes_before_b : IsNotLess (Some (place "a")) (place "b") × (IsNotLess (Some (place "b")) (place "a") → ⊥)
a_comes_before_b = (λ e. less_is_not_greater e, λ h. h refl)

b_is_not_before_a : AreInOrder None (ok "b" "3" ∷ ok "a" "3" ∷ []) → ⊥
b_is_not_before_a h = h.1.0 refl

no_report_goes_down : AreLines (ok "b" "3" ∷ ok "a" "3" ∷ []) → ⊥
no_report_goes_down h = h.order.1.0 refl

-- ---- what is read of a report

abbrev two_files : List Line
two_files = ok "a" "3" ∷ ok "b" "3" ∷ []

they_are_lines : AreLines two_files
unfolding chars is_utf8 encode
they_are_lines = record {
  texts = All-cons HasText (ok "a" "3") (ok "b" "3" ∷ [])
      (record { place = place_from_tests (codes "a") (IsUtf8-from_is_utf8 (codes "a") refl) refl refl refl; detail = IsUtf8-from_is_utf8 (codes "3") refl })
      (All-cons HasText (ok "b" "3") []
      (record { place = place_from_tests (codes "b") (IsUtf8-from_is_utf8 (codes "b") refl) refl refl refl; detail = IsUtf8-from_is_utf8 (codes "3") refl })
      (All-nil HasText));
  order = (tt, ((λ e. less_is_not_greater e), tt));
}

-- the first file costs 4, and so the second begins a part if 4 may be spent
split_by_a_budget_of_four : IsSplit 4 (codes "ok\ta\t3\nok\tb\t3\n") (place "b" ∷ [])
unfolding digits
split_by_a_budget_of_four = record { lines = two_files; are = they_are_lines; is = refl; cuts = refl; few = let one : 1 ≤ 100000 = omega arith in one }

no_bad_report_line_is_line_zero : (b : Text) → IsBadReportLine b 0 → ⊥
no_bad_report_line_is_line_zero b h = let e : 0 ≡ length h.before + 1 = h.number in omega (arith, e)

no_report_stops_at_line_zero : (b : Text) → SplitStopsRightly 4 b (BadReportLine 0) → ⊥
no_report_stops_at_line_zero b h = let e : 0 ≡ length h.before + 1 = h.number in omega (arith, e)

one_cut_too_many : (ls : List Line) → AreLines ls → length (cuts 4 ls) ≡ 100001 → HasManyCuts 4 (lines_text ls)
one_cut_too_many ls are n = record {
  before = ls;
  rest = [];
  are = are;
  is = sym (append-nil (lines_text ls));
  many = let many : 100000 < length (cuts 4 ls) = omega (arith, n) in many;
}
