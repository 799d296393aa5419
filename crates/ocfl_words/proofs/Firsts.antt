-- The first of what is gone, and what is counted, with one more.
use Rattle.std.proofs.Common.{◌≡◌, ℕ, zero, suc, ◌+◌, ◌≤◌, ◌<◌, List, [], ◌∷◌, ◌++◌, Bool, true, false, length, take, refl, ap, sym, ◌∙◌, length-append, arith}
use Rattle.std.proofs.{lemmas.Grind.{flat_map-append}, lemmas.List.{append-nil, length-take, take-append-le}, lemmas.List.Elements.{filter-append}}
use Rattle.std.specs.{Prelude.{Option, if◌then◌else◌}, List.{filter}, Option.{option_to_list}}
use Rattle.ocfl_tree.specs.Place.{Place}
use Rattle.ocfl_report.specs.Line.{Line}
use Rattle.ocfl_compare.specs.{Changes.{change_at}, declared.change.{Change.{Change}}}
use Rattle.ocfl_messages.specs.Tally.{kept_count}
use Rattle.ocfl_messages.specs.declared.closing.{GoneKind.{GoneKind}}
use Rattle.ocfl_words.specs.{Counted.{count_of, is_repaired, repaired_line, repaired_lines, row_of, rows_at, rows_of}, Noted.{Noted, noted}}

-- one more behind fewer than n
pub take_grows : {X : Type 0} (n : ℕ) (xs : List X) (x : X) → length (take n xs) < n → take n (xs ++ x ∷ []) ≡ take n xs ++ x ∷ []
take_grows zero xs x l = absurd (omega (arith, l))
take_grows (suc zero) [] x l = refl
take_grows (suc (suc n)) [] x l = refl
take_grows (suc n) (y ∷ xs) x l = ap (λ ys. y ∷ ys) (take_grows n xs x (omega (arith, l)))

-- and behind as many
pub take_stays : {X : Type 0} (n : ℕ) (xs : List X) (x : X) → n ≤ length (take n xs) → take n (xs ++ x ∷ []) ≡ take n xs
take_stays n xs x l = take-append-le n xs (x ∷ []) (omega (arith, l, length-take n xs))

pub first_more : {X : Type 0} (n : ℕ) (xs gs : List X) (g : X) → length xs < n → xs ≡ take n gs → xs ++ g ∷ [] ≡ take n (gs ++ g ∷ [])
first_more n xs gs g few h =
    let same : length (take n gs) ≡ length xs = ap length (sym h) in
    ap (λ ys. ys ++ g ∷ []) h ∙ sym (take_grows n gs g (omega (arith, few, same)))

pub first_full : {X : Type 0} (n : ℕ) (xs gs : List X) (g : X) → n ≤ length xs → xs ≡ take n gs → xs ≡ take n (gs ++ g ∷ [])
first_full n xs gs g full h =
    let same : length (take n gs) ≡ length xs = ap length (sym h) in
    h ∙ sym (take_stays n gs g (omega (arith, full, same)))

-- the rows with one change more
pub rows_more : (kind : Change → Option GoneKind) (ns : List Noted) (p : Place) (c : Change) (l : Option Line) (is : Bool) (k : Option GoneKind) → k ≡ kind c
    → rows_of kind ns ++ rows_at p k ≡ rows_of kind (ns ++ noted (change_at p c) l is ∷ [])
rows_more kind ns p c l is k e =
    let n = noted (change_at p c) l is in
    ap (λ o. rows_of kind ns ++ rows_at p o) e ∙ ap (λ gs. rows_of kind ns ++ gs) (sym (append-nil (row_of kind n))) ∙ sym (flat_map-append (row_of kind) ns (n ∷ []))

-- the lines of what is repaired with one change more
pub lines_more : (ns : List Noted) (n : Noted) (b : Bool) → b ≡ is_repaired n.at.change → repaired_lines ns ++ (if b then option_to_list n.line else []) ≡ repaired_lines (ns ++ n ∷ [])
lines_more ns n b e =
    ap (λ x. repaired_lines ns ++ (if x then option_to_list n.line else [])) e ∙ ap (λ ls. repaired_lines ns ++ ls) (sym (append-nil (repaired_line n)))
    ∙ sym (flat_map-append repaired_line ns (n ∷ []))

-- so many, with one more
pub count_more : (counts : Noted → Bool) (ns : List Noted) (n : Noted) (b : Bool) → b ≡ counts n → count_of counts ns + (if b then 1 else 0) ≡ count_of counts (ns ++ n ∷ [])
count_more counts ns n b e = sym (ap length (filter-append counts ns (n ∷ [])) ∙ length-append (filter counts ns) (filter counts (n ∷ [])) ∙ ap (λ k. count_of counts ns + k) (one b e))
  where
    one : (b : Bool) → b ≡ counts n → length (filter counts (n ∷ [])) ≡ (if b then 1 else 0)
    one true e = rw (sym e) refl
    one false e = rw (sym e) refl

-- one is kept as it is
pub kept_one : (b : Bool) → kept_count (if b then 1 else 0) ≡ (if b then 1 else 0)
kept_one true = refl
kept_one false = refl
