-- Two separators enclose a branch: its place, and this with the byte 1 after its last name.
use Rattle.std.proofs.Common.{◌≡◌, ◌≢◌, ℕ, zero, suc, ◌+◌, ◌<◌, ◌≤◌, List, [], ◌∷◌, ◌++◌, refl, sym, ◌∙◌, ap, true, false, filter, arith, All, length, length-append, codes, IsUtf8}
use Rattle.std.proofs.lemmas.List.Elements.{All-nil, All-cons, All-head, All-tail, All-append}
use Rattle.std.proofs.lemmas.Str.{IsUtf8-append, IsUtf8-from_ascii, IsUtf8-had}
use Rattle.std.specs.{Prelude.{cond, not, ◌&&◌}, List.{slice_index}, Cmp.{nat_cmp_is}}
use Rattle.std.specs.Ordering.{is_lt, is_eq, nat_cmp, ordering_then, ordering_reverse}
use Rattle.std.specs.declared.cmp.Ordering.{Ordering}
use Rattle.std.specs.declared.cmp.Ordering.TheVariants.{Less, Equal, Greater}
use Rattle.ocfl_tree.specs.Place.{Text, Place, text_cmp, text_eq, place_cmp, begins}
use Rattle.ocfl_tree.specs.Name.{IsName, IsPlace}
use Rattle.ocfl_tree.proofs.Places.{text_cmp_total, text_cmp_exact}
use Rattle.ocfl_report.specs.Line.{Item}
use Rattle.ocfl_rules.specs.{Walk.{items_under}, Parts.{lies_in, within, branch_end, enclosed}}
use Rattle.ocfl_inventory.proofs.Runs.{equal_itself}
use Rattle.ocfl_rules.proofs.PartLaws.{within_is}

-- ---- names

-- no byte but 0 is less than 1
not_below_one : (b : ℕ) → b ≢ 0 → nat_cmp b 1 ≡ Less → ⊥
not_below_one zero h e = h refl
not_below_one (suc zero) h e = cc
not_below_one (suc (suc b)) h e = let g : Greater ≡ nat_cmp (suc (suc b)) 1 = nat_cmp_is (suc (suc b)) 1 Greater (omega arith) in cc

nothing_follows : (m : Text) → text_cmp m [] ≡ Less → ⊥
nothing_follows [] e = cc
nothing_follows (b ∷ m) e = cc

-- between a name and the same with the byte 1 after it is no text without NUL
no_name_between : (n m : Text) → All (λ b. b ≢ 0) m → text_cmp m n ≡ Greater → text_cmp m (n ++ 1 ∷ []) ≡ Less → ⊥
no_name_between [] [] h k l = cc
no_name_between [] (b ∷ m) h k l = by (nat_cmp b 1) refl l
  where
    by : (r : Ordering) → nat_cmp b 1 ≡ r → ordering_then r (text_cmp m []) ≡ Less → ⊥
    by Less e f = not_below_one b (All-head (λ b. b ≢ 0) b m h) e
    by Equal e f = nothing_follows m f
    by Greater e f = cc
no_name_between (c ∷ n) [] h k l = cc
no_name_between (c ∷ n) (b ∷ m) h k l = by (nat_cmp b c) k l (no_name_between n m (All-tail (λ b. b ≢ 0) b m h))
  where
    by : (r : Ordering) → ordering_then r (text_cmp m n) ≡ Greater → ordering_then r (text_cmp m (n ++ 1 ∷ [])) ≡ Less → (text_cmp m n ≡ Greater → text_cmp m (n ++ 1 ∷ []) ≡ Less → ⊥) → ⊥
    by Less f g more = cc
    by Equal f g more = more f g
    by Greater f g more = cc

no_nul : (m : Text) → All (λ b. (b ≢ 47) × (b ≢ 0)) m → All (λ b. b ≢ 0) m
no_nul [] h = All-nil (λ b. b ≢ 0)
no_nul (b ∷ m) h = All-cons (λ b. b ≢ 0) b m (All-head (λ b. (b ≢ 47) × (b ≢ 0)) b m h).1 (no_nul m (All-tail (λ b. (b ≢ 47) × (b ≢ 0)) b m h))

longer_text : (n : Text) → text_cmp n (n ++ 1 ∷ []) ≡ Less
longer_text [] = refl
longer_text (b ∷ n) = ap (λ r. ordering_then r (text_cmp n (n ++ 1 ∷ []))) (sym (nat_cmp_is b b Equal refl)) ∙ longer_text n

-- ---- places

pub nothing_above : (q : Place) → is_lt (place_cmp q []) ≡ false
nothing_above [] = refl
nothing_above (m ∷ q) = refl

-- what is equal to a name, by how it compares
equal_from : (n m : Text) (r : Ordering) → text_cmp m n ≡ r → text_eq n m ≡ is_eq (ordering_reverse r)
equal_from n m r e = ap is_eq (text_cmp_total.antisymm n m ∙ ap ordering_reverse e)

-- a place is between the two separators exactly if it begins with the first
pub enclosed_is : (d : Place) (n : Text) (q : Place) → IsPlace q → lies_in (enclosed d n) q ≡ begins (d ++ n ∷ []) q
enclosed_is [] n [] h = refl
enclosed_is [] n (m ∷ q) h = by (text_cmp m n) refl
  where
    plain : All (λ b. b ≢ 0) m
    plain = let name = All-head IsName m q h in no_nul m name.fits.plain

    -- above the name is above the second separator
    above : (r : Ordering) → text_cmp m n ≡ Greater → text_cmp m (n ++ 1 ∷ []) ≡ r → is_lt (ordering_then r (place_cmp q [])) ≡ false
    above Less e f = absurd (no_name_between n m plain e f)
    above Equal e f = nothing_above q
    above Greater e f = refl

    same : (r : Ordering) → text_cmp m n ≡ Equal → text_cmp m (n ++ 1 ∷ []) ≡ r → is_lt (ordering_then r (place_cmp q [])) ≡ true
    same r e f = ap (λ s. is_lt (ordering_then s (place_cmp q []))) (sym f ∙ ap (λ t. text_cmp t (n ++ 1 ∷ [])) (text_cmp_exact m n e) ∙ longer_text n)

    by : (r : Ordering) → text_cmp m n ≡ r
        → (not (is_lt (ordering_then (text_cmp m n) (place_cmp q []))) && is_lt (ordering_then (text_cmp m (n ++ 1 ∷ [])) (place_cmp q []))) ≡ (text_eq n m && true)
    by Less e = rw (e, equal_from n m Less e) refl
    by Equal e = rw (e, equal_from n m Equal e, nothing_above q, same (text_cmp m (n ++ 1 ∷ [])) e refl) refl
    by Greater e = rw (e, equal_from n m Greater e, above (text_cmp m (n ++ 1 ∷ [])) e refl) refl
enclosed_is (k ∷ d) n [] h = refl
enclosed_is (k ∷ d) n (m ∷ q) h = by (text_cmp m k) refl (enclosed_is d n q (All-tail IsName m q h))
  where
    by : (r : Ordering) → text_cmp m k ≡ r → lies_in (enclosed d n) q ≡ begins (d ++ n ∷ []) q
        → (not (is_lt (ordering_then (text_cmp m k) (place_cmp q (d ++ n ∷ [])))) && is_lt (ordering_then (text_cmp m k) (place_cmp q (branch_end d n)))) ≡ (text_eq k m && begins (d ++ n ∷ []) q)
    by Less e more = rw (e, equal_from k m Less e) refl
    by Equal e more = rw (e, equal_from k m Equal e) more
    by Greater e more = rw (e, equal_from k m Greater e) refl

-- the separators ascend
pub ends_above : (d : Place) (n : Text) → place_cmp (d ++ n ∷ []) (branch_end d n) ≡ Less
ends_above [] n = ap (λ r. ordering_then r Equal) (longer_text n)
ends_above (k ∷ d) n = ap (λ r. ordering_then r (place_cmp (d ++ n ∷ []) (branch_end d n))) (equal_itself text_cmp_total k) ∙ ends_above d n

-- ---- items

pub enclosed_items : (d : Place) (n : Text) (items : List Item) → All (λ i. IsPlace i.place) items → within (enclosed d n) items ≡ items_under (d ++ n ∷ []) items
enclosed_items d n items h = within_is (enclosed d n) items ∙ alike items h
  where
    alike : (xs : List Item) → All (λ i. IsPlace i.place) xs → filter (λ i. lies_in (enclosed d n) i.place) xs ≡ filter (λ i. begins (d ++ n ∷ []) i.place) xs
    alike [] k = refl
    alike (i ∷ xs) k =
        ap (λ b. cond b (i ∷ filter (λ i. lies_in (enclosed d n) i.place) xs) (filter (λ i. lies_in (enclosed d n) i.place) xs)) (enclosed_is d n i.place (All-head (λ i. IsPlace i.place) i xs k))
        ∙ ap (λ l. cond (begins (d ++ n ∷ []) i.place) (i ∷ l) l) (alike xs (All-tail (λ i. IsPlace i.place) i xs k))

-- ---- the second separator is a name, if it is not too long

one_is_text : IsUtf8 (1 ∷ [])
one_is_text = IsUtf8-from_ascii (1 ∷ []) low
  where
    low : (i : ℕ) → slice_index (1 ∷ []) i < 128
    low zero = omega arith
    low (suc i) = omega arith

no_dot : (n : Text) → n ≢ [] → n ++ 1 ∷ [] ≢ codes "."
no_dot [] h e = h refl
no_dot (b ∷ []) h e = cc
no_dot (b ∷ c ∷ n) h e = cc

no_dots : (n : Text) → n ≢ [] → n ++ 1 ∷ [] ≢ codes ".."
no_dots [] h e = h refl
no_dots (b ∷ []) h e = cc
no_dots (b ∷ c ∷ []) h e = cc
no_dots (b ∷ c ∷ f ∷ n) h e = cc

pub end_is_name : (n : Text) → IsName n → length n < 255 → IsName (n ++ 1 ∷ [])
end_is_name n h l =
    let e : length (n ++ 1 ∷ []) ≡ length n + 1 = length-append n (1 ∷ []) in
    record {
      text = ∣ IsUtf8-append n (1 ∷ []) (IsUtf8-had n h.text) one_is_text ∣₁;
      fits = record {
        not_empty = some n;
        short = omega (arith, e, l);
        plain = All-append (λ b. (b ≢ 47) × (b ≢ 0)) n (1 ∷ []) h.fits.plain
            (All-cons (λ b. (b ≢ 47) × (b ≢ 0)) 1 [] (λ k. omega (arith, k), λ k. omega (arith, k)) (All-nil (λ b. (b ≢ 47) × (b ≢ 0))));
        not_dot = no_dot n h.fits.not_empty;
        not_dots = no_dots n h.fits.not_empty;
      };
    }
  where
    some : (m : Text) → m ++ 1 ∷ [] ≢ []
    some [] k = cc
    some (b ∷ m) k = cc

pub end_is_no_name : (n : Text) → 255 ≤ length n → IsName (n ++ 1 ∷ []) → ⊥
end_is_no_name n l h = let e : length (n ++ 1 ∷ []) ≡ length n + 1 = length-append n (1 ∷ []) in let s : length (n ++ 1 ∷ []) ≤ 255 = h.fits.short in omega (arith, e, l, s)
