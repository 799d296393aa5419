-- The paths of joined reports, and those of other files.
use Rattle.std.proofs.Common.{◌≡◌, ◌≢◌, ◌∙◌, ◌++◌, ◌==◌, ◌<◌, ◌≤◌, ◌⊎◌, inl, inr, ◌/◌, ◌%◌, ◌^◌, ◌-◌, ◌||◌, ◌&&◌, ◌+◌, Bor, take, drop, nat_eq, ℕ, zero, suc, [], ◌∷◌, Bool, true, false, Option, Some, None, codes, decimal, length, replicate, get_or, refl, sym, ap, subst, arith, append_assoc, length-append, if◌then◌else◌}
use Rattle.std.specs.Prelude.{Result, Ok, Err, IfOk, IfSome, MatchOption, option_map}
use Rattle.std.specs.{List.{list_any}, Str.Parse.{AllDigits, ParsesUnsigned, digits_value}}
use Rattle.std.specs.Cmp.Lexicographic.{pointwise}
use Rattle.std.proofs.Math.Bool.{or-true}
use Rattle.std.proofs.lemmas.Bool.{cases_lt, eq-eqb, ne_eqb}
use Rattle.std.proofs.Math.Nat.{pow-suc}
use Rattle.std.specs.Fmt.{digits, digits_onto, digit_glyph}
use Rattle.std.proofs.lemmas.Fmt.{decimal_is_IsNumeral, decimal_is_IsNumeral_wide}
use Rattle.std.proofs.lemmas.Str.Parse.{digit_at, digit_from_value, without_leading_plus_none}
use Rattle.ocfl_tree.specs.Place.{Text}
use Rattle.ocfl_kept.specs.FilePaths.{part_path, report_path, six_digits}
use Rattle.ocfl_mem_disk.specs.Paths.{behind_front, is_dot, joined_name, name_in, without_dot}

pub behind_its_front : (front text : Text) → behind_front front (front ++ text) ≡ Some text
behind_its_front [] text = refl
behind_its_front (a ∷ front) text = rw (eq-eqb a a refl) (behind_its_front front text)

-- ---- six digits

zeros_are_digits : (k : ℕ) (ds : Text) → AllDigits 10 ds → AllDigits 10 (replicate k 48 ++ ds)
zeros_are_digits zero ds h = h
zeros_are_digits (suc k) ds h = (omega arith, zeros_are_digits k ds h)

zeros_value : (k : ℕ) (ds : Text) → digits_value 10 (replicate k 48 ++ ds) ≡ digits_value 10 ds
zeros_value zero ds = refl
zeros_value (suc k) ds = zeros_value k ds

are_digits : (n : ℕ) → n < 2 ^ 64 → AllDigits 10 (six_digits n)
are_digits n l = zeros_are_digits (6 - length (decimal n)) (decimal n) (decimal_is_IsNumeral n l).0.1

are_digits_wide : (n : ℕ) → n < 10 ^ 64 → AllDigits 10 (six_digits n)
are_digits_wide n l = zeros_are_digits (6 - length (decimal n)) (decimal n) (decimal_is_IsNumeral_wide n l).0.1

six_value_wide : (n : ℕ) → n < 10 ^ 64 → digits_value 10 (six_digits n) ≡ n
six_value_wide n l = zeros_value (6 - length (decimal n)) (decimal n) ∙ (decimal_is_IsNumeral_wide n l).1

no_dot : (ds : Text) → AllDigits 10 ds → list_any is_dot ds ≡ false
no_dot [] h = refl
no_dot (c ∷ ds) h = rw (ne_eqb c 46 (λ e. omega (arith, digit_from_value c h.0))) (no_dot ds h.1)

dot_within : (xs more : Text) → list_any is_dot (xs ++ 46 ∷ more) ≡ true
dot_within [] more = refl
dot_within (c ∷ xs) more = ap (λ b. is_dot c || b) (dot_within xs more) ∙ or-true (is_dot c)

-- ---- names

name_is : (digits : Text) (whole : Bool) → list_any is_dot digits ≡ false → without_dot digits whole ≡ Some (record { digits = digits; whole = whole })
name_is digits whole e = rw e

no_name : (digits : Text) (whole : Bool) → list_any is_dot digits ≡ true → without_dot digits whole ≡ None
no_name digits whole e = rw e

pub name_of_joined : (folder : Text) (cycle : ℕ) (whole : Bool) → cycle < 2 ^ 64 → joined_name folder (report_path folder cycle whole) ≡ Some (record { digits = six_digits cycle; whole = whole })
name_of_joined folder cycle true l = ap name_in (behind_its_front folder (codes "/reports/cycle-" ++ six_digits cycle)) ∙ name_is (six_digits cycle) true (no_dot (six_digits cycle) (are_digits cycle l))
name_of_joined folder cycle false l = ap name_in (behind_its_front folder (codes "/reports/incomplete-" ++ six_digits cycle)) ∙ name_is (six_digits cycle) false (no_dot (six_digits cycle) (are_digits cycle l))

pub no_name_of_part : (folder : Text) (part : ℕ) (more : Text) → joined_name folder (part_path folder part ++ more) ≡ None
no_name_of_part folder part more = ap (joined_name folder) (append_assoc folder (codes "/part-" ++ six_digits part) more) ∙ ap name_in (behind_its_front folder ((codes "/part-" ++ six_digits part) ++ more))

pub no_name_beside : (folder : Text) (cycle : ℕ) (whole : Bool) (more : Text) → joined_name folder (report_path folder cycle whole ++ 46 ∷ more) ≡ None
no_name_beside folder cycle true more =
    ap (joined_name folder) (append_assoc folder (codes "/reports/cycle-" ++ six_digits cycle) (46 ∷ more)) ∙ ap name_in (behind_its_front folder (codes "/reports/cycle-" ++ (six_digits cycle ++ 46 ∷ more)))
    ∙ no_name (six_digits cycle ++ 46 ∷ more) true (dot_within (six_digits cycle) more)
no_name_beside folder cycle false more =
    ap (joined_name folder) (append_assoc folder (codes "/reports/incomplete-" ++ six_digits cycle) (46 ∷ more)) ∙ ap name_in (behind_its_front folder (codes "/reports/incomplete-" ++ (six_digits cycle ++ 46 ∷ more)))
    ∙ no_name (six_digits cycle ++ 46 ∷ more) false (dot_within (six_digits cycle) more)

-- ---- what is read from them

first_digit : (number : ℕ) → number < 10 ^ 64 → get_or (six_digits number) 0 0 ≢ 43
first_digit number l e = omega (arith, digit_at (six_digits number) 0 (are_digits_wide number l) (omega (arith, (decimal_is_IsNumeral_wide number l).0.0, length-append (replicate (6 - length (decimal number)) 48) (decimal number))))

ten_some : (k : ℕ) → 0 < 10 ^ k
ten_some zero = omega arith
ten_some (suc k) = omega (arith, pow-suc 10 k, ten_some k)

-- a number past 10^64 has the digits of the greatest ones
onto_long : (k n : ℕ) (acc : Text) → 10 ^ k ≤ n → length (digits_onto k 10 false n acc) ≡ k + length acc
onto_long zero n acc h = omega arith
onto_long (suc k) n acc h =
    let less : 10 ^ k ≤ n / 10 = omega (arith, h, pow-suc 10 k) in
    rw (ne_eqb (n / 10) 0 (λ e. omega (arith, less, e, ten_some k))) (onto_long k (n / 10) (digit_glyph false (n % 10) ∷ acc) less ∙ omega arith)

decimal_long : (n : ℕ) → 10 ^ 64 ≤ n → length (decimal n) ≡ 64
unfolding digits
decimal_long n h = onto_long 64 n [] h

six_long : (n : ℕ) → 10 ^ 64 ≤ n → 64 ≤ length (six_digits n)
six_long n h = omega (arith, decimal_long n h, length-append (replicate (6 - length (decimal n)) 48) (decimal n))

abbrev IsNumberIn : Text → ℕ → Type 0
IsNumberIn ds n = (number : ℕ) → ds ≡ six_digits number → n ≡ number

pub number_read : {E : Type 0} (ds : Text) (r : Result ℕ E) → length ds ≤ 20 → ParsesUnsigned 64 10 ds r → IfOk r (IsNumberIn ds)
number_read ds (Err e) short h = tt
number_read ds (Ok n) short h = λ number is. by number is (cases_lt number (10 ^ 64))
  where
    by : (number : ℕ) → ds ≡ six_digits number → (number < 10 ^ 64) ⊎ (10 ^ 64 ≤ number) → n ≡ number
    by number is (inl l) =
        let plain : get_or ds 0 0 ≢ 43 = subst (λ t. get_or t 0 0 ≢ 43) (sym is) (first_digit number l) in
        h.1 ∙ ap (digits_value 10) (without_leading_plus_none ds plain ∙ is) ∙ six_value_wide number l
    by number is (inr m) = absurd (omega (arith, short, ap length is, six_long number m))

-- of a part, by what is behind the fronts of its path
pub part_read : (folder path name digits : Text) (r : Option ℕ) → Some name ≡ behind_front folder path → Some digits ≡ behind_front (codes "/part-") name → IfSome r (IsNumberIn digits)
    → IfSome r (λ n. (part : ℕ) → path ≡ part_path folder part → n ≡ part)
part_read folder path name digits None named numbered h = tt
part_read folder path name digits (Some n) named numbered h = λ part is. h part (digits_are part is)
  where
    behind_in : Option Text → Option Text
    behind_in None = None
    behind_in (Some t) = behind_front (codes "/part-") t

    some_same : {a b : Text} → Some a ≡ Some b → a ≡ b
    some_same e = cc

    is_named : (part : ℕ) → path ≡ part_path folder part → Some name ≡ Some (codes "/part-" ++ six_digits part)
    is_named part is = named ∙ ap (behind_front folder) is ∙ behind_its_front folder (codes "/part-" ++ six_digits part)

    digits_are : (part : ℕ) → path ≡ part_path folder part → digits ≡ six_digits part
    digits_are part is = some_same (numbered ∙ ap (λ o. behind_in o) (is_named part is))

-- ---- cutting a front off

cut_if : (front text : Text) (is : Bool) → pointwise nat_eq (take (length front) text) front ≡ is → behind_front front text ≡ (if is then Some (drop (length front) text) else None)
cut_if [] text true e = refl
cut_if [] text false e = absurd cc
cut_if (a ∷ front) [] true e = absurd cc
cut_if (a ∷ front) [] false e = refl
cut_if (a ∷ front) (b ∷ text) is e = by (b == a) refl (λ one. cut_if front text is one)
  where
    by : (same : Bool) → b == a ≡ same → (pointwise nat_eq (take (length front) text) front ≡ is → behind_front front text ≡ (if is then Some (drop (length front) text) else None)) → behind_front (a ∷ front) (b ∷ text) ≡ (if is then Some (drop (length front) text) else None)
    by true s rest = rw s (rest (ap (λ x. x && pointwise nat_eq (take (length front) text) front) (sym s) ∙ e))
    by false s rest = rw s (subst (λ i. None ≡ (if i then Some (drop (length front) text) else None)) (ap (λ x. x && pointwise nat_eq (take (length front) text) front) (sym s) ∙ e) refl)

pub front_cut : (front text : Text) (r : Option (Bor Text)) → MatchOption r (pointwise nat_eq (take (length front) text) front ≡ false) (λ x. (pointwise nat_eq (take (length front) text) front ≡ true) × (x.now ≡ drop (length front) text) × (length x.now + length front ≡ length text))
    → option_map (λ x. x.now) r ≡ behind_front front text
front_cut front text None h = sym (cut_if front text false h)
front_cut front text (Some x) h = ap Some h.1 ∙ sym (cut_if front text true h.0)
