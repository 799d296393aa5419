-- What notes of root inventories say, and what became of these.
use Rattle.std.proofs.Common.{◌≡◌, ◌≢◌, ℕ, ◌+◌, ◌<◌, ◌^◌, [], ◌∷◌, Bool, true, false, cond, Bor, Option, Some, None, Result, Ok, Err, length, refl, sym, ap, ◌∙◌, arith}
use Rattle.std.proofs.lemmas.{Bool.{eqb-true, le-ltb, lt-ltb, ltb-true}, List.{drop_all}, Option.{MatchOption-at_none, MatchOption-at_some}}
use Rattle.std.proofs.lemmas.Str.Parse.{numerals_by_value, parse_digits, tells_all_ascii_digits}
use Rattle.std.proofs.lemmas.Str.Pattern.{IsSplitOnceResult, split_once_first}
use Rattle.std.specs.{Prelude.{◌==◌, ◌&&◌, nat_lt}, List.{position_or_len}, Result.{OkIff, result_ok}, Str.{all_ascii_digits}}
use Rattle.std.specs.Str.Parse.{ParsesUnsigned, digits_value}
use Rattle.ocfl_tree.specs.Place.{Text}
use Rattle.ocfl_tree.proofs.Places.{not_decided, text_eq-Decides, text_eq-same}
use Rattle.ocfl_codes.specs.Inventories.{is_version_name}
use Rattle.ocfl_compare.specs.Versions.{after_space, inventory_changes, moved, moved_to, number_of, version_of}
use Rattle.ocfl_compare.specs.declared.change.Change.TheVariants.{Rewritten, WentBack, NewVersion}

-- ---- what follows a space

abbrev Parts : Type 0
Parts = Option (Bor Text × Bor Text)

pub after_of_some : (t : Text) (r : Parts) (x : Bor Text × Bor Text) → r ≡ Some x → IsSplitOnceResult 32 t r → x.1.now ≡ after_space t
after_of_some t r x is h = (MatchOption-at_some _ _ x is (split_once_first 32 t r h (omega arith))).2

pub after_of_none : (t : Text) (r : Parts) → r ≡ None → IsSplitOnceResult 32 t r → [] ≡ after_space t
after_of_none t r is h =
    let end = MatchOption-at_none _ _ is (split_once_first 32 t r h (omega arith)) in
    sym (drop_all (position_or_len (λ b. b == 32) t + 1) t (omega (arith, end)))

-- ---- the number of a version

both_true : (a b : Bool) → a && b ≡ true → (a ≡ true) × (b ≡ true)
both_true true b e = (refl, e)
both_true false b e = cc

pub no_number : (v : Text) → is_version_name v ≡ false → None ≡ number_of v
no_number v e = rw e refl

-- of digits that were read
digits_read : {E : Type 0} (digits : Text) (r : Result ℕ E) → is_version_name (118 ∷ digits) ≡ true → ParsesUnsigned 64 10 digits r → result_ok r ≡ number_of (118 ∷ digits)
digits_read {E} digits r named h = by r (parse_digits (numerals_by_value (λ ds. all_ascii_digits ds ≡ true) tells_all_ascii_digits) 64 digits r h parts.1)
  where
    parts : (nat_lt 0 (length digits) ≡ true) × (all_ascii_digits digits ≡ true)
    parts = both_true (nat_lt 0 (length digits)) (all_ascii_digits digits) named

    fits : (b : Bool) → nat_lt (digits_value 10 digits) (2 ^ 64) ≡ b → number_of (118 ∷ digits) ≡ cond b (Some (digits_value 10 digits)) None
    fits b e = (λ i. cond (named i && e i) (Some (digits_value 10 digits)) None)

    by : (q : Result ℕ E) → OkIff q ((0 < length digits) × (digits_value 10 digits < 2 ^ 64)) (digits_value 10 digits) → result_ok q ≡ number_of (118 ∷ digits)
    by (Ok n) k = ap (λ m. Some m) k.1 ∙ sym (fits true (lt-ltb (digits_value 10 digits) (2 ^ 64) k.0.1))
    by (Err e) k = sym (fits false (large (nat_lt (digits_value 10 digits) (2 ^ 64)) refl))
      where
        large : (b : Bool) → nat_lt (digits_value 10 digits) (2 ^ 64) ≡ b → nat_lt (digits_value 10 digits) (2 ^ 64) ≡ false
        large true f = absurd (k (ltb-true 0 (length digits) parts.0, ltb-true (digits_value 10 digits) (2 ^ 64) f))
        large false f = f

pub number_read : {E : Type 0} (v digits : Text) (r : Result ℕ E) → is_version_name v ≡ true → v ≡ 118 ∷ digits → ParsesUnsigned 64 10 digits r → result_ok r ≡ number_of v
number_read v digits r named e h = digits_read digits r (ap is_version_name (sym e) ∙ named) h ∙ ap number_of (sym e)

pub named_begins : (v : Text) → is_version_name v ≡ true → ((rest : Text) → v ≢ 118 ∷ rest) → None ≡ number_of v
named_begins [] e none = cc
named_begins (c ∷ v) e none = by (c == 118) refl
  where
    by : (b : Bool) → (c == 118) ≡ b → None ≡ number_of (c ∷ v)
    by true f = absurd (none v (ap (λ d. d ∷ v) (eqb-true c 118 f)))
    by false f = no_number (c ∷ v) (λ i. f i && nat_lt 0 (length v) && all_ascii_digits v)

-- ---- what became of an inventory

pub unchanged : (note : Text) → inventory_changes (Some note) (Some note) ≡ []
unchanged note = ap (λ b. cond b [] (moved (version_of note) (version_of note) ∷ [])) (text_eq-same note)

changed : (b n : Text) (v w : ℕ) → b ≢ n → version_of b ≡ Some v → version_of n ≡ Some w → inventory_changes (Some b) (Some n) ≡ moved_to v w ∷ []
changed b n v w other e f = (λ i. cond (not_decided _ _ (text_eq-Decides b n) other i) [] (moved (e i) (f i) ∷ []))

pub newer : (b n : Text) (v w : ℕ) → b ≢ n → version_of b ≡ Some v → version_of n ≡ Some w → v < w → inventory_changes (Some b) (Some n) ≡ NewVersion ∷ []
newer b n v w other e f less = changed b n v w other e f ∙ ap (λ c. cond c NewVersion (cond (nat_lt w v) WentBack Rewritten) ∷ []) (lt-ltb v w less)

pub older : (b n : Text) (v w : ℕ) → b ≢ n → version_of b ≡ Some v → version_of n ≡ Some w → w < v → inventory_changes (Some b) (Some n) ≡ WentBack ∷ []
older b n v w other e f less =
    changed b n v w other e f ∙ (λ i. cond (le-ltb v w (omega (arith, less)) i) NewVersion (cond (lt-ltb w v less i) WentBack Rewritten) ∷ [])

pub same_version : (b n : Text) (v : ℕ) → b ≢ n → version_of b ≡ Some v → version_of n ≡ Some v → inventory_changes (Some b) (Some n) ≡ Rewritten ∷ []
same_version b n v other e f =
    let even = le-ltb v v (omega arith) in
    changed b n v v other e f ∙ (λ i. cond (even i) NewVersion (cond (even i) WentBack Rewritten) ∷ [])
