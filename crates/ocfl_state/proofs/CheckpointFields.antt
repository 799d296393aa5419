-- The fields of a checkpoint's lines: each is within its line, and determines what it tells.
use Rattle.std.proofs.Common.{◌≡◌, ◌≢◌, ℕ, suc, ◌/◌, ◌%◌, ◌^◌, ◌<◌, ◌==◌, [], ◌∷◌, ◌++◌, Bool, true, false, cond, not, Option, Some, None, IfSome, Result, Ok, Err, All, get_or, length, codes, decimal, refl, sym, ap, ◌∙◌, arith}
use Rattle.std.proofs.lemmas.Bool.{agree_below_at, eqb-false, not-true, false≢true}
use Rattle.std.proofs.{lemmas.Fmt.{decimal_is_IsNumeral_wide}, lemmas.Str.Parse.{digit_at}}
use Rattle.std.proofs.lemmas.List.{append_cancel_left}
use Rattle.std.proofs.lemmas.List.Elements.{All-nil, All-cons, All-head, All-append, All-weaker, All-from_get_or}
use Rattle.std.specs.{Prelude.{slice_index}, List.{list_all}}
use Rattle.hex.specs.Hex.{IsBytes, encode_lower, encode_with, lower_digits, decode_of, decode_sized}
use Rattle.hex.specs.declared.error.FromHexError.{FromHexError}
use Rattle.hex.proofs.HexLemmas.{decode_of-encode_lower, decode_of-same, decode_sized-encode_lower}
use Rattle.ocfl_tree.specs.{Place.{Text, Place, text_eq}, Name.{IsName, IsPlace}}
use Rattle.ocfl_report.specs.Text.{place_text}
use Rattle.ocfl_report.proofs.Bytes.{IsPrintable, All-from_test}
use Rattle.ocfl_report.proofs.Numbers.{wide, decimal_no_line_feed, decimal_determines}
use Rattle.ocfl_report.proofs.Separators.{first_parts}
use Rattle.ocfl_report.proofs.PlaceTexts.{names_of, names_of-place_text, place_text_determines, place_text_not_dot, place_text_printable}
use Rattle.ocfl_cursor.proofs.Texts.{same-text_eq}
use Rattle.ocfl_state.specs.Checkpoint.{IsDigest, AreNames, path_text, names_text, phase_text, yes_or_no, stood_text}
use Rattle.ocfl_state.specs.CheckpointLines.{field_line, sizes_text, OneLine}
use Rattle.ocfl_state.specs.declared.checkpoint_parts.TopNames.{TopNames}
use Rattle.ocfl_state.specs.declared.checkpoint_parts.Phase.{Phase}
use Rattle.ocfl_state.specs.declared.checkpoint_parts.Phase.TheVariants.{Open, Closing}

-- ---- lines

-- the fields of lines with the same front are the same, and so is what follows the lines
pub field_determines : (front a b r s : Text) → OneLine a → OneLine b → field_line front a r ≡ field_line front b s → (a ≡ b) × (r ≡ s)
field_determines front a b r s h k e = first_parts 10 a b r s h k (append_cancel_left front (a ++ 10 ∷ r) (b ++ 10 ∷ s) e)

no_feed_test : (t : Text) → list_all (λ b. not (b == 10)) t ≡ true → OneLine t
no_feed_test t e = All-from_test (λ b. b ≢ 10) (λ b. not (b == 10)) (λ b k. eqb-false b 10 (not-true (b == 10) k)) t e

-- texts that begin with different bytes differ
differ : (a b : ℕ) (t u : Text) → a == b ≡ false → a ∷ t ≡ b ∷ u → ⊥
differ a b t u h e = eqb-false a b h (ap (λ x. get_or x 0 0) e)

-- ---- numbers

pub small_wide : (n : ℕ) → n < 2 ^ 64 → n < 2 ^ 128
small_wide n h = omega arith

pub count_one_line : (n : ℕ) → n < 2 ^ 64 → OneLine (decimal n)
count_one_line n h = decimal_no_line_feed n (small_wide n h)

pub count_determines : (m n : ℕ) → m < 2 ^ 64 → n < 2 ^ 64 → decimal m ≡ decimal n → m ≡ n
count_determines m n h k e = decimal_determines m n (small_wide m h) (small_wide n k) e

-- the digits of a number have no space
pub count_no_space : (n : ℕ) → n < 2 ^ 64 → All (λ b. b ≢ 32) (decimal n)
count_no_space n h =
    let digits = (decimal_is_IsNumeral_wide n (wide n (small_wide n h))).0.1 in
    All-from_get_or (λ b. b ≢ 32) (decimal n) 0 (λ i k e. omega (arith, digit_at (decimal n) i digits k))

-- ---- digests

digit_no_feed : (n : ℕ) → n < 16 → slice_index lower_digits n ≢ 10
digit_no_feed n l = eqb-false _ 10 (agree_below_at (λ k. slice_index lower_digits k == 10) (λ _. false) 16 n refl l)

hex_one_line : (xs : Text) → IsBytes xs → OneLine (encode_lower xs)
unfolding encode_with
hex_one_line [] h = All-nil (λ b. b ≢ 10)
hex_one_line (b ∷ xs) h =
    let small : b < 256 = h 0 in
    let high : ℕ = slice_index lower_digits (b / 16) in
    let low : ℕ = slice_index lower_digits (b % 16) in
    All-cons (λ c. c ≢ 10) high (low ∷ encode_lower xs) (digit_no_feed (b / 16) (omega (arith, small)))
    (All-cons (λ c. c ≢ 10) low (encode_lower xs) (digit_no_feed (b % 16) (omega (arith, small))) (hex_one_line xs (λ i. h (suc i))))

pub digest_one_line : (d : Text) → IsDigest d → OneLine (encode_lower d)
digest_one_line d h = hex_one_line d h.bytes

pub digest_determines : (d e : Text) → IsDigest d → IsDigest e → encode_lower d ≡ encode_lower e → d ≡ e
digest_determines d e h k f =
    decode_of-same (encode_lower d) d e (decode_of-encode_lower d h.bytes) (ap decode_of f ∙ decode_of-encode_lower e k.bytes)

-- ---- the names of the top folder

pub names_one_line : (n : TopNames) → AreNames n → OneLine (names_text n)
names_one_line n h =
    All-append (λ b. b ≢ 10) (decimal n.count) (32 ∷ encode_lower n.digest) (count_one_line n.count h.count)
    (All-cons (λ b. b ≢ 10) 32 (encode_lower n.digest) (λ e. omega arith) (digest_one_line n.digest h.digest))

pub names_determine : (m n : TopNames) → AreNames m → AreNames n → names_text m ≡ names_text n → m ≡ n
names_determine m n h k e =
    let parts = first_parts 32 (decimal m.count) (decimal n.count) (encode_lower m.digest) (encode_lower n.digest) (count_no_space m.count h.count) (count_no_space n.count k.count) e in
    let count = count_determines m.count n.count h.count k.count parts.0 in
    let digest = digest_determines m.digest n.digest h.digest k.digest parts.1 in
    λ i. record { count = count i; digest = digest i }

-- ---- words

pub phase_one_line : (p : Phase) → OneLine (phase_text p)
phase_one_line Open = no_feed_test (codes "open") refl
phase_one_line Closing = no_feed_test (codes "closing") refl

pub whole_one_line : (w : Bool) → OneLine (yes_or_no w)
whole_one_line true = no_feed_test (codes "yes") refl
whole_one_line false = no_feed_test (codes "no") refl

-- what its word gives back is determined by the word
given_back : {A : Type 0} (word : A → Text) (back : Text → A) → ((x : A) → back (word x) ≡ x) → (x y : A) → word x ≡ word y → x ≡ y
given_back word back gives x y e = sym (gives x) ∙ ap back e ∙ gives y

pub phase_determines : (p q : Phase) → phase_text p ≡ phase_text q → p ≡ q
phase_determines = given_back phase_text of_first (λ p. elim p as (λ q. of_first (phase_text q) ≡ q) [ Open ↦ refl | Closing ↦ refl ])
  where
    of_first : Text → Phase
    of_first t = cond (get_or t 0 0 == 111) Open Closing

pub whole_determines : (v w : Bool) → yes_or_no v ≡ yes_or_no w → v ≡ w
whole_determines = given_back yes_or_no yes (λ v. elim v as (λ w. yes (yes_or_no w) ≡ w) [ true ↦ refl | false ↦ refl ])
  where
    yes : Text → Bool
    yes t = get_or t 0 0 == 121

-- ---- the size of the report

pub sizes_one_line : (m n : ℕ) → m < 2 ^ 64 → n < 2 ^ 64 → OneLine (sizes_text m n)
sizes_one_line m n h k =
    All-append (λ b. b ≢ 10) (decimal m) (32 ∷ decimal n) (count_one_line m h) (All-cons (λ b. b ≢ 10) 32 (decimal n) (λ e. omega arith) (count_one_line n k))

pub sizes_determine : (m n m' n' : ℕ) → m < 2 ^ 64 → n < 2 ^ 64 → m' < 2 ^ 64 → n' < 2 ^ 64 → sizes_text m n ≡ sizes_text m' n' → (m ≡ m') × (n ≡ n')
sizes_determine m n m' n' h k h' k' e =
    let parts = first_parts 32 (decimal m) (decimal m') (decimal n) (decimal n') (count_no_space m h) (count_no_space m' h') e in
    (count_determines m m' h h' parts.0, count_determines n n' k k' parts.1)

-- ---- places

pub place_one_line : (p : Place) → IsPlace p → OneLine (place_text p)
place_one_line p h = All-weaker IsPrintable (λ b. b ≢ 10) (λ b k. omega (arith, k)) (place_text p) (place_text_printable p h)

-- the text of a place has bytes
pub place_some : (n : Text) (p : Place) → IsPlace (n ∷ p) → place_text (n ∷ p) ≢ []
place_some n p h e =
    let names : n ∷ p ≡ names_of [] = sym (names_of-place_text n p h) ∙ ap names_of e in
    let none : n ≡ [] = cc in
    (All-head IsName n p h).fits.not_empty none

pub path_one_line : (p : Place) → IsPlace p → OneLine (path_text p)
path_one_line [] h = no_feed_test (codes "/") refl
path_one_line (n ∷ p) h = All-cons (λ b. b ≢ 10) 47 (place_text (n ∷ p)) (λ e. omega arith) (place_one_line (n ∷ p) h)

pub path_determines : (p q : Place) → IsPlace p → IsPlace q → path_text p ≡ path_text q → p ≡ q
path_determines [] [] h k e = refl
path_determines [] (m ∷ q) h k e = absurd (place_some m q k (sym (append_cancel_left (codes "/") [] _ e)))
path_determines (n ∷ p) [] h k e = absurd (place_some n p h (append_cancel_left (codes "/") _ [] e))
path_determines (n ∷ p) (m ∷ q) h k e = place_text_determines (n ∷ p) (m ∷ q) h k (append_cancel_left (codes "/") _ _ e)

-- ---- where the cursor was

pub stood_one_line : (s : Option Place) → IfSome s IsPlace → OneLine (stood_text s)
stood_one_line None h = no_feed_test (codes "start") refl
stood_one_line (Some p) h = All-append (λ b. b ≢ 10) (codes "after ") (place_text p) (no_feed_test (codes "after ") refl) (place_one_line p h)

pub stood_determines : (s t : Option Place) → IfSome s IsPlace → IfSome t IsPlace → stood_text s ≡ stood_text t → s ≡ t
stood_determines None None h k e = refl
stood_determines None (Some q) h k e = absurd (differ 115 97 _ _ refl e)
stood_determines (Some p) None h k e = absurd (differ 97 115 _ _ refl e)
stood_determines (Some p) (Some q) h k e = ap Some (place_text_determines p q h k (append_cancel_left (codes "after ") _ _ e))

-- ---- what is read of digits

no_ok : (e : FromHexError) (d : Text) → ◌≡◌ {A = Result Text FromHexError} (Err e) (Ok d) → ⊥
no_ok e d f = cc f

-- what does not decode is no digest
pub no_digest : (digits d : Text) (e : FromHexError) → ◌≡◌ {A = Result Text FromHexError} (Err e) (decode_sized digits 32) → IsDigest d → digits ≡ encode_lower d → ⊥
no_digest digits d e f h g = no_ok e d (f ∙ ap (λ t. decode_sized t 32) g ∙ decode_sized-encode_lower d 32 h.size h.bytes)

same_ok : (a b : Text) → ◌≡◌ {A = Result Text FromHexError} (Ok a) (Ok b) → a ≡ b
same_ok a b e = cc e

-- and what decodes to another one's bytes neither
pub other_digits : (digits digest lower d : Text) (r : Bool) → ◌≡◌ {A = Result Text FromHexError} (Ok digest) (decode_sized digits 32) → lower ≡ encode_lower digest
    → r ≡ text_eq digits lower → r ≡ false → IsDigest d → digits ≡ encode_lower d → ⊥
other_digits digits digest lower d r e l f g h k =
    let same : digest ≡ d = same_ok digest d (e ∙ ap (λ t. decode_sized t 32) k ∙ decode_sized-encode_lower d 32 h.size h.bytes) in
    false≢true (sym g ∙ f ∙ same-text_eq digits lower (k ∙ ap encode_lower (sym same) ∙ sym l))

-- ---- what is read of words

-- a word that does not pass the test is another one
pub another_word : (word other : Text) (is : Bool) → is ≡ text_eq word other → is ≡ false → word ≢ other
another_word word other is e f same = false≢true (sym f ∙ e ∙ same-text_eq word other same)

pub no_phase : (word : Text) (p : Phase) → (word ≢ codes "open") × (word ≢ codes "closing") → word ≢ phase_text p
no_phase word Open others e = others.0 e
no_phase word Closing others e = others.1 e

pub no_whole : (word : Text) (w : Bool) → (word ≢ codes "yes") × (word ≢ codes "no") → word ≢ yes_or_no w
no_whole word true others e = others.0 e
no_whole word false others e = others.1 e

-- ---- what is read of paths

-- each path begins with `/`
pub path_begins : (p : Place) → (rest : Text) × (path_text p ≡ codes "/" ++ rest)
path_begins [] = ([], refl)
path_begins (n ∷ p) = (place_text (n ∷ p), refl)

-- what follows that is a place's text, but for the path of the system's own root
pub path_names : (path names : Text) (p : Place) → text_eq path (codes "/") ≡ false → path ≡ codes "/" ++ names → path ≡ path_text p → names ≡ place_text p
path_names path names [] other e f = absurd (false≢true (sym other ∙ same-text_eq path (codes "/") f))
path_names path names (n ∷ p) other e f = append_cancel_left (codes "/") _ _ (sym e ∙ f)

pub spot_path : (path names : Text) (p : Place) → path ≡ codes "/" ++ names → names ≡ place_text p → (length p ≡ 0 → ⊥) → path ≡ path_text p
spot_path path names [] e f below = absurd (below refl)
spot_path path names (n ∷ p) e f below = e ∙ ap (λ t. codes "/" ++ t) f

-- no path names the place without a name
pub no_named_path : (path names : Text) (q p : Place) → path ≡ codes "/" ++ names → names ≡ place_text q → length q ≡ 0 → IsPlace p → path ≡ path_text p → ⊥
no_named_path path names [] [] e f z h g = omega (arith, ap length (sym g ∙ e ∙ ap (λ t. codes "/" ++ t) f))
no_named_path path names [] (n ∷ p) e f z h g =
    place_text_not_dot (n ∷ p) h (λ i. cc) (append_cancel_left (codes "/") _ _ (sym g ∙ e ∙ ap (λ t. codes "/" ++ t) f))
no_named_path path names (m ∷ q) p e f z h g = omega (arith, z)

-- ---- what is read of where the cursor was

pub record StoodAfter (line : Text) : Type 0 where
  pub place : Place
  pub names : IsPlace place
  pub is : line ≡ codes "after " ++ place_text place

-- it was after a place, if not at the start
pub stood_path : (line : Text) (s : Option Place) → text_eq line (codes "start") ≡ false → IfSome s IsPlace → line ≡ stood_text s → StoodAfter line
stood_path line None other h e = absurd (false≢true (sym other ∙ same-text_eq line (codes "start") e))
stood_path line (Some p) other h e = record { place = p; names = h; is = e }
