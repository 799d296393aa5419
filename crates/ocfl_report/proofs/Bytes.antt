-- What holds of each byte of a text: of UTF-8, of a name, and by a test.
use Rattle.std.proofs.Common.{◌≡◌, ℕ, zero, suc, ◌+◌, ◌/◌, ◌<◌, ◌≤◌, ◌&&◌, nat_le, nat_lt, leb-true, List, [], ◌∷◌, ◌++◌, get_or, Fits, w8, Bool, true, false, cond, ltb, ltb-true, refl, subst, sym, All, IsUtf8, arith}
use Rattle.std.proofs.Math.Utf8.{scalar, scalars, next, encode, encodes, scalar_cases}
use Rattle.std.proofs.lemmas.Bool.{and_parts}
use Rattle.std.proofs.lemmas.List.Elements.{All-from_recursion, All-append, All-cons, All-nil, All-from_get_or}
use Rattle.std.proofs.lemmas.Str.{IsUtf8-had}
use Rattle.std.specs.{Prelude.{slice_index}, List.{list_all}, Int.{bytes_high_first, byte_at}}
use Rattle.ocfl_tree.specs.{Place.{Text}, Name.{IsName}}

-- what a byte can be
abbrev pub IsByte : ℕ → Type 0
IsByte b = b < 256

-- a slice of bytes consists of bytes
pub bytes_from_type : (t : Text) → ((k : ℕ) → Fits w8 (get_or t k 0)) → All IsByte t
bytes_from_type t h = All-from_get_or IsByte t 0 (λ i within. omega (arith, h i))

-- what a test tells of each byte that passes it holds of all bytes of a text that passes it
pub All-from_test : (P : ℕ → Type 0) (test : ℕ → Bool) → ((b : ℕ) → test b ≡ true → P b) → (t : Text) → list_all test t ≡ true → All P t
All-from_test P test tells [] h = All-nil P
All-from_test P test tells (b ∷ t) h = let k = and_parts (test b) (list_all test t) h in All-cons P b t (tells b k.0) (All-from_test P test tells t k.1)

-- from the space to `~`
abbrev pub IsPrintable : ℕ → Type 0
IsPrintable b = (32 ≤ b) × (b < 127)

-- the test of it
abbrev pub is_printable : ℕ → Bool
is_printable b = nat_le 32 b && nat_lt b 127

-- what passes the test is printable
pub IsPrintable-from_test : (b : ℕ) → is_printable b ≡ true → IsPrintable b
IsPrintable-from_test b e = let k = and_parts _ _ e in (leb-true 32 b k.0, ltb-true b 127 k.1)

-- a scalar value is below 0x110000
scalar_bound : (c : ℕ) → scalar c ≡ true → c < 1114112
scalar_bound c h = let k = scalar_cases c h in omega arith

-- the UTF-8 of a character consists of bytes
encode_bytes : (c : ℕ) → scalar c ≡ true → All IsByte (encode c)
unfolding encode
encode_bytes c h = by (ltb c 128) (ltb c 2048) (ltb c 65536) refl refl refl (scalar_bound c h)
  where
    by : (x y z : Bool) → ltb c 128 ≡ x → ltb c 2048 ≡ y → ltb c 65536 ≡ z → c < 1114112
        → All IsByte (cond x (c ∷ []) (cond y ((192 + c / 64) ∷ next c ∷ [])
        (cond z ((224 + c / 4096) ∷ next (c / 64) ∷ next c ∷ []) ((240 + c / 262144) ∷ next (c / 4096) ∷ next (c / 64) ∷ next c ∷ []))))
    by true y z e f g below = let l = ltb-true c 128 e in All-from_recursion IsByte (c ∷ []) (omega arith, tt)
    by false true z e f g below = let l = ltb-true c 2048 f in All-from_recursion IsByte ((192 + c / 64) ∷ next c ∷ []) (omega arith, (omega arith, tt))
    by false false true e f g below = let l = ltb-true c 65536 g in All-from_recursion IsByte ((224 + c / 4096) ∷ next (c / 64) ∷ next c ∷ []) (omega arith, (omega arith, (omega arith, tt)))
    by false false false e f g below = All-from_recursion IsByte ((240 + c / 262144) ∷ next (c / 4096) ∷ next (c / 64) ∷ next c ∷ []) (omega arith, (omega arith, (omega arith, (omega arith, tt))))

-- the UTF-8 of characters consists of bytes
encodes_bytes : (cs : List ℕ) → scalars cs ≡ true → All IsByte (encodes cs)
encodes_bytes [] h = All-nil IsByte
encodes_bytes (c ∷ cs) h = let k = and_parts (scalar c) (scalars cs) h in All-append IsByte (encode c) (encodes cs) (encode_bytes c k.0) (encodes_bytes cs k.1)

-- UTF-8 text consists of bytes
pub utf8_bytes : (t : Text) → IsUtf8 t → All (λ b. b < 256) t
utf8_bytes t h = subst (All IsByte) h.1.1 (encodes_bytes h.0 h.1.0)

-- a name consists of bytes
pub name_bytes : (n : Text) → IsName n → All (λ b. b < 256) n
name_bytes n h = utf8_bytes n (IsUtf8-had n h.text)

-- ---- bytes by their places

abbrev pub AreBytes : Text → Type 0
AreBytes xs = (i : ℕ) → slice_index xs i < 256

pub bytes_append : (xs ys : Text) → AreBytes xs → AreBytes ys → AreBytes (xs ++ ys)
bytes_append [] ys h k i = k i
bytes_append (x ∷ xs) ys h k zero = h 0
bytes_append (x ∷ xs) ys h k (suc i) = bytes_append xs ys (λ j. h (suc j)) k i

pub no_bytes_are : AreBytes []
no_bytes_are i = let h : 0 < 256 = omega arith in h

byte_is : (k n : ℕ) → byte_at k n < 256
byte_is zero n = omega arith
byte_is (suc k) n = omega arith

-- the bytes of a number, the highest of them first
pub bytes_of_number : (k n : ℕ) → AreBytes (bytes_high_first k n)
bytes_of_number zero n i = no_bytes_are i
bytes_of_number (suc k) n zero = byte_is k n
bytes_of_number (suc k) n (suc i) = bytes_of_number k n i

-- numbers one after the other, each as k bytes
pub bytes_of_numbers : (k : ℕ) (f : ℕ → Text) (number : ℕ → ℕ) → f 0 ≡ [] → ((n : ℕ) → f (suc n) ≡ f n ++ bytes_high_first k (number n)) → (n : ℕ) → AreBytes (f n)
bytes_of_numbers k f number none more zero = subst AreBytes (sym none) no_bytes_are
bytes_of_numbers k f number none more (suc n) = subst AreBytes (sym (more n)) (bytes_append (f n) _ (bytes_of_numbers k f number none more n) (bytes_of_number k (number n)))
