-- The text of a sidecar, the file beside an inventory that has its digest (OCFL 1.1, 3.6 Inventory
-- Digest).
use Rattle.std.specs.Prelude.{◌≡◌, ℕ, ◌≤◌, ◌==◌, ◌&&◌, ◌||◌, ◌≢◌, nat_eq, nat_le, nat_lt, List, [], ◌∷◌, ◌++◌, Bool, true, Result, Ok, Err, length, take, drop, if◌then◌else◌, Option, Some, None, option_and_then, codes}
use Rattle.std.specs.List.{list_all, starts_with}
use Rattle.hex.specs.{Hex.{decode_of}, declared.error.FromHexError.{FromHexError}}
use Rattle.ocfl_tree.specs.Place.{Text}
use Rattle.ocfl_digest.specs.declared.algorithm.Algorithm.{Algorithm}
use Rattle.ocfl_digest.specs.declared.algorithm.Algorithm.TheVariants.{Md5, Sha1, Sha256, Sha512, Sha512_256}
use Rattle.ocfl_inventory.specs.declared.sidecar_text.Sum.{Sum}
use Rattle.ocfl_inventory.specs.declared.sidecar_text.Sum.TheVariants.{Short, Long}

-- no declaration or sidecar of more bytes is of its form
abbrev pub side_limit : ℕ
side_limit = 4096

abbrev pub is_blank : ℕ → Bool
is_blank c = c == 32 || c == 9

abbrev pub is_tail : ℕ → Bool
is_tail c = is_blank c || c == 13 || c == 10

-- how many digits a sidecar's digest has, and none if the algorithm has no sidecar
abbrev pub sidecar_digits : Algorithm → Option ℕ
sidecar_digits Md5 = None
sidecar_digits Sha1 = None
sidecar_digits Sha256 = Some 64
sidecar_digits Sha512 = Some 128
sidecar_digits Sha512_256 = None

-- the digits of a digest, blanks, `inventory.json`, and then only blanks and line ends
pub record IsSidecar (b : Text) (a : Algorithm) (digest : List ℕ) : Type 0 where
  pub digits : Text
  pub gap : Text
  pub tail : Text
  pub whole : b ≡ digits ++ (gap ++ (codes "inventory.json" ++ tail))
  pub short : length b ≤ side_limit
  pub as_many : sidecar_digits a ≡ Some (length digits)
  pub is_digest : decode_of digits ≡ Ok digest
  pub some_blank : gap ≢ []
  pub blanks : list_all is_blank gap ≡ true
  pub ends : list_all is_tail tail ≡ true

abbrev pub decoded : Text → Option (List ℕ)
decoded digits = ok_of (decode_of digits)
  where
    ok_of : Result (List ℕ) FromHexError → Option (List ℕ)
    ok_of (Ok d) = Some d
    ok_of (Err e) = None

-- the front of a text that passes the test
abbrev pub leading : (ℕ → Bool) → Text → Text
leading p [] = []
leading p (c ∷ t) = if p c then c ∷ leading p t else []

abbrev pub is_after_digits : Text → Bool
is_after_digits rest =
    let gap = leading is_blank rest in
    let name = drop (length gap) rest in
    nat_lt 0 (length gap) && (starts_with nat_eq name (codes "inventory.json") && list_all is_tail (drop 14 name))

-- the same as a computation, for n digits: the digest, or none
abbrev pub sidecar_of_len : ℕ → Text → Option (List ℕ)
sidecar_of_len n b = if nat_le (length b) side_limit && (length (take n b) == n && is_after_digits (drop n b)) then decoded (take n b) else None

-- the digest of a sidecar's text
abbrev pub sidecar_of : Algorithm → Text → Option (List ℕ)
sidecar_of a b = option_and_then (λ n. sidecar_of_len n b) (sidecar_digits a)

-- the bytes of a digest that was read
abbrev pub sum_view : Sum → List ℕ
sum_view (Short bytes) = bytes
sum_view (Long bytes) = bytes
