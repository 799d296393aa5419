-- A right sidecar has no lines, whatever its digest is: worked cases need not compute the digests
-- of their inventories.
use Rattle.std.proofs.Common.{◌≡◌, ℕ, ◌≤◌, ◌*◌, List, [], ◌∷◌, ◌++◌, length, codes, refl, sym, ◌∙◌, ap, arith, length-append, Some}
use Rattle.std.specs.Prelude.{slice_index}
use Rattle.hex.specs.Hex.{IsBytes, encode_lower, lower_digits}
use Rattle.hex.proofs.HexLemmas.{decode_of-encode_lower, length-encode_with}
use Rattle.sha2.specs.Sha256 as s256
use Rattle.sha2.specs.Sha512 as s512
use Rattle.sha2.proofs.{Facts256.{length-sha256}, Facts512.{length-sha512}}
use Rattle.ocfl_tree.specs.Place.{Text}
use Rattle.ocfl_tree.proofs.Places.{text_eq-same}
use Rattle.ocfl_report.proofs.Bytes.{bytes_of_numbers}
use Rattle.ocfl_digest.specs.{Digest.{digest_bytes_of}, declared.algorithm.Algorithm.{Algorithm}}
use Rattle.ocfl_digest.specs.declared.algorithm.Algorithm.TheVariants.{Sha256, Sha512}
use Rattle.ocfl_inventory.specs.Sidecar.{sidecar_digits, sidecar_of}
use Rattle.ocfl_inventory.proofs.SidecarLaws.{sidecar_is}
use Rattle.ocfl_rules.specs.Head.{sidecar_notes}
use Rattle.ocfl_rules.proofs.Cases.Trees.{right_sidecar_256, right_sidecar_512}

-- ---- the digests are bytes

bytes_256 : (m : Text) → IsBytes (s256.sha256 m)
unfolding s256.sha256 s256.digest_bytes
bytes_256 m = let h = s256.final_hash s256.initial_hash_256 m in bytes_of_numbers 4 (s256.digest_bytes h) (slice_index h) refl (λ n. refl) 8

bytes_512 : (m : Text) → IsBytes (s512.sha512 m)
unfolding s512.sha512 s512.digest_bytes
bytes_512 m = let h = s512.final_hash s512.initial_hash_512 m in bytes_of_numbers 8 (s512.digest_bytes h) (slice_index h) refl (λ n. refl) 8

-- ---- a right sidecar

right_form : (a : Algorithm) (d : List ℕ) (n : ℕ) → IsBytes d → length d ≡ n → n ≤ 64 → sidecar_digits a ≡ Some (2 * n) → sidecar_of a (encode_lower d ++ codes " inventory.json\n") ≡ Some d
right_form a d n bytes size few counts =
    let digits : length (encode_lower d) ≡ 2 * n = length-encode_with lower_digits d ∙ ap (λ k. 2 * k) size in
    (sidecar_is (encode_lower d ++ codes " inventory.json\n") a d).1 (record {
      digits = encode_lower d;
      gap = 32 ∷ [];
      tail = 10 ∷ [];
      whole = refl;
      short = omega (arith, length-append (encode_lower d) (codes " inventory.json\n"));
      as_many = counts ∙ ap Some (sym digits);
      is_digest = decode_of-encode_lower d bytes;
      some_blank = λ e. cc;
      blanks = refl;
      ends = refl;
    })

no_notes : (a : Algorithm) (bytes s : Text) → sidecar_of a s ≡ Some (digest_bytes_of a bytes) → sidecar_notes a bytes (Some s) ≡ []
no_notes a bytes s h = rw (h, text_eq-same (digest_bytes_of a bytes))

pub right_256_is_quiet : (inventory : Text) → sidecar_notes Sha256 inventory (Some (right_sidecar_256 inventory)) ≡ []
right_256_is_quiet inventory = no_notes Sha256 inventory (right_sidecar_256 inventory) (right_form Sha256 (s256.sha256 inventory) 32 (bytes_256 inventory) (length-sha256 inventory) (omega arith) refl)

pub right_512_is_quiet : (inventory : Text) → sidecar_notes Sha512 inventory (Some (right_sidecar_512 inventory)) ≡ []
right_512_is_quiet inventory = no_notes Sha512 inventory (right_sidecar_512 inventory) (right_form Sha512 (s512.sha512 inventory) 64 (bytes_512 inventory) (length-sha512 inventory) (omega arith) refl)
