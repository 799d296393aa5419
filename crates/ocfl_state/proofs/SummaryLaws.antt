-- Two reports with one summary are the same, or there are two texts with one SHA-256.
use Rattle.std.proofs.Common.{◌≡◌, ◌≢◌, ◌⊎◌, inl, inr, ⊎_elim, ℕ, zero, suc, ◌+◌, ◌*◌, ◌/◌, ◌<◌, [], ◌∷◌, ◌++◌, length, take, drop, refl, sym, ◌∙◌, ap, arith, length-append, Ok}
use Rattle.std.proofs.lemmas.List.{take-append-drop, drop_at, take_at}
use Rattle.std.proofs.lemmas.Bool.Decides.{eqb_tells}
use Rattle.std.specs.Prelude.{Result, Err, replicate, slice_index}
use Rattle.sha2.specs.Sha256 as s256
use Rattle.sha2.proofs.Facts256.{length-sha256}
use Rattle.hex.specs.Hex.{encode_lower, decode_of, lower_digits, IsBytes}
use Rattle.hex.specs.declared.error.FromHexError.{FromHexError}
use Rattle.hex.proofs.HexLemmas.{decode_of-encode_lower, length-encode_with}
use Rattle.ocfl_report.proofs.Bytes.{bytes_of_numbers, no_bytes_are}
use Rattle.ocfl_state.specs.Content.{Bytes}
use Rattle.ocfl_state.specs.Pieces.{piece_size, no_pieces, before_piece, piece_at, chained, whole_pieces, rest_of, tail_of, summary_of, Collision}
use Rattle.ocfl_state.specs.declared.checkpoint_parts.ReportMark.{ReportMark}
use Rattle.ocfl_state.proofs.PieceLaws.{take-more}

same_number : (n m : ℕ) → (n ≡ m) ⊎ (n ≢ m)
same_number n m = ⊎_elim (λ is. inl is.1) (λ other. inr other.1) (eqb_tells n m)

abbrev head_of : Bytes → ℕ
head_of [] = 0
head_of (x ∷ xs) = x

same_text : (xs ys : Bytes) → (xs ≡ ys) ⊎ (xs ≢ ys)
same_text [] [] = inl refl
same_text [] (y ∷ ys) = inr (λ e. omega (arith, ap length e))
same_text (x ∷ xs) [] = inr (λ e. omega (arith, ap length e))
same_text (x ∷ xs) (y ∷ ys) = ⊎_elim
    (λ head. ⊎_elim
    (λ rest. inl (λ i. head i ∷ rest i))
    (λ other. inr (λ e. other (ap (drop 1) e)))
    (same_text xs ys))
    (λ other. inr (λ e. other (ap head_of e)))
    (same_number x y)

-- texts with one digest are the same, or a collision
pub same_or_shown : (xs ys : Bytes) → s256.sha256 xs ≡ s256.sha256 ys → (xs ≡ ys) ⊎ Collision
same_or_shown xs ys same = ⊎_elim
    (λ are. inl are)
    (λ other. inr (record { first = xs; second = ys; other = other; same = same }))
    (same_text xs ys)

pub same_rest_or_collision : (report other : Bytes) → tail_of report ≡ tail_of other → (rest_of report ≡ rest_of other) ⊎ Collision
same_rest_or_collision report other same = same_or_shown (rest_of report) (rest_of other) same

-- a digest's values are bytes
zeros_are_bytes : (n : ℕ) → IsBytes (replicate n 0)
zeros_are_bytes zero i = no_bytes_are i
zeros_are_bytes (suc n) zero = let h : 0 < 256 = omega arith in h
zeros_are_bytes (suc n) (suc i) = zeros_are_bytes n i

digest_is_bytes : (text : Bytes) → IsBytes (s256.sha256 text)
unfolding s256.sha256 s256.digest_bytes
digest_is_bytes text = let h = s256.final_hash s256.initial_hash_256 text in bytes_of_numbers 4 (s256.digest_bytes h) (slice_index h) refl (λ n. refl) 8

value_is_bytes : (n : ℕ) (text : Bytes) → IsBytes (chained no_pieces n text)
value_is_bytes zero text = zeros_are_bytes 32
value_is_bytes (suc n) text = digest_is_bytes (before_piece (chained no_pieces n text) ++ piece_at n text)

length-value : (n : ℕ) (text : Bytes) → length (chained no_pieces n text) ≡ 32
length-value zero text = refl
length-value (suc n) text = length-sha256 (before_piece (chained no_pieces n text) ++ piece_at n text)

-- bytes are determined by their digits
abbrev decoded : Result Bytes FromHexError → Bytes
decoded (Ok bytes) = bytes
decoded (Err e) = []

digits_tell : (a b : Bytes) → IsBytes a → IsBytes b → encode_lower a ≡ encode_lower b → a ≡ b
digits_tell a b bytes others same = ap decoded (sym (decode_of-encode_lower a bytes) ∙ ap decode_of same ∙ decode_of-encode_lower b others)

same_front : (a b c d : Bytes) → length a ≡ length b → a ++ c ≡ b ++ d → a ≡ b
same_front a b c d long same = sym (take_at a c (length a) refl) ∙ ap (take (length a)) same ∙ take_at b d (length a) (sym long)

same_back : (a b c d : Bytes) → length a ≡ length b → a ++ c ≡ b ++ d → c ≡ d
same_back a b c d long same = sym (drop_at a c (length a) refl) ∙ ap (drop (length a)) same ∙ drop_at b d (length a) (sym long)

length-digits : (n : ℕ) (text : Bytes) → length (encode_lower (chained no_pieces n text)) ≡ 64
length-digits n text = length-encode_with lower_digits (chained no_pieces n text) ∙ ap (λ m. 2 * m) (length-value n text)

length-before : (n : ℕ) (text : Bytes) → length (before_piece (chained no_pieces n text)) ≡ 65
length-before n text = omega (arith, length-append (encode_lower (chained no_pieces n text)) (10 ∷ []), length-digits n text)

one_more : (n : ℕ) (text : Bytes) → take (piece_size * suc n) text ≡ take (piece_size * n) text ++ piece_at n text
one_more n text = ap (λ m. take m text) next ∙ take-more text (piece_size * n) piece_size
  where
    next : piece_size * suc n ≡ piece_size * n + piece_size
    next = omega arith

chain_tells : (n : ℕ) (a b : Bytes) → chained no_pieces n a ≡ chained no_pieces n b → (take (piece_size * n) a ≡ take (piece_size * n) b) ⊎ Collision
chain_tells zero a b same = inl refl
chain_tells (suc n) a b same = ⊎_elim
    (λ are. ⊎_elim
    (λ front. inl (one_more n a ∙ (λ i. front i ++ same_back before other (piece_at n a) (piece_at n b) long are i) ∙ sym (one_more n b)))
    (λ shown. inr shown)
    (chain_tells n a b (values are)))
    (λ shown. inr shown)
    (same_or_shown (before ++ piece_at n a) (other ++ piece_at n b) same)
  where
    before : Bytes
    before = before_piece (chained no_pieces n a)

    other : Bytes
    other = before_piece (chained no_pieces n b)

    long : length before ≡ length other
    long = length-before n a ∙ sym (length-before n b)

    values : before ++ piece_at n a ≡ other ++ piece_at n b → chained no_pieces n a ≡ chained no_pieces n b
    values are = digits_tell (chained no_pieces n a) (chained no_pieces n b) (value_is_bytes n a) (value_is_bytes n b)
        (same_front (encode_lower (chained no_pieces n a)) (encode_lower (chained no_pieces n b)) (10 ∷ []) (10 ∷ [])
        (length-digits n a ∙ sym (length-digits n b))
        (same_front before other (piece_at n a) (piece_at n b) long are))

pub same_or_collision : (report other : Bytes) → summary_of report ≡ summary_of other → (report ≡ other) ⊎ Collision
same_or_collision report other same = ⊎_elim
    (λ front. ⊎_elim
    (λ rest. inl (sym (take-append-drop k report) ∙ (λ i. front i ++ (rest ∙ ap (λ n. drop (piece_size * n) other) (sym count)) i) ∙ take-append-drop k other))
    (λ shown. inr shown)
    (same_rest_or_collision report other (ap (λ (s : ReportMark). s.tail) same)))
    (λ shown. inr shown)
    (chain_tells (whole_pieces report) report other (ap (λ (s : ReportMark). s.pieces) same ∙ ap (λ n. chained no_pieces n other) (sym count)))
  where
    k : ℕ
    k = piece_size * whole_pieces report

    count : whole_pieces report ≡ whole_pieces other
    count = ap (λ n. n / piece_size) (ap (λ (s : ReportMark). s.bytes) same)
