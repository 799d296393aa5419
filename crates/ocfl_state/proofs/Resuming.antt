-- Digests go on from a summary, if the report has the tail of that.
use Rattle.std.proofs.Common.{◌≡◌, ◌↔◌, ℕ, ◌+◌, ◌-◌, ◌*◌, ◌/◌, ◌^◌, ◌<◌, ◌≤◌, [], ◌++◌, length, take, drop, sym, ◌∙◌, ap, subst, arith}
use Rattle.std.proofs.lemmas.List.{drop-take, length-take-le, length-take, length-drop}
use Rattle.std.specs.Prelude.{◌%◌, Option, Some, None, IsSome, IfSome}
use Rattle.sha2.specs.{Sha256.{sha256}, Hashers.{Holds256}}
use Rattle.ocfl_state.specs.Content.{Bytes}
use Rattle.ocfl_state.specs.Pieces.{piece_size, before_piece, chained, whole_pieces, after_pieces, rest_of, rest_at, pieces_of, tail_of, summary_of, CarriedFrom, Carries, PushesPart, HasTail, HasRead}
use Rattle.ocfl_state.specs.declared.pieces.ReportDigests.{ReportDigests}
use Rattle.ocfl_state.specs.declared.checkpoint_parts.ReportMark.{ReportMark}

length-rest_at : (n : ℕ) (report : Bytes) → length (rest_at n report) ≤ n % piece_size
length-rest_at n report = omega (arith, length-take (n - piece_size * (n / piece_size)) (drop (piece_size * (n / piece_size)) report))

no_piece : (text : Bytes) → length text < piece_size → whole_pieces text ≡ 0
no_piece text short = omega (arith, short)

short_rest : (text : Bytes) → length text < piece_size → rest_of text ≡ text
short_rest text short = ap (λ n. drop (piece_size * n) text) (no_piece text short)

short_pieces : (value text : Bytes) → length text < piece_size → after_pieces value text ≡ value
short_pieces value text short = ap (λ n. chained value n text) (no_piece text short)

rest_is_short : (n : ℕ) (report : Bytes) → length (rest_at n report) < piece_size
rest_is_short n report = omega (arith, length-rest_at n report)

rest_of_front : (n : ℕ) (report : Bytes) → n ≤ length report → rest_of (take n report) ≡ rest_at n report
rest_of_front n report le =
    ap (λ m. drop (piece_size * (m / piece_size)) (take n report)) (length-take-le n report le)
    ∙ ap (λ m. drop (piece_size * (n / piece_size)) (take m report)) (sum)
    ∙ drop-take (piece_size * (n / piece_size)) (n - piece_size * (n / piece_size)) report
  where
    sum : n ≡ piece_size * (n / piece_size) + (n - piece_size * (n / piece_size))
    sum = omega arith

length-rest : (n : ℕ) (report : Bytes) → n ≤ length report → piece_size * (n / piece_size) + length (rest_at n report) ≡ n
length-rest n report le = omega (arith, le, length-take (n - piece_size * (n / piece_size)) (drop (piece_size * (n / piece_size)) report), length-drop (piece_size * (n / piece_size)) report)

-- what is read is pushed after the whole pieces
pub reads_rest : (summary : ReportMark) (report : Bytes) (count : ℕ) (old new : ReportDigests) → summary.bytes < 2 ^ 64
    → CarriedFrom summary.pieces (summary.bytes / piece_size) 0 old [] → old.untailed ≡ 0
    → PushesPart (rest_at summary.bytes report) count old new → HasRead summary report new
reads_rest summary report count old new short carried tailed part = (
  part.pushed.1 summary.pieces (summary.bytes / piece_size) 0 [] carried
      (omega (arith, short, length-rest_at summary.bytes report))
      (omega (arith, short, length-rest_at summary.bytes report)),
  omega (arith, tailed, part.pushed.0),
)

pub read_tail : (summary : ReportMark) (report : Bytes) (digests : ReportDigests) → HasRead summary report digests → Holds256 digests.tail (rest_at summary.bytes report)
read_tail summary report digests read = subst (Holds256 digests.tail) (short_rest (rest_at summary.bytes report) (rest_is_short summary.bytes report)) (read.0.tail read.1)

pub tail_fits : (summary : ReportMark) (report : Bytes) (found : Option ReportDigests) → summary.bytes ≤ length report
    → (IsSome found ↔ (summary.tail ≡ sha256 (rest_at summary.bytes report))) → (IsSome found ↔ HasTail summary report)
tail_fits summary report found long fits = (
  (λ some. record { long = long; tail = fits.0 some ∙ sym same }),
  (λ has. fits.1 (has.tail ∙ same)),
)
  where
    same : tail_of (take summary.bytes report) ≡ sha256 (rest_at summary.bytes report)
    same = ap sha256 (rest_of_front summary.bytes report long)

pub resumed_carries : (summary : ReportMark) (report text : Bytes) (read digests : ReportDigests) → summary.bytes ≤ length report
    → HasRead summary report read → digests ≡ record read { lines = summary.lines }
    → summary ≡ summary_of text → rest_of text ≡ rest_of (take summary.bytes report) → Carries digests text
resumed_carries summary report text read digests long has is same rest = subst (λ (d : ReportDigests). Carries d text) (sym is) (
  record {
    bytes = omega (arith, has.0.bytes, length-rest summary.bytes report long, ap (λ (s : ReportMark). s.bytes) same);
    lines = omega (arith, ap (λ (s : ReportMark). s.lines) same);
    pieces = has.0.pieces ∙ value;
    begun = subst (Holds256 read.begun) (λ i. before_piece (value i) ++ rest_is i) has.0.begun;
    untailed = has.0.untailed;
    tail = λ all. subst (Holds256 read.tail) rest_is (has.0.tail all);
  },
  has.1,
)
  where
    short : length (rest_at summary.bytes report) < piece_size
    short = rest_is_short summary.bytes report

    value : after_pieces summary.pieces (rest_at summary.bytes report) ≡ pieces_of text
    value = short_pieces summary.pieces (rest_at summary.bytes report) short ∙ ap (λ (s : ReportMark). s.pieces) same

    rest_is : rest_of (rest_at summary.bytes report) ≡ rest_of text
    rest_is = short_rest (rest_at summary.bytes report) short ∙ sym (rest_of_front summary.bytes report long) ∙ sym rest

pub resumed_all : (summary : ReportMark) (report : Bytes) (read : ReportDigests) (found : Option ReportDigests) → summary.bytes ≤ length report
    → HasRead summary report read → IfSome found (λ digests. digests ≡ record read { lines = summary.lines })
    → IfSome found (λ digests. (text : Bytes) → summary ≡ summary_of text → rest_of text ≡ rest_of (take summary.bytes report) → Carries digests text)
resumed_all summary report read None long has is = tt
resumed_all summary report read (Some digests) long has is = λ text same rest. resumed_carries summary report text read digests long has is same rest
