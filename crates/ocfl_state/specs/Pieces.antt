-- The digests of a report by whole pieces of 4 MiB, so that a long one is compared without reading
-- all of it.
use Rattle.std.specs.Prelude.{◌≡◌, ◌≢◌, ℕ, zero, suc, ◌+◌, ◌-◌, ◌*◌, ◌/◌, ◌%◌, ◌^◌, ◌==◌, ◌<◌, ◌≤◌, [], ◌∷◌, ◌++◌, length, take, drop, replicate, count_by}
use Rattle.sha2.specs.{Sha256.{sha256}, Hashers.{Holds256}}
use Rattle.hex.specs.Hex.{encode_lower}
use Rattle.ocfl_state.specs.{Content.{Bytes}, declared.pieces.ReportDigests.{ReportDigests}}
use Rattle.ocfl_state.specs.declared.checkpoint_parts.ReportMark.{ReportMark}
use Rattle.ocfl_state.specs.declared.checking.ReportCheck.{ReportCheck}

-- 4 MiB
abbrev pub piece_size : ℕ
piece_size = 4194304

-- the value before the first piece: 64 zeros in hexadecimal digits
abbrev pub no_pieces : Bytes
no_pieces = replicate 32 0

-- what is before a piece when it is hashed: the value before it in hexadecimal digits, and a
-- line feed
abbrev pub before_piece : Bytes → Bytes
before_piece value = encode_lower value ++ 10 ∷ []

abbrev pub piece_at : ℕ → Bytes → Bytes
piece_at n text = take piece_size (drop (piece_size * n) text)

-- the value after the first n pieces of a text, of which this one is the value before (FIPS 180-4,
-- 6.2)
abbrev pub chained : Bytes → ℕ → Bytes → Bytes
chained value zero text = value
chained value (suc n) text = sha256 (before_piece (chained value n text) ++ piece_at n text)

abbrev pub whole_pieces : Bytes → ℕ
whole_pieces text = length text / piece_size

-- the value after all whole pieces
abbrev pub after_pieces : Bytes → Bytes → Bytes
after_pieces value text = chained value (whole_pieces text) text

-- what follows the whole pieces
abbrev pub rest_of : Bytes → Bytes
rest_of text = drop (piece_size * whole_pieces text) text

-- the bytes of a report before this length that follow the whole pieces of such a length
abbrev pub rest_at : ℕ → Bytes → Bytes
rest_at n report = let start = piece_size * (n / piece_size) in take (n - start) (drop start report)

abbrev pub pieces_of : Bytes → Bytes
pieces_of report = after_pieces no_pieces report

abbrev pub tail_of : Bytes → Bytes
tail_of report = sha256 (rest_of report)

-- how many line feeds
abbrev pub lines_of : Bytes → ℕ
lines_of text = count_by (λ byte. byte == 10) text

-- the length, the lines and the digests of a report
abbrev pub summary_of : Bytes → ReportMark
summary_of report = record {
  bytes = length report;
  lines = lines_of report;
  pieces = pieces_of report;
  tail = tail_of report;
}

-- there are all bytes of which no tail is kept
abbrev pub IsTailed : ReportDigests → Type 0
IsTailed digests = digests.untailed ≤ digests.bytes

-- The digests of a text that follows k whole pieces, which have this value and `before` lines. Of
-- bytes in pieces that will be whole no tail is kept.
pub record CarriedFrom (value : Bytes) (k before : ℕ) (digests : ReportDigests) (text : Bytes) : Type 0 where
  pub bytes : digests.bytes ≡ piece_size * k + length text
  pub lines : digests.lines ≡ before + lines_of text
  pub pieces : digests.pieces ≡ after_pieces value text
  pub begun : Holds256 digests.begun (before_piece (after_pieces value text) ++ rest_of text)
  pub untailed : digests.untailed % piece_size ≡ 0
  pub tail : IsTailed digests → Holds256 digests.tail (rest_of text)

-- the digests of a whole report, with its tail
abbrev pub Carries : ReportDigests → Bytes → Type 0
Carries digests report = CarriedFrom no_pieces 0 0 digests report × IsTailed digests

-- the digests of what was read of a report, to be compared with this mark: no tail is kept of bytes
-- before the whole pieces that the mark's length has
pub record Checks (mark : ReportMark) (check : ReportCheck) (report : Bytes) : Type 0 where
  pub same : check.mark ≡ mark
  pub carried : CarriedFrom no_pieces 0 0 check.digests report
  pub tailed : check.digests.untailed ≤ mark.bytes

-- a report that is as long as a summary says, with the tail of that
pub record HasTail (summary : ReportMark) (report : Bytes) : Type 0 where
  pub long : summary.bytes ≤ length report
  pub tail : summary.tail ≡ tail_of (take summary.bytes report)

-- bytes are appended to any text, as long as there are less than 2 ^ 64 and as few lines
abbrev pub Pushes : Bytes → ReportDigests → ReportDigests → Type 0
Pushes bytes old new = (new.untailed ≡ old.untailed) × ((value : Bytes) (k lines : ℕ) (text : Bytes) → CarriedFrom value k lines old text
    → piece_size * k + length (text ++ bytes) < 2 ^ 64 → lines + length (text ++ bytes) < 2 ^ 64
    → CarriedFrom value k lines new (text ++ bytes))

-- just these bytes are pushed, `count` of them
pub record PushesPart (part : Bytes) (count : ℕ) (old new : ReportDigests) : Type 0 where
  pub all : count ≡ length part
  pub pushed : Pushes part old new

-- bytes are counted, and both hashers take them, that of the tail only if one is kept
pub record Feeds (bytes : Bytes) (old new : ReportDigests) : Type 0 where
  pub count : new.bytes ≡ (old.bytes + length bytes) % 2 ^ 64
  pub lines : new.lines ≡ (old.lines + lines_of bytes) % 2 ^ 64
  pub pieces : new.pieces ≡ old.pieces
  pub begun : (text : Bytes) → Holds256 old.begun text → Holds256 new.begun (text ++ bytes)
  pub untailed : new.untailed ≡ old.untailed
  pub tail : IsTailed old → (text : Bytes) → Holds256 old.tail text → Holds256 new.tail (text ++ bytes)

-- the piece that was begun is a whole one
pub record Turns (old new : ReportDigests) : Type 0 where
  pub count : new.bytes ≡ old.bytes
  pub lines : new.lines ≡ old.lines
  pub pieces : (text : Bytes) → Holds256 old.begun text → new.pieces ≡ sha256 text
  pub begun : Holds256 new.begun (before_piece new.pieces)
  pub untailed : new.untailed ≡ old.untailed
  pub tail : Holds256 new.tail []

-- the digests of what follows the whole pieces of a summary, as far as the report goes
abbrev pub HasRead : ReportMark → Bytes → ReportDigests → Type 0
HasRead summary report digests = CarriedFrom summary.pieces (summary.bytes / piece_size) 0 digests (rest_at summary.bytes report) × IsTailed digests

-- two texts with the same SHA-256
pub record Collision : Type 0 where
  pub first : Bytes
  pub second : Bytes
  pub other : first ≢ second
  pub same : sha256 first ≡ sha256 second
