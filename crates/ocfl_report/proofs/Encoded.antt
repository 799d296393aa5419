-- The report's escapes are the percent-encoding at its set of bytes, and decoding undoes them.
use Rattle.std.proofs.Common.{◌≡◌, ℕ, ◌<◌, [], ◌∷◌, ◌++◌, true, bytes_eq, All, IsUtf8, refl, sym, ap, ap₂, ◌∙◌}
use Rattle.std.proofs.{lemmas.Bool.{agree_below_at}, lemmas.Slice.Eq.{bytes_eq-Decides}}
use Rattle.std.proofs.lemmas.List.Elements.{All-head, All-tail}
use Rattle.percent_encoding.specs.AsciiSet.{should_percent_encode}
use Rattle.percent_encoding.specs.Percent.{percent_encode_byte, encode_byte, percent_encode, percent_decode}
use Rattle.percent_encoding.proofs.PercentLemmas.{round_trip}
use Rattle.ocfl_tree.specs.Place.{Text}
use Rattle.ocfl_report.specs.{Text.{escape_byte, escape}, declared.escaped.TheConstants.{ESCAPED}}
use Rattle.ocfl_report.proofs.Bytes.{IsByte, utf8_bytes}

-- a byte is escaped alike
encode_byte-escape_byte : (b : ℕ) → b < 256 → encode_byte ESCAPED b ≡ escape_byte b
unfolding should_percent_encode percent_encode_byte
encode_byte-escape_byte b l =
    (bytes_eq-Decides (encode_byte ESCAPED b) (escape_byte b)).0 (agree_below_at (λ c. bytes_eq (encode_byte ESCAPED c) (escape_byte c)) (λ _. true) 256 b refl l)

-- a text is escaped alike
pub percent_encode-escape : (t : Text) → All (λ b. b < 256) t → percent_encode ESCAPED t ≡ escape t
unfolding percent_encode
percent_encode-escape [] h = refl
percent_encode-escape (b ∷ t) h =
    ap₂ (λ x y. x ++ y) (encode_byte-escape_byte b (All-head IsByte b t h)) (percent_encode-escape t (All-tail IsByte b t h))

-- decoding gives the text back
pub percent_decode-escape : (t : Text) → All (λ b. b < 256) t → percent_decode (escape t) ≡ t
percent_decode-escape t h = ap percent_decode (sym (percent_encode-escape t h)) ∙ round_trip ESCAPED t refl h

-- what a text's escaped form decodes to
pub decoded_text : (bytes t : Text) → IsUtf8 t → bytes ≡ escape t → percent_decode bytes ≡ t
decoded_text bytes t h e = ap percent_decode e ∙ percent_decode-escape t (utf8_bytes t h)

-- the escaped form of a text is that of no other
pub same_text_of : (bytes t u : Text) → IsUtf8 t → IsUtf8 u → bytes ≡ escape t → bytes ≡ escape u → t ≡ u
same_text_of bytes t u h k e f = sym (decoded_text bytes t h e) ∙ decoded_text bytes u k f
