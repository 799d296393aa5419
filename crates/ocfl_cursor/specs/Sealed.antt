-- A stored text: its first line, and the last one, which seals the others.
use Rattle.std.specs.Prelude.{◌-◌, ◌==◌, ◌&&◌, [], ◌∷◌, ◌++◌, nat_le, Bool, not, length, take, drop, take_while}
use Rattle.sha2.specs.Sha256.{sha256}
use Rattle.hex.specs.Hex.{encode_lower}
use Rattle.ocfl_tree.specs.Place.{Text, text_eq}

-- the text up to the first line feed, or all of it
abbrev pub first_line : Text → Text
first_line t = take_while (λ c. not (c == 10)) t

-- by its front, the line with the SHA-256 of all bytes before it (FIPS 180-4, 6.2)
abbrev pub seal_line : Text → Text → Text
seal_line front body = front ++ encode_lower (sha256 body) ++ 10 ∷ []

-- a body, and the line of this front that seals it
abbrev pub with_seal : Text → Text → Text
with_seal front body = body ++ seal_line front body

-- the last 72 bytes are the line of this front of all before them
abbrev pub is_sealed_by : Text → Text → Bool
is_sealed_by front b = nat_le 72 (length b) && text_eq (drop (length b - 72) b) (seal_line front (take (length b - 72) b))
