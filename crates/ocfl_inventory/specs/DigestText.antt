-- Digests as text (OCFL 1.1, 3.4 Digests: hexadecimal, capitals and small letters alike).
use Rattle.std.specs.Str.{str_to_ascii_lowercase}
use Rattle.ocfl_tree.specs.Place.{Text}

-- a digest text with its ASCII capitals small
abbrev pub folded : Text → Text
folded t = str_to_ascii_lowercase t
