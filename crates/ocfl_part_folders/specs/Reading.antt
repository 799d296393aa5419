-- The line of a report that a text is of, as it is read from it.
use Rattle.std.specs.Prelude.{◌==◌, ◌&&◌, not, nat_le, ℕ, [], ◌∷◌, length, codes, Bool, true, false, if◌then◌else◌, Option, Some, None}
use Rattle.std.specs.{List.{list_all}, Str.{is_utf8, bytes_eq}}
use Rattle.ocfl_tree.specs.Place.{Text, Place}
use Rattle.ocfl_report.specs.{Line.{Line}, Text.{line_text}}
use Rattle.ocfl_report.proofs.{CodeTexts.{code_of}, Escapes.{unescape}, PlaceTexts.{names_of}}

-- what comes before the first such byte, and what comes behind it
abbrev pub before : ℕ → Text → Text
before b [] = []
before b (c ∷ cs) = if c == b then [] else c ∷ before b cs

abbrev pub behind : ℕ → Text → Text
behind b [] = []
behind b (c ∷ cs) = if c == b then cs else behind b cs

abbrev pub place_in : Text → Place
place_in text = if bytes_eq text (codes ".") then [] else names_of text

-- the line that has this text, if one has
abbrev pub read_as : Text → Line
read_as text = record {
  code = code_of (before 9 text);
  place = place_in (before 9 (behind 9 text));
  detail = unescape (before 10 (behind 9 (behind 9 text)));
}

-- ---- whether it has

abbrev pub is_plain : ℕ → Bool
is_plain b = not (b == 47) && not (b == 0)

abbrev pub is_empty : Text → Bool
is_empty [] = true
is_empty (b ∷ text) = false

-- what `HasNameBytes` of `ocfl_tree` asks for, and that it is UTF-8
abbrev pub is_name : Text → Bool
is_name name = is_utf8 name && (not (is_empty name) && (nat_le (length name) 255 && (list_all is_plain name && (not (bytes_eq name (codes ".")) && not (bytes_eq name (codes ".."))))))

-- it has names, its detail is UTF-8, and this is its text
abbrev pub has_text : Text → Line → Bool
has_text text l = list_all is_name l.place && (is_utf8 l.detail && bytes_eq text (line_text l))

-- the line of the text
unfoldable pub line_in : Text → Option Line
line_in text = if has_text text (read_as text) then Some (read_as text) else None
