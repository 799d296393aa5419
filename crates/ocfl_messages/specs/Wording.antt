-- A finding in words.
use Rattle.std.specs.Prelude.{ℕ, ◌==◌, ◌&&◌, nat_le, [], ◌∷◌, ◌++◌, Bool, true, false, Option, Some, None, length, take, option_map, codes, if◌then◌else◌}
use Rattle.ocfl_tree.specs.Place.{Text, text_eq}
use Rattle.ocfl_report.specs.{Line.{Line}, Text.{code_text, escape}, declared.code.Code.{Code}}
use Rattle.ocfl_report.specs.declared.code.Code.TheVariants.{E060, E092, E093}
use Rattle.ocfl_codes.specs.{Kinds.{is_dash}, Meaning.{meaning_at}}

-- what comes before the first space, and what follows it
abbrev pub at_space : Text → Option (Text × Text)
at_space [] = None
at_space (b ∷ t) = if b == 32 then Some ([], t) else option_map (λ p. (b ∷ p.0, p.1)) (at_space t)

-- the detail of such a code names an algorithm and digests
abbrev pub has_digests : Code → Bool
has_digests E060 = true
has_digests E092 = true
has_digests E093 = true
has_digests _ = false

-- how many digits of a digest are shown
abbrev pub most_digits : ℕ
most_digits = 12

abbrev pub cut_text : Text → Text
cut_text t = if nat_le (length t) most_digits then escape t else escape (take most_digits t) ++ codes ".."

-- the algorithm, the digest that was expected and the one that was found
abbrev pub digests_text : Text → Text → Text → Text
digests_text name expected found =
    codes ", expected " ++ escape name ++ codes " " ++ cut_text expected ++ codes ", found " ++ cut_text found

-- of the algorithm and two digests, which a space separates; what is missing has none
abbrev pub both_text : Text → Option (Text × Text) → Text
both_text name None = []
both_text name (Some p) = digests_text name p.0 p.1

abbrev pub named_text : Option (Text × Text) → Text
named_text None = []
named_text (Some p) = both_text p.0 (at_space p.1)

abbrev pub plain_detail : Text → Text
plain_detail detail = if is_dash detail then [] else codes ": " ++ escape detail

-- what the detail says beyond the words
abbrev pub detail_text : Code → Text → Text
detail_text c detail = if has_digests c then named_text (at_space detail) else plain_detail detail

-- the detail is an algorithm and `missing`
abbrev pub is_missing : Option (Text × Text) → Bool
is_missing None = false
is_missing (Some p) = text_eq p.1 (codes "missing")

abbrev pub words_text : Line → Text
words_text l = if has_digests l.code && is_missing (at_space l.detail) then codes "missing" else meaning_at l.code l.place

-- a path, unless it is empty, and what separates it from what is said of it
abbrev pub path_part : Text → Text
path_part [] = []
path_part (b ∷ t) = (b ∷ t) ++ codes ": "

-- the words and the code
abbrev pub coded_text : Line → Text
coded_text l = words_text l ++ codes " (" ++ code_text l.code ++ codes ")"

-- a finding at this path
abbrev pub said_text : Text → Line → Text
said_text path l = codes "\t" ++ path_part path ++ coded_text l ++ detail_text l.code l.detail ++ codes "\n"
