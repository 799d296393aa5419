-- What the lines among the bytes of a report are taken for, as the bytes come.
use Rattle.std.specs.Prelude.{◌≡◌, ◌≢◌, ℕ, ◌+◌, ◌&&◌, List, [], ◌∷◌, ◌++◌, All, Bool, true, false, not, Option, Some, None, is_none, is_some, length, flat_map, codes, nat_eq, ⊤}
use Rattle.std.specs.List.{ends_with, filter, starts_with}
use Rattle.ocfl_tree.specs.{Name.{IsPlace}, Place.{Place, Text}}
use Rattle.ocfl_report.specs.{Line.{Line}, Text.{IsLine, IsLineText, lines_text, place_text}}
use Rattle.ocfl_messages.specs.{Finding.{Finding, head_after, is_within, placed_after}, Found.{IsAfter}, Gathering.{AreRightIn}}
use Rattle.ocfl_messages.specs.{Gravest.{IsOf}, Known.{unknown}, Tally.{IsCount, is_right}}
use Rattle.ocfl_messages.specs.declared.{gravest.Gravest.{Gravest}, known.KnownEntry.{KnownEntry}}
use Rattle.ocfl_speaking.specs.declared.sifting.Sifting.{Sifting}

-- ---- one line

-- how the line of a right file begins that is in the object with this head
abbrev pub beginning : Option Place → Text
beginning None = []
beginning (Some o) = codes "ok\t" ++ place_text o ++ 47 ∷ []

-- a text that begins so, and does not end as the line of an object's head
abbrev pub is_passed : Option Place → Text → Bool
is_passed head t = is_some head && starts_with nat_eq t (beginning head) && not (ends_with nat_eq t (codes "\t-\n"))

-- a line of a file that is right, in the object with this head
pub record IsRightIn (head : Option Place) (l : Line) : Type 0 where
  pub line : IsLine l
  pub right : is_right l ≡ true
  pub within : is_within head l.place ≡ true

-- bytes up to their only line feed
pub record IsOne (t : Text) : Type 0 where
  pub before : Text
  pub is : t ≡ before ++ 10 ∷ []
  pub one : All (λ c. c ≢ 10) before

-- what a text is taken for: a line of some right file if it is passed, whether or not it is a report's;
-- else the line of a report whose text it is, or none if it is the text of none
abbrev pub IsFor : Option Place → Bool → Text → Option Line → Type 0
IsFor head true t None = ⊥
IsFor head true t (Some l) = IsRightIn head l
IsFor head false t (Some l) = IsLineText t l
IsFor head false t None = (l : Line) → IsLineText t l → ⊥

-- a line of some bytes, and what it is taken for
pub record Taken : Type 0 where
  pub text : Text
  pub line : Option Line

pub record IsTaken (head : Option Place) (t : Taken) : Type 0 where
  pub one : IsOne t.text
  pub for : IsFor head (is_passed head t.text) t.text t.line

-- ---- all of them

abbrev pub line_or_none : Option Line → List Line
line_or_none None = []
line_or_none (Some l) = l ∷ []

abbrev pub line_in : Taken → List Line
line_in t = line_or_none t.line

-- the report lines among them, in order
abbrev pub lines_in : List Taken → List Line
lines_in ts = flat_map line_in ts

abbrev pub texts_in : List Taken → Text
texts_in ts = flat_map (λ t. t.text) ts

-- how many are none
abbrev pub broken_in : List Taken → ℕ
broken_in ts = length (filter (λ t. is_none t.line) ts)

-- each is taken behind those before it, of which the last head was this one
abbrev pub AreTaken : Option Place → List Taken → Type 0
AreTaken head [] = ⊤
AreTaken head (t ∷ ts) = IsTaken head t × AreTaken (head_after head (line_in t)) ts

-- a beginning of a line that nothing follows is none either
abbrev pub broken_end : Text → ℕ
broken_end [] = 0
broken_end (c ∷ t) = 1

-- ---- what was given

-- the bytes since what was found was asked for last. Before them came the head of an object, also among
-- all bytes that were given, and so many lines that are none
pub record Given : Type 0 where
  pub head : Option Place
  pub seen : Option Place
  pub bytes : Text
  pub broken : ℕ

-- at first, behind this head
abbrev pub first_given : Option Place → Given
first_given head = record { head = head; seen = None; bytes = []; broken = 0 }

-- with these bytes too
abbrev pub given_on : Given → Text → Given
given_on g bytes = record { head = g.head; seen = g.seen; bytes = g.bytes ++ bytes; broken = g.broken }

-- behind these lines and a rest, once what was found was asked for
abbrev pub given_behind : Given → List Taken → Text → Given
given_behind g ts rest = record {
  head = head_after g.head (lines_in ts);
  seen = head_after g.seen (lines_in ts);
  bytes = [];
  broken = g.broken + broken_in ts + broken_end rest;
}

-- a head among what was given is the last one of all, and the place of an object
abbrev pub IsSeen : Option Place → Option Place → Type 0
IsSeen None head = ⊤
IsSeen (Some o) head = IsPlace o × (o ≢ []) × (head ≡ Some o)

-- what was given is sifted: its lines are taken, all but the right files behind the last other line are
-- among the findings, and the beginning of a line is kept
pub record IsSifted (known : List KnownEntry) (s : Sifting) (g : Given) : Type 0 where
  pub lines : List Taken
  pub are : AreTaken g.seen lines
  pub bytes : g.bytes ≡ texts_in lines ++ s.rest.items
  pub unended : All (λ c. c ≢ 10) s.rest.items
  pub broken : IsCount s.broken (g.broken + broken_in lines)
  pub before : List Line
  pub behind : List Line
  pub parts : lines_in lines ≡ before ++ behind
  pub reports : All IsLine (before ++ behind)
  pub right : IsCount s.right (length behind)
  pub are_right : AreRightIn (head_after g.head before) behind
  pub found : IsAfter known g.head s.found (lines_text before)
  pub whole : s.found.rest.items ≡ []
  pub within : s.within.items ≡ beginning (head_after g.seen (lines_in lines))
  pub object : IsSeen (head_after g.seen (lines_in lines)) (head_after g.head before)

-- what was given is these lines, as they are taken, and the rest of a line
pub record AreIn (g : Given) (ts : List Taken) (rest : Text) : Type 0 where
  pub are : AreTaken g.seen ts
  pub bytes : g.bytes ≡ texts_in ts ++ rest
  pub unended : All (λ c. c ≢ 10) rest

-- the findings among these lines that are not known. The report may be over with them
abbrev pub findings_in : List KnownEntry → Bool → Given → List Taken → List Finding
findings_in known is_over g ts = unknown known (placed_after is_over g.head (lines_in ts))

-- what was found in what was given, and what comes next is given behind it
pub record IsFound (known : List KnownEntry) (is_over : Bool) (g : Given) (gravest : Gravest) (after : Sifting) : Type 0 where
  pub lines : List Taken
  pub rest : Text
  pub are : AreIn g lines rest
  pub found : IsOf gravest (findings_in known is_over g lines)
  pub next : IsSifted known after (given_behind g lines rest)
