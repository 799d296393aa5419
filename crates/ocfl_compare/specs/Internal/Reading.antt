-- How far a report is read.
use Rattle.std.specs.Prelude.{◌≡◌, ◌≢◌, ◌⊎◌, ℕ, List, [], ◌∷◌, ◌++◌, length, Bool, false, Option, Some, None, IfSome, ⊤}
use Rattle.std.specs.{Io.KnownBytes.{Consumes, IsAtEnd}, Ordering.{is_gt}}
use Rattle.std.specs.declared.cmp.Ordering.TheVariants.{Less, Greater}
use Rattle.ocfl_tree.specs.Place.{Text, Place, place_cmp}
use Rattle.ocfl_report.specs.{Line.{Line, line_of}, Text.{lines_text, IsLineText}}
use Rattle.ocfl_report.specs.declared.line.Line.{Line as MadeLine}
use Rattle.ocfl_separators.specs.Splits.{AreLines, IsNotLess, IsBadReportLine}
use Rattle.ocfl_compare.specs.declared.reading.ReadStop.{ReadStop}
use Rattle.ocfl_compare.specs.declared.reading.ReadStop.TheVariants.{Line as BadLine, Failed, Output, Memory}

abbrev pub listed : Option MadeLine → List Line
listed None = []
listed (Some l) = line_of l ∷ []

-- of all bytes these lines were taken, and the next one was read
pub record IsReading (all left : Option Text) (done : List Line) (next : Option MadeLine) (count : ℕ) : Type 0 where
  pub lines : AreLines (done ++ listed next)
  pub read : Consumes all left (lines_text (done ++ listed next))
  pub counted : count ≡ length (done ++ listed next)

-- the next line was read; there is none only at the end
pub record HasRead (all left : Option Text) (done : List Line) (next : Option MadeLine) (count : ℕ) : Type 0 where
  pub reading : IsReading all left done next count
  pub end : next ≡ None → IfSome all (λ b. IsAtEnd left)

-- the next line's place is not less than this one
abbrev pub IsNotAbove : Place → Option MadeLine → Type 0
IsNotAbove p None = ⊤
IsNotAbove p (Some l) = place_cmp p l.place ≢ Greater

-- the next line's place is greater than this one
abbrev pub IsBelow : Place → Option MadeLine → Type 0
IsBelow p None = ⊤
IsBelow p (Some l) = place_cmp p l.place ≡ Less

-- the next line's place is this one
abbrev pub IsAt : Place → Option MadeLine → Type 0
IsAt p None = ⊥
IsAt p (Some l) = p ≡ l.place

-- a line that comes after another one
abbrev pub GoesOn : Option MadeLine → Option MadeLine → Type 0
GoesOn None next = ⊤
GoesOn (Some l) next = IsNotAbove l.place next

-- whether a line's place is greater than this one
abbrev pub is_after : Option MadeLine → Place → Bool
is_after None p = false
is_after (Some l) p = is_gt (place_cmp l.place p)

abbrev pub last_place : Option MadeLine → Option Place
last_place None = None
last_place (Some l) = Some l.place

-- no line of a report that may follow has this text
abbrev pub IsUnfit : Text → Option MadeLine → Type 0
IsUnfit text last = (l : Line) → IsLineText text l → IsNotLess (last_place last) l.place → ⊥

-- the text is that of the next line
abbrev pub IsNextLine : Text → Option MadeLine → Type 0
IsNextLine text None = ⊥
IsNextLine text (Some l) = IsLineText text (line_of l)

-- a next line was read, or none was taken yet
abbrev pub IsOpen : List Line → Option MadeLine → Type 0
IsOpen done next = next ≡ None → done ≡ []

-- the least place of two next lines
abbrev pub IsNextPlace : Option Place → Option MadeLine → Option MadeLine → Type 0
IsNextPlace None b n = (b ≡ None) × (n ≡ None)
IsNextPlace (Some p) b n = (IsAt p b ⊎ IsAt p n) × (IsNotAbove p b × IsNotAbove p n)

abbrev pub ReadStopsRightly : Text → ReadStop → Type 0
ReadStopsRightly b (BadLine n) = IsBadReportLine b n
ReadStopsRightly b Failed = ⊤
ReadStopsRightly b Output = ⊤
ReadStopsRightly b Memory = ⊤
