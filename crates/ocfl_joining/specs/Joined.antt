-- The joined report of all parts.
use Rattle.std.specs.Prelude.{◌≡◌, ◌⊎◌, ℕ, ◌+◌, List, [], ◌∷◌, ◌++◌, length, All, Bool, true, false, flat_map, Option, Some, None, ⊤}
use Rattle.std.specs.Ordering.{is_lt}
use Rattle.ocfl_tree.specs.Place.{Text, Place, place_cmp}
use Rattle.ocfl_report.specs.{Line.{Line}, Text.{lines_text}}
use Rattle.ocfl_separators.specs.{Separators.{start_of_part, end_of_part}, Splits.{AreLines}}
use Rattle.ocfl_state.specs.Pieces.{summary_of}
use Rattle.ocfl_say.specs.Said.{Said, HasSaid}
use Rattle.ocfl_joining.specs.{Missing.{numbers}, Reports.{Put, Seen}, Crash.{Step}}
use Rattle.ocfl_joining.specs.declared.reports.KeptMark.{KeptMark}
use Rattle.ocfl_joining.specs.declared.reports.KeptMark.TheVariants.{NotKept, Kept, Damaged}

-- a place is not less than where a part begins; the first part has no beginning
abbrev pub IsFrom : Option Place → Place → Type 0
IsFrom None p = ⊤
IsFrom (Some from) p = is_lt (place_cmp p from) ≡ false

-- a place is less than where a part ends; the last part has no end
abbrev pub IsBelow : Option Place → Place → Type 0
IsBelow None p = ⊤
IsBelow (Some below) p = is_lt (place_cmp p below) ≡ true

-- the report has the length, the lines and the digests with which it was closed, if these were kept
abbrev pub IsAsClosed : KeptMark → Text → Type 0
IsAsClosed NotKept bytes = ⊤
IsAsClosed (Kept mark) bytes = mark ≡ summary_of bytes
IsAsClosed Damaged bytes = ⊥

-- the bytes are the lines of a report, which are all in a part with these ends
pub record IsReportIn (from below : Option Place) (bytes : Text) : Type 0 where
  pub lines : List Line
  pub are : AreLines lines
  pub is : bytes ≡ lines_text lines
  pub within : All (λ l. IsFrom from l.place × IsBelow below l.place) lines

-- the report of a part is as it was closed, and has the lines of a report, which are all in the part
pub record IsRight (separators : List Place) (s : Seen) (number : ℕ) : Type 0 where
  pub closed : IsAsClosed (s.marks number) (s.bytes number)
  pub report : IsReportIn (start_of_part separators number) (end_of_part separators number) (s.bytes number)

abbrev pub all_parts : List Place → List ℕ
all_parts separators = numbers (length separators + 1)

-- the reports of all parts in their order, each once
abbrev pub joined_text : List Place → Seen → Text
joined_text separators s = flat_map s.bytes (all_parts separators)

abbrev pub joined_of : List Place → Bool → Seen → Put
joined_of separators whole s = record { whole = whole; bytes = joined_text separators s }

-- it was said and committed, if anything is to be said; else nothing was
abbrev pub IsWordSaid : Option Text → Said → Said → Type 0
IsWordSaid None old new = new ≡ old
IsWordSaid (Some word) old new = HasSaid word old new

-- all reports are right, and the word on the joined one was said
pub record CanPut (separators : List Place) (whole : Bool) (s : Seen) (before after : Said) : Type 0 where
  pub right : All (IsRight separators s) (all_parts separators)
  pub said : IsWordSaid (s.word whole (joined_text separators s)) before after

-- the joined report was put, which could be put; each report was opened once, in order
pub record IsJoined (separators : List Place) (whole : Bool) (old new : Seen) (before after : Said) : Type 0 where
  pub put : new.put ≡ old.put ++ joined_of separators whole old ∷ []
  pub could : CanPut separators whole old before after
  pub once : new.opened ≡ old.opened ++ all_parts separators

-- nothing was put, or the joined report was
abbrev pub MayJoin : List Place → Bool → Seen → Seen → Said → Said → Type 0
MayJoin separators whole old new before after = (new.put ≡ old.put) ⊎ IsJoined separators whole old new before after

-- a crash leaves what it might have left before; or that with the joined report, all of it, which could
-- be put
abbrev pub MayLeaveJoined : List Place → Bool → Seen → Said → Said → Step
MayLeaveJoined separators whole s before after old new = (new ≡ old) ⊎ ((new ≡ old ++ joined_of separators whole s ∷ []) × CanPut separators whole s before after)
