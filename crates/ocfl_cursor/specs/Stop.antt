-- What it says of a reader's bytes that no cursor was read.
use Rattle.std.specs.Prelude.{◌≡◌, ℕ, ◌&&◌, nat_le, Bool, true, false, length, ⊤}
use Rattle.ocfl_tree.specs.Place.{Text}
use Rattle.ocfl_report.specs.declared.input.InputStop.{InputStop}
use Rattle.ocfl_report.specs.declared.input.InputStop.TheVariants as input
use Rattle.ocfl_cursor.specs.{PartRefusal.{is_part_front, PartRefusedRightly}, Refusal.{RefusedRightly}}
use Rattle.ocfl_cursor.specs.declared.ends.PartEnds.{PartEnds}
use Rattle.ocfl_cursor.specs.declared.part_reading.PartCursorStop.{PartCursorStop}
use Rattle.ocfl_cursor.specs.declared.reading.CursorStop.{CursorStop}
use Rattle.ocfl_cursor.specs.declared.part_reading.PartCursorStop.TheVariants as part
use Rattle.ocfl_cursor.specs.declared.reading.CursorStop.TheVariants.{Read, Refused}
use Rattle.ocfl_cursor.specs.declared.refused.PartRefused.TheVariants.{Text as Unread}
use Rattle.ocfl_cursor.specs.declared.refused.Refused.TheVariants.{NotA, Memory}
use Rattle.ocfl_cursor.specs.declared.refused.TextKind.TheVariants as kind

-- what it says of a reader that its bytes were not read
abbrev pub unread : InputStop → CursorStop
unread input.Failed = Read
unread input.Memory = Refused Memory

-- the bytes are rightly refused, unless the reader failed or memory was refused
abbrev pub StopsRightly : Text → CursorStop → Type 0
StopsRightly b Read = ⊤
StopsRightly b (Refused Memory) = ⊤
StopsRightly b (Refused why) = RefusedRightly b why

-- ---- as the cursor of a part

-- how many bytes it may have
abbrev pub max_part_text : ℕ
max_part_text = 67108864

-- no more bytes than that, and their first line is that of a part's cursor
abbrev pub is_read_as_part : Text → Bool
is_read_as_part b = is_part_front b && nat_le (length b) max_part_text

-- to this part the bytes are rightly refused, unless the reader failed or memory was refused
abbrev pub PartStopsRightly : PartEnds → Text → PartCursorStop → Type 0
PartStopsRightly e b part.Read = ⊤
PartStopsRightly e b (part.Refused (Unread Memory)) = ⊤
PartStopsRightly e b (part.Refused (Unread (NotA t))) = (t ≡ kind.Cursor) × (is_read_as_part b ≡ false)
PartStopsRightly e b (part.Refused why) = (is_read_as_part b ≡ true) × PartRefusedRightly e b why
