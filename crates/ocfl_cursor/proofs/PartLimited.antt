-- What the first bytes of a reader tell of all of them, if one more is read than is taken as a
-- part's cursor.
use Rattle.std.proofs.Common.{◌≡◌, ◌⊎◌, inl, inr, ℕ, ◌<◌, ◌≤◌, ◌&&◌, nat_le, true, false, min, length, take, Option, Some, None, IfSome, refl, sym, ap, ap₂, subst, ◌∙◌, arith, length-take}
use Rattle.std.proofs.{lemmas.Bool.{le-leb, lt-leb, and_right, true≢false}, lemmas.List.{take_all}}
use Rattle.ocfl_tree.specs.Place.{Text}
use Rattle.ocfl_cursor.specs.{Cursor.{Cursor}, Part.{IsPartText}}
use Rattle.ocfl_cursor.specs.PartRefusal.{is_part_front, PartRefusedRightly}
use Rattle.ocfl_cursor.specs.Shown.{AreShown, IsShownFrom, UnshownRightly}
use Rattle.ocfl_cursor.specs.Stop.{is_read_as_part, max_part_text, PartStopsRightly}
use Rattle.ocfl_cursor.specs.declared.ends.PartEnds.{PartEnds}
use Rattle.ocfl_cursor.specs.declared.part_reading.PartCursorStop.{PartCursorStop}
use Rattle.ocfl_cursor.specs.declared.refused.PartRefused.{PartRefused}
use Rattle.ocfl_cursor.specs.declared.refused.PartRefused.TheVariants.{Text as Unread, OtherPart}
use Rattle.ocfl_cursor.specs.declared.refused.Refused.TheVariants.{NotA, Version, Damaged, Malformed, Memory}
use Rattle.ocfl_cursor.specs.declared.showing.ShowStop.{ShowStop}
use Rattle.ocfl_cursor.specs.declared.part_reading.PartCursorStop.TheVariants as part
use Rattle.ocfl_cursor.specs.declared.reading.CursorStop.TheVariants as stop
use Rattle.ocfl_cursor.specs.declared.refused.TextKind.TheVariants as kind
use Rattle.ocfl_cursor.specs.declared.showing.ShowStop.TheVariants as show
use Rattle.ocfl_cursor.proofs.{Limited.{IsReadTo}, PartRefusals.{front-part_text, only_memory}}
use Rattle.ocfl_cursor.proofs.Refusals.{begun, not_begun, refused_not_cursor, too_long}

-- how many bytes are read at most
abbrev pub part_limit : ℕ
part_limit = 67108865

-- ---- all bytes, or too many

-- what is read is all if it is not too much
all_read : (b read : Text) → read ≡ take part_limit b → length read ≤ max_part_text → read ≡ b
all_read b read is few =
    let short : min part_limit (length b) ≤ max_part_text = omega (arith, length-take part_limit b, ap length is) in
    is ∙ take_all part_limit b (omega (arith, short))

-- else there are more than are read as a part's cursor
more_than_read : (b read : Text) → read ≡ take part_limit b → max_part_text < length read → max_part_text < length b
more_than_read b read is many = omega (arith, length-take part_limit b, ap length is)

-- so what is so of the bytes that are read is so of all
pub of_all : (P : Text → Type 0) (known : Option Text) (read : Text) → IsReadTo part_limit known read → length read ≤ max_part_text → P read → IfSome known P
of_all P None read is few h = tt
of_all P (Some b) read is few h = subst P (all_read b read is few) h

-- or what is so of too many bytes
pub of_more : (P : Text → Type 0) (known : Option Text) (read : Text) → IsReadTo part_limit known read → max_part_text < length read → ((b : Text) → max_part_text < length b → P b) → IfSome known P
of_more P None read is many h = tt
of_more P (Some b) read is many h = h b (more_than_read b read is many)

too_many : (b : Text) → max_part_text < length b → is_read_as_part b ≡ false
too_many b many = and_right (is_part_front b) (nat_le (length b) max_part_text) (lt-leb (length b) max_part_text many)

pub read_as_part : (b : Text) → is_part_front b ≡ true → length b ≤ max_part_text → is_read_as_part b ≡ true
read_as_part b front few = ap₂ (λ r s. r && s) front (le-leb (length b) max_part_text few)

-- ---- as the cursor of a part

-- why it is refused that is read whole
stops_as_refused : (e : PartEnds) (b : Text) (r : PartRefused) → length b ≤ max_part_text → PartRefusedRightly e b r → PartStopsRightly e b (part.Refused r)
stops_as_refused e b (Unread (NotA k)) few h =
    let none = not_begun kind.Cursor k _ true _ h.0 in
    (none.0, ap (λ r. r && nat_le (length b) max_part_text) none.1)
stops_as_refused e b (Unread Version) few h = (read_as_part b (begun kind.Cursor Version _ true _ (λ k e. cc) h.0) few, h)
stops_as_refused e b (Unread Damaged) few h = (read_as_part b (begun kind.Cursor Damaged _ true _ (λ k e. cc) h.0) few, h)
stops_as_refused e b (Unread Malformed) few h = (read_as_part b (begun kind.Cursor Malformed _ true _ (λ k e. cc) h.0) few, h)
stops_as_refused e b (Unread Memory) few h = tt
stops_as_refused e b OtherPart few h = (read_as_part b (front-part_text h.ends b h.cursor h.is) few, h)

module _ (known : Option Text) (read : Text) where
  pub part_text_read : (e : PartEnds) (c : Cursor) → IsReadTo part_limit known read → length read ≤ max_part_text → IsPartText e read c → IfSome known (λ b. IsPartText e b c)
  part_text_read e c is few h = of_all (λ b. IsPartText e b c) known read is few h

  pub part_stops_read : (e : PartEnds) (r : PartRefused) → IsReadTo part_limit known read → length read ≤ max_part_text → PartRefusedRightly e read r
      → IfSome known (λ b. PartStopsRightly e b (part.Refused r))
  part_stops_read e r is few h = of_all (λ b. PartStopsRightly e b (part.Refused r)) known read is few (stops_as_refused e read r few h)

  pub part_stops_too_many : (e : PartEnds) → IsReadTo part_limit known read → max_part_text < length read → IfSome known (λ b. PartStopsRightly e b (part.Refused (Unread (NotA kind.Cursor))))
  part_stops_too_many e is many = of_more (λ b. PartStopsRightly e b (part.Refused (Unread (NotA kind.Cursor)))) known read is many (λ b more. (refl, too_many b more))

  -- ---- what is shown

  pub shown_read : (lines : Text) → IsReadTo part_limit known read → length read ≤ max_part_text → AreShown read lines → IsShownFrom known lines
  shown_read lines is few h = record { bytes = read; are = h; stored = of_all (λ b. b ≡ read) known read is few refl }

  pub unshown_read : (why : ShowStop) → IsReadTo part_limit known read → length read ≤ max_part_text → UnshownRightly read why → IfSome known (λ b. UnshownRightly b why)
  unshown_read why is few h = of_all (λ b. UnshownRightly b why) known read is few h

  pub unshown_too_many : IsReadTo part_limit known read → max_part_text < length read → IfSome known (λ b. UnshownRightly b (show.Whole (stop.Refused (NotA kind.Cursor))))
  unshown_too_many is many =
      of_more (λ b. UnshownRightly b (show.Whole (stop.Refused (NotA kind.Cursor)))) known read is many
      (λ b more. (too_many b more, refused_not_cursor b (too_long b (omega (arith, more)))))

-- ---- a stop before any bytes are refused says nothing of them

-- ---- the text of a part's cursor that is not too long is refused for want of memory alone

pub only_memory_stops : (b : Text) (e : PartEnds) (c : Cursor) → IsPartText e b c → length b ≤ max_part_text → (why : PartCursorStop) → PartStopsRightly e b why
    → (why ≡ part.Read) ⊎ (why ≡ part.Refused (Unread Memory))
only_memory_stops b e c h few part.Read k = inl refl
only_memory_stops b e c h few (part.Refused (Unread (NotA t))) k = absurd (true≢false (sym (read_as_part b (front-part_text e b c h) few) ∙ k.1))
only_memory_stops b e c h few (part.Refused (Unread Version)) k = inr (ap part.Refused (only_memory e b c h (Unread Version) k.1))
only_memory_stops b e c h few (part.Refused (Unread Damaged)) k = inr (ap part.Refused (only_memory e b c h (Unread Damaged) k.1))
only_memory_stops b e c h few (part.Refused (Unread Malformed)) k = inr (ap part.Refused (only_memory e b c h (Unread Malformed) k.1))
only_memory_stops b e c h few (part.Refused (Unread Memory)) k = inr refl
only_memory_stops b e c h few (part.Refused OtherPart) k = inr (ap part.Refused (only_memory e b c h OtherPart k.1))
