-- Why bytes are refused as a stored text of one kind: the first reason that applies.
use Rattle.std.specs.Prelude.{◌≡◌, ◌==◌, [], ◌∷◌, Bool, false, not, nat_eq, length, drop, if◌then◌else◌, codes}
use Rattle.std.specs.List.{list_any, starts_with}
use Rattle.ocfl_tree.specs.Place.{Text}
use Rattle.ocfl_report.specs.declared.stop.TextStop.{TextStop}
use Rattle.ocfl_report.specs.declared.stop.TextStop.TheVariants as stop
use Rattle.ocfl_cursor.specs.Sealed.{first_line, is_sealed_by}
use Rattle.ocfl_cursor.specs.declared.refused.Refused.{Refused}
use Rattle.ocfl_cursor.specs.declared.refused.Refused.TheVariants.{NotA, Version, Damaged, Malformed, Memory}
use Rattle.ocfl_cursor.specs.declared.refused.TextKind.{TextKind}
use Rattle.ocfl_cursor.specs.declared.refused.TextKind.TheVariants as kind

-- what follows the front, up to a line feed or the end
abbrev pub version_after : Text → Text → Text
version_after front b = first_line (drop (length front) b)

-- a version is one digit, and one of these is read
abbrev pub is_version : Text → Text → Bool
is_version digits [] = false
is_version digits (d ∷ []) = list_any (λ x. x == d) digits
is_version digits (d ∷ e ∷ v) = false

-- by whether bytes begin as a text of this kind, whether their version is read, and whether their
-- last line seals the others
abbrev pub first_reason : TextKind → Bool → Bool → Bool → Refused
first_reason of begins known sealed = if not begins then NotA of
    else (if not known then Version
    else (if not sealed then Damaged else Malformed))

-- by the front of the kind, the digits of the versions that are read, and the front of the last line
abbrev pub reason_by : TextKind → Text → Text → Text → Text → Refused
reason_by of front digits seal b =
    first_reason of (starts_with nat_eq b front) (is_version digits (version_after front b)) (is_sealed_by seal b)

-- bytes are refused for their first reason, and are no text of the kind; memory is refused only
-- where the three tests are passed
abbrev pub IsRefused : Refused → Type 0 → Refused → Type 0
IsRefused first IsOne Memory = first ≡ Malformed
IsRefused first IsOne why = (why ≡ first) × (IsOne → ⊥)

-- what it says of bytes that what they are to tell was not read
abbrev pub refusal_of : TextStop → Refused
refusal_of stop.Bad = Malformed
refusal_of stop.Memory = Memory

-- what is said of it
abbrev pub refused_text : Refused → Text
refused_text (NotA kind.Cursor) = codes "not a cursor"
refused_text (NotA kind.Checkpoint) = codes "not a checkpoint"
refused_text Version = codes "version"
refused_text Damaged = codes "damaged"
refused_text Malformed = codes "malformed"
refused_text Memory = codes "out of memory"
