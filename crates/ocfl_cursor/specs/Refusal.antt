-- Why bytes are no cursor's text: the first reason that applies.
use Rattle.std.specs.Prelude.{◌≡◌, ℕ, ◌&&◌, ◌⊎◌, nat_eq, nat_le, Bool, length, codes}
use Rattle.std.specs.List.{starts_with}
use Rattle.ocfl_tree.specs.Place.{Text}
use Rattle.ocfl_cursor.specs.Cursor.{Cursor, IsCursor, cursor_text, HasVersionOne, version_one_text}
use Rattle.ocfl_cursor.specs.{Refused.{version_after, is_version, first_reason, IsRefused}, Sealed.{is_sealed_by}}
use Rattle.ocfl_cursor.specs.declared.refused.Refused.{Refused}
use Rattle.ocfl_cursor.specs.declared.refused.TextKind.TheVariants as kind

abbrev pub max_text : ℕ
max_text = 262144

abbrev pub is_cursor_front : Text → Bool
is_cursor_front b = starts_with nat_eq b (codes "ocfl-scrub cursor ") && nat_le (length b) max_text

-- versions 1 to 3 are read
abbrev pub is_version_read : Text → Bool
is_version_read b = is_version (codes "123") (version_after (codes "ocfl-scrub cursor ") b)

-- the last 72 bytes are the digest line of all before them
abbrev pub is_sealed : Text → Bool
is_sealed b = is_sealed_by (codes "digest ") b

-- of bytes that are the text of no cursor
abbrev pub refusal : Text → Refused
refusal b = first_reason kind.Cursor (is_cursor_front b) (is_version_read b) (is_sealed b)

-- the bytes are the text of a cursor that keeps its rule: the one that is written, or that of
-- version 1 if it has one
pub record IsTextOf (b : Text) (c : Cursor) : Type 0 where
  pub keeps : IsCursor c
  pub is : (b ≡ cursor_text c) ⊎ (HasVersionOne c × (b ≡ version_one_text c))

-- what is so of bytes that are refused
abbrev pub RefusedRightly : Text → Refused → Type 0
RefusedRightly b why = IsRefused (refusal b) ((c : Cursor) × IsTextOf b c) why
