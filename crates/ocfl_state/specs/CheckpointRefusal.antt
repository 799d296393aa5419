-- Why bytes are the text of no checkpoint: the first reason that applies.
use Rattle.std.specs.{Prelude.{nat_eq, Bool, codes}, List.{starts_with}}
use Rattle.ocfl_tree.specs.Place.{Text}
use Rattle.ocfl_cursor.specs.{Refused.{reason_by, IsRefused}, declared.refused.Refused.{Refused}}
use Rattle.ocfl_cursor.specs.declared.refused.TextKind.TheVariants as kind
use Rattle.ocfl_state.specs.Checkpoint.{Checkpoint, IsCheckpointText}

abbrev pub is_checkpoint_front : Text → Bool
is_checkpoint_front b = starts_with nat_eq b (codes "ocfl-scrub checkpoint ")

-- of bytes that are the text of no checkpoint: versions 1 and 2 are read, and the last 72 bytes are
-- to be the SHA-256 line of all before them
abbrev pub refusal : Text → Refused
refusal b = reason_by kind.Checkpoint (codes "ocfl-scrub checkpoint ") (codes "12") (codes "sha256 ") b

-- what is so of bytes that are refused
abbrev pub RefusedRightly : Text → Refused → Type 0
RefusedRightly b why = IsRefused (refusal b) ((c : Checkpoint) × IsCheckpointText b c) why
