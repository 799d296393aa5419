-- What is shown of a stored checkpoint or cursor, and why nothing is.
use Rattle.std.specs.Prelude.{◌≡◌, ◌⊎◌, ℕ, ◌<◌, length, true, false, ⊤}
use Rattle.ocfl_tree.specs.Place.{Text}
use Rattle.ocfl_cursor.specs.Shown.{AreShown as AreCursorLines, UnshownRightly}
use Rattle.ocfl_state.specs.Checkpoint.{Checkpoint, IsCheckpointText, shown_text}
use Rattle.ocfl_state.specs.CheckpointRefusal.{is_checkpoint_front, RefusedRightly}
use Rattle.ocfl_state.specs.declared.checkpoint_showing.NotShown.{NotShown}
use Rattle.ocfl_state.specs.declared.checkpoint_showing.NotShown.TheVariants as hidden

-- the bytes are the text of a checkpoint, and these are its lines
pub record AreCheckpointLines (b lines : Text) : Type 0 where
  pub checkpoint : Checkpoint
  pub is_text : IsCheckpointText b checkpoint
  pub lines_are : lines ≡ shown_text checkpoint

-- those of a checkpoint, or of a cursor
abbrev pub AreShown : Text → Text → Type 0
AreShown b lines = AreCheckpointLines b lines ⊎ AreCursorLines b lines

-- and the most bytes
abbrev pub max_shown : ℕ
max_shown = 67108864

-- by the kind that the bytes begin as, they are rightly refused, unless the reader failed or memory
-- was refused
abbrev pub HiddenRightly : Text → NotShown → Type 0
HiddenRightly b hidden.Read = ⊤
HiddenRightly b hidden.Memory = ⊤
HiddenRightly b hidden.Long = max_shown < length b
HiddenRightly b (hidden.Checkpoint r) = (is_checkpoint_front b ≡ true) × RefusedRightly b r
HiddenRightly b (hidden.Cursor why) = (is_checkpoint_front b ≡ false) × UnshownRightly b why

-- a text that is there is refused as what it begins as, and for nothing that a reader did
abbrev pub IsOfText : NotShown → Type 0
IsOfText hidden.Read = ⊥
IsOfText hidden.Memory = ⊥
IsOfText hidden.Long = ⊥
IsOfText (hidden.Checkpoint r) = ⊤
IsOfText (hidden.Cursor why) = ⊤
