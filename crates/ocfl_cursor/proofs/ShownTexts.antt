-- What is shown of a text, and why nothing is.
use Rattle.std.proofs.Common.{◌≡◌, ◌⊎◌, inl, inr, ◌&&◌, nat_le, true, false, length, refl, sym, ap, ◌∙◌}
use Rattle.std.proofs.lemmas.Bool.{true≢false}
use Rattle.ocfl_tree.specs.Place.{Text}
use Rattle.ocfl_cursor.specs.{Cursor.{cursor_lines}, Part.{part_lines}, Refusal.{RefusedRightly}}
use Rattle.ocfl_cursor.specs.Shown.{AreShown, AreWholeLines, IsOfNoBytes, UnshownRightly}
use Rattle.ocfl_cursor.specs.Stop.{is_read_as_part, max_part_text}
use Rattle.ocfl_cursor.specs.declared.showing.ShowStop.{ShowStop}
use Rattle.ocfl_cursor.specs.declared.reading.CursorStop.TheVariants as stop
use Rattle.ocfl_cursor.specs.declared.refused.Refused.{Refused}
use Rattle.ocfl_cursor.specs.declared.refused.Refused.TheVariants as refused
use Rattle.ocfl_cursor.specs.declared.showing.ShowStop.TheVariants as show
use Rattle.ocfl_cursor.proofs.{CursorTexts.{text_determines}, PartTexts.{part_text_determines}}
use Rattle.ocfl_cursor.proofs.{PartRefusals.{whole_has_no_part_front}, Refusals.{only_memory}}

-- the text of a whole root's cursor is not read as that of a part
whole_not_read : (b l : Text) → AreWholeLines b l → is_read_as_part b ≡ true → ⊥
whole_not_read b l h k = true≢false (sym k ∙ ap (λ r. r && nat_le (length b) max_part_text) (whole_has_no_part_front b h.cursor h.is_text))

-- what is shown of a text is determined
pub shown_determined : (b l m : Text) → AreShown b l → AreShown b m → l ≡ m
shown_determined b l m (inl h) (inl k) = h.lines_are ∙ ap cursor_lines (text_determines b h.cursor k.cursor h.is_text k.is_text) ∙ sym k.lines_are
shown_determined b l m (inl h) (inr k) = absurd (whole_not_read b l h k.is_read)
shown_determined b l m (inr h) (inl k) = absurd (whole_not_read b m k h.is_read)
shown_determined b l m (inr h) (inr k) =
    let same = part_text_determines b h.ends k.ends h.cursor k.cursor h.is_text k.is_text in
    h.lines_are ∙ (λ i. part_lines (same.0 i) (same.1 i)) ∙ sym k.lines_are

-- as a whole root's cursor a text is refused for want of memory, or as what begins as no part's
hidden_whole : (b : Text) (why : Refused) → UnshownRightly b (show.Whole (stop.Refused why)) → (why ≡ refused.Memory) ⊎ ((is_read_as_part b ≡ false) × RefusedRightly b why)
hidden_whole b (refused.NotA t) k = inr k
hidden_whole b refused.Version k = inr k
hidden_whole b refused.Damaged k = inr k
hidden_whole b refused.Malformed k = inr k
hidden_whole b refused.Memory k = inl refl

-- a text that is shown is refused for no reason that is in its bytes
pub only_memory_hides : (b l : Text) → AreShown b l → (why : ShowStop) → UnshownRightly b why → IsOfNoBytes why
only_memory_hides b l h (show.Whole stop.Read) k = inl refl
only_memory_hides b l h (show.Whole (stop.Refused why)) k = inr (inl (ap (λ w. show.Whole (stop.Refused w)) (by h (hidden_whole b why k))))
  where
    by : AreShown b l → (why ≡ refused.Memory) ⊎ ((is_read_as_part b ≡ false) × RefusedRightly b why) → why ≡ refused.Memory
    by h (inl e) = e
    by (inl h) (inr r) = only_memory _ _ why (h.cursor, h.is_text) r.1
    by (inr h) (inr r) = absurd (true≢false (sym h.is_read ∙ r.0))
only_memory_hides b l (inl h) (show.Part why) k = absurd (whole_not_read b l h k.0)
only_memory_hides b l (inr h) (show.Part why) k = inr (inr (ap show.Part (only_memory _ _ why (h.ends, (h.cursor, h.is_text)) k.1)))
