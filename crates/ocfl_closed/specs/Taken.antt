-- What was taken of the changes of a closed cycle.
use Rattle.std.specs.Prelude.{◌≡◌, ◌||◌, List, ◌++◌, Bool, Option}
use Rattle.std.specs.{List.{list_any}, Io.KnownBytes.{Appends}}
use Rattle.ocfl_tree.specs.Place.{Text}
use Rattle.ocfl_report.specs.Line.{Line}
use Rattle.ocfl_compare.specs.{Gone.{gone_text}, Seen.{Seen, changes_in}}
use Rattle.ocfl_messages.specs.declared.known.KnownEntry.{KnownEntry}
use Rattle.ocfl_words.specs.{Counted.{AreCounted, counted, is_news}, Held.{AreHeld, Held, held_after}, Kept.{Kept, kept_after, noted_from}, Noted.{Noted}}
use Rattle.ocfl_words.specs.declared.{changes.Changes.{Changes}, compared.ComparedLines.{ComparedLines}, noting.Part.{Part}}

-- how taking stands: the bytes of the list of what is gone; which findings are known, and which were
-- said before; which lines are kept; what is counted of the comparison that is under way, and of the
-- lines of this report in it; what came of that with the report before and of that with the last whole
-- one; and whether a change was new or gone
pub record Stand : Type 0 where
  pub list : Option Text
  pub known : List KnownEntry
  pub said : List Line
  pub kept : Kept
  pub noting : Changes
  pub lines : ComparedLines
  pub since : Part
  pub whole : Part
  pub is_grave : Bool

-- how it stands before and after these lines were seen and these changes taken
pub record HasTaken (old : Stand) (seen : List Seen) (new : Stand) : Type 0 where
  pub kept : new.kept ≡ kept_after old.kept seen
  pub list : Appends old.list new.list (gone_text (changes_in seen))
  pub counted_on : (ns : List Noted) → AreCounted old.noting (counted ns) → AreCounted new.noting (counted (ns ++ noted_from old.known old.kept seen))
  pub held_on : (h : Held) → AreHeld old.lines h → AreHeld new.lines (held_after old.known old.said old.kept h seen)
  pub grave : new.is_grave ≡ (old.is_grave || list_any is_news (noted_from old.known old.kept seen))
  pub known : new.known ≡ old.known
  pub said : new.said ≡ old.said
  pub since : new.since ≡ old.since
  pub whole : new.whole ≡ old.whole
