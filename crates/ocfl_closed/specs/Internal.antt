-- How a report is read, and what is taken of its changes.
use Rattle.std.specs.{Prelude.{◌≡◌, ℕ, ◌+◌, ◌≤◌, ◌||◌, List, length, take}, List.{list_any}, Io.KnownBytes.{Appends}}
use Rattle.ocfl_tree.specs.Place.{Text}
use Rattle.ocfl_compare.specs.{Gone.{gone_text}, Seen.{Seen}}
use Rattle.ocfl_words.specs.{Counted.{AreCounted, counted, is_news}, News.{AreNews}, Noted.{changes_of}}
use Rattle.ocfl_closed.specs.{Taken.{Stand}, Words.{Parts, all_of}}
use Rattle.ocfl_state.specs.{Pieces.{Carries}, declared.pieces.ReportDigests.{ReportDigests}}
pub mod Backs
pub mod Checked
pub mod SeenOf
pub mod Stands
pub mod Takes

-- so many bytes from an offset on were pushed: none only at the end of the report
pub record IsPushed (report : Text) (start count : ℕ) (digests : ReportDigests) : Type 0 where
  pub within : start + count ≤ length report
  pub carries : Carries digests (take (start + count) report)
  pub end : count ≡ 0 → length report ≤ start

-- this was seen, and it was taken
abbrev pub Took : (List Seen → Type 0) → (List Seen → Type 0) → Type 0
Took Is Taken = (seen : List Seen) × (Is seen × Taken seen)

-- all changes were taken, from one stand to another: those of these parts
pub record AllTaken (Are : Parts → Type 0) (old new : Stand) : Type 0 where
  pub parts : Parts
  pub are : Are parts
  pub list : Appends old.list new.list (gone_text (changes_of (all_of parts)))
  pub since : AreCounted new.since.changes (counted parts.since)
  pub found : AreNews old.said parts.since parts.lines new.since.found
  pub whole : AreCounted new.whole.changes (counted parts.whole)
  pub again : AreNews old.said parts.whole parts.again new.whole.found
  pub missing : AreCounted new.noting (counted parts.missing)
  pub grave : new.is_grave ≡ (old.is_grave || list_any is_news (all_of parts))
