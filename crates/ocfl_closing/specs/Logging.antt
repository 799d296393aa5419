-- The row of the log on a closing.
use Rattle.std.specs.Prelude.{◌≡◌, ℕ, ◌==◌, [], length, string_bytes, if◌then◌else◌}
use Rattle.ocfl_tree.specs.Place.{Text}
use Rattle.ocfl_accounts.specs.declared.pair.Pair.{Pair}
use Rattle.ocfl_messages.specs.{Log.{IsJsonLine, row_data}, Tally.{IsCount}}
use Rattle.ocfl_messages.specs.declared.log.ClosingRow.{ClosingRow}
use Rattle.ocfl_messages.specs.declared.log.LogRow.TheVariants.{Closing}
use Rattle.ocfl_words.specs.Counted.{AreCounted, Counted, gone_in}
use Rattle.ocfl_closed.specs.{Words.{number_of}, declared.account.Account.{Account}}

-- why it is not known what is new or gone in a cycle that was compared with none; empty for another
abbrev pub why_said : Pair → Account → Text
why_said pair a = if number_of pair.before == 0 then string_bytes a.why else []

-- at this time, in the night that began then: of a pair, by what is kept of what was found of it, and
-- the digest of the list of the objects that must be there
pub record IsRowOf (at began : ℕ) (pair : Pair) (a : Account) (digits : Text) (r : ClosingRow) : Type 0 where
  pub time : r.time ≡ at
  pub night : r.night ≡ began
  pub cycle : r.cycle ≡ pair.closed.cycle
  pub report : r.report.now ≡ string_bytes a.paths.report
  pub whole : r.whole ≡ pair.closed.whole
  pub findings : r.findings ≡ a.findings.count
  pub lines : r.lines ≡ a.made.lines
  pub runs : r.runs ≡ a.made.runs
  pub read_bytes : r.read_bytes ≡ a.made.bytes
  pub read_files : r.read_files ≡ a.made.files
  pub compared : r.compared ≡ number_of pair.before
  pub compared_whole : r.compared_whole ≡ number_of pair.whole
  pub why : r.why.now ≡ why_said pair a
  pub appeared : r.appeared ≡ a.changes.appeared_count
  pub known : r.known ≡ a.changes.known_count
  pub repaired : r.repaired ≡ a.changes.repaired_count
  pub back : r.back ≡ length a.back.items
  pub gone : (w : Counted) → AreCounted a.changes w → IsCount r.gone (gone_in w)
  pub objects : r.objects ≡ a.changes.objects.count
  pub files : r.files ≡ a.changes.files.count
  pub unlooked : r.unlooked ≡ a.changes.unlooked
  pub expected : r.expected ≡ a.changes.expected.count
  pub listed : r.listed ≡ a.listed
  pub list : r.list.now ≡ digits
  pub left : r.left ≡ length pair.closed.left

-- the line is that of such a row
pub record IsLineOf (at began : ℕ) (pair : Pair) (a : Account) (digits line : Text) : Type 0 where
  pub row : ClosingRow
  pub is : IsRowOf at began pair a digits row
  pub says : IsJsonLine line (row_data (Closing row))
