-- Closed reports of parts in memory.
use Rattle.std.specs.Prelude.{◌≡◌, ℕ, ◌-◌, ◌≤◌, ◌%◌, List, [], ◌∷◌, length, take, Option, Some, None, map, slice_get}
use Rattle.std.proofs.{Common.{◌∙◌, arith, sym}, lemmas.List.{take_all}}
use Rattle.ocfl_tree.specs.Place.{Text}
use Rattle.ocfl_joining.specs.Reports.{Seen, Put, no_rest}
use Rattle.ocfl_joining.specs.declared.reports.KeptMark.{KeptMark}
use Rattle.ocfl_joining.specs.declared.reports.KeptMark.TheVariants.{NotKept}
use Rattle.ocfl_joining.specs.declared.memory.MemoryReport.{MemoryReport}
use Rattle.ocfl_joining.specs.declared.memory.MemoryJoined.{MemoryJoined}
use Rattle.ocfl_joining.specs.declared.memory.MemoryReports.{MemoryReports}

-- the report of the part with a number, from 1
abbrev pub bytes_of : List MemoryReport → ℕ → Text
bytes_of parts number = by (slice_get parts (number - 1))
  where
    by : Option MemoryReport → Text
    by None = []
    by (Some part) = part.bytes.items

abbrev pub kept_of : List MemoryReport → ℕ → KeptMark
kept_of parts number = by (slice_get parts (number - 1))
  where
    by : Option MemoryReport → KeptMark
    by None = NotKept
    by (Some part) = part.kept

-- the word on a joined report is the last byte of its length
abbrev pub word_of : Text → Text
word_of bytes = length bytes % 256 ∷ []

abbrev pub put_of : MemoryJoined → Put
put_of joined = record { whole = joined.whole; bytes = joined.bytes.items }

abbrev pub seen_in : MemoryReports → Seen
seen_in m = record {
  bytes = bytes_of m.parts.items;
  marks = kept_of m.parts.items;
  word = λ whole bytes. Some (word_of bytes);
  opened = m.opened.items;
  left = m.left.items;
  made = m.made.items;
  put = map put_of m.put.items;
  rest = no_rest;
}

-- of these reports none was opened
abbrev pub nothing_put : List MemoryReport → Seen
nothing_put parts = record { bytes = bytes_of parts; marks = kept_of parts; word = λ whole bytes. Some (word_of bytes); opened = []; left = []; made = []; put = []; rest = no_rest }

-- joined reports are on the disk once they are put
abbrev pub leaves_now : MemoryReports → List Put → Type 0
leaves_now m puts = puts ≡ (seen_in m).put

abbrev pub left_since : MemoryReports → ℕ → List Put → Type 0
left_since m t puts = (n : ℕ) × ((t ≤ n) × ((n ≤ length (seen_in m).put) × (puts ≡ take n (seen_in m).put)))

-- The laws of the trait: what a crash may leave now is what it leaves since this moment.
pub is_left_now : (m : MemoryReports) (t : ℕ) (puts : List Put) → t ≤ length (seen_in m).put → leaves_now m puts → left_since m t puts
is_left_now m t puts le now = (length (seen_in m).put, (le, (omega arith, now ∙ sym (take_all (length (seen_in m).put) (seen_in m).put (omega arith)))))

pub is_left_only : (m : MemoryReports) (puts : List Put) → left_since m (length (seen_in m).put) puts → leaves_now m puts
is_left_only m puts left = left.1.1.1 ∙ take_all left.0 (seen_in m).put left.1.0
