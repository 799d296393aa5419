-- What a joining over the folders of parts comes to, what the command ends with, and what is said of
-- separators.
use Rattle.std.specs.Prelude.{◌≡◌, ℕ, ◌+◌, ◌-◌, ◌^◌, ◌++◌, min, List, length, codes, is_some, if◌then◌else◌, IsSomeAnd, Option, Result, Ok, Err}
use Rattle.ocfl_tree.specs.Place.{Text, Place}
use Rattle.ocfl_disk.specs.{Names.{Stored}, PowerCut.{DiskState}}
use Rattle.ocfl_files.specs.{Failing.{Says, stopped_status}, declared.failing.Failure.{Failure}}
use Rattle.ocfl_join_disk.specs.{Cycles.{cycles_in}, Shown.{joined_in}}
use Rattle.ocfl_joining.specs.{Cycles.{AreJoined, SeenCycles}, Facts.{last_of_all}}
use Rattle.ocfl_joining.specs.declared.{facts.Facts.{Facts}, failing.JoinEnd.{JoinEnd}}
use Rattle.ocfl_part_folders.specs.Folder.{AreSaid, PartsFolder, files_in}
use Rattle.ocfl_say.specs.Said.{Said}
use Rattle.ocfl_scope.specs.Stop.{stop_status}
use Rattle.ocfl_scope.specs.declared.stop.ScopeStop.TheVariants as stop
use Rattle.ocfl_separators.specs.declared.reading.PartsStop.{PartsStop}

-- separators were not read, which is said in some words
abbrev pub SaysUnread : PartsStop → Failure → Type 0
SaysUnread why f = (words : Text) × Says (stop_status (stop.Parts why)) (words ++ codes "\n") f

-- the exit status after a joining, or where it did not begin
abbrev pub status_by : Result JoinEnd Failure → ℕ
status_by (Ok end) = end.status
status_by (Err f) = if is_some f.text then f.status else stopped_status

-- ---- what a joining comes to

-- how many parts there are of a root with these separators, as far as a number of 64 bits can be that
abbrev pub part_total : List Place → ℕ
part_total separators = min (length separators + 1) (2 ^ 64 - 1)

-- which joined reports are there, and what was said on standard error
pub record Shows (seen : SeenCycles) (folder : PartsFolder) (s : Stored) : Type 0 where
  pub put : (cycle : ℕ) → (seen.reports cycle).put ≡ joined_in cycle s
  pub noted : seen.noted ≡ folder.noted

-- Each cycle up to the last one that all of so many parts have closed, by what their checkpoints say, was
-- gone through, and is what `new` tells of it. The calls are there afterwards and show that, and the
-- output was given the words on joined reports.
pub record ComesTo {C : Type 0} (folder : C → PartsFolder) (disk : C → DiskState) (separators : List Place) (facts : List (Option Facts)) (f : PartsFolder) (s : Stored) (before : Said) (parts : ℕ) (after : Option C) (given : Said) (end : JoinEnd) : Type 0 where
  pub new : SeenCycles
  pub joined : AreJoined (cycles_in separators facts (files_in facts f) s before) new parts (last_of_all facts) end
  pub shows : IsSomeAnd after (λ c. Shows new (folder c) (disk c).seen)
  pub heard : new.said ≡ given

-- the same of all parts, whose checkpoints say these facts
pub record HasJoined {C : Type 0} (folder : C → PartsFolder) (disk : C → DiskState) (separators : List Place) (calls : C) (before : Said) (after : Option C) (given : Said) (end : JoinEnd) : Type 0 where
  pub facts : List (Option Facts)
  pub said : AreSaid (folder calls) (part_total separators) facts
  pub comes : ComesTo folder disk separators facts (folder calls) (disk calls).seen before (part_total separators) after given end
