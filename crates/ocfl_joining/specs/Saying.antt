-- What is said of parts that keep a cycle from being joined, of what parts left out, and of a joining
-- that stopped.
use Rattle.std.specs.Prelude.{ℕ, List, [], ◌∷◌, ◌++◌, length, flat_map, codes, decimal, string_bytes, if◌then◌else◌, Option, Some, None}
use Rattle.ocfl_tree.specs.Place.{Text, Place}
use Rattle.ocfl_report.specs.{Text.{place_text}, declared.further.Further.{Further}}
use Rattle.ocfl_report.specs.declared.further.Further.TheVariants.{Nothing, Inventories}
use Rattle.ocfl_joining.specs.Missing.{KnownPart, most_names, names_of, numbers, part_at}
use Rattle.ocfl_joining.specs.declared.{failing.FailedCall.{FailedCall}, joining.JoinStop.{JoinStop}}
use Rattle.ocfl_joining.specs.declared.joining.JoinStop.TheVariants.{Missing, Changed, Part, Output, Unsaid, Memory}
use Rattle.ocfl_joining.specs.declared.part.{MissingPart.{MissingPart}, PartFault.{PartFault}}
use Rattle.ocfl_joining.specs.declared.reports.ReportTrouble.{ReportTrouble}
use Rattle.ocfl_joining.specs.declared.reports.ReportTrouble.TheVariants as trouble
use Rattle.ocfl_joining.specs.declared.reports.ReportTrouble.TheVariants.{Failed}
use Rattle.ocfl_joining.specs.declared.part.PartFault.TheVariants.{NoPart, NotClosed, OtherRoot, OtherPart, OtherAudit, OtherCycle, ClosingUnsaid, FewNames, Incomplete}

abbrev pub fault_text : PartFault → Text
fault_text NoPart = codes "there is no such part"
fault_text NotClosed = codes "it closed no report"
fault_text OtherRoot = codes "it is of another storage root"
fault_text OtherPart = codes "it is of another part"
fault_text OtherAudit = codes "it does not check the same as another part"
fault_text OtherCycle = codes "its report is of another cycle"
fault_text ClosingUnsaid = codes "its closing was not said yet"
fault_text FewNames = codes "it saw less than half of the names that another part saw in the storage root"
fault_text Incomplete = codes "its report is not whole"

-- a line about the part with a number
abbrev pub part_line : ℕ → Text → Text
part_line number words = codes "ocfl-scrub: part " ++ decimal number ++ codes ": " ++ words ++ codes "\n"

-- ---- parts that keep a cycle from being joined

-- its audit checks this further, and that of another part does not, or the other way around
abbrev pub audit_text : Further → Text
audit_text Nothing = codes "its nights are of an audit without --inventories, and those of another part of one with it"
audit_text Inventories = codes "its nights are of an audit with --inventories, and those of another part of one without it"

abbrev pub other_audit_text : Option KnownPart → Text
other_audit_text None = fault_text OtherAudit
other_audit_text (Some part) = audit_text part.further

-- it saw few of the names that another part saw
abbrev pub few_text : ℕ → ℕ → Option KnownPart → Text
few_text cycle most None = fault_text FewNames
few_text cycle most (Some part) =
    codes "the storage root had " ++ decimal (names_of (Some part)) ++ codes " names when its cycle " ++ decimal cycle
    ++ codes " began, and " ++ decimal most ++ codes " when that of another part did"

-- why a part keeps a cycle from being joined, of which this is known; `most` is the most names that one
-- of the parts saw in the storage root
abbrev pub reason_text : ℕ → ℕ → Option KnownPart → PartFault → Text
reason_text cycle most part NoPart = fault_text NoPart
reason_text cycle most part NotClosed = fault_text NotClosed
reason_text cycle most part OtherRoot = fault_text OtherRoot
reason_text cycle most part OtherPart = fault_text OtherPart
reason_text cycle most part OtherAudit = other_audit_text part
reason_text cycle most part OtherCycle = fault_text OtherCycle
reason_text cycle most part ClosingUnsaid = codes "its closing of cycle " ++ decimal cycle ++ codes " was not said yet"
reason_text cycle most part FewNames = few_text cycle most part
reason_text cycle most part Incomplete = fault_text Incomplete

abbrev pub missing_line : ℕ → List (Option KnownPart) → MissingPart → Text
missing_line cycle parts one = part_line one.part (reason_text cycle (most_names parts) (part_at parts one.part) one.fault)

-- a line for each of them
abbrev pub missing_text : ℕ → List (Option KnownPart) → List MissingPart → Text
missing_text cycle parts missing = flat_map (missing_line cycle parts) missing

-- ---- parts that left something out

abbrev pub left_line : ℕ → Place → Text
left_line number place = part_line number (fault_text Incomplete ++ codes ": left out: " ++ place_text place)

-- a line for each place, or one if none is known
abbrev pub left_lines : ℕ → List Place → Text
left_lines number [] = part_line number (fault_text Incomplete)
left_lines number (place ∷ places) = flat_map (left_line number) (place ∷ places)

abbrev pub left_text : ℕ → Option KnownPart → Text
left_text number None = []
left_text number (Some part) = if part.whole then [] else left_lines number part.left

-- that the joined report with this path is not whole
abbrev pub partial_line : ℕ → Text → Text
partial_line cycle path = codes "ocfl-scrub: the joined report of cycle " ++ decimal cycle ++ codes " lacks what these parts left out: " ++ path ++ codes "\n"

-- what a joined report lacks that is not whole, whose path is shown so
abbrev pub lacking_text : ℕ → List (Option KnownPart) → Text → Text
lacking_text cycle parts path = flat_map (λ number. left_text number (part_at parts number)) (numbers (length parts)) ++ partial_line cycle path

-- ---- a cycle whose joining stopped

-- the words of the system on a call that failed, if they are known
abbrev pub words_of : Option FailedCall → Option Text
words_of None = None
words_of (Some call) = Some (string_bytes call.text)

abbrev pub after_colon : Option Text → Text
after_colon None = []
after_colon (Some words) = codes ": " ++ words

abbrev pub changed_line : ℕ → ℕ → Text
changed_line cycle number = part_line number (codes "its report of cycle " ++ decimal cycle ++ codes " was changed")

abbrev pub failed_line : ℕ → ℕ → ReportTrouble → Option Text → Text
failed_line cycle number Failed words = part_line number (codes "its report of cycle " ++ decimal cycle ++ codes " could not be joined" ++ after_colon words)
failed_line cycle number trouble.Memory words = part_line number (codes "out of memory")

abbrev pub memory_text : Text
memory_text = codes "ocfl-scrub: out of memory\n"

abbrev pub undone_line : ℕ → ReportTrouble → Option Text → Text
undone_line cycle Failed words = codes "ocfl-scrub: the joining of cycle " ++ decimal cycle ++ codes " failed" ++ after_colon words ++ codes "\n"
undone_line cycle trouble.Memory words = memory_text

-- Why it stopped. Parts that keep a cycle from being joined stop none: they have lines of their own.
abbrev pub stop_text : ℕ → JoinStop → Option Text → Text
stop_text cycle (Missing found) words = []
stop_text cycle (Changed found) words = flat_map (changed_line cycle) found.items
stop_text cycle (Part part why) words = failed_line cycle part why words
stop_text cycle (Output why) words = undone_line cycle why words
stop_text cycle Unsaid words = codes "ocfl-scrub: output failed\n"
stop_text cycle Memory words = memory_text
