use Rattle.std.proofs.Common.{◌++◌, All, Bool, List, map}
use Rattle.ocfl_report.specs.Line.{Line}
use Rattle.ocfl_messages.specs.{Finding.{Finding, Section, ended_after, section_after}, Gathering.{IsGathered}}
use Rattle.ocfl_words.specs.Held.{Agrees, lines_of, marked_of}
use Rattle.ocfl_words.proofs.marked.gather.Given as goal

-- those that were yielded are gathered
abbrev pub invariant-loop-line : goal.invariant-loop-line
invariant-loop-line l = (says : Line → Bool) (fs : List Finding) (s : Section) → All (Agrees says) (map marked_of l.yielded) → IsGathered says l.fn.gathering fs s
    → IsGathered says l.gathering (fs ++ ended_after s (lines_of (map marked_of l.yielded))) (section_after s (lines_of (map marked_of l.yielded)))
