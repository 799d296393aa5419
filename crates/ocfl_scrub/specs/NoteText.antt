-- The line that a note is shown as.
use Rattle.std.specs.{Prelude.{◌++◌, [], Bool, true, false, codes}, Fmt.{decimal}}
use Rattle.ocfl_tree.specs.Place.{Text}
use Rattle.ocfl_report.specs.Text.{place_text}
use Rattle.ocfl_report.specs.declared.further.Further.{Further}
use Rattle.ocfl_report.specs.declared.further.Further.TheVariants.{Nothing, Inventories}
use Rattle.ocfl_cursor.specs.{PartRefusal.{part_refused_text}, Refused.{refused_text}}
use Rattle.ocfl_scrub.specs.Types.{Note}
use Rattle.ocfl_scrub.specs.declared.note.Note.TheVariants as note

-- the option that an audit has
abbrev pub option_text : Further → Text
option_text Nothing = codes "without --inventories"
option_text Inventories = codes "with --inventories"

-- whether an item is left for the next run
abbrev pub end_text : Bool → Text
end_text true = codes "ended"
end_text false = codes "open"

abbrev pub note_text : Note → Text
note_text note.Nothing = []
note_text note.NoItem = codes "no item"
note_text note.EmptyBranch = codes "no item"
note_text note.BadPath = codes "bad path"
note_text (note.StoppedAt p) = codes "stopped at " ++ place_text p
note_text note.OutOfMemory = codes "out of memory"
note_text note.OutputFailed = codes "output failed"
note_text (note.RunMade cycle runs cost whole) = codes "cycle " ++ decimal cycle ++ codes ", run " ++ decimal runs ++ codes ", cost " ++ decimal cost ++ codes ", " ++ end_text whole
note_text (note.CycleMade runs cost whole) = codes "runs " ++ decimal runs ++ codes ", cost " ++ decimal cost ++ codes ", " ++ end_text whole
note_text note.CursorWorn = codes "cursor worn"
note_text note.CursorFileFailed = codes "cursor file failed"
note_text (note.CursorRefused why) = codes "cursor refused: " ++ refused_text why
note_text (note.PartCursorRefused why) = codes "cursor refused: " ++ part_refused_text why
note_text (note.OtherAudit further) = codes "cursor refused: the cursor is of an audit " ++ option_text further
