-- Why a night did nothing, in words.
use Rattle.std.specs.Prelude.{ℕ, ◌++◌, codes, decimal}
use Rattle.ocfl_tree.specs.Place.{Text}
use Rattle.ocfl_report.specs.{Text.{escape}, declared.further.Further.{Further}}
use Rattle.ocfl_report.specs.declared.further.Further.TheVariants as further
use Rattle.ocfl_messages.specs.Quoted.{quoted}
use Rattle.ocfl_messages.specs.declared.refusal.RefusalMessage.{RefusalMessage}
use Rattle.ocfl_messages.specs.declared.refusal.RefusalMessage.TheVariants.{NoCheckpoint, HasReports, NotCheckpoint, Version, Damaged, Malformed, OfScripts, NoRoot, OtherRoot, OtherDeclaration, OtherPart, OtherAudit, NamesGone, Older, RootChanged, Worn}

-- longer ones
abbrev pub other_root_text : Text → Text → Text → Text
other_root_text bound root state = escape state ++ codes " belongs to the storage root " ++ escape bound ++ codes ", and this one is " ++ escape root ++ codes ". A root at another path needs a new state folder, whose first cycle is compared with nothing. To find what was lost in the move, give --expected the list that ocfl-scrub-reports expected " ++ quoted state ++ codes " writes."

abbrev pub other_declaration_text : Text → Text → Text
other_declaration_text root state = escape state ++ codes ": the declaration of " ++ escape root ++ codes " is not the one of before. --force-root runs it anyway."

abbrev pub other_part_text : Text → Text → Text
other_part_text root state = escape state ++ codes " belongs to another part of " ++ escape root ++ codes ", or to all of it. Other parts need new state folders."

-- by what they check beside what every audit checks
abbrev pub other_audit_text : Further → Text
other_audit_text further.Nothing = codes ": the folder's nights are of an audit without --inventories."
other_audit_text further.Inventories = codes ": the folder's nights are of an audit with --inventories."

abbrev pub names_gone_text : ℕ → ℕ → Text → Text
names_gone_text gone before root = decimal gone ++ codes " of the " ++ decimal before ++ codes " names in " ++ escape root ++ codes " are gone: is its file system mounted? --force-root runs it anyway."

abbrev pub older_text : ℕ → Text → Text
older_text cycle state = escape state ++ codes "/checkpoint is older than " ++ escape state ++ codes "/reports, where cycle " ++ decimal cycle
    ++ codes " is closed already. Restore its newest copy. Without one, move " ++ escape state ++ codes "/report to another folder, and copy the last checkpoint-N in "
    ++ escape state ++ codes "/reports to " ++ escape state ++ codes "/checkpoint."

abbrev pub root_changed_text : Text → Text
root_changed_text root = escape root ++ codes " is not the storage root that the night began with: is its file system mounted?"

-- what is wrong with the root or the state folder, whose paths these are
abbrev pub reason_text : RefusalMessage → Text → Text → Text
reason_text NoCheckpoint root state = escape state ++ codes " has no checkpoint: is its file system mounted? For a first night, give --create."
reason_text HasReports root state = escape state ++ codes " has reports of earlier nights, and no checkpoint. Put it back, or start over in another folder."
reason_text NotCheckpoint root state = escape state ++ codes "/checkpoint is not a checkpoint."
reason_text Version root state = escape state ++ codes "/checkpoint is of another version."
reason_text Damaged root state = escape state ++ codes "/checkpoint is damaged."
reason_text Malformed root state = escape state ++ codes "/checkpoint is malformed."
reason_text OfScripts root state = escape state ++ codes " is a folder of earlier scripts, with a cursor and a log of nights. Start over in another folder."
reason_text NoRoot root state = escape root ++ codes " does not declare itself a storage root: is its file system mounted?"
reason_text (OtherRoot bound) root state = other_root_text bound.now root state
reason_text OtherDeclaration root state = other_declaration_text root state
reason_text OtherPart root state = other_part_text root state
reason_text (OtherAudit checked) root state = escape state ++ other_audit_text checked
reason_text (NamesGone gone before) root state = names_gone_text gone before root
reason_text (Older cycle) root state = older_text cycle state
reason_text RootChanged root state = root_changed_text root
reason_text Worn root state = codes "The number of the cycle in " ++ escape state ++ codes " cannot grow any further."

-- what became of the run
abbrev pub ending_text : RefusalMessage → Text
ending_text RootChanged = codes " The run does not count; the next night makes it again.\n"
ending_text _ = codes " Nothing was run.\n"

abbrev pub refusal_text : RefusalMessage → Text → Text → Text
refusal_text refusal root state = reason_text refusal root state ++ ending_text refusal
