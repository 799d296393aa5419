-- What is said of a night that has ended.
use Rattle.std.specs.Prelude.{[], ◌++◌, Option, Some, None, codes, option_map}
use Rattle.std.specs.Borrow.{Bor}
use Rattle.ocfl_tree.specs.{Place.{Text}, Path.{slashed}}
use Rattle.ocfl_item.specs.declared.fault.Fault.{Fault}
use Rattle.ocfl_item.specs.declared.fault.Fault.TheVariants as fault
use Rattle.ocfl_cursor.specs.declared.refused.Refused.{Refused}
use Rattle.ocfl_cursor.specs.declared.refused.Refused.TheVariants as refused
use Rattle.ocfl_state.specs.declared.folder.FolderTrouble.TheVariants as trouble
use Rattle.ocfl_messages.specs.{Stop.{stop_text}, Refusal.{refusal_text}}
use Rattle.ocfl_messages.specs.declared.stop.StopMessage.{StopMessage}
use Rattle.ocfl_messages.specs.declared.stop.StopMessage.TheVariants as stopped
use Rattle.ocfl_messages.specs.declared.refusal.RefusalMessage.{RefusalMessage}
use Rattle.ocfl_messages.specs.declared.refusal.RefusalMessage.TheVariants as message
use Rattle.ocfl_kept.specs.{Lent.{lent}, declared.names.Names.{Names}}
use Rattle.ocfl_terms.specs.declared.{plan.Halt.{Halt}, refusal.Refusal.{Refusal}, stop.Stop.{Stop}}
use Rattle.ocfl_terms.specs.declared.plan.Halt.TheVariants as halt
use Rattle.ocfl_terms.specs.declared.refusal.Refusal.TheVariants as refusal
use Rattle.ocfl_terms.specs.declared.stop.Stop.TheVariants as stop

-- the line on a night that did nothing, or nothing more
abbrev pub refused_line : RefusalMessage → Names → Text
refused_line why n = refusal_text why n.root.now n.state.now

-- the line on a night that stopped, with the system's words on the call that failed
abbrev pub stopped_line : StopMessage → Option Text → Names → Text
stopped_line why words n = stop_text why words n.part n.root.now n.state.now

-- why a checkpoint is refused; no line says that memory was
abbrev pub message_on : Refused → Option RefusalMessage
message_on (refused.NotA kind) = Some message.NotCheckpoint
message_on refused.Version = Some message.Version
message_on refused.Damaged = Some message.Damaged
message_on refused.Malformed = Some message.Malformed
message_on refused.Memory = None

-- the path from `/` on of the root that a folder belongs to, if that is another one
abbrev pub bound_path : Refusal → Text
bound_path (refusal.OtherRoot place) = codes "/" ++ slashed place
bound_path _ = []

-- why a night is refused, in whose words the folder belongs to the root with this path
abbrev pub message_of : Refusal → Bor Text → Option RefusalMessage
message_of refusal.NoCheckpoint bound = Some message.NoCheckpoint
message_of refusal.HasReports bound = Some message.HasReports
message_of (refusal.Unread why) bound = message_on why
message_of refusal.NoRoot bound = Some message.NoRoot
message_of (refusal.OtherRoot place) bound = Some (message.OtherRoot bound)
message_of refusal.OtherPart bound = Some message.OtherPart
message_of (refusal.OtherAudit further) bound = Some (message.OtherAudit further)
message_of refusal.OtherDeclaration bound = Some message.OtherDeclaration
message_of (refusal.Older cycle) bound = Some (message.Older cycle)
message_of (refusal.NamesGone gone before) bound = Some (message.NamesGone gone before)

abbrev pub line_of_refusal : Refusal → Names → Option Text
line_of_refusal why n = option_map (λ m. refused_line m n) (message_of why (lent (bound_path why)))

-- a run that stopped at a place, for what the system said there, or as memory was refused
abbrev pub line_of_fault : Fault → Option Text → Names → Text
line_of_fault (fault.Store place) there n = stopped_line (stopped.At (lent place)) there n
line_of_fault fault.Memory there n = stopped_line stopped.Memory None n

-- all that is no refusal, no place and no output is the state folder's. `words` are the system's on the
-- last call on it that failed, and `there` on the last over the storage root
abbrev pub line_of_stop : Stop → Option Text → Option Text → Names → Text
line_of_stop stop.Worn words there n = refused_line message.Worn n
line_of_stop stop.Output words there n = stopped_line stopped.Output None n
line_of_stop (stop.Unread place) words there n = stopped_line (stopped.At (lent place)) there n
line_of_stop (stop.Folder trouble.Memory) words there n = stopped_line stopped.Memory None n
line_of_stop (stop.TooLong text) words there n = stopped_line stopped.State (Some (codes "checkpoint.new: more than 1 MiB")) n
line_of_stop _ words there n = stopped_line stopped.State words n

-- of a night that ended as it may, nothing is said
abbrev pub ending_line : Halt → Option Text → Option Text → Names → Option Text
ending_line (halt.Refused why) words there n = line_of_refusal why n
ending_line halt.RootChanged words there n = Some (refused_line message.RootChanged n)
ending_line (halt.Stopped why) words there n = Some (line_of_fault why there n)
ending_line (halt.Troubled why) words there n = Some (line_of_stop why words there n)
ending_line _ words there n = None
