-- The plain types that clauses see: what is answered, and how it ended.
pub use Rattle.ocfl_scrub.specs.declared.auditing.AuditEnd.{AuditEnd}
pub use Rattle.ocfl_scrub.specs.declared.checking.AuditStatus.{AuditStatus}
pub use Rattle.ocfl_scrub.specs.declared.checking.CheckEnd.{CheckEnd}
pub use Rattle.ocfl_scrub.specs.declared.cycling.CycleEnd.{CycleEnd}
pub use Rattle.ocfl_scrub.specs.declared.cycling.CycleStatus.{CycleStatus}
pub use Rattle.ocfl_scrub.specs.declared.note.Note.{Note}
pub use Rattle.ocfl_scrub.specs.declared.performing.Performed.{Performed}
pub use Rattle.ocfl_scrub.specs.declared.running.RunEnd.{RunEnd}
pub use Rattle.ocfl_scrub.specs.declared.running.RunStatus.{RunStatus}
pub use Rattle.ocfl_scrub.specs.declared.stop.ReportStop.{ReportStop}
