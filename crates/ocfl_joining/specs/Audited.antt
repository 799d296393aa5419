-- Closed reports of parts that are what audits have there.
use Rattle.std.specs.Prelude.{List, map, Option, Some}
use Rattle.ocfl_tree.specs.{Place.{Text}, StorageRoot.{StorageRoot}}
use Rattle.ocfl_report.specs.Text.{text}
use Rattle.ocfl_rules.specs.{Audit.{Unread, audit}, Parts.{Part, within}}
use Rattle.ocfl_joining.specs.Missing.{KnownPart}

-- a part, the files that its own runs could not read, and what is known of the report that it closed
pub record AuditedPart : Type 0 where
  pub part : Part
  pub unread : Unread
  pub known : KnownPart

-- what the audit has in it that checks what the nights of the part check
abbrev pub report_of : StorageRoot → AuditedPart → Text
report_of root p = text (within p.part (audit p.known.further root p.unread))

abbrev pub all_known : List AuditedPart → List (Option KnownPart)
all_known parts = map (λ p. Some p.known) parts

abbrev pub all_unread : List AuditedPart → List (Part × Unread)
all_unread parts = map (λ p. (p.part, p.unread)) parts
