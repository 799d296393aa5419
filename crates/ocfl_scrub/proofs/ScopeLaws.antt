-- What is said and handed back after a command within a scope.
use Rattle.std.proofs.Common.{◌≡◌, ◌≢◌, refl, sym, ◌∙◌, ap, subst, inl, inr, ℕ, List, [], Option, Bool, Vec}
use Rattle.std.specs.{Io.KnownBytes.{Appends}, declared.alloc.Global.{Global}}
use Rattle.ocfl_tree.specs.{Place.{Text}, StorageRoot.{StorageRoot}, Store.{Store}}
use Rattle.ocfl_report.specs.{Line.{found}, Text.{text}}
use Rattle.ocfl_rules.specs.{Audit.{audit}, Parts.{Part, within}}
use Rattle.ocfl_deed.specs.declared.deed.Deed.{Deed}
use Rattle.ocfl_report.specs.declared.further.Further.{Further}
use Rattle.ocfl_scrub.specs.{Call.{Call, call_of}, Noting.{status_of}, Performing.{OutOfMemoryFirst, PartAudited, Performs, further_of}}
use Rattle.ocfl_scrub.specs.Scoping.{AuditPerformedIn, IsAuditNoteIn, PerformsIn, part_of_scope}
use Rattle.ocfl_scrub.specs.WholeAudit.{AuditEndsWithin}
use Rattle.ocfl_scrub.specs.{declared.auditing.AuditEnd.{AuditEnd}, declared.note.Note.{Note}}
use Rattle.ocfl_scrub.specs.declared.checking.AuditStatus.TheVariants as end
use Rattle.ocfl_scrub.specs.declared.note.Note.TheVariants as note
use Rattle.ocfl_scope.specs.declared.scope.Scope.{Scope}
use Rattle.ocfl_scope.specs.declared.scope.Scope.TheVariants as scope

-- ---- audits

-- what is known of an audit of a part without failures, by what is said after it
abbrev IsClean : Further → StorageRoot → Option (List ℕ) → Option (List ℕ) → Part → Bool → Type 0
IsClean further root old new part finding = Appends old new (text (within part (audit further root []))) × (finding ≡ found (within part (audit further root [])))

module _ (further : Further) (root : StorageRoot) (s t : Store) (old new : Option (List ℕ)) (made : Part) (ran : AuditEnd) (status : ℕ) (n : Note)
    (audits : AuditEndsWithin (call_of further root s t old new) made ran.last ran.found ran.end)
    (clean : ran.end ≡ end.Ended → t.failures ≡ s.failures → IsClean further root old new made ran.found)
    (nothing : n ≡ note.Nothing → (ran.end ≡ end.Ended) × (status ≡ status_of ran.found)) where
  clean_said : (part : Part) → made ≡ part → n ≡ note.Nothing → t.failures ≡ s.failures
      → Appends old new (text (within part (audit further root []))) × (status ≡ status_of (found (within part (audit further root []))))
  clean_said part same e f =
      let ended = nothing e in
      let well = subst (λ p. IsClean further root old new p ran.found) same (clean ended.0 f) in
      (well.0, ended.1 ∙ ap status_of well.1)

  pub part_audited : {Says : AuditEnd → Type 0} (part : Part) → made ≡ part → Says ran → PartAudited Says (call_of further root s t old new) part status n
  part_audited part same says = record {
    audits = record { ran = ran; audits = subst (λ q. AuditEndsWithin (call_of further root s t old new) q ran.last ran.found ran.end) same audits; says = says };
    clean = clean_said part same;
  }

-- ---- by the scope

pub audited_in : {call : Call} (w : Scope) {status : ℕ} {n : Note} → PartAudited (λ ran. IsAuditNoteIn w ran.found ran.end ran.last status n) call (part_of_scope w) status n → AuditPerformedIn call w status n
audited_in scope.Whole h = h
audited_in (scope.Branch p) h = inl h
audited_in (scope.Part e) h = inl h

pub unmade_in : {call : Call} (w : Scope) {status : ℕ} {n : Note} → w ≢ scope.Whole → OutOfMemoryFirst call status n → AuditPerformedIn call w status n
unmade_in scope.Whole other h = absurd (other refl)
unmade_in (scope.Branch p) other h = inr h
unmade_in (scope.Part e) other h = inr h

-- ---- by what is asked for

module _ (d e : Deed) (w v : Scope) (known : Option (Option Text)) (root : StorageRoot) (s t : Store) (old new : Option (List ℕ)) (status : ℕ) (n : Note) (stored : Option (Vec ℕ Global)) where
  -- the call has the option of the deed
  abbrev call_for : Deed → Call
  call_for x = call_of (further_of x) root s t old new

  pub as_asked : d ≡ e → w ≡ v → PerformsIn (call_for e) e v known status n stored → PerformsIn (call_for d) d w known status n stored
  as_asked p q h = subst (λ x. PerformsIn (call_for x) x w known status n stored) (sym p) (subst (λ x. PerformsIn (call_for e) e x known status n stored) (sym q) h)

  -- the scope makes no difference
  pub as_whole : d ≡ e → w ≡ v → (Performs (call_for e) known e status n stored → PerformsIn (call_for e) e v known status n stored)
      → Performs (call_for d) known d status n stored → PerformsIn (call_for d) d w known status n stored
  as_whole p q same h = as_asked p q (same (subst (λ x. Performs (call_for x) known x status n stored) p h))
