-- What the status and the text that a command ends with say of it.
use Rattle.std.proofs.Common.{◌≡◌, refl, sym, ◌∙◌, ℕ, ◌≤◌, suc, [], Option, Some, None, Vec, inl, inr, Bool, true, false, arith}
use Rattle.std.specs.{Prelude.{◌≢◌, ◌⊎◌, ◌↔◌}, declared.alloc.Global.{Global}}
use Rattle.ocfl_tree.specs.Place.{Place}
use Rattle.ocfl_report.specs.declared.further.Further.{Further}
use Rattle.ocfl_report.specs.declared.further.Further.TheVariants.{Nothing}
use Rattle.ocfl_cursor.specs.{Cursor.{Cursor, start, new_cursor}, declared.limits.Limits.{Limits}}
use Rattle.ocfl_cursor.specs.declared.reading.CursorStop.{CursorStop}
use Rattle.ocfl_cursor.specs.declared.part_reading.PartCursorStop.{PartCursorStop}
use Rattle.ocfl_cursor.specs.declared.refused.PartRefused.{PartRefused}
use Rattle.ocfl_cursor.specs.declared.showing.ShowStop.{ShowStop}
use Rattle.ocfl_cursor.specs.declared.refused.Refused.{Refused}
use Rattle.ocfl_cursor.specs.declared.reading.CursorStop.TheVariants as stop
use Rattle.ocfl_cursor.specs.declared.part_reading.PartCursorStop.TheVariants as stops
use Rattle.ocfl_cursor.specs.declared.refused.PartRefused.TheVariants as part
use Rattle.ocfl_cursor.specs.declared.showing.ShowStop.TheVariants as show
use Rattle.ocfl_cursor.specs.declared.refused.Refused.TheVariants as refused
use Rattle.ocfl_scrub.specs.declared.stop.ReportStop.{ReportStop}
use Rattle.ocfl_item.specs.declared.fault.Fault.TheVariants as fault
use Rattle.ocfl_scrub.specs.declared.stop.ReportStop.TheVariants as halt
use Rattle.ocfl_deed.specs.declared.deed.Deed.{Deed}
use Rattle.ocfl_deed.specs.declared.deed.Deed.TheVariants as deed
use Rattle.ocfl_scrub.specs.Noting.{IsStatus, IsStopSaid, IsRunSaid, IsStopNote, IsAuditSaid, IsCheckSaid, IsCycleSaid, IsShowSaid, IsCheckNote, IsAuditNote, IsRunNote, IsCycleNote, IsUnreadNote, IsOtherNote, IsPartRefusedNote, IsUnshownNote, IsRanSaid}
use Rattle.ocfl_scrub.specs.Performing.{IsKept, IsKeptBy, IsSilent, IsWhole}
use Rattle.ocfl_scrub.specs.Scoping.{IsBranchNote, IsBranchSaid, IsPartRunSaid, IsPartUnreadNote}
use Rattle.ocfl_scrub.specs.declared.checking.AuditStatus.{AuditStatus}
use Rattle.ocfl_scrub.specs.declared.running.RunStatus.{RunStatus}
use Rattle.ocfl_scrub.specs.{declared.cycling.CycleStatus.{CycleStatus}, declared.note.Note.{Note}}
use Rattle.ocfl_scrub.specs.declared.checking.AuditStatus.TheVariants as end
use Rattle.ocfl_scrub.specs.declared.running.RunStatus.TheVariants as run
use Rattle.ocfl_scrub.specs.declared.cycling.CycleStatus.TheVariants as cycle
use Rattle.ocfl_scrub.specs.declared.note.Note.TheVariants as note

module _ {A B : Type 0} where
  agree : A → B → A ↔ B
  agree a b = (λ x. b, λ y. a)

  neither : (A → ⊥) → (B → ⊥) → A ↔ B
  neither f g = (λ x. absurd (f x), λ y. absurd (g y))

  none_of : (A → ⊥) → (B → ⊥) → A ⊎ B → ⊥
  none_of f g (inl x) = f x
  none_of f g (inr y) = g y

never : ⊥ → ⊥
never x = x

-- ---- statuses

small : (s : ℕ) → (s ≡ 0) ⊎ (s ≡ 1) → s ≤ 1
small s (inl e) = omega (arith, e)
small s (inr e) = omega (arith, e)

not_small : (s : ℕ) → (suc (suc s) ≡ 0) ⊎ (suc (suc s) ≡ 1) → ⊥
not_small s h = let m = small (suc (suc s)) h in omega (arith, m)

pub without_finding : (n : Note) → IsStatus 0 n ↔ (IsWhole n ⊎ (n ≡ note.NoItem))
without_finding note.Nothing = agree (inl refl) (inl tt)
without_finding note.NoItem = agree refl (inr refl)
without_finding note.EmptyBranch = neither (λ e. omega (arith, e)) (none_of never (λ e. cc))
without_finding note.BadPath = neither (λ e. omega (arith, e)) (none_of never (λ e. cc))
without_finding (note.StoppedAt p) = neither (λ e. omega (arith, e)) (none_of never (λ e. cc))
without_finding note.OutOfMemory = neither (λ e. omega (arith, e)) (none_of never (λ e. cc))
without_finding note.OutputFailed = neither (λ e. omega (arith, e)) (none_of never (λ e. cc))
without_finding (note.RunMade cycle runs cost ended) = agree (inl refl) (inl tt)
without_finding (note.CycleMade runs cost ended) = agree (inl refl) (inl tt)
without_finding note.CursorWorn = neither (λ e. omega (arith, e)) (none_of never (λ e. cc))
without_finding note.CursorFileFailed = neither (λ e. omega (arith, e)) (none_of never (λ e. cc))
without_finding (note.CursorRefused why) = neither (λ h. let e = h.0 in omega (arith, e)) (none_of never (λ e. cc))
without_finding (note.PartCursorRefused why) = neither (λ h. let e = h.0 in omega (arith, e)) (none_of never (λ e. cc))
without_finding (note.OtherAudit other) = neither (λ e. omega (arith, e)) (none_of never (λ e. cc))

pub with_finding : (n : Note) → IsStatus 1 n ↔ IsWhole n
with_finding note.Nothing = agree (inr refl) tt
with_finding note.NoItem = neither (λ e. omega (arith, e)) never
with_finding note.EmptyBranch = neither (λ e. omega (arith, e)) never
with_finding note.BadPath = neither (λ e. omega (arith, e)) never
with_finding (note.StoppedAt p) = neither (λ e. omega (arith, e)) never
with_finding note.OutOfMemory = neither (λ e. omega (arith, e)) never
with_finding note.OutputFailed = neither (λ e. omega (arith, e)) never
with_finding (note.RunMade cycle runs cost ended) = agree (inr refl) tt
with_finding (note.CycleMade runs cost ended) = agree (inr refl) tt
with_finding note.CursorWorn = neither (λ e. omega (arith, e)) never
with_finding note.CursorFileFailed = neither (λ e. omega (arith, e)) never
with_finding (note.CursorRefused why) = neither (λ h. let e = h.0 in omega (arith, e)) never
with_finding (note.PartCursorRefused why) = neither (λ h. let e = h.0 in omega (arith, e)) never
with_finding (note.OtherAudit other) = neither (λ e. omega (arith, e)) never

pub of_nothing_there : (n : Note) → IsStatus 2 n ↔ ((n ≡ note.BadPath) ⊎ (n ≡ note.EmptyBranch))
of_nothing_there note.Nothing = neither (not_small 0) (none_of (λ e. cc) (λ e. cc))
of_nothing_there note.NoItem = neither (λ e. omega (arith, e)) (none_of (λ e. cc) (λ e. cc))
of_nothing_there note.BadPath = agree refl (inl refl)
of_nothing_there note.EmptyBranch = agree refl (inr refl)
of_nothing_there (note.StoppedAt p) = neither (λ e. omega (arith, e)) (none_of (λ e. cc) (λ e. cc))
of_nothing_there note.OutOfMemory = neither (λ e. omega (arith, e)) (none_of (λ e. cc) (λ e. cc))
of_nothing_there note.OutputFailed = neither (λ e. omega (arith, e)) (none_of (λ e. cc) (λ e. cc))
of_nothing_there (note.RunMade cycle runs cost ended) = neither (not_small 0) (none_of (λ e. cc) (λ e. cc))
of_nothing_there (note.CycleMade runs cost ended) = neither (not_small 0) (none_of (λ e. cc) (λ e. cc))
of_nothing_there note.CursorWorn = neither (λ e. omega (arith, e)) (none_of (λ e. cc) (λ e. cc))
of_nothing_there note.CursorFileFailed = neither (λ e. omega (arith, e)) (none_of (λ e. cc) (λ e. cc))
of_nothing_there (note.CursorRefused why) = neither (λ h. let e = h.0 in omega (arith, e)) (none_of (λ e. cc) (λ e. cc))
of_nothing_there (note.PartCursorRefused why) = neither (λ h. let e = h.0 in omega (arith, e)) (none_of (λ e. cc) (λ e. cc))
of_nothing_there (note.OtherAudit other) = neither (λ e. omega (arith, e)) (none_of (λ e. cc) (λ e. cc))

pub after_failures : (n : Note) → IsStatus 3 n ↔ (IsStopSaid n ⊎ ((n ≡ note.CursorWorn) ⊎ (n ≡ note.CursorFileFailed)))
after_failures note.Nothing = neither (not_small 1) (none_of never (none_of (λ e. cc) (λ e. cc)))
after_failures note.NoItem = neither (λ e. omega (arith, e)) (none_of never (none_of (λ e. cc) (λ e. cc)))
after_failures note.BadPath = neither (λ e. omega (arith, e)) (none_of never (none_of (λ e. cc) (λ e. cc)))
after_failures note.EmptyBranch = neither (λ e. omega (arith, e)) (none_of never (none_of (λ e. cc) (λ e. cc)))
after_failures (note.StoppedAt p) = agree refl (inl tt)
after_failures note.OutOfMemory = agree refl (inl tt)
after_failures note.OutputFailed = agree refl (inl tt)
after_failures (note.RunMade cycle runs cost ended) = neither (not_small 1) (none_of never (none_of (λ e. cc) (λ e. cc)))
after_failures (note.CycleMade runs cost ended) = neither (not_small 1) (none_of never (none_of (λ e. cc) (λ e. cc)))
after_failures note.CursorWorn = agree refl (inr (inl refl))
after_failures note.CursorFileFailed = agree refl (inr (inr refl))
after_failures (note.CursorRefused why) = neither (λ h. let e = h.0 in omega (arith, e)) (none_of never (none_of (λ e. cc) (λ e. cc)))
after_failures (note.PartCursorRefused why) = neither (λ h. let e = h.0 in omega (arith, e)) (none_of never (none_of (λ e. cc) (λ e. cc)))
after_failures (note.OtherAudit other) = neither (λ e. omega (arith, e)) (none_of never (none_of (λ e. cc) (λ e. cc)))

-- a cursor is refused, and not for want of memory
abbrev IsRefusedCursor : Note → Type 0
IsRefusedCursor n = ((why : Refused) × ((n ≡ note.CursorRefused why) × (why ≢ refused.Memory))) ⊎ (((why : PartRefused) × ((n ≡ note.PartCursorRefused why) × (why ≢ part.Text refused.Memory))) ⊎ ((other : Further) × (n ≡ note.OtherAudit other)))

pub of_refused_cursors : (n : Note)
    → IsStatus 4 n ↔ (((why : Refused) × ((n ≡ note.CursorRefused why) × (why ≢ refused.Memory))) ⊎ (((why : PartRefused) × ((n ≡ note.PartCursorRefused why) × (why ≢ part.Text refused.Memory))) ⊎ ((other : Further) × (n ≡ note.OtherAudit other))))
of_refused_cursors note.Nothing = neither (not_small 2) (none_of (λ h. let e = h.1.0 in cc) (none_of (λ h. let e = h.1.0 in cc) (λ h. let e = h.1 in cc)))
of_refused_cursors note.NoItem = neither (λ e. omega (arith, e)) (none_of (λ h. let e = h.1.0 in cc) (none_of (λ h. let e = h.1.0 in cc) (λ h. let e = h.1 in cc)))
of_refused_cursors note.EmptyBranch = neither (λ e. omega (arith, e)) (none_of (λ h. let e = h.1.0 in cc) (none_of (λ h. let e = h.1.0 in cc) (λ h. let e = h.1 in cc)))
of_refused_cursors note.BadPath = neither (λ e. omega (arith, e)) (none_of (λ h. let e = h.1.0 in cc) (none_of (λ h. let e = h.1.0 in cc) (λ h. let e = h.1 in cc)))
of_refused_cursors (note.StoppedAt p) = neither (λ e. omega (arith, e)) (none_of (λ h. let e = h.1.0 in cc) (none_of (λ h. let e = h.1.0 in cc) (λ h. let e = h.1 in cc)))
of_refused_cursors note.OutOfMemory = neither (λ e. omega (arith, e)) (none_of (λ h. let e = h.1.0 in cc) (none_of (λ h. let e = h.1.0 in cc) (λ h. let e = h.1 in cc)))
of_refused_cursors note.OutputFailed = neither (λ e. omega (arith, e)) (none_of (λ h. let e = h.1.0 in cc) (none_of (λ h. let e = h.1.0 in cc) (λ h. let e = h.1 in cc)))
of_refused_cursors (note.RunMade cycle runs cost ended) = neither (not_small 2) (none_of (λ h. let e = h.1.0 in cc) (none_of (λ h. let e = h.1.0 in cc) (λ h. let e = h.1 in cc)))
of_refused_cursors (note.CycleMade runs cost ended) = neither (not_small 2) (none_of (λ h. let e = h.1.0 in cc) (none_of (λ h. let e = h.1.0 in cc) (λ h. let e = h.1 in cc)))
of_refused_cursors note.CursorWorn = neither (λ e. omega (arith, e)) (none_of (λ h. let e = h.1.0 in cc) (none_of (λ h. let e = h.1.0 in cc) (λ h. let e = h.1 in cc)))
of_refused_cursors note.CursorFileFailed = neither (λ e. omega (arith, e)) (none_of (λ h. let e = h.1.0 in cc) (none_of (λ h. let e = h.1.0 in cc) (λ h. let e = h.1 in cc)))
of_refused_cursors (note.CursorRefused why) = (λ h. inl (why, (refl, h.1)), by)
  where
    by : IsRefusedCursor (note.CursorRefused why) → IsStatus 4 (note.CursorRefused why)
    by (inl k) = (refl, λ f. let e = k.1.0 in let same : k.0 ≡ why = cc in k.1.1 (same ∙ f))
    by (inr (inl k)) = absurd (let e = k.1.0 in cc)
    by (inr (inr k)) = absurd (let e = k.1 in cc)
of_refused_cursors (note.OtherAudit other) = agree refl (inr (inr (other, refl)))
of_refused_cursors (note.PartCursorRefused why) = (λ h. inr (inl (why, (refl, h.1))), by)
  where
    by : IsRefusedCursor (note.PartCursorRefused why) → IsStatus 4 (note.PartCursorRefused why)
    by (inl k) = absurd (let e = k.1.0 in cc)
    by (inr (inl k)) = (refl, λ f. let e = k.1.0 in let same : k.0 ≡ why = cc in k.1.1 (same ∙ f))
    by (inr (inr k)) = absurd (let e = k.1 in cc)

pub no_other_status : (status : ℕ) (n : Note) → IsStatus status n → status ≤ 4
no_other_status status note.Nothing h = let m = small status h in omega (arith, m)
no_other_status status note.NoItem h = omega (arith, h)
no_other_status status note.EmptyBranch h = omega (arith, h)
no_other_status status note.BadPath h = omega (arith, h)
no_other_status status (note.StoppedAt p) h = omega (arith, h)
no_other_status status note.OutOfMemory h = omega (arith, h)
no_other_status status note.OutputFailed h = omega (arith, h)
no_other_status status (note.RunMade cycle runs cost ended) h = let m = small status h in omega (arith, m)
no_other_status status (note.CycleMade runs cost ended) h = let m = small status h in omega (arith, m)
no_other_status status note.CursorWorn h = omega (arith, h)
no_other_status status note.CursorFileFailed h = omega (arith, h)
no_other_status status (note.CursorRefused why) h = let e = h.0 in omega (arith, e)
no_other_status status (note.PartCursorRefused why) h = let e = h.0 in omega (arith, e)
no_other_status status (note.OtherAudit other) h = omega (arith, h)

-- ---- if nothing was done

-- a text that says something else, with another status
otherwise : (status : ℕ) (n : Note) {A : Type 0} → (A → ⊥) → (n ≡ note.BadPath → ⊥) → (status ≡ 4 → ⊥) → (n ≡ note.CursorWorn → ⊥) → (n ≡ note.CursorFileFailed → ⊥)
    → A ↔ ((n ≡ note.BadPath) ⊎ ((status ≡ 4) ⊎ ((n ≡ note.CursorWorn) ⊎ (n ≡ note.CursorFileFailed))))
otherwise status n a b c d e = neither a (none_of b (none_of c (none_of d e)))

pub nothing_done : (status : ℕ) (n : Note) → IsStatus status n → IsSilent n ↔ ((n ≡ note.BadPath) ⊎ ((status ≡ 4) ⊎ ((n ≡ note.CursorWorn) ⊎ (n ≡ note.CursorFileFailed))))
nothing_done status note.Nothing h = let m = small status h in otherwise status note.Nothing never (λ e. cc) (λ e. omega (arith, m, e)) (λ e. cc) (λ e. cc)
nothing_done status note.NoItem h = otherwise status note.NoItem never (λ e. cc) (λ e. omega (arith, h, e)) (λ e. cc) (λ e. cc)
nothing_done status note.BadPath h = agree tt (inl refl)
nothing_done status note.EmptyBranch h = otherwise status note.EmptyBranch never (λ e. cc) (λ e. omega (arith, h, e)) (λ e. cc) (λ e. cc)
nothing_done status (note.StoppedAt p) h = otherwise status (note.StoppedAt p) never (λ e. cc) (λ e. omega (arith, h, e)) (λ e. cc) (λ e. cc)
nothing_done status note.OutOfMemory h = otherwise status note.OutOfMemory never (λ e. cc) (λ e. omega (arith, h, e)) (λ e. cc) (λ e. cc)
nothing_done status note.OutputFailed h = otherwise status note.OutputFailed never (λ e. cc) (λ e. omega (arith, h, e)) (λ e. cc) (λ e. cc)
nothing_done status (note.RunMade cycle runs cost ended) h =
    let m = small status h in otherwise status (note.RunMade cycle runs cost ended) never (λ e. cc) (λ e. omega (arith, m, e)) (λ e. cc) (λ e. cc)
nothing_done status (note.CycleMade runs cost ended) h = let m = small status h in otherwise status (note.CycleMade runs cost ended) never (λ e. cc) (λ e. omega (arith, m, e)) (λ e. cc) (λ e. cc)
nothing_done status note.CursorWorn h = agree tt (inr (inr (inl refl)))
nothing_done status note.CursorFileFailed h = agree tt (inr (inr (inr refl)))
nothing_done status (note.CursorRefused why) h = agree tt (inr (inl h.0))
nothing_done status (note.PartCursorRefused why) h = agree tt (inr (inl h.0))
nothing_done status (note.OtherAudit other) h = agree tt (inr (inl h))

-- ---- the cursor that a run hands back

unsaid : {A : Type 0} → ⊥ ⊎ ⊥ → A
unsaid (inl h) = absurd h
unsaid (inr h) = absurd h

pub cursor_kept : (n : Note) (stored : Vec ℕ Global) → IsRunSaid n ⊎ IsPartRunSaid n → IsKept n (Some stored) ↔ (IsWhole n ⊎ IsStopSaid n)
cursor_kept note.Nothing stored h = unsaid h
cursor_kept note.NoItem stored h = unsaid h
cursor_kept note.EmptyBranch stored h = unsaid h
cursor_kept note.BadPath stored h = unsaid h
cursor_kept (note.StoppedAt p) stored h = agree refl (inr tt)
cursor_kept note.OutOfMemory stored h = agree tt (inr tt)
cursor_kept note.OutputFailed stored h = agree refl (inr tt)
cursor_kept (note.RunMade cycle runs cost ended) stored h = agree refl (inl tt)
cursor_kept (note.CycleMade runs cost ended) stored h = unsaid h
cursor_kept note.CursorWorn stored h = neither (λ e. cc) (none_of never never)
cursor_kept note.CursorFileFailed stored h = neither (λ e. cc) (none_of never never)
cursor_kept (note.CursorRefused why) stored h = neither (λ e. cc) (none_of never never)
cursor_kept (note.PartCursorRefused why) stored h = neither (λ e. cc) (none_of never never)
cursor_kept (note.OtherAudit other) stored h = neither (λ e. cc) (none_of never never)

pub no_cursor_kept : (n : Note) → IsRunSaid n ⊎ IsPartRunSaid n → IsKept n None ↔ (IsSilent n ⊎ (n ≡ note.OutOfMemory))
no_cursor_kept note.Nothing h = unsaid h
no_cursor_kept note.NoItem h = unsaid h
no_cursor_kept note.EmptyBranch h = unsaid h
no_cursor_kept note.BadPath h = unsaid h
no_cursor_kept (note.StoppedAt p) h = neither (λ e. cc) (none_of never (λ e. cc))
no_cursor_kept note.OutOfMemory h = agree tt (inr refl)
no_cursor_kept note.OutputFailed h = neither (λ e. cc) (none_of never (λ e. cc))
no_cursor_kept (note.RunMade cycle runs cost ended) h = neither (λ e. cc) (none_of never (λ e. cc))
no_cursor_kept (note.CycleMade runs cost ended) h = unsaid h
no_cursor_kept note.CursorWorn h = agree refl (inl tt)
no_cursor_kept note.CursorFileFailed h = agree refl (inl tt)
no_cursor_kept (note.CursorRefused why) h = agree refl (inl tt)
no_cursor_kept (note.PartCursorRefused why) h = agree refl (inl tt)
no_cursor_kept (note.OtherAudit other) h = agree refl (inl tt)

pub of_a_run_alone : (d : Deed) (n : Note) (stored : Vec ℕ Global) → IsKeptBy d n (Some stored) → (further : Further) × ((limits : Limits) × (d ≡ deed.Run further limits))
of_a_run_alone (deed.Audit further) n stored h = absurd cc
of_a_run_alone (deed.Run further limits) n stored h = (further, (limits, refl))
of_a_run_alone (deed.Cycle further limits count) n stored h = absurd cc
of_a_run_alone (deed.Check further path) n stored h = absurd cc
of_a_run_alone deed.Show n stored h = absurd cc

-- ---- what is said is said by how it ended

stop_says_one : (why : ReportStop) (m n : Note) → IsStopNote why m → IsStopNote why n → m ≡ n
stop_says_one (halt.Fault (fault.Store p)) m n h k = h ∙ sym k
stop_says_one (halt.Fault fault.Memory) m n h k = h ∙ sym k
stop_says_one halt.Output m n h k = h ∙ sym k

module _ (a b : ℕ) (m n : Note) where
  pub check_says_one : (item finding : Bool) (how : AuditStatus) → IsCheckNote item finding how a m → IsCheckNote item finding how b n → (a ≡ b) × (m ≡ n)
  check_says_one item finding end.Ended h k = (h.0 ∙ sym k.0, h.1 ∙ sym k.1)
  check_says_one item finding (end.Stopped why) h k = (h.0 ∙ sym k.0, stop_says_one why m n h.1 k.1)

  pub audit_says_one : (finding : Bool) (how : AuditStatus) → IsAuditNote finding how a m → IsAuditNote finding how b n → (a ≡ b) × (m ≡ n)
  audit_says_one finding end.Ended h k = (h.0 ∙ sym k.0, h.1 ∙ sym k.1)
  audit_says_one finding (end.Stopped why) h k = (h.0 ∙ sym k.0, stop_says_one why m n h.1 k.1)

  pub run_says_one : (c : Cursor) (spent : ℕ) (finding : Bool) (how : RunStatus) → IsRunNote c spent finding how a m → IsRunNote c spent finding how b n → (a ≡ b) × (m ≡ n)
  run_says_one c spent finding run.Ended h k = (h.0 ∙ sym k.0, h.1 ∙ sym k.1)
  run_says_one c spent finding run.Spent h k = (h.0 ∙ sym k.0, h.1 ∙ sym k.1)
  run_says_one c spent finding (run.Stopped why) h k = (h.0 ∙ sym k.0, stop_says_one why m n h.1 k.1)
  run_says_one c spent finding run.Worn h k = (h.0 ∙ sym k.0, h.1 ∙ sym k.1)

  pub cycle_says_one : (runs spent : ℕ) (finding : Bool) (how : CycleStatus) → IsCycleNote runs spent finding how a m → IsCycleNote runs spent finding how b n → (a ≡ b) × (m ≡ n)
  cycle_says_one runs spent finding cycle.Ended h k = (h.0 ∙ sym k.0, h.1 ∙ sym k.1)
  cycle_says_one runs spent finding cycle.Spent h k = (h.0 ∙ sym k.0, h.1 ∙ sym k.1)
  cycle_says_one runs spent finding (cycle.Stopped why) h k = (h.0 ∙ sym k.0, stop_says_one why m n h.1 k.1)

  pub unread_says_one : (why : CursorStop) → IsUnreadNote why a m → IsUnreadNote why b n → (a ≡ b) × (m ≡ n)
  unread_says_one stop.Read h k = (h.0 ∙ sym k.0, h.1 ∙ sym k.1)
  unread_says_one (stop.Refused refused.Memory) h k = (h.0 ∙ sym k.0, h.1 ∙ sym k.1)
  unread_says_one (stop.Refused (refused.NotA t)) h k = (h.0 ∙ sym k.0, h.1 ∙ sym k.1)
  unread_says_one (stop.Refused refused.Version) h k = (h.0 ∙ sym k.0, h.1 ∙ sym k.1)
  unread_says_one (stop.Refused refused.Damaged) h k = (h.0 ∙ sym k.0, h.1 ∙ sym k.1)
  unread_says_one (stop.Refused refused.Malformed) h k = (h.0 ∙ sym k.0, h.1 ∙ sym k.1)

  part_refused_says_one : (why : PartRefused) → IsPartRefusedNote why a m → IsPartRefusedNote why b n → (a ≡ b) × (m ≡ n)
  part_refused_says_one (part.Text refused.Memory) h k = (h.0 ∙ sym k.0, h.1 ∙ sym k.1)
  part_refused_says_one (part.Text (refused.NotA t)) h k = (h.0 ∙ sym k.0, h.1 ∙ sym k.1)
  part_refused_says_one (part.Text refused.Version) h k = (h.0 ∙ sym k.0, h.1 ∙ sym k.1)
  part_refused_says_one (part.Text refused.Damaged) h k = (h.0 ∙ sym k.0, h.1 ∙ sym k.1)
  part_refused_says_one (part.Text refused.Malformed) h k = (h.0 ∙ sym k.0, h.1 ∙ sym k.1)
  part_refused_says_one part.OtherPart h k = (h.0 ∙ sym k.0, h.1 ∙ sym k.1)

  pub unshown_says_one : (why : ShowStop) → IsUnshownNote why a m → IsUnshownNote why b n → (a ≡ b) × (m ≡ n)
  unshown_says_one (show.Whole why) h k = unread_says_one why h k
  unshown_says_one (show.Part why) h k = part_refused_says_one (part.Text why) h k

  pub branch_says_one : (finding : Bool) (how : AuditStatus) (last : Option Place) → IsBranchNote finding how last a m → IsBranchNote finding how last b n → (a ≡ b) × (m ≡ n)
  branch_says_one finding end.Ended None h k = (h.0 ∙ sym k.0, h.1 ∙ sym k.1)
  branch_says_one finding end.Ended (Some p) h k = audit_says_one finding end.Ended h k
  branch_says_one finding (end.Stopped why) last h k = audit_says_one finding (end.Stopped why) h k

  pub part_unread_says_one : (why : PartCursorStop) → IsPartUnreadNote why a m → IsPartUnreadNote why b n → (a ≡ b) × (m ≡ n)
  part_unread_says_one stops.Read h k = (h.0 ∙ sym k.0, h.1 ∙ sym k.1)
  part_unread_says_one (stops.Refused why) h k = part_refused_says_one why h k

  pub other_says_one : (other : Further) → IsOtherNote other a m → IsOtherNote other b n → (a ≡ b) × (m ≡ n)
  other_says_one other h k = (h.0 ∙ sym k.0, h.1 ∙ sym k.1)

-- ---- what a command says is said of one of its ends

pub audit_said : (status : ℕ) (n : Note) → IsStatus status n → IsAuditSaid n → (finding : Bool) × ((how : AuditStatus) × IsAuditNote finding how status n)
audit_said status note.Nothing (inl e) h = (false, (end.Ended, (e, refl)))
audit_said status note.Nothing (inr e) h = (true, (end.Ended, (e, refl)))
audit_said status (note.StoppedAt p) e h = (false, (end.Stopped (halt.Fault (fault.Store p)), (e, refl)))
audit_said status note.OutOfMemory e h = (false, (end.Stopped (halt.Fault fault.Memory), (e, refl)))
audit_said status note.OutputFailed e h = (false, (end.Stopped halt.Output, (e, refl)))
audit_said status n e h = absurd h

pub check_said : (status : ℕ) (n : Note) → IsStatus status n → IsCheckSaid n → (n ≡ note.BadPath) ⊎ ((item : Bool) × ((finding : Bool) × ((how : AuditStatus) × IsCheckNote item finding how status n)))
check_said status note.BadPath e h = inl refl
check_said status note.NoItem e h = inr (false, (false, (end.Ended, (e, refl))))
check_said status note.Nothing (inl e) h = inr (true, (false, (end.Ended, (e, refl))))
check_said status note.Nothing (inr e) h = inr (true, (true, (end.Ended, (e, refl))))
check_said status (note.StoppedAt p) e h = inr (false, (false, (end.Stopped (halt.Fault (fault.Store p)), (e, refl))))
check_said status note.OutOfMemory e h = inr (false, (false, (end.Stopped (halt.Fault fault.Memory), (e, refl))))
check_said status note.OutputFailed e h = inr (false, (false, (end.Stopped halt.Output, (e, refl))))
check_said status n e h = absurd h

pub cycle_said : (status : ℕ) (n : Note) → IsStatus status n → IsCycleSaid n → (runs : ℕ) × ((spent : ℕ) × ((finding : Bool) × ((how : CycleStatus) × IsCycleNote runs spent finding how status n)))
cycle_said status (note.CycleMade runs cost true) (inl e) h = (runs, (cost, (false, (cycle.Ended, (e, refl)))))
cycle_said status (note.CycleMade runs cost true) (inr e) h = (runs, (cost, (true, (cycle.Ended, (e, refl)))))
cycle_said status (note.CycleMade runs cost false) (inl e) h = (runs, (cost, (false, (cycle.Spent, (e, refl)))))
cycle_said status (note.CycleMade runs cost false) (inr e) h = (runs, (cost, (true, (cycle.Spent, (e, refl)))))
cycle_said status (note.StoppedAt p) e h = (0, (0, (false, (cycle.Stopped (halt.Fault (fault.Store p)), (e, refl)))))
cycle_said status note.OutOfMemory e h = (0, (0, (false, (cycle.Stopped (halt.Fault fault.Memory), (e, refl)))))
cycle_said status note.OutputFailed e h = (0, (0, (false, (cycle.Stopped halt.Output, (e, refl)))))
cycle_said status n e h = absurd h

-- no cursor was read
unread_said : (status : ℕ) (why : Refused) → (status ≡ 4) × (why ≢ refused.Memory) → (how : CursorStop) × IsUnreadNote how status (note.CursorRefused why)
unread_said status (refused.NotA t) e = (stop.Refused (refused.NotA t), (e.0, refl))
unread_said status refused.Version e = (stop.Refused refused.Version, (e.0, refl))
unread_said status refused.Damaged e = (stop.Refused refused.Damaged, (e.0, refl))
unread_said status refused.Malformed e = (stop.Refused refused.Malformed, (e.0, refl))
unread_said status refused.Memory e = absurd (e.1 refl)

-- a cursor of this cycle and this number of runs
abbrev counted : ℕ → ℕ → Cursor
counted cycle runs = record { cycle = cycle; runs = runs; spent = 0; files = 0; further = Nothing; state = start }

-- a run was made
ran_said : (status : ℕ) (n : Note) → IsStatus status n → IsRanSaid n → (c : Cursor) × ((spent : ℕ) × ((finding : Bool) × ((how : RunStatus) × IsRunNote c spent finding how status n)))
ran_said status (note.RunMade cycle runs cost true) (inl e) h = (counted cycle runs, (cost, (false, (run.Ended, (e, refl)))))
ran_said status (note.RunMade cycle runs cost true) (inr e) h = (counted cycle runs, (cost, (true, (run.Ended, (e, refl)))))
ran_said status (note.RunMade cycle runs cost false) (inl e) h = (counted cycle runs, (cost, (false, (run.Spent, (e, refl)))))
ran_said status (note.RunMade cycle runs cost false) (inr e) h = (counted cycle runs, (cost, (true, (run.Spent, (e, refl)))))
ran_said status (note.StoppedAt p) e h = (new_cursor Nothing, (0, (false, (run.Stopped (halt.Fault (fault.Store p)), (e, refl)))))
ran_said status note.OutOfMemory e h = (new_cursor Nothing, (0, (false, (run.Stopped (halt.Fault fault.Memory), (e, refl)))))
ran_said status note.OutputFailed e h = (new_cursor Nothing, (0, (false, (run.Stopped halt.Output, (e, refl)))))
ran_said status note.CursorWorn e h = (new_cursor Nothing, (0, (false, (run.Worn, (e, refl)))))
ran_said status n e h = absurd h

pub run_said : (status : ℕ) (n : Note) → IsStatus status n → IsRunSaid n
    → ((c : Cursor) × ((spent : ℕ) × ((finding : Bool) × ((how : RunStatus) × IsRunNote c spent finding how status n)))) ⊎ (((how : CursorStop) × IsUnreadNote how status n) ⊎ ((other : Further) × IsOtherNote other status n))
run_said status note.CursorFileFailed e h = inr (inl (stop.Read, (e, refl)))
run_said status (note.CursorRefused why) e h = inr (inl (unread_said status why e))
run_said status (note.OtherAudit other) e h = inr (inr (other, (e, refl)))
run_said status n e h = inl (ran_said status n e h)

-- why a part's cursor is refused, as its text says
part_refused_said : (status : ℕ) (why : PartRefused) → (status ≡ 4) × (why ≢ part.Text refused.Memory) → IsPartRefusedNote why status (note.PartCursorRefused why)
part_refused_said status (part.Text (refused.NotA t)) e = (e.0, refl)
part_refused_said status (part.Text refused.Version) e = (e.0, refl)
part_refused_said status (part.Text refused.Damaged) e = (e.0, refl)
part_refused_said status (part.Text refused.Malformed) e = (e.0, refl)
part_refused_said status (part.Text refused.Memory) e = absurd (e.1 refl)
part_refused_said status part.OtherPart e = (e.0, refl)

pub show_said : (status : ℕ) (n : Note) → IsStatus status n → IsShowSaid n → (n ≡ note.Nothing) ⊎ ((n ≡ note.OutputFailed) ⊎ ((how : ShowStop) × IsUnshownNote how status n))
show_said status note.Nothing e h = inl refl
show_said status note.OutputFailed e h = inr (inl refl)
show_said status note.OutOfMemory e h = inr (inr (show.Whole (stop.Refused refused.Memory), (e, refl)))
show_said status note.CursorFileFailed e h = inr (inr (show.Whole stop.Read, (e, refl)))
show_said status (note.CursorRefused why) e h = let how = unread_said status why e in inr (inr (show.Whole how.0, how.1))
show_said status (note.PartCursorRefused (part.Text why)) e h = inr (inr (show.Part why, part_refused_said status (part.Text why) e))
show_said status (note.PartCursorRefused part.OtherPart) e h = absurd h
show_said status n e h = absurd h

pub branch_said : (status : ℕ) (n : Note) → IsStatus status n → IsBranchSaid n → (finding : Bool) × ((how : AuditStatus) × ((last : Option Place) × IsBranchNote finding how last status n))
branch_said status note.EmptyBranch e h = (false, (end.Ended, (None, (e, refl))))
branch_said status note.Nothing (inl e) h = (false, (end.Ended, (Some [], (e, refl))))
branch_said status note.Nothing (inr e) h = (true, (end.Ended, (Some [], (e, refl))))
branch_said status (note.StoppedAt p) e h = (false, (end.Stopped (halt.Fault (fault.Store p)), (None, (e, refl))))
branch_said status note.OutOfMemory e h = (false, (end.Stopped (halt.Fault fault.Memory), (None, (e, refl))))
branch_said status note.OutputFailed e h = (false, (end.Stopped halt.Output, (None, (e, refl))))
branch_said status n e h = absurd h

pub part_run_said : (status : ℕ) (n : Note) → IsStatus status n → IsPartRunSaid n
    → ((c : Cursor) × ((spent : ℕ) × ((finding : Bool) × ((how : RunStatus) × IsRunNote c spent finding how status n)))) ⊎ (((how : PartCursorStop) × IsPartUnreadNote how status n) ⊎ ((other : Further) × IsOtherNote other status n))
part_run_said status note.CursorFileFailed e h = inr (inl (stops.Read, (e, refl)))
part_run_said status (note.PartCursorRefused why) e h = inr (inl (stops.Refused why, part_refused_said status why e))
part_run_said status (note.OtherAudit other) e h = inr (inr (other, (e, refl)))
part_run_said status n e h = inl (ran_said status n e h)
