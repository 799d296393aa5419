-- What is said and handed back after a run.
use Rattle.std.proofs.Common.{◌≡◌, refl, sym, ◌∙◌, ap, subst, ℕ, List, [], Option, Some, None, Vec, inl, inr}
use Rattle.std.specs.Prelude.{◌≢◌, IsNone, IsSome, IfSome, ◌⊎◌, String, string_bytes}
use Rattle.std.specs.declared.alloc.Global.{Global}
use Rattle.ocfl_tree.specs.{Place.{Text, Place}, StorageRoot.{StorageRoot}, Store.{Store}}
use Rattle.ocfl_report.specs.declared.further.Further.{Further}
use Rattle.ocfl_report.specs.{Line.{found}, Text.{text}}
use Rattle.ocfl_rules.specs.{Audit.{audit}, Parts.{Part, whole}, Runs.{Limits}}
use Rattle.ocfl_cursor.specs.{Cursor.{Cursor, IsCursor}, Moves.{after_run}}
use Rattle.ocfl_cursor.specs.declared.limits.Limits.{Limits as MadeLimits}
use Rattle.ocfl_deed.specs.declared.deed.Deed.{Deed}
use Rattle.ocfl_deed.specs.declared.deed.Deed.TheVariants as deed
use Rattle.ocfl_scrub.specs.declared.stop.ReportStop.TheVariants as halt
use Rattle.ocfl_scope.specs.Finding.{IsNoPath}
use Rattle.ocfl_cursor.specs.declared.ends.PartEnds.{PartEnds}
use Rattle.ocfl_scrub.specs.Call.{Call, IsUnfailing, Writes, call_of}
use Rattle.ocfl_scrub.specs.Noting.{AuditsWithNote, IsAuditNote, IsRanSaid, IsRefused, IsStatus, IsStoredNote, status_of}
use Rattle.ocfl_scrub.specs.Scoping.{BeginsPartWith, IsPartFirst, IsPartOfOther}
use Rattle.ocfl_scrub.specs.Performing.{AnswersOnAnyStore, AuditPerformed, BeginsWith, Performs, HandedBack, IsFirst, IsOfOther, further_of, IsKept, IsSilent, IsWhole, IsWithoutFile, RefusesPath, RunMade, RunUnmade, RunWorn}
use Rattle.ocfl_scrub.specs.Running.{IsPaid, IsWorn, RunsCleanlyWithin, RunsFromWithin, RunsOnAnyStore, begun, limits_of, state_after}
use Rattle.ocfl_scrub.specs.{declared.note.Note.{Note}, declared.performing.Performed.{Performed}}
use Rattle.ocfl_scrub.specs.declared.running.RunEnd.{RunEnd}
use Rattle.ocfl_scrub.specs.declared.running.RunStatus.{RunStatus}
use Rattle.ocfl_scrub.specs.declared.note.Note.TheVariants as note
use Rattle.ocfl_scrub.specs.declared.running.RunStatus.TheVariants as run

pub worn_or_not : (how : RunStatus) → (how ≡ run.Worn) ⊎ (how ≢ run.Worn)
worn_or_not run.Worn = inl refl
worn_or_not run.Ended = inr (λ e. cc)
worn_or_not run.Spent = inr (λ e. cc)
worn_or_not (run.Stopped why) = inr (λ e. cc)

-- what is known of a run from a cursor and of what is said after it, on any store
pub record Made (Begins : Cursor → Type 0) (text_of : Cursor → Text) (limits : Limits) (from : Cursor) (ran : RunEnd) (said : Performed) : Type 0 where
  pub begins : Begins from
  pub paid : IsPaid limits ran.spent ran.files
  pub keeps : IsCursor ran.cursor
  pub leads : ran.end ≢ run.Worn → (last : Option Place) × (ran.cursor ≡ after_run (begun from) ran.spent ran.files (state_after ran.end last))
  pub is_worn : ran.end ≡ run.Worn → IsWorn from
  pub worn_says : ran.end ≡ run.Worn → said.note ≡ note.CursorWorn
  pub worn_ends : ran.end ≡ run.Worn → (said.status ≡ 3) × IsNone said.cursor
  pub says : ran.end ≢ run.Worn → IsStoredNote text_of ran.cursor ran.spent ran.found ran.end said.status said.note said.cursor

-- what a run does on any store
module _ {S O : Type 0} {contents : O → Option (List ℕ)} {before after : S} {old new : O} {from : Cursor} {limits : MadeLimits} {ran : RunEnd}
    (r : RunsOnAnyStore contents before after old new from limits ran) where
  pub made_by : {Begins : Cursor → Type 0} {text_of : Cursor → Text} {said : Performed} → Begins from → IsCursor ran.cursor → (ran.end ≡ run.Worn → said.note ≡ note.CursorWorn)
      → (ran.end ≡ run.Worn → (said.status ≡ 3) × IsNone said.cursor)
      → (ran.end ≢ run.Worn → IsStoredNote text_of ran.cursor ran.spent ran.found ran.end said.status said.note said.cursor) → Made Begins text_of (limits_of limits) from ran said
  made_by begins keeps worn_says worn_ends says = record {
    begins = begins;
    paid = r.paid;
    keeps = keeps;
    leads = r.cursor;
    is_worn = r.worn.0;
    worn_says = worn_says;
    worn_ends = worn_ends;
    says = says;
  }

  pub worn_silent : (state : S → Store) → ran.end ≡ run.Worn → (state after ≡ state before) × (contents new ≡ contents old)
  worn_silent state worn = (ap state (r.worn_silent worn).0, ap contents (r.worn_silent worn).1)

-- of what a run says, it is of a worn cursor alone that nothing was done
silent_worn : (n : Note) → IsRanSaid n → IsSilent n → n ≡ note.CursorWorn
silent_worn note.CursorWorn h k = refl
silent_worn note.BadPath h k = absurd h
silent_worn note.CursorFileFailed h k = absurd h
silent_worn (note.CursorRefused why) h k = absurd h
silent_worn (note.PartCursorRefused why) h k = absurd h
silent_worn (note.OtherAudit other) h k = absurd h
silent_worn n h k = absurd k

no_file_failed : (known : Option (Option Text)) (further : Further) (limits : MadeLimits) (n : Note) → IsRanSaid n → IsWithoutFile known (deed.Run further limits) n
no_file_failed None further limits n h = λ e. subst IsRanSaid e h
no_file_failed (Some known) further limits n h = tt

-- a run answers on any store as what is said of it
module _ {S O : Type 0} {contents : O → Option (List ℕ)} {before after : S} {old new : O} {from : Cursor} {limits : MadeLimits} {ran : RunEnd}
    (r : RunsOnAnyStore contents before after old new from limits ran) where
  pub run_answers : (further : Further) (known : Option (Option Text)) (said : Performed) → IsStatus said.status said.note → IsRanSaid said.note → (said.note ≡ note.CursorWorn → ran.end ≡ run.Worn)
      → IsKept said.note said.cursor → (IsWhole said.note → (ran.end ≢ run.Stopped halt.Output) × (said.status ≡ status_of ran.found))
      → (said.note ≢ note.OutputFailed → (said.note ≢ note.OutOfMemory) ⊎ IsSome said.cursor → ran.end ≢ run.Stopped halt.Output)
      → AnswersOnAnyStore contents before after old new known (deed.Run further limits) said
  run_answers further known said status says worn kept whole uncut = record {
    status = status;
    silent = λ h. r.worn_silent (worn (silent_worn said.note says h));
    show_calls = λ e. absurd (let two : deed.Run further limits ≡ deed.Show = e in cc);
    show_ends = λ e. absurd (let two : deed.Run further limits ≡ deed.Show = e in cc);
    unshown = tt;
    kept = kept;
    without_file = no_file_failed known further limits said.note says;
    bad_path = tt;
    bad_path_silent = λ h. absurd h;
    lines = record {
      uncut = λ written held. (ran.found, r.lines (uncut written held));
      whole = λ h. let k = whole h in (ran.found, (k.1, r.lines k.0));
    };
  }

module _ {Begins : Cursor → Type 0} {text_of : Cursor → Text} {limits : Limits} {from : Cursor} {ran : RunEnd} {said : Performed} (h : Made Begins text_of limits from ran said) where
  -- a text that is handed back is that of the cursor that the run answered
  pub handed_back : IfSome said.cursor (λ handed. HandedBack Begins text_of limits said.status said.note handed.items)
  handed_back = by said.cursor h.worn_ends h.says
    where
      by : (stored : Option (Vec ℕ Global)) → (ran.end ≡ run.Worn → (said.status ≡ 3) × IsNone stored)
          → (ran.end ≢ run.Worn → IsStoredNote text_of ran.cursor ran.spent ran.found ran.end said.status said.note stored)
          → IfSome stored (λ handed. HandedBack Begins text_of limits said.status said.note handed.items)
      by None ends says = tt
      by (Some v) ends says =
          let unworn : ran.end ≢ run.Worn = λ e. let gone = (ends e).1 in cc in
          record {
            from = from;
            begins = h.begins;
            ran = ran;
            paid = h.paid;
            last = (h.leads unworn).0;
            cursor_is = (h.leads unworn).1;
            keeps = h.keeps;
            handed_is = (says unworn).0;
            says = (says unworn).1;
          }

  -- the same run on a store that tells its tree
  pub run_performed : {Why : Type 0} (call : Call) (made part : Part) → made ≡ part → (RunWorn Begins said.status said.note → Why)
      → (ran.end ≡ run.Worn → (call.after ≡ call.before) × (call.new ≡ call.old))
      → (ran.end ≢ run.Worn → RunsFromWithin call made from limits ran) → (IsUnfailing call → RunsCleanlyWithin call made from limits ran.spent ran.files ran.found ran.end)
      → RunMade Begins text_of call part limits said.status said.note said.cursor ⊎ RunUnmade Why call said.cursor
  run_performed {Why} call made part same unmade silent runs clean = by (worn_or_not ran.end)
    where
      by : (ran.end ≡ run.Worn) ⊎ (ran.end ≢ run.Worn) → RunMade Begins text_of call part limits said.status said.note said.cursor ⊎ RunUnmade Why call said.cursor
      by (inl worn) = inr (record {
        why = unmade (record { from = from; begins = h.begins; worn = h.is_worn worn; status_is = (h.worn_ends worn).0; says = h.worn_says worn });
        uncalled = (silent worn).0;
        unwritten = (silent worn).1;
        unkept = (h.worn_ends worn).1;
      })
      by (inr went) = inl (record {
        from = from;
        begins = h.begins;
        runs = record {
          ran = ran;
          runs = subst (λ q. RunsFromWithin call q from limits ran) same (runs went);
          clean = λ f. subst (λ q. RunsCleanlyWithin call q from limits ran.spent ran.files ran.found ran.end) same (clean f);
          keeps = h.keeps;
          says = h.says went;
        };
      })

  -- it was made from a cursor with this option
  pub run_performed_with : {Why : Type 0} (further : Further) (root : StorageRoot) (s t : Store) (old new : Option (List ℕ)) (made part : Part) → from.further ≡ further → made ≡ part
      → (RunWorn Begins said.status said.note → Why) → (ran.end ≡ run.Worn → (t ≡ s) × (new ≡ old))
      → (ran.end ≢ run.Worn → RunsFromWithin (call_of from.further root s t old new) made from limits ran)
      → (t.failures ≡ s.failures → RunsCleanlyWithin (call_of from.further root s t old new) made from limits ran.spent ran.files ran.found ran.end)
      → RunMade Begins text_of (call_of further root s t old new) part limits said.status said.note said.cursor ⊎ RunUnmade Why (call_of further root s t old new) said.cursor
  run_performed_with {Why} further root s t old new made part e same unmade silent runs clean =
      subst (λ o. RunMade Begins text_of (call_of o root s t old new) part limits said.status said.note said.cursor ⊎ RunUnmade Why (call_of o root s t old new) said.cursor) e
      (run_performed (call_of from.further root s t old new) made part same unmade silent runs clean)

-- the cursor that is stored is of an audit with the option
pub begins_with : (further : Further) (known : Option (Option Text)) (read c : Cursor) → IsFirst further known read → (c ≡ read) × (read.further ≡ further) → BeginsWith further known c
begins_with further known read c is same = (ap (λ x. x.further) same.0 ∙ same.1, subst (IsFirst further known) (sym same.0) is)

pub begins_part_with : (further : Further) (e : PartEnds) (known : Option (Option Text)) (read c : Cursor) → IsPartFirst further e known read → (c ≡ read) × (read.further ≡ further)
    → BeginsPartWith further e known c
begins_part_with further e known read c is same = (ap (λ x. x.further) same.0 ∙ same.1, subst (IsPartFirst further e known) (sym same.0) is)

-- or of one with the other option
pub other_stored : (further : Further) (known : Option (Option Text)) (c : Cursor) (other : Further) → IsFirst further known c → c.further ≡ other → other ≢ further → IsOfOther further known other
other_stored further None c other is e differs = absurd (differs (sym e ∙ ap (λ x. x.further) is))
other_stored further (Some None) c other is e differs = (differs, tt)
other_stored further (Some (Some bytes)) c other is e differs = (differs, (c, (is, e)))

pub other_part_stored : (further : Further) (e : PartEnds) (known : Option (Option Text)) (c : Cursor) (other : Further) → IsPartFirst further e known c → c.further ≡ other → other ≢ further → IsPartOfOther further e known other
other_part_stored further e None c other is of differs = absurd (differs (sym of ∙ ap (λ x. x.further) is))
other_part_stored further e (Some None) c other is of differs = (differs, tt)
other_part_stored further e (Some (Some bytes)) c other is of differs = (differs, (c, (is, of)))

-- a deed that is another one was done by a call with its option
pub performs_as : (root : StorageRoot) (s t : Store) (old new : Option (List ℕ)) (known : Option (Option Text)) (d e : Deed) (status : ℕ) (n : Note) (stored : Option (Vec ℕ Global))
    → d ≡ e → Performs (call_of (further_of e) root s t old new) known e status n stored → Performs (call_of (further_of d) root s t old new) known d status n stored
performs_as root s t old new known d e status n stored is h = subst (λ x. Performs (call_of (further_of x) root s t old new) known x status n stored) (sym is) h

-- a whole root that was audited, as it is said
pub audit_performed : (call : Call) (status status' : ℕ) (n n' : Note)
    → status ≡ status' → n ≡ n' → AuditsWithNote (λ ran. IsAuditNote ran.found ran.end status' n') call whole
    → (n' ≡ note.Nothing → IsUnfailing call → Writes call (text (audit call.further call.root [])) × (status' ≡ status_of (found (audit call.further call.root []))))
    → AuditPerformed call status n
audit_performed call status status' n n' s m audits clean = rw (s, m) (record { audits = audits; clean = clean })

-- a path that was checked is refused as the check refuses it
pub path_refused : (d : Deed) (further : Further) (path : String Global) (read : Text) (status status' : ℕ) (n n' : Note)
    → d ≡ deed.Check further path → read ≡ string_bytes path → status ≡ status' → n ≡ n'
    → (IsNoPath read → IsRefused status' n') → (n' ≡ note.BadPath → IsNoPath read) → RefusesPath d status n
path_refused d further path read status status' n n' e r s m bad only = rw (e, s, m, ← r) (bad, only)
