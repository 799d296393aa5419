-- What a command within a scope ends with.
use Rattle.std.proofs.Common.{◌≡◌, refl, sym, ◌∙◌, ap, ℕ, ◌≤◌, ◌&&◌, nat_le, true, List, [], ◌∷◌, ◌++◌, length, Option, Some, None, Vec, inl, inr}
use Rattle.std.proofs.lemmas.Bool.{true≢false}
use Rattle.std.specs.{Prelude.{◌≢◌, ◌⊎◌}, declared.alloc.Global.{Global}, List.{last_or}}
use Rattle.ocfl_tree.specs.{Place.{Text, Place}, declared.store.Opening.{Opening}}
use Rattle.ocfl_report.specs.declared.further.Further.{Further}
use Rattle.ocfl_report.specs.Line.{Item}
use Rattle.ocfl_rules.specs.{Audit.{audit}, Parts.{branch, within}, Trail.{unread_of}}
use Rattle.ocfl_cursor.specs.{Cursor.{Cursor}, Part.{IsPartText}, Refusal.{IsTextOf}}
use Rattle.ocfl_cursor.specs.{Stop.{is_read_as_part, max_part_text}, declared.ends.PartEnds.{PartEnds}}
use Rattle.ocfl_cursor.specs.declared.refused.PartRefused.{PartRefused}
use Rattle.ocfl_cursor.specs.declared.refused.PartRefused.TheVariants as part
use Rattle.ocfl_cursor.specs.declared.refused.Refused.TheVariants as refused
use Rattle.ocfl_cursor.specs.declared.refused.TextKind.TheVariants as kind
use Rattle.ocfl_cursor.proofs.PartLimited.{read_as_part}
use Rattle.ocfl_cursor.proofs.PartRefusals.{front-part_text, only_memory, whole_has_no_part_front}
use Rattle.ocfl_deed.specs.declared.deed.Deed.{Deed}
use Rattle.ocfl_deed.specs.declared.deed.Deed.TheVariants as deed
use Rattle.ocfl_scrub.specs.declared.stop.ReportStop.{ReportStop}
use Rattle.ocfl_item.specs.declared.fault.Fault.TheVariants as fault
use Rattle.ocfl_scrub.specs.declared.stop.ReportStop.TheVariants as halt
use Rattle.ocfl_scrub.specs.{Call.{Call}, Noting.{IsStopNote}}
use Rattle.ocfl_scrub.specs.Performing.{HandsBack, IsSaid, Performs, RefusesRightly}
use Rattle.ocfl_scrub.specs.Scoping.{BranchAudited, HandsBackIn, IsBranchNote, IsSaidIn, PartRefusesRightly, PerformsIn, RefusesRightlyIn}
use Rattle.ocfl_scrub.specs.{WholeAudit.{AuditEndsWithin}, Written.{places}}
use Rattle.ocfl_scrub.specs.{declared.checking.AuditStatus.{AuditStatus}, declared.note.Note.{Note}}
use Rattle.ocfl_scrub.specs.declared.checking.AuditStatus.TheVariants as end
use Rattle.ocfl_scrub.specs.declared.note.Note.TheVariants as note
use Rattle.ocfl_scope.specs.declared.scope.Scope.TheVariants as scope

-- ---- within the whole

pub whole_said : (d : Deed) (n : Note) → IsSaidIn d scope.Whole n → IsSaid d n
whole_said (deed.Audit further) n h = h
whole_said d n h = h

pub whole_refused : (d : Deed) (known : Option (Option (List ℕ))) (n : Note) → RefusesRightlyIn d scope.Whole known n → RefusesRightly d known n
whole_refused (deed.Audit further) known n h = h
whole_refused d known n h = h

pub whole_handed_back : (d : Deed) (known : Option (Option (List ℕ))) (status : ℕ) (n : Note) (stored : Option (Vec ℕ Global))
    → HandsBackIn d scope.Whole known status n stored → HandsBack known d status n stored
whole_handed_back (deed.Audit further) known status n stored h = h
whole_handed_back d known status n stored h = h

pub whole_told : (call : Call) (d : Deed) (known : Option (Option (List ℕ))) (status : ℕ) (n : Note) (stored : Option (Vec ℕ Global))
    → PerformsIn call d scope.Whole known status n stored → Performs call known d status n stored
whole_told call (deed.Audit further) known status n stored h = h
whole_told call d known status n stored h = h

-- ---- branches

no_stop : (why : ReportStop) (n : Note) → (n ≡ note.EmptyBranch) ⊎ (n ≡ note.Nothing) → IsStopNote why n → ⊥
no_stop (halt.Fault (fault.Store p)) n (inl e) h = cc
no_stop (halt.Fault (fault.Store p)) n (inr e) h = cc
no_stop (halt.Fault fault.Memory) n (inl e) h = cc
no_stop (halt.Fault fault.Memory) n (inr e) h = cc
no_stop halt.Output n (inl e) h = cc
no_stop halt.Output n (inr e) h = cc

-- after one place there is a last one
last_of_more : (p : Place) (ps : List Place) → last_or (Some p) ps ≡ None → ⊥
last_of_more p [] e = cc
last_of_more p (q ∷ ps) e = last_of_more q ps e

no_items : (items : List Item) → last_or None (places items) ≡ None → items ≡ []
no_items [] e = refl
no_items (i ∷ items) e = absurd (last_of_more i.place (places items) e)

-- the items of a branch, as the audit that ended could read them
abbrev Ended : Call → Place → (List Item → Type 0) → Type 0
Ended call p holds = (trail : List Opening) × ((call.after.openings ≡ call.before.openings ++ trail) × holds (within (branch p) (audit call.further call.root (unread_of call.further call.root trail))))

module _ (call : Call) (p : Place) (status : ℕ) where
  pub no_item : BranchAudited call p status note.EmptyBranch → Ended call p (λ items. items ≡ [])
  no_item h = by h.audits.ran.end h.audits.ran.last h.audits.audits h.audits.says
    where
      by : (how : AuditStatus) (last : Option Place) → AuditEndsWithin call (branch p) last h.audits.ran.found how → IsBranchNote h.audits.ran.found how last status note.EmptyBranch → Ended call p (λ items. items ≡ [])
      by end.Ended None a says = (a.trail, (a.looks.audits.did.openings_are, no_items _ (sym a.last_is)))
      by end.Ended (Some q) a says = absurd (let e = says.1 in cc)
      by (end.Stopped why) last a says = absurd (no_stop why note.EmptyBranch (inl refl) says.1)

  pub some_item : BranchAudited call p status note.Nothing → Ended call p (λ items. items ≢ [])
  some_item h = by h.audits.ran.end h.audits.ran.last h.audits.audits h.audits.says
    where
      by : (how : AuditStatus) (last : Option Place) → AuditEndsWithin call (branch p) last h.audits.ran.found how → IsBranchNote h.audits.ran.found how last status note.Nothing → Ended call p (λ items. items ≢ [])
      by end.Ended None a says = absurd (let e = says.1 in cc)
      by end.Ended (Some q) a says = (a.trail, (a.looks.audits.did.openings_are, λ none. let last = a.last_is ∙ ap (λ items. last_or None (places items)) none in cc))
      by (end.Stopped why) last a says = absurd (no_stop why note.Nothing (inr refl) says.1)

-- ---- cursors of parts

pub own_cursor : (further : Further) (e : PartEnds) (b : Text) (c : Cursor) (why : PartRefused) → IsPartText e b c → length b ≤ max_part_text
    → PartRefusesRightly further e (Some (Some b)) (note.PartCursorRefused why) → why ≡ part.Text refused.Memory
own_cursor further e b c (part.Text (refused.NotA t)) h few k = absurd (true≢false (sym (read_as_part b (front-part_text e b c h) few) ∙ k.1))
own_cursor further e b c (part.Text refused.Version) h few k = only_memory e b c h (part.Text refused.Version) k.1
own_cursor further e b c (part.Text refused.Damaged) h few k = only_memory e b c h (part.Text refused.Damaged) k.1
own_cursor further e b c (part.Text refused.Malformed) h few k = only_memory e b c h (part.Text refused.Malformed) k.1
own_cursor further e b c (part.Text refused.Memory) h few k = refl
own_cursor further e b c part.OtherPart h few k = only_memory e b c h part.OtherPart k.1

pub cursor_of_a_part : (further : Further) (e f : PartEnds) (b : Text) (c : Cursor) (why : PartRefused) → IsPartText f b c → length b ≤ max_part_text
    → PartRefusesRightly further e (Some (Some b)) (note.PartCursorRefused why) → (why ≡ part.OtherPart) ⊎ (why ≡ part.Text refused.Memory)
cursor_of_a_part further e f b c (part.Text (refused.NotA t)) h few k = absurd (true≢false (sym (read_as_part b (front-part_text f b c h) few) ∙ k.1))
cursor_of_a_part further e f b c (part.Text refused.Version) h few k = absurd (k.1.1 (f, (c, h)))
cursor_of_a_part further e f b c (part.Text refused.Damaged) h few k = absurd (k.1.1 (f, (c, h)))
cursor_of_a_part further e f b c (part.Text refused.Malformed) h few k = absurd (k.1.1 (f, (c, h)))
cursor_of_a_part further e f b c (part.Text refused.Memory) h few k = inr refl
cursor_of_a_part further e f b c part.OtherPart h few k = inl refl

-- the text of a whole root's cursor is not read as that of a part
not_read : (b : Text) (c : Cursor) → IsTextOf b c → is_read_as_part b ≡ true → ⊥
not_read b c h k = true≢false (sym k ∙ ap (λ r. r && nat_le (length b) max_part_text) (whole_has_no_part_front b c h))

pub cursor_of_the_whole : (further : Further) (e : PartEnds) (b : Text) (c : Cursor) (why : PartRefused) → IsTextOf b c
    → PartRefusesRightly further e (Some (Some b)) (note.PartCursorRefused why) → (why ≡ part.Text (refused.NotA kind.Cursor)) ⊎ (why ≡ part.Text refused.Memory)
cursor_of_the_whole further e b c (part.Text (refused.NotA t)) h k = inl (ap (λ t. part.Text (refused.NotA t)) k.0)
cursor_of_the_whole further e b c (part.Text refused.Version) h k = absurd (not_read b c h k.0)
cursor_of_the_whole further e b c (part.Text refused.Damaged) h k = absurd (not_read b c h k.0)
cursor_of_the_whole further e b c (part.Text refused.Malformed) h k = absurd (not_read b c h k.0)
cursor_of_the_whole further e b c (part.Text refused.Memory) h k = inr refl
cursor_of_the_whole further e b c part.OtherPart h k = absurd (not_read b c h k.0)
