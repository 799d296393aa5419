-- What is refused, shown and handed back of a cursor that is stored.
use Rattle.std.proofs.Common.{◌≡◌, refl, subst, arith, sym, ◌∙◌, ap, ℕ, ◌+◌, ◌<◌, ◌≤◌, ◌++◌, length, take, Bool, true, false, Option, Some, None, Vec, inl, inr}
use Rattle.std.proofs.lemmas.Bool.{true≢false}
use Rattle.std.specs.{Prelude.{◌≢◌, ◌↔◌, if◌then◌else◌}, declared.alloc.Global.{Global}}
use Rattle.ocfl_tree.specs.Place.{Text, Place}
use Rattle.ocfl_report.specs.declared.further.Further.{Further}
use Rattle.ocfl_cursor.specs.Cursor.{Cursor, new_cursor, cursor_lines, cursor_text}
use Rattle.ocfl_cursor.specs.{Moves.{after_run}, Part.{IsPartText, part_lines}}
use Rattle.ocfl_cursor.specs.{Refusal.{refusal, IsTextOf}, Shown.{AreShown, IsShownFrom}}
use Rattle.ocfl_cursor.specs.{Stop.{max_part_text}, declared.ends.PartEnds.{PartEnds}}
use Rattle.ocfl_cursor.specs.declared.limits.Limits.{Limits as MadeLimits}
use Rattle.ocfl_cursor.specs.declared.refused.PartRefused.{PartRefused}
use Rattle.ocfl_cursor.specs.declared.refused.Refused.{Refused}
use Rattle.ocfl_cursor.proofs.PartLimited.{read_as_part}
use Rattle.ocfl_cursor.proofs.{PartRefusals.{front-part_text}, Refusals.{only_memory}}
use Rattle.ocfl_rules.specs.Runs.{Limits}
use Rattle.ocfl_cursor.specs.declared.refused.PartRefused.TheVariants as part
use Rattle.ocfl_cursor.specs.declared.refused.Refused.TheVariants as refused
use Rattle.ocfl_deed.specs.declared.deed.Deed.{Deed}
use Rattle.ocfl_deed.specs.declared.deed.Deed.TheVariants as deed
use Rattle.ocfl_scrub.specs.declared.stop.ReportStop.{ReportStop}
use Rattle.ocfl_item.specs.declared.fault.Fault.TheVariants as fault
use Rattle.ocfl_scrub.specs.declared.stop.ReportStop.TheVariants as halt
use Rattle.ocfl_scrub.specs.Noting.{IsRunNote, IsStopNote}
use Rattle.ocfl_scrub.specs.Performing.{BeginsWith, RefusesRightly, UnshownSaid, IsWithoutFile, ShowsWith, HandsBack, HandedBack}
use Rattle.ocfl_scrub.specs.Running.{IsPaid, begun, limits_of, state_after}
use Rattle.ocfl_scrub.specs.{declared.note.Note.{Note}, declared.running.RunStatus.{RunStatus}}
use Rattle.ocfl_scrub.specs.declared.note.Note.TheVariants as note
use Rattle.ocfl_scrub.specs.declared.running.RunStatus.TheVariants as run

-- ---- what is refused

refused_so : (bytes : Text) (why : Refused) → ((why ≡ refusal bytes) × (((c : Cursor) × IsTextOf bytes c) → ⊥)) ↔ (((c : Cursor) → IsTextOf bytes c → ⊥) × (why ≡ refusal bytes))
refused_so bytes why = (λ h. (λ c is. h.1 (c, is), h.0), λ k. (k.1, λ one. k.0 one.0 one.1))

pub refused_for : (d : Deed) (bytes : Text) (why : Refused) → why ≢ refused.Memory
    → RefusesRightly d (Some (Some bytes)) (note.CursorRefused why) ↔ (((c : Cursor) → IsTextOf bytes c → ⊥) × (why ≡ refusal bytes))
refused_for d bytes refused.Memory some = absurd (some refl)
refused_for d bytes (refused.NotA t) some = refused_so bytes (refused.NotA t)
refused_for d bytes refused.Version some = refused_so bytes refused.Version
refused_for d bytes refused.Damaged some = refused_so bytes refused.Damaged
refused_for d bytes refused.Malformed some = refused_so bytes refused.Malformed

-- a part's cursor that is to be shown is not refused as that of a whole root
pub no_whole_refused : (e : PartEnds) (bytes : Text) (c : Cursor) (why : Refused) → IsPartText e bytes c → length bytes ≤ max_part_text → why ≢ refused.Memory
    → UnshownSaid deed.Show (Some (Some bytes)) (note.CursorRefused why) → ⊥
no_whole_refused e bytes c refused.Memory is few some h = some refl
no_whole_refused e bytes c (refused.NotA t) is few some h = true≢false (sym (read_as_part bytes (front-part_text e bytes c is) few) ∙ h.0)
no_whole_refused e bytes c refused.Version is few some h = true≢false (sym (read_as_part bytes (front-part_text e bytes c is) few) ∙ h.0)
no_whole_refused e bytes c refused.Damaged is few some h = true≢false (sym (read_as_part bytes (front-part_text e bytes c is) few) ∙ h.0)
no_whole_refused e bytes c refused.Malformed is few some h = true≢false (sym (read_as_part bytes (front-part_text e bytes c is) few) ∙ h.0)

-- nor as that of a part
pub no_part_refused : (d : Deed) (e : PartEnds) (bytes : Text) (c : Cursor) (why : PartRefused) → IsPartText e bytes c → why ≢ part.Text refused.Memory
    → RefusesRightly d (Some (Some bytes)) (note.PartCursorRefused why) → ⊥
no_part_refused d e bytes c (part.Text why) is some h = some (ap part.Text (only_memory _ _ why (e, (c, is)) h.1))
no_part_refused d e bytes c part.OtherPart is some h = h

-- ---- without a file

pub none_shown : (n : Note) → IsWithoutFile None deed.Show n ↔ (n ≡ note.CursorFileFailed)
none_shown n = (λ h. h, λ h. h)

pub none_needed : (further : Further) (limits : MadeLimits) (n : Note) → IsWithoutFile None (deed.Run further limits) n ↔ (n ≢ note.CursorFileFailed)
none_needed further limits n = (λ h. h, λ h. h)

-- ---- what is shown

-- the lines are those of the text
lines_of_text : (one : (b l m : Text) → AreShown b l → AreShown b m → l ≡ m) (bytes lines right : Text) → IsShownFrom (Some bytes) lines → AreShown bytes right → lines ≡ right
lines_of_text one bytes lines right h are = one bytes lines right (subst (λ b. AreShown b lines) (sym h.stored) h.are) are

module _ (one : (b l m : Text) → AreShown b l → AreShown b m → l ≡ m) (bytes before behind right : Text) (are : AreShown bytes right) where
  lines_shown : ShowsWith (Some (Some bytes)) note.Nothing (Some before) (Some behind) ↔ (behind ≡ before ++ right)
  lines_shown = (
    λ h. h.wrote ∙ ap (λ l. before ++ l) (lines_of_text one bytes h.lines right h.stored are),
    λ e. record { lines = right; stored = record { bytes = bytes; are = are; stored = refl }; wrote = e },
  )

  part_shown : ShowsWith (Some (Some bytes)) note.OutputFailed (Some before) (Some behind) ↔ ((gone : ℕ) × ((gone < length right) × (behind ≡ before ++ take gone right)))
  part_shown = (
    λ h. let same : h.lines ≡ right = lines_of_text one bytes h.lines right h.stored are in
        let long : length h.lines ≡ length right = ap length same in
        let proper = h.proper in
        (h.gone, (omega (arith, proper, long), h.wrote ∙ ap (λ l. before ++ take h.gone l) same)),
    λ k. record { lines = right; stored = record { bytes = bytes; are = are; stored = refl }; gone = k.0; proper = k.1.0; wrote = k.1.1 },
  )

whole_are : (bytes : Text) (c : Cursor) → IsTextOf bytes c → AreShown bytes (cursor_lines c)
whole_are bytes c is = inl (record { cursor = c; is_text = is; lines_are = refl })

part_are : (bytes : Text) (e : PartEnds) (c : Cursor) → IsPartText e bytes c → length bytes ≤ max_part_text → AreShown bytes (part_lines e c)
part_are bytes e c is few = inr (record { ends = e; cursor = c; is_text = is; is_read = read_as_part bytes (front-part_text e bytes c is) few; lines_are = refl })

module _ (one : (b l m : Text) → AreShown b l → AreShown b m → l ≡ m) where
  pub shown_whole : (bytes before behind : Text) (c : Cursor) → IsTextOf bytes c
      → ShowsWith (Some (Some bytes)) note.Nothing (Some before) (Some behind) ↔ (behind ≡ before ++ cursor_lines c)
  shown_whole bytes before behind c is = lines_shown one bytes before behind (cursor_lines c) (whole_are bytes c is)

  pub shown_in_part : (bytes before behind : Text) (c : Cursor) → IsTextOf bytes c
      → ShowsWith (Some (Some bytes)) note.OutputFailed (Some before) (Some behind)
      ↔ ((gone : ℕ) × ((gone < length (cursor_lines c)) × (behind ≡ before ++ take gone (cursor_lines c))))
  shown_in_part bytes before behind c is = part_shown one bytes before behind (cursor_lines c) (whole_are bytes c is)

  pub shown_of_part : (bytes before behind : Text) (e : PartEnds) (c : Cursor) → IsPartText e bytes c → length bytes ≤ max_part_text
      → ShowsWith (Some (Some bytes)) note.Nothing (Some before) (Some behind) ↔ (behind ≡ before ++ part_lines e c)
  shown_of_part bytes before behind e c is few = lines_shown one bytes before behind (part_lines e c) (part_are bytes e c is few)

  pub shown_in_part_of_part : (bytes before behind : Text) (e : PartEnds) (c : Cursor) → IsPartText e bytes c → length bytes ≤ max_part_text
      → ShowsWith (Some (Some bytes)) note.OutputFailed (Some before) (Some behind)
      ↔ ((gone : ℕ) × ((gone < length (part_lines e c)) × (behind ≡ before ++ take gone (part_lines e c))))
  shown_in_part_of_part bytes before behind e c is few = part_shown one bytes before behind (part_lines e c) (part_are bytes e c is few)

-- ---- what is handed back

no_summary : (why : ReportStop) (cycle runs cost : ℕ) (whole : Bool) → IsStopNote why (note.RunMade cycle runs cost whole) → ⊥
no_summary (halt.Fault (fault.Store p)) cycle runs cost whole e = cc
no_summary (halt.Fault fault.Memory) cycle runs cost whole e = cc
no_summary halt.Output cycle runs cost whole e = cc

-- how a run ended that is summed up so
abbrev ended_as : Bool → RunStatus
ended_as whole = if whole then run.Ended else run.Spent

-- what a summary says of the run
record IsOf (c : Cursor) (spent : ℕ) (how : RunStatus) (cycle runs cost : ℕ) (whole : Bool) : Type 0 where
  pub cycle_is : cycle ≡ c.cycle
  pub runs_are : runs ≡ c.runs
  pub cost_is : spent ≡ cost
  pub how_is : how ≡ ended_as whole

summed_up : (c : Cursor) (spent : ℕ) (finding : Bool) (how : RunStatus) (status cycle runs cost : ℕ) (whole : Bool)
    → IsRunNote c spent finding how status (note.RunMade cycle runs cost whole) → IsOf c spent how cycle runs cost whole
summed_up c spent finding run.Ended status cycle runs cost true h = let e = h.1 in record { cycle_is = cc; runs_are = cc; cost_is = cc; how_is = refl }
summed_up c spent finding run.Ended status cycle runs cost false h = absurd (let e = h.1 in cc)
summed_up c spent finding run.Spent status cycle runs cost true h = absurd (let e = h.1 in cc)
summed_up c spent finding run.Spent status cycle runs cost false h = let e = h.1 in record { cycle_is = cc; runs_are = cc; cost_is = cc; how_is = refl }
summed_up c spent finding (run.Stopped why) status cycle runs cost whole h = absurd (no_summary why cycle runs cost whole h.1)
summed_up c spent finding run.Worn status cycle runs cost whole h = absurd (let e = h.1 in cc)

-- the text that is handed back after a run that is summed up so, from this cursor
abbrev LedFrom : Cursor → Limits → ℕ → ℕ → ℕ → Bool → Text → Type 0
LedFrom c limits cycle runs cost whole text = (files : ℕ) × ((last : Option Place) × (IsPaid limits cost files × ((cycle ≡ (begun c).cycle) × ((runs ≡ (begun c).runs + 1)
    × (text ≡ cursor_text (after_run (begun c) cost files (state_after (ended_as whole) last)))))))

led_from : (further : Further) (known : Option (Option Text)) (limits : Limits) (status cycle runs cost : ℕ) (whole : Bool) (text : Text) (c : Cursor)
    → (h : HandedBack (BeginsWith further known) cursor_text limits status (note.RunMade cycle runs cost whole) text) → h.from ≡ c → LedFrom c limits cycle runs cost whole text
led_from further known limits status cycle runs cost whole text c h same =
    let u = summed_up h.ran.cursor h.ran.spent h.ran.found h.ran.end status cycle runs cost whole h.says in
    let paid : IsPaid limits cost h.ran.files = subst (λ k. IsPaid limits k h.ran.files) u.cost_is h.paid in
    let led : h.ran.cursor ≡ after_run (begun c) cost h.ran.files (state_after (ended_as whole) h.last) =
    h.cursor_is ∙ ap (λ b. after_run (begun b) h.ran.spent h.ran.files (state_after h.ran.end h.last)) same
    ∙ ap (λ k. after_run (begun c) k h.ran.files (state_after h.ran.end h.last)) u.cost_is
    ∙ ap (λ e. after_run (begun c) cost h.ran.files (state_after e h.last)) u.how_is in
    (h.ran.files, (h.last, (paid, (u.cycle_is ∙ ap (λ d. d.cycle) led, (u.runs_are ∙ ap (λ d. d.runs) led, h.handed_is ∙ ap cursor_text led)))))

pub led_from_the_first : (further : Further) (limits : MadeLimits) (status cycle runs cost : ℕ) (whole : Bool) (stored : Vec ℕ Global)
    → HandsBack None (deed.Run further limits) status (note.RunMade cycle runs cost whole) (Some stored) → LedFrom (new_cursor further) (limits_of limits) cycle runs cost whole stored.items
led_from_the_first further limits status cycle runs cost whole stored h = led_from further None (limits_of limits) status cycle runs cost whole stored.items (new_cursor further) h h.begins.1

module _ (one : (b : Text) (c d : Cursor) → IsTextOf b c → IsTextOf b d → c ≡ d) where
  pub led_from_the_stored : (further : Further) (bytes : Text) (c : Cursor) (limits : MadeLimits) (status cycle runs cost : ℕ) (whole : Bool) (stored : Vec ℕ Global) → IsTextOf bytes c
      → HandsBack (Some (Some bytes)) (deed.Run further limits) status (note.RunMade cycle runs cost whole) (Some stored) → LedFrom c (limits_of limits) cycle runs cost whole stored.items
  led_from_the_stored further bytes c limits status cycle runs cost whole stored is h =
      led_from further (Some (Some bytes)) (limits_of limits) status cycle runs cost whole stored.items c h (one bytes h.from c h.begins.1 is)

  -- it is of an audit with the option of the run
  pub of_the_audit : (further : Further) (bytes : Text) (c : Cursor) (limits : MadeLimits) (status : ℕ) (n : Note) (stored : Vec ℕ Global) → IsTextOf bytes c
      → HandsBack (Some (Some bytes)) (deed.Run further limits) status n (Some stored) → c.further ≡ further
  of_the_audit further bytes c limits status n stored is h = sym (ap (λ (x : Cursor). x.further) (one bytes h.from c h.begins.1 is)) ∙ h.begins.0
