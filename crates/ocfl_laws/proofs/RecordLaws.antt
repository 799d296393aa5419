-- What the records of a check, an audit, a run and a cycle say, in other words.
use Rattle.std.proofs.Common.{refl, ◌≡◌, ◌≢◌, ◌≤◌, ◌<◌, ◌+◌, ◌-◌, ◌/◌, ℕ, List, [], ◌∷◌, ◌++◌, Bool, true, false, not, Option, Some, None, Vec, String, string_bytes, replicate, length, take, map, All, AllPairs, sym, ap, subst, ◌∙◌, ◌⊎◌, inl, inr, arith}
use Rattle.std.proofs.{lemmas.Bool.{false≢true}, lemmas.List.{map-append}}
use Rattle.std.specs.declared.alloc.Global.{Global}
use Rattle.std.specs.{List.{last_or}, Prelude.{slice_get}}
use Rattle.ocfl_tree.specs.{Place.{Place, place_cmp}, Name.{IsPlace}, Ascending.{IsAscending}}
use Rattle.ocfl_tree.specs.{StorageRoot.{StorageRoot}, Store.{Store}}
use Rattle.ocfl_tree.specs.declared.store.Opening.{Opening}
use Rattle.ocfl_report.specs.{Line.{Item, found}, Text.{place_text, text}}
use Rattle.ocfl_rules.specs.{Lines.{is_empty}, Audit.{audit, after, total_cost}}
use Rattle.ocfl_rules.specs.Due.{hashed_among, item_places}
use Rattle.ocfl_rules.specs.Trail.{content_trail, heads_of, inventories, unread_of}
use Rattle.ocfl_rules.specs.{Walk.{item_at}, Between.{looked_between, read_between}, Parts.{whole}}
use Rattle.ocfl_rules.specs.Runs.{Limits, cut, left, runs, joined, total_files, IsAtLeast, FilesFit, sum_of}
use Rattle.ocfl_item.specs.Looking.{failures_at, way_to}
use Rattle.ocfl_scrub.specs.declared.stop.ReportStop.{ReportStop}
use Rattle.ocfl_scrub.specs.declared.stop.ReportStop.TheVariants as halt
use Rattle.ocfl_walk.specs.WalkCalls.{holder, way_of}
use Rattle.ocfl_scrub.specs.Call.{Call, known_call, IsUnfailing}
use Rattle.ocfl_scrub.specs.Written.{places, StopsWithin}
use Rattle.ocfl_scrub.specs.Running.{begun_in, begun, place_in, state_after, limits_of}
use Rattle.ocfl_scrub.specs.{Chaining.{CycleOfRunsWithin}, Cycling.{HeadlineOf}}
use Rattle.ocfl_scrub.specs.Together.{state_at}
use Rattle.ocfl_scrub.specs.Checking.{Checks, CheckStops, CheckEnds}
use Rattle.ocfl_scrub.specs.WholeAudit.{AuditEnds}
use Rattle.ocfl_scrub.specs.Noting.{status_of, IsAuditNote, IsCheckNote, IsCycleNote, IsRunNote, ChecksWithNote, CyclesWithNote}
use Rattle.ocfl_scrub.specs.Performing.{BeginsWith, Performs, OutOfMemoryFirst, RunPerformed, equal_limits}
use Rattle.ocfl_scrub.specs.declared.auditing.AuditEnd.{AuditEnd}
use Rattle.ocfl_scrub.specs.declared.checking.CheckEnd.{CheckEnd}
use Rattle.ocfl_scrub.specs.{declared.running.RunEnd.{RunEnd}, declared.cycling.CycleEnd.{CycleEnd}}
use Rattle.ocfl_scrub.specs.{declared.cycling.CycleStatus.{CycleStatus}, declared.note.Note.{Note}}
use Rattle.ocfl_cursor.specs.Cursor.{State, Cursor, start, behind, ended, cursor_text}
use Rattle.ocfl_cursor.specs.{Moves.{next_cycle}, declared.limits.Limits.{Limits as MadeLimits}}
use Rattle.ocfl_deed.specs.declared.deed.Deed.TheVariants as deed
use Rattle.ocfl_laws.proofs.LooksOnce.{lists_once, reads_once, stops_list_once, stops_read_once}
use Rattle.ocfl_scrub.proofs.{AuditLaws.{all_places}, CycleEndLaws.{few_inventories, some_run}}
use Rattle.ocfl_scrub.proofs.{Lists.{nothing_front}, PassLaws.{last_append}}
use Rattle.ocfl_scrub.proofs.WayOrder.{way_is, held_in}
use Rattle.ocfl_scrub.specs.declared.checking.AuditStatus.TheVariants as end
use Rattle.ocfl_scrub.specs.declared.running.RunStatus.TheVariants as run
use Rattle.ocfl_scrub.specs.declared.cycling.CycleStatus.TheVariants as cycle
use Rattle.ocfl_scrub.specs.declared.note.Note.TheVariants as note
use Rattle.ocfl_scrub.specs.Taking.{stop_place}
use Rattle.ocfl_laws.specs.Whole.{Runs, RunStops, RunEnds, RunsFrom, RunsCleanly, Cycles, CycleStops, CycleEnds, CyclesTo, AuditsAll, AuditStops}
use Rattle.ocfl_report.specs.declared.further.Further.{Further}

last_item : (from : Option Place) (front : List Item) (i : Item) → last_or from (places (front ++ i ∷ [])) ≡ Some i.place
last_item from front i = ap (last_or from) (map-append (λ j. j.place) front (i ∷ [])) ∙ last_append from (places front) i.place

-- the last place, by the items that were taken
last_said : (from last : Option Place) (items : List Item) → last ≡ last_or from (places items)
    → (items ≡ [] → last ≡ from) × ((front : List Item) (i : Item) → items ≡ front ++ i ∷ [] → last ≡ Some i.place)
last_said from last items is = ((λ e. is ∙ ap (λ xs. last_or from (places xs)) e), λ front i e. is ∙ ap (λ xs. last_or from (places xs)) e ∙ last_item from front i)

-- what went out before a stop, after what is known of the calls
stop_wrote : (before : List ℕ) {items : List Item} {written : List ℕ} {from last : Option Place} {why : ReportStop} {Did : Type 0}
    (s : StopsWithin items (Some before) (Some written) from last why) → Did → (Of : List Item → Type 0) → Of s.whole → (whole : List Item)
    × ((others : List Item) × ((gone : ℕ)
    × (Did × ((items ≡ whole ++ others)
    × ((written ≡ before ++ (text whole ++ take gone (text (take 1 others))))
    × ((why ≡ halt.Output → gone < length (text (take 1 others))) × ((why ≢ halt.Output → gone ≡ 0) × Of whole)))))))
stop_wrote before s did Of of = (
  s.whole,
  (s.others, (s.part_of.gone, (did, (s.items_are, ((s.wrote ∙ ap (λ u. before ++ (text s.whole ++ u)) s.part_of.is), (s.part_of.proper, (s.part_of.none, of))))))),
)

fewer : (xs ys : List Place) (n : ℕ) → xs ≡ ys → length ys < n → length xs < n
fewer xs ys n e h = let same : length xs ≡ length ys = ap length e in omega (arith, same, h)

-- ---- a check

pub check_wrote : (further : Further) (root : StorageRoot) (s t : Store) (before written : List ℕ) (p : Place) (item finding : Bool)
    → Checks (known_call further root s t before written) p item finding → (trail : List Opening)
    × ((t.openings ≡ s.openings ++ trail)
    × ((t.failures ≡ s.failures + length (unread_of further root trail))
    × ((written ≡ before ++ text (item_at further root (unread_of further root trail) p))
    × ((item ≡ not (is_empty (item_at further root (unread_of further root trail) p))) × (finding ≡ found (item_at further root (unread_of further root trail) p))))))
check_wrote further root s t before written p item finding h = (h.trail, (h.audits.did.openings_are, (h.audits.did.failures_are, (h.wrote, (h.item_is, h.found_is)))))

pub check_opened : (call : Call) (p : Place) (item finding : Bool) → Checks call p item finding → (trail : List Opening)
    × ((call.after.openings ≡ call.before.openings ++ trail) × ((content_trail call.further call.root trail ≡ hashed_among call.further call.root (p ∷ [])) × (AllPairs (λ a b. a.place ≢ b.place) trail)))
check_opened call p item finding h = (h.trail, (h.audits.did.openings_are, (h.audits.opened, h.just.once)))

pub check_listed : (call : Call) (p : Place) (item finding : Bool) → Checks call p item finding → (listed : List Place)
    × ((rest : List Place) × ((call.after.listings ≡ call.before.listings ++ listed) × (way_to p ≡ listed ++ rest)))
check_listed call p item finding h = (h.listed, (h.just.listed_front.0, (h.audits.did.listings_are, h.just.listed_front.1)))

pub check_read : (call : Call) (p : Place) (item finding : Bool) → Checks call p item finding → (trail : List Opening)
    × ((rest : List Place) × ((call.after.openings ≡ call.before.openings ++ trail) × (holder call.root (Some p) ≡ heads_of call.root trail ++ rest)))
check_read call p item finding h = (h.trail, (h.just.heads_front.0, (h.audits.did.openings_are, (h.just.heads_front.1 ∙ ap (λ l. l ++ h.just.heads_front.0) (sym h.audits.heads_are)))))

pub stopped_check_wrote : (further : Further) (root : StorageRoot) (s t : Store) (before written : List ℕ) (p : Place) (why : ReportStop)
    → CheckStops (known_call further root s t before written) p why → (trail : List Opening)
    × ((gone : ℕ) × ((t.openings ≡ s.openings ++ trail)
    × ((written ≡ before ++ take gone (text (item_at further root (unread_of further root trail) p)))
    × ((why ≡ halt.Output → gone < length (text (item_at further root (unread_of further root trail) p))) × (why ≢ halt.Output → gone ≡ 0)))))
stopped_check_wrote further root s t before written p why h = (h.trail, (h.part_of.gone, (h.fails.did.openings_are, ((h.wrote ∙ ap (λ u. before ++ u) h.part_of.is), (h.part_of.proper, h.part_of.none)))))

pub stopped_check_opened : (call : Call) (p : Place) (why : ReportStop) → CheckStops call p why → (trail : List Opening)
    × ((begun : List Place) × ((rest : List Place)
    × ((call.after.openings ≡ call.before.openings ++ trail)
    × ((p ∷ [] ≡ begun ++ rest) × ((content_trail call.further call.root trail ≡ hashed_among call.further call.root begun) × (AllPairs (λ a b. a.place ≢ b.place) trail))))))
stopped_check_opened call p why h = (h.trail, (h.begun, (h.one.0, (h.fails.did.openings_are, (h.one.1, (h.fails.opened, h.just.once))))))

pub stopped_check_listed : (call : Call) (p : Place) (why : ReportStop) → CheckStops call p why → (listed : List Place)
    × ((rest : List Place) × ((call.after.listings ≡ call.before.listings ++ listed) × (way_to p ≡ listed ++ rest)))
stopped_check_listed call p why h = (h.listed, (h.just.listed_front.0, (h.fails.did.listings_are, h.just.listed_front.1)))

pub stopped_check_read : (call : Call) (p : Place) (why : ReportStop) → CheckStops call p why → (trail : List Opening)
    × ((rest : List Place) × ((call.after.openings ≡ call.before.openings ++ trail)
    × ((call.after.failures ≡ call.before.failures + (length (unread_of call.further call.root trail) + failures_at (stop_place why))) × (holder call.root (Some p) ≡ heads_of call.root trail ++ rest))))
stopped_check_read call p why h =
    (h.trail, (h.just.heads_front.0, (h.fails.did.openings_are, (h.fails.did.failures_are, (h.just.heads_front.1 ∙ ap (λ l. l ++ h.just.heads_front.0) (sym h.fails.heads_are))))))

-- ---- an audit

pub audit_wrote : (further : Further) (root : StorageRoot) (s t : Store) (before written : List ℕ) (last : Option Place) (finding : Bool)
    → AuditsAll (known_call further root s t before written) last finding → (trail : List Opening)
    × ((t.openings ≡ s.openings ++ trail)
    × ((t.failures ≡ s.failures + length (unread_of further root trail)) × ((written ≡ before ++ text (audit further root (unread_of further root trail))) × (finding ≡ found (audit further root (unread_of further root trail))))))
audit_wrote further root s t before written last finding h = (h.trail, (h.looks.audits.did.openings_are, (h.looks.audits.did.failures_are, (h.wrote, h.found_is))))

pub audit_opened : (call : Call) (last : Option Place) (finding : Bool) → AuditsAll call last finding → (trail : List Opening)
    × ((call.after.openings ≡ call.before.openings ++ trail)
    × ((content_trail call.further call.root trail ≡ hashed_among call.further call.root (item_places call.further call.root)) × (heads_of call.root trail ≡ read_between call.root None None)))
audit_opened call last finding h = (
  h.trail,
  (
    h.looks.audits.did.openings_are,
    (
      h.looks.audits.opened ∙ ap (hashed_among call.further call.root) (all_places call.further call.root h.trail),
      h.looks.audits.heads_are ∙ ap (λ l. l ++ read_between call.root None None) (nothing_front h.looks.held h.looks.held_front),
    ),
  ),
)

pub audit_listed : (call : Call) (last : Option Place) (finding : Bool) → AuditsAll call last finding → call.after.listings ≡ call.before.listings ++ looked_between call.root None None
audit_listed call last finding h =
    h.looks.audits.did.listings_are ∙ ap (λ l. call.before.listings ++ (l ++ looked_between call.root None None)) (nothing_front h.looks.down h.looks.down_front)

pub audit_ended_at : (call : Call) (last : Option Place) (finding : Bool) (front : List Place) (p : Place) → AuditsAll call last finding → item_places call.further call.root ≡ front ++ p ∷ [] → last ≡ Some p
audit_ended_at call last finding front p h e = h.last_is ∙ ap (last_or None) (all_places call.further call.root h.trail ∙ e) ∙ last_append None front p

pub stopped_audit_wrote : (further : Further) (root : StorageRoot) (s t : Store) (before written : List ℕ) (last : Option Place) (finding : Bool) (why : ReportStop)
    → AuditStops (known_call further root s t before written) last finding why → (trail : List Opening)
    × ((whole : List Item) × ((others : List Item)
    × ((gone : ℕ) × ((t.openings ≡ s.openings ++ trail)
    × ((audit further root (unread_of further root trail) ≡ whole ++ others)
    × ((written ≡ before ++ (text whole ++ take gone (text (take 1 others))))
    × ((why ≡ halt.Output → gone < length (text (take 1 others))) × ((why ≢ halt.Output → gone ≡ 0) × (finding ≡ found whole)))))))))
stopped_audit_wrote further root s t before written last finding why h = (h.trail, stop_wrote before h.stops h.looks.fails.did.openings_are (λ whole. finding ≡ found whole) h.found_is)

pub stopped_audit_opened : (call : Call) (last : Option Place) (finding : Bool) (why : ReportStop) → AuditStops call last finding why → (trail : List Opening)
    × ((whole : List Item) × ((others : List Item)
    × ((begun : List Place) × ((rest : List Place)
    × ((call.after.openings ≡ call.before.openings ++ trail)
    × ((audit call.further call.root (unread_of call.further call.root trail) ≡ whole ++ others)
    × ((map (λ i. i.place) (take 1 others) ≡ begun ++ rest) × (content_trail call.further call.root trail ≡ hashed_among call.further call.root (map (λ i. i.place) whole ++ begun)))))))))
stopped_audit_opened call last finding why h =
    (h.trail, (h.stops.whole, (h.stops.others, (h.stops.begun, (h.stops.one.0, (h.looks.fails.did.openings_are, (h.stops.items_are, (h.stops.one.1, h.looks.fails.opened))))))))

pub stopped_audit_listed : (call : Call) (last : Option Place) (finding : Bool) (why : ReportStop) → AuditStops call last finding why → (listed : List Place)
    × ((rest : List Place) × ((call.after.listings ≡ call.before.listings ++ listed) × (looked_between call.root None None ≡ listed ++ rest)))
stopped_audit_listed call last finding why h = (
  h.looks.listed,
  (
    h.looks.listed_front.0,
    (h.looks.fails.did.listings_are ∙ ap (λ l. call.before.listings ++ (l ++ h.looks.listed)) (nothing_front h.looks.down h.looks.down_front), h.looks.listed_front.1),
  ),
)

pub stopped_audit_read : (call : Call) (last : Option Place) (finding : Bool) (why : ReportStop) → AuditStops call last finding why → (trail : List Opening)
    × ((rest : List Place) × ((call.after.openings ≡ call.before.openings ++ trail)
    × ((call.after.failures ≡ call.before.failures + (length (unread_of call.further call.root trail) + failures_at (stop_place why))) × (read_between call.root None None ≡ heads_of call.root trail ++ rest))))
stopped_audit_read call last finding why h =
    let read : heads_of call.root h.trail ≡ h.looks.heads = h.looks.fails.heads_are ∙ ap (λ l. l ++ h.looks.heads) (nothing_front h.looks.held h.looks.held_front) in (
      h.trail,
      (h.looks.heads_front.0, (h.looks.fails.did.openings_are, (h.looks.fails.did.failures_are, (h.looks.heads_front.1 ∙ ap (λ l. l ++ h.looks.heads_front.0) (sym read))))),
    )

-- ---- a run

pub run_wrote : (further : Further) (root : StorageRoot) (s t : Store) (before written : List ℕ) (from last next : Option Place) (limits : Limits) (spent files : ℕ)
    (finding : Bool) → Runs (known_call further root s t before written) from last limits spent files finding next → (trail : List Opening)
    × ((t.openings ≡ s.openings ++ trail)
    × ((t.failures ≡ s.failures + length (unread_of further root trail))
    × ((written ≡ before ++ text (cut (after (audit further root (unread_of further root trail)) from) limits))
    × ((spent ≡ total_cost (cut (after (audit further root (unread_of further root trail)) from) limits))
    × ((files ≡ total_files (cut (after (audit further root (unread_of further root trail)) from) limits)) × (finding ≡ found (cut (after (audit further root (unread_of further root trail)) from) limits)))))))
run_wrote further root s t before written from last next limits spent files finding h =
    (h.trail, (h.looks.audits.did.openings_are, (h.looks.audits.did.failures_are, (h.wrote, (h.figures.spent_is, (h.figures.files_is, h.figures.found_is))))))

pub run_opened : (call : Call) (from last next : Option Place) (limits : Limits) (spent files : ℕ) (finding : Bool)
    → Runs call from last limits spent files finding next → (trail : List Opening)
    × ((call.after.openings ≡ call.before.openings ++ trail)
    × (content_trail call.further call.root trail ≡ hashed_among call.further call.root (map (λ i. i.place) (cut (after (audit call.further call.root (unread_of call.further call.root trail)) from) limits))))
run_opened call from last next limits spent files finding h = (h.trail, (h.looks.audits.did.openings_are, h.looks.audits.opened))

pub run_listed : (call : Call) (from last next : Option Place) (limits : Limits) (spent files : ℕ) (finding : Bool)
    → Runs call from last limits spent files finding next → (down : List Place)
    × ((rest : List Place) × ((call.after.listings ≡ call.before.listings ++ (down ++ looked_between call.root from next))
    × ((way_of from ≡ down ++ rest) × (IsAscending place_cmp (down ++ looked_between call.root from next)))))
run_listed call from last next limits spent files finding h =
    let way = way_is whole from ∙ h.looks.down_front.1 in
    (h.looks.down, (h.looks.down_front.0, (h.looks.audits.did.listings_are, (way, lists_once call whole from next _ h.trail h.looks))))

pub run_read : (call : Call) (from last next : Option Place) (limits : Limits) (spent files : ℕ) (finding : Bool)
    → Runs call from last limits spent files finding next → (trail : List Opening)
    × ((held : List Place) × ((rest : List Place)
    × ((call.after.openings ≡ call.before.openings ++ trail)
    × ((heads_of call.root trail ≡ held ++ read_between call.root from next) × ((holder call.root from ≡ held ++ rest) × (IsAscending place_cmp (held ++ read_between call.root from next)))))))
run_read call from last next limits spent files finding h =
    let held = held_in whole from call.root ∙ h.looks.held_front.1 in
    (h.trail, (h.looks.held, (h.looks.held_front.0, (h.looks.audits.did.openings_are, (h.looks.audits.heads_are, (held, reads_once call whole from next _ h.trail h.looks))))))

pub run_went_to : (call : Call) (from last next : Option Place) (limits : Limits) (spent files : ℕ) (finding : Bool)
    → Runs call from last limits spent files finding next → (trail : List Opening)
    × ((call.after.openings ≡ call.before.openings ++ trail)
    × ((left (after (audit call.further call.root (unread_of call.further call.root trail)) from) limits ≡ [] → next ≡ None)
    × ((i : Item) (items : List Item) → left (after (audit call.further call.root (unread_of call.further call.root trail)) from) limits ≡ i ∷ items → next ≡ Some i.place)))
run_went_to call from last next limits spent files finding h =
    (h.trail, (h.looks.audits.did.openings_are, ((λ e. h.next_is ∙ ap (λ xs. slice_get (places xs) 0) e), λ i items e. h.next_is ∙ ap (λ xs. slice_get (places xs) 0) e)))

pub run_ended_at : (call : Call) (from last next : Option Place) (limits : Limits) (spent files : ℕ) (finding : Bool)
    → Runs call from last limits spent files finding next → (trail : List Opening)
    × ((call.after.openings ≡ call.before.openings ++ trail)
    × ((cut (after (audit call.further call.root (unread_of call.further call.root trail)) from) limits ≡ [] → last ≡ from)
    × ((front : List Item) (i : Item) → cut (after (audit call.further call.root (unread_of call.further call.root trail)) from) limits ≡ front ++ i ∷ [] → last ≡ Some i.place)))
run_ended_at call from last next limits spent files finding h = (h.trail, (h.looks.audits.did.openings_are, last_said from last _ h.last_is))

pub stopped_run_wrote : (further : Further) (root : StorageRoot) (s t : Store) (before written : List ℕ) (from last : Option Place) (limits : Limits) (spent files : ℕ)
    (finding : Bool) (why : ReportStop) → RunStops (known_call further root s t before written) from last limits spent files finding why → (trail : List Opening)
    × ((whole : List Item) × ((others : List Item)
    × ((gone : ℕ) × ((t.openings ≡ s.openings ++ trail)
    × ((cut (after (audit further root (unread_of further root trail)) from) limits ≡ whole ++ others)
    × ((written ≡ before ++ (text whole ++ take gone (text (take 1 others))))
    × ((why ≡ halt.Output → gone < length (text (take 1 others))) × ((why ≢ halt.Output → gone ≡ 0) × ((spent ≡ total_cost whole) × ((files ≡ total_files whole) × (finding ≡ found whole)))))))))))
stopped_run_wrote further root s t before written from last limits spent files finding why h =
    (h.trail, stop_wrote before h.stops h.looks.fails.did.openings_are (λ whole. (spent ≡ total_cost whole) × ((files ≡ total_files whole) × (finding ≡ found whole))) (h.figures.spent_is, (h.figures.files_is, h.figures.found_is)))

pub stopped_run_opened : (call : Call) (from last : Option Place) (limits : Limits) (spent files : ℕ) (finding : Bool) (why : ReportStop)
    → RunStops call from last limits spent files finding why → (trail : List Opening)
    × ((whole : List Item) × ((others : List Item)
    × ((begun : List Place) × ((rest : List Place)
    × ((call.after.openings ≡ call.before.openings ++ trail)
    × ((cut (after (audit call.further call.root (unread_of call.further call.root trail)) from) limits ≡ whole ++ others)
    × ((map (λ i. i.place) (take 1 others) ≡ begun ++ rest) × (content_trail call.further call.root trail ≡ hashed_among call.further call.root (map (λ i. i.place) whole ++ begun)))))))))
stopped_run_opened call from last limits spent files finding why h =
    (h.trail, (h.stops.whole, (h.stops.others, (h.stops.begun, (h.stops.one.0, (h.looks.fails.did.openings_are, (h.stops.items_are, (h.stops.one.1, h.looks.fails.opened))))))))

pub stopped_run_listed : (call : Call) (from last : Option Place) (limits : Limits) (spent files : ℕ) (finding : Bool) (why : ReportStop)
    → RunStops call from last limits spent files finding why → (down : List Place)
    × ((below : List Place) × ((listed : List Place)
    × ((rest : List Place) × ((call.after.listings ≡ call.before.listings ++ (down ++ listed))
    × ((way_of from ≡ down ++ below) × ((looked_between call.root from None ≡ listed ++ rest) × (IsAscending place_cmp (down ++ listed))))))))
stopped_run_listed call from last limits spent files finding why h =
    let way = way_is whole from ∙ h.looks.down_front.1 in
    (h.looks.down, (h.looks.down_front.0, (h.looks.listed, (h.looks.listed_front.0, (h.looks.fails.did.listings_are, (way, (h.looks.listed_front.1, stops_list_once call whole from _ h.trail why h.looks)))))))

pub stopped_run_read : (call : Call) (from last : Option Place) (limits : Limits) (spent files : ℕ) (finding : Bool) (why : ReportStop)
    → RunStops call from last limits spent files finding why → (trail : List Opening)
    × ((held : List Place) × ((below : List Place)
    × ((heads : List Place) × ((rest : List Place)
    × ((call.after.openings ≡ call.before.openings ++ trail)
    × ((call.after.failures ≡ call.before.failures + (length (unread_of call.further call.root trail) + failures_at (stop_place why)))
    × ((heads_of call.root trail ≡ held ++ heads) × ((holder call.root from ≡ held ++ below) × ((read_between call.root from None ≡ heads ++ rest) × (IsAscending place_cmp (held ++ heads)))))))))))
stopped_run_read call from last limits spent files finding why h = (
  h.trail,
  (
    h.looks.held,
    (
      h.looks.held_front.0,
      (
        h.looks.heads,
        (
          h.looks.heads_front.0,
          (h.looks.fails.did.openings_are, (h.looks.fails.did.failures_are, (h.looks.fails.heads_are, (held_in whole from call.root ∙ h.looks.held_front.1, (h.looks.heads_front.1, stops_read_once call whole from _ h.trail why h.looks))))),
        ),
      ),
    ),
  ),
)

pub stopped_run_ended_at : (call : Call) (from last : Option Place) (limits : Limits) (spent files : ℕ) (finding : Bool) (why : ReportStop)
    → RunStops call from last limits spent files finding why → (trail : List Opening)
    × ((whole : List Item) × ((others : List Item)
    × ((call.after.openings ≡ call.before.openings ++ trail)
    × ((cut (after (audit call.further call.root (unread_of call.further call.root trail)) from) limits ≡ whole ++ others)
    × ((spent ≡ total_cost whole) × ((whole ≡ [] → last ≡ from) × ((front : List Item) (i : Item) → whole ≡ front ++ i ∷ [] → last ≡ Some i.place)))))))
stopped_run_ended_at call from last limits spent files finding why h =
    (h.trail, (h.stops.whole, (h.stops.others, (h.looks.fails.did.openings_are, (h.stops.items_are, (h.figures.spent_is, last_said from last h.stops.whole h.stops.last_is))))))

-- ---- a cycle

pub cycle_wrote : (further : Further) (root : StorageRoot) (s t : Store) (before written : List ℕ) (last : Option Place) (limits : List Limits) (spent files : ℕ) (finding : Bool)
    (count : ℕ) (whole : Bool) → Cycles (known_call further root s t before written) last limits spent files finding count whole → (trail : List Opening)
    × ((t.openings ≡ s.openings ++ trail)
    × ((t.failures ≡ s.failures + length (unread_of further root trail))
    × ((written ≡ before ++ text (joined (runs (audit further root (unread_of further root trail)) limits)))
    × ((spent ≡ total_cost (joined (runs (audit further root (unread_of further root trail)) limits)))
    × ((files ≡ total_files (joined (runs (audit further root (unread_of further root trail)) limits))) × (finding ≡ found (joined (runs (audit further root (unread_of further root trail)) limits))))))))
cycle_wrote further root s t before written last limits spent files finding count whole h =
    (h.trail, (h.audits.did.openings_are, (h.audits.did.failures_are, (h.wrote, (h.figures.spent_is, (h.figures.files_is, h.figures.found_is))))))

pub cycle_opened : (call : Call) (last : Option Place) (limits : List Limits) (spent files : ℕ) (finding : Bool) (count : ℕ) (whole : Bool)
    → Cycles call last limits spent files finding count whole → (trail : List Opening)
    × ((call.after.openings ≡ call.before.openings ++ trail)
    × ((content_trail call.further call.root trail ≡ hashed_among call.further call.root (map (λ i. i.place) (joined (runs (audit call.further call.root (unread_of call.further call.root trail)) limits))))
    × (1 ≤ count → length (heads_of call.root trail) < length (inventories call.root) + count)))
cycle_opened call last limits spent files finding count whole h =
    (h.trail, (h.audits.did.openings_are, (h.audits.opened, λ some. fewer _ _ _ h.audits.heads_are (few_inventories call.root count h.heads (h.inventories_read some)))))

pub cycle_ended : (call : Call) (last : Option Place) (limits : List Limits) (spent files : ℕ) (finding : Bool) (count : ℕ) (whole : Bool)
    → Cycles call last limits spent files finding count whole → (trail : List Opening)
    × ((call.after.openings ≡ call.before.openings ++ trail)
    × ((count ≡ length (runs (audit call.further call.root (unread_of call.further call.root trail)) limits))
    × ((whole ≡ true → joined (runs (audit call.further call.root (unread_of call.further call.root trail)) limits) ≡ audit call.further call.root (unread_of call.further call.root trail))
    × (joined (runs (audit call.further call.root (unread_of call.further call.root trail)) limits) ≡ audit call.further call.root (unread_of call.further call.root trail) → whole ≡ true))))
cycle_ended call last limits spent files finding count whole h =
    (h.trail, (h.audits.did.openings_are, (h.count_is, ((λ e. (h.ends_is.0 e).1), λ e. h.ends_is.1 (some_run call.further call.root limits count h.trail h.count_is e, e)))))

pub cycle_took_few : (call : Call) (last : Option Place) (limits : List Limits) (spent files : ℕ) (finding : Bool) (count : ℕ) (whole : Bool) (b n : ℕ)
    → Cycles call last limits spent files finding count whole → 1 ≤ b → 1 ≤ n → All (IsAtLeast b n) limits → (trail : List Opening)
    × ((call.after.openings ≡ call.before.openings ++ trail)
    × ((count ≤ total_cost (audit call.further call.root (unread_of call.further call.root trail)) / b + total_files (audit call.further call.root (unread_of call.further call.root trail)) / n + 1)
    × (total_cost (audit call.further call.root (unread_of call.further call.root trail)) / b + total_files (audit call.further call.root (unread_of call.further call.root trail)) / n + 1 ≤ length limits → whole ≡ true)))
cycle_took_few call last limits spent files finding count whole b n h some more large = (h.trail, (h.audits.did.openings_are, (h.few b n some more large, h.suffice b n some more large)))

pub cycle_by_sum : (call : Call) (last : Option Place) (limits : List Limits) (spent files : ℕ) (finding : Bool) (count : ℕ) (whole : Bool) (k : ℕ)
    → Cycles call last limits spent files finding count whole → 1 ≤ k → k ≤ length limits → (trail : List Opening)
    × ((call.after.openings ≡ call.before.openings ++ trail)
    × (FilesFit (audit call.further call.root (unread_of call.further call.root trail)) limits
    → total_cost (audit call.further call.root (unread_of call.further call.root trail)) ≤ sum_of (take k (map (λ l. l.budget) limits)) → (whole ≡ true) × (count ≤ k)))
cycle_by_sum call last limits spent files finding count whole k h some enough_limits = (h.trail, (h.audits.did.openings_are, h.by_sum k some enough_limits))

pub cycle_ended_at : (call : Call) (last : Option Place) (limits : List Limits) (spent files : ℕ) (finding : Bool) (count : ℕ) (whole : Bool)
    → Cycles call last limits spent files finding count whole → (trail : List Opening)
    × ((call.after.openings ≡ call.before.openings ++ trail)
    × ((joined (runs (audit call.further call.root (unread_of call.further call.root trail)) limits) ≡ [] → last ≡ None)
    × ((front : List Item) (i : Item) → joined (runs (audit call.further call.root (unread_of call.further call.root trail)) limits) ≡ front ++ i ∷ [] → last ≡ Some i.place)))
cycle_ended_at call last limits spent files finding count whole h = (h.trail, (h.audits.did.openings_are, last_said None last _ h.last_is))

pub stopped_cycle_wrote : (further : Further) (root : StorageRoot) (s t : Store) (before written : List ℕ) (last : Option Place) (limits : List Limits) (spent files : ℕ)
    (finding : Bool) (count : ℕ) (why : ReportStop) → CycleStops (known_call further root s t before written) last limits spent files finding count why
    → (trail : List Opening) × ((whole : List Item)
    × ((others : List Item) × ((gone : ℕ)
    × ((t.openings ≡ s.openings ++ trail)
    × ((joined (take count (runs (audit further root (unread_of further root trail)) limits)) ≡ whole ++ others)
    × ((written ≡ before ++ (text whole ++ take gone (text (take 1 others))))
    × ((why ≡ halt.Output → gone < length (text (take 1 others))) × ((why ≢ halt.Output → gone ≡ 0) × ((spent ≡ total_cost whole) × ((files ≡ total_files whole) × (finding ≡ found whole)))))))))))
stopped_cycle_wrote further root s t before written last limits spent files finding count why h =
    (h.trail, stop_wrote before h.stops h.fails.did.openings_are (λ whole. (spent ≡ total_cost whole) × ((files ≡ total_files whole) × (finding ≡ found whole))) (h.figures.spent_is, (h.figures.files_is, h.figures.found_is)))

pub stopped_cycle_counted : (call : Call) (last : Option Place) (limits : List Limits) (spent files : ℕ) (finding : Bool) (count : ℕ) (why : ReportStop)
    → CycleStops call last limits spent files finding count why → (trail : List Opening)
    × ((whole : List Item) × ((rest : List Item)
    × ((call.after.openings ≡ call.before.openings ++ trail)
    × ((1 ≤ count) × ((count ≤ length (runs (audit call.further call.root (unread_of call.further call.root trail)) limits))
    × ((spent ≡ total_cost whole) × ((whole ≡ joined (take (count - 1) (runs (audit call.further call.root (unread_of call.further call.root trail)) limits)) ++ rest)
    × (length (heads_of call.root trail) < length (inventories call.root) + count))))))))
stopped_cycle_counted call last limits spent files finding count why h = (
  h.trail,
  (
    h.stops.whole,
    (
      h.runs_before.0,
      (h.fails.did.openings_are, (h.made, (h.count_fits, (h.figures.spent_is, (h.runs_before.1, fewer _ _ _ h.fails.heads_are (few_inventories call.root count h.heads h.inventories_read)))))),
    ),
  ),
)

pub stopped_cycle_opened : (call : Call) (last : Option Place) (limits : List Limits) (spent files : ℕ) (finding : Bool) (count : ℕ) (why : ReportStop)
    → CycleStops call last limits spent files finding count why → (trail : List Opening)
    × ((whole : List Item) × ((others : List Item)
    × ((begun : List Place) × ((rest : List Place)
    × ((call.after.openings ≡ call.before.openings ++ trail)
    × ((call.after.failures ≡ call.before.failures + (length (unread_of call.further call.root trail) + failures_at (stop_place why)))
    × ((joined (take count (runs (audit call.further call.root (unread_of call.further call.root trail)) limits)) ≡ whole ++ others)
    × ((map (λ i. i.place) (take 1 others) ≡ begun ++ rest) × (content_trail call.further call.root trail ≡ hashed_among call.further call.root (map (λ i. i.place) whole ++ begun))))))))))
stopped_cycle_opened call last limits spent files finding count why h =
    (h.trail, (h.stops.whole, (h.stops.others, (h.stops.begun, (h.stops.one.0, (h.fails.did.openings_are, (h.fails.did.failures_are, (h.stops.items_are, (h.stops.one.1, h.fails.opened)))))))))

pub stopped_cycle_ended_at : (call : Call) (last : Option Place) (limits : List Limits) (spent files : ℕ) (finding : Bool) (count : ℕ) (why : ReportStop)
    → CycleStops call last limits spent files finding count why → (trail : List Opening)
    × ((whole : List Item) × ((call.after.openings ≡ call.before.openings ++ trail)
    × ((spent ≡ total_cost whole) × ((whole ≡ [] → last ≡ None) × ((front : List Item) (i : Item) → whole ≡ front ++ i ∷ [] → last ≡ Some i.place)))))
stopped_cycle_ended_at call last limits spent files finding count why h =
    (h.trail, (h.stops.whole, (h.fails.did.openings_are, (h.figures.spent_is, last_said None last h.stops.whole h.stops.last_is))))

-- ---- how they ended

pub check_by_end : (call : Call) (p : Place) (item finding : Bool) → CheckEnds call p item finding end.Ended → Checks call p item finding
check_by_end call p item finding h = h

pub check_by_stop : (call : Call) (p : Place) (item finding : Bool) (why : ReportStop) → CheckEnds call p item finding (end.Stopped why) → CheckStops call p why
check_by_stop call p item finding why h = h

pub audit_by_end : (call : Call) (last : Option Place) (finding : Bool) → AuditEnds call last finding end.Ended → AuditsAll call last finding
audit_by_end call last finding h = h

pub audit_by_stop : (call : Call) (last : Option Place) (finding : Bool) (why : ReportStop) → AuditEnds call last finding (end.Stopped why) → AuditStops call last finding why
audit_by_stop call last finding why h = h

pub run_by_end : (call : Call) (from last : Option Place) (limits : Limits) (spent files : ℕ) (finding : Bool)
    → RunEnds call from last limits spent files finding run.Ended → Runs call from last limits spent files finding None
run_by_end call from last limits spent files finding h = h

pub run_by_limits : (call : Call) (from last : Option Place) (limits : Limits) (spent files : ℕ) (finding : Bool)
    → RunEnds call from last limits spent files finding run.Spent → (next : Place) × Runs call from last limits spent files finding (Some next)
run_by_limits call from last limits spent files finding h = h

pub run_by_stop : (call : Call) (from last : Option Place) (limits : Limits) (spent files : ℕ) (finding : Bool) (why : ReportStop)
    → RunEnds call from last limits spent files finding (run.Stopped why) → RunStops call from last limits spent files finding why
run_by_stop call from last limits spent files finding why h = h

pub no_run_where_worn : (call : Call) (from last : Option Place) (limits : Limits) (spent files : ℕ) (finding : Bool) → RunEnds call from last limits spent files finding run.Worn → ⊥
no_run_where_worn call from last limits spent files finding h = h

pub cycle_by_end : (call : Call) (last : Option Place) (limits : List Limits) (spent files : ℕ) (finding : Bool) (count : ℕ)
    → CycleEnds call last limits spent files finding count cycle.Ended → Cycles call last limits spent files finding count true
cycle_by_end call last limits spent files finding count h = h

pub cycle_by_limits : (call : Call) (last : Option Place) (limits : List Limits) (spent files : ℕ) (finding : Bool) (count : ℕ)
    → CycleEnds call last limits spent files finding count cycle.Spent → Cycles call last limits spent files finding count false
cycle_by_limits call last limits spent files finding count h = h

pub cycle_by_stop : (call : Call) (last : Option Place) (limits : List Limits) (spent files : ℕ) (finding : Bool) (count : ℕ) (why : ReportStop)
    → CycleEnds call last limits spent files finding count (cycle.Stopped why) → CycleStops call last limits spent files finding count why
cycle_by_stop call last limits spent files finding count why h = h

-- ---- cursors

pub run_began_at_the_first : (call : Call) (c : Cursor) (limits : Limits) (ran : RunEnd) → c.state ≡ start → RunsFrom call c limits ran → (last : Option Place)
    × RunEnds call None last limits ran.spent ran.files ran.found ran.end
run_began_at_the_first call c limits ran e h = (h.last, subst (λ state. RunEnds call (place_in state) h.last limits ran.spent ran.files ran.found ran.end) e h.run)

pub run_began_again : (call : Call) (c : Cursor) (limits : Limits) (ran : RunEnd) → c.state ≡ ended → RunsFrom call c limits ran → (last : Option Place)
    × RunEnds call None last limits ran.spent ran.files ran.found ran.end
run_began_again call c limits ran e h = (h.last, subst (λ state. RunEnds call (place_in state) h.last limits ran.spent ran.files ran.found ran.end) e h.run)

pub run_went_on : (call : Call) (c : Cursor) (limits : Limits) (ran : RunEnd) (p : Place) → c.state ≡ behind p → RunsFrom call c limits ran
    → (last : Option Place) × RunEnds call (Some p) last limits ran.spent ran.files ran.found ran.end
run_went_on call c limits ran p e h = (h.last, subst (λ state. RunEnds call (place_in state) h.last limits ran.spent ran.files ran.found ran.end) e h.run)

-- where a run or a cycle that is not at its end leaves its cursor
state_said : (last : Option Place) (state : State) → state ≡ state_at last → (last ≡ None → state ≡ start) × ((p : Place) → last ≡ Some p → state ≡ behind p)
state_said last state there = ((λ e. there ∙ ap state_at e), λ p e. there ∙ ap state_at e)

cursor_goes_on : (call : Call) (c : Cursor) (limits : Limits) (ran : RunEnd) → begun c ≡ c → RunsFrom call c limits ran
    → (ran.cursor.cycle ≡ c.cycle) × ((ran.cursor.runs ≡ c.runs + 1) × ((ran.cursor.spent ≡ c.spent + ran.spent) × (ran.cursor.files ≡ c.files + ran.files)))
cursor_goes_on call c limits ran b h = (
  (ap (λ r. r.cycle) h.cursor_is ∙ ap (λ r. r.cycle) b),
  ((ap (λ r. r.runs) h.cursor_is ∙ ap (λ r. r.runs + 1) b), ((ap (λ r. r.spent) h.cursor_is ∙ ap (λ r. r.spent + ran.spent) b), (ap (λ r. r.files) h.cursor_is ∙ ap (λ r. r.files + ran.files) b))),
)

pub cursor_from_the_first : (call : Call) (c : Cursor) (limits : Limits) (ran : RunEnd) → c.state ≡ start → RunsFrom call c limits ran
    → (ran.cursor.cycle ≡ c.cycle) × ((ran.cursor.runs ≡ c.runs + 1) × ((ran.cursor.spent ≡ c.spent + ran.spent) × (ran.cursor.files ≡ c.files + ran.files)))
cursor_from_the_first call c limits ran e h = cursor_goes_on call c limits ran (ap (begun_in c) e) h

pub cursor_from_a_place : (call : Call) (c : Cursor) (limits : Limits) (ran : RunEnd) (p : Place) → c.state ≡ behind p → RunsFrom call c limits ran
    → (ran.cursor.cycle ≡ c.cycle) × ((ran.cursor.runs ≡ c.runs + 1) × ((ran.cursor.spent ≡ c.spent + ran.spent) × (ran.cursor.files ≡ c.files + ran.files)))
cursor_from_a_place call c limits ran p e h = cursor_goes_on call c limits ran (ap (begun_in c) e) h

pub cursor_of_the_next_cycle : (call : Call) (c : Cursor) (limits : Limits) (ran : RunEnd) → c.state ≡ ended → RunsFrom call c limits ran
    → (ran.cursor.cycle ≡ c.cycle + 1) × ((ran.cursor.runs ≡ 1) × ((ran.cursor.spent ≡ ran.spent) × (ran.cursor.files ≡ ran.files)))
cursor_of_the_next_cycle call c limits ran e h =
    let b : begun c ≡ next_cycle c = ap (begun_in c) e in
    let all : ran.cursor.spent ≡ 0 + ran.spent = ap (λ r. r.spent) h.cursor_is ∙ ap (λ r. r.spent + ran.spent) b in
    let each : ran.cursor.files ≡ 0 + ran.files = ap (λ r. r.files) h.cursor_is ∙ ap (λ r. r.files + ran.files) b in
    ((ap (λ r. r.cycle) h.cursor_is ∙ ap (λ r. r.cycle) b), ((ap (λ r. r.runs) h.cursor_is ∙ ap (λ r. r.runs + 1) b), (omega (arith, all), omega (arith, each))))

-- a run's cursor is of the audit that the one is of with which it began
begun_of_the_audit : (c : Cursor) (s : State) → (begun_in c s).further ≡ c.further
begun_of_the_audit c start = refl
begun_of_the_audit c (behind p) = refl
begun_of_the_audit c ended = refl

pub cursor_of_the_audit : (call : Call) (c : Cursor) (limits : Limits) (ran : RunEnd) → RunsFrom call c limits ran → ran.cursor.further ≡ c.further
cursor_of_the_audit call c limits ran h = ap (λ r. r.further) h.cursor_is ∙ begun_of_the_audit c c.state

pub cursor_of_the_end : (call : Call) (c : Cursor) (limits : Limits) (ran : RunEnd) → RunsFrom call c limits ran → ran.end ≡ run.Ended → ran.cursor.state ≡ ended
cursor_of_the_end call c limits ran h e = ap (λ r. r.state) h.cursor_is ∙ ap (λ w. state_after w h.last) e

pub cursor_of_a_spent_run : (call : Call) (c : Cursor) (limits : Limits) (ran : RunEnd) → RunsFrom call c limits ran → ran.end ≡ run.Spent
    → (last : Option Place) × (RunEnds call (place_in c.state) last limits ran.spent ran.files ran.found ran.end
    × ((last ≡ None → ran.cursor.state ≡ start) × ((p : Place) → last ≡ Some p → ran.cursor.state ≡ behind p)))
cursor_of_a_spent_run call c limits ran h e = (h.last, (h.run, state_said h.last _ (ap (λ r. r.state) h.cursor_is ∙ ap (λ w. state_after w h.last) e)))

pub cursor_of_a_stopped_run : (call : Call) (c : Cursor) (limits : Limits) (ran : RunEnd) (why : ReportStop) → RunsFrom call c limits ran → ran.end ≡ run.Stopped why
    → (last : Option Place) × (RunEnds call (place_in c.state) last limits ran.spent ran.files ran.found ran.end
    × ((last ≡ None → ran.cursor.state ≡ start) × ((p : Place) → last ≡ Some p → ran.cursor.state ≡ behind p)))
cursor_of_a_stopped_run call c limits ran why h e = (h.last, (h.run, state_said h.last _ (ap (λ r. r.state) h.cursor_is ∙ ap (λ w. state_after w h.last) e)))

pub cycle_is_the_first : (call : Call) (limits : List Limits) (c : Cursor) (finding : Bool) (how : CycleStatus) → CyclesTo call limits c finding how
    → (c.cycle ≡ 1) × ((last : Option Place) × CycleEnds call last limits c.spent c.files finding c.runs how)
cycle_is_the_first call limits c finding how h = (ap (λ r. r.cycle) h.cursor_is, (h.last, h.cycle))

pub cycle_of_the_audit : (call : Call) (limits : List Limits) (c : Cursor) (finding : Bool) (how : CycleStatus) → CyclesTo call limits c finding how → c.further ≡ call.further
cycle_of_the_audit call limits c finding how h = ap (λ r. r.further) h.cursor_is

pub cursor_of_the_last_run : (call : Call) (limits : List Limits) (c : Cursor) (finding : Bool) → CyclesTo call limits c finding cycle.Ended → c.state ≡ ended
cursor_of_the_last_run call limits c finding h = ap (λ r. r.state) h.cursor_is

pub cursor_of_a_spent_cycle : (call : Call) (limits : List Limits) (c : Cursor) (finding : Bool) → CyclesTo call limits c finding cycle.Spent
    → (last : Option Place) × (CycleEnds call last limits c.spent c.files finding c.runs cycle.Spent × ((last ≡ None → c.state ≡ start) × ((p : Place) → last ≡ Some p → c.state ≡ behind p)))
cursor_of_a_spent_cycle call limits c finding h = (h.last, (h.cycle, state_said h.last _ (ap (λ r. r.state) h.cursor_is)))

pub cursor_of_a_stopped_cycle : (call : Call) (limits : List Limits) (c : Cursor) (finding : Bool) (why : ReportStop)
    → CyclesTo call limits c finding (cycle.Stopped why) → (last : Option Place)
    × (CycleEnds call last limits c.spent c.files finding c.runs (cycle.Stopped why) × ((last ≡ None → c.state ≡ start) × ((p : Place) → last ≡ Some p → c.state ≡ behind p)))
cursor_of_a_stopped_cycle call limits c finding why h = (h.last, (h.cycle, state_said h.last _ (ap (λ r. r.state) h.cursor_is)))

-- ---- without failures

pub clean_end : (further : Further) (root : StorageRoot) (s t : Store) (before written : List ℕ) (c : Cursor) (limits : Limits) (spent files : ℕ) (finding : Bool)
    → RunsCleanly (known_call further root s t before written) c limits spent files finding run.Ended → (left (after (audit further root []) (place_in c.state)) limits ≡ [])
    × ((written ≡ before ++ text (cut (after (audit further root []) (place_in c.state)) limits))
    × ((spent ≡ total_cost (cut (after (audit further root []) (place_in c.state)) limits))
    × ((files ≡ total_files (cut (after (audit further root []) (place_in c.state)) limits)) × (finding ≡ found (cut (after (audit further root []) (place_in c.state)) limits)))))
clean_end further root s t before written c limits spent files finding h = (h.1, (h.0.wrote, (h.0.figures.spent_is, (h.0.figures.files_is, h.0.figures.found_is))))

pub clean_limits : (further : Further) (root : StorageRoot) (s t : Store) (before written : List ℕ) (c : Cursor) (limits : Limits) (spent files : ℕ) (finding : Bool)
    → RunsCleanly (known_call further root s t before written) c limits spent files finding run.Spent → (left (after (audit further root []) (place_in c.state)) limits ≢ [])
    × ((written ≡ before ++ text (cut (after (audit further root []) (place_in c.state)) limits))
    × ((spent ≡ total_cost (cut (after (audit further root []) (place_in c.state)) limits))
    × ((files ≡ total_files (cut (after (audit further root []) (place_in c.state)) limits)) × (finding ≡ found (cut (after (audit further root []) (place_in c.state)) limits)))))
clean_limits further root s t before written c limits spent files finding h = (h.1, (h.0.wrote, (h.0.figures.spent_is, (h.0.figures.files_is, h.0.figures.found_is))))

pub clean_count : (call : Call) (limits : List Limits) (count : ℕ) → HeadlineOf call limits count cycle.Spent → count ≡ length (runs (audit call.further call.root []) limits)
clean_count call limits count h = h.each_run

pub clean_whole_count : (call : Call) (limits : List Limits) (count : ℕ) → HeadlineOf call limits count cycle.Ended → count ≡ length (runs (audit call.further call.root []) limits)
clean_whole_count call limits count h = h.each_run

-- ---- commands

pub audit_performed : (call : Call) (known : Option (Option (List ℕ))) (status : ℕ) (n : Note) (stored : Option (Vec ℕ Global))
    → Performs call known (deed.Audit call.further) status n stored → (ran : AuditEnd) × (AuditEnds call ran.last ran.found ran.end × IsAuditNote ran.found ran.end status n)
audit_performed call known status n stored h = (h.audits.ran, (h.audits.audits, h.audits.says))

pub clean_audit_performed : (known : Option (Option (List ℕ))) (further : Further) (root : StorageRoot) (s t : Store) (before written : List ℕ) (status : ℕ) (n : Note)
    (stored : Option (Vec ℕ Global)) → Performs (known_call further root s t before written) known (deed.Audit further) status n stored → n ≡ note.Nothing
    → t.failures ≡ s.failures → (written ≡ before ++ text (audit further root [])) × (status ≡ status_of (found (audit further root [])))
clean_audit_performed known further root s t before written status n stored h e f = h.clean e f

-- what a command did in other words, unless memory ran out before it did anything
unless_memory_first : {Does Says : Type 0} (call : Call) (status : ℕ) (n : Note) → (Does → Says) → Does ⊎ OutOfMemoryFirst call status n
    → Says ⊎ ((status ≡ 3) × ((n ≡ note.OutOfMemory) × ((call.after ≡ call.before) × (call.new ≡ call.old))))
unless_memory_first call status n said (inl k) = inl (said k)
unless_memory_first call status n said (inr k) = inr (k.status_is, (k.says, (k.uncalled, k.unwritten)))

pub check_performed : (call : Call) (known : Option (Option (List ℕ))) (path : String Global) (p : Place) (status : ℕ) (n : Note)
    (stored : Option (Vec ℕ Global)) → IsPlace p → string_bytes path ≡ place_text p → Performs call known (deed.Check call.further path) status n stored
    → ((ran : CheckEnd) × (CheckEnds call p ran.item ran.found ran.end × IsCheckNote ran.item ran.found ran.end status n))
    ⊎ ((status ≡ 3) × ((n ≡ note.OutOfMemory) × ((call.after ≡ call.before) × (call.new ≡ call.old))))
check_performed call known path p status n stored names e h =
    unless_memory_first call status n (λ (k : ChecksWithNote call p status n). (k.ran, (k.checks, k.says))) (h p names e)

pub cycle_performed : (call : Call) (known : Option (Option (List ℕ))) (limits : MadeLimits) (count : ℕ) (status : ℕ) (n : Note)
    (stored : Option (Vec ℕ Global)) → Performs call known (deed.Cycle call.further limits count) status n stored
    → ((ran : CycleEnd) × (CycleOfRunsWithin call whole (map limits_of (replicate count limits)) ran
    × ((ran.runs ≡ ran.cursor.runs)
    × ((ran.spent ≡ ran.cursor.spent)
    × (IsCycleNote ran.runs ran.spent ran.found ran.end status n
    × (IsUnfailing call → HeadlineOf call (map limits_of (replicate count limits)) ran.runs ran.end))))))
    ⊎ ((status ≡ 3) × ((n ≡ note.OutOfMemory) × ((call.after ≡ call.before) × (call.new ≡ call.old))))
cycle_performed call known limits count status n stored h = unless_memory_first call status n
    (λ (k : CyclesWithNote call (equal_limits limits count) status n). (k.ran, (k.cycles, (k.count_is, (k.spent_is, (k.says, k.headline)))))) h

pub run_performed : (call : Call) (known : Option (Option (List ℕ))) (limits : MadeLimits) (status : ℕ) (n : Note) (stored : Vec ℕ Global)
    → Performs call known (deed.Run call.further limits) status n (Some stored) → (c : Cursor)
    × ((ran : RunEnd) × (BeginsWith call.further known c
    × (RunsFrom call c (limits_of limits) ran
    × ((IsUnfailing call → RunsCleanly call c (limits_of limits) ran.spent ran.files ran.found ran.end)
    × ((stored.items ≡ cursor_text ran.cursor) × IsRunNote ran.cursor ran.spent ran.found ran.end status n)))))
run_performed call known limits status n stored h = by h
  where
    by : RunPerformed call known (limits_of limits) status n (Some stored) → (c : Cursor)
        × ((ran : RunEnd) × (BeginsWith call.further known c
        × (RunsFrom call c (limits_of limits) ran
        × ((IsUnfailing call → RunsCleanly call c (limits_of limits) ran.spent ran.files ran.found ran.end)
        × ((stored.items ≡ cursor_text ran.cursor) × IsRunNote ran.cursor ran.spent ran.found ran.end status n)))))
    by (inl k) = (k.from, (k.runs.ran, (k.begins, (k.runs.runs, (k.runs.clean, (k.runs.says.0, k.runs.says.1))))))
    by (inr k) = absurd (false≢true (sym k.unkept))

pub show_performed : (call : Call) (known : Option (Option (List ℕ))) (status : ℕ) (n : Note) (stored : Option (Vec ℕ Global))
    → Performs call known deed.Show status n stored → call.after ≡ call.before
show_performed call known status n stored h = h
