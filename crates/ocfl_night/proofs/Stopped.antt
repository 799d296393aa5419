-- Where a run stopped: no item that is left is before the branch of that place.
use Rattle.std.proofs.Common.{◌≡◌, ◌++◌, ◌∷◌, ◌∙◌, ◌-◌, [], List, Option, Some, None, Bool, true, false, inl, inr, ap, refl, subst, sym, arith, append-nil, append_assoc, take, drop, length, length-append}
use Rattle.std.proofs.lemmas.{Bool.{or_right}, List.{take_all, take-append-drop, take-append-le}}
use Rattle.std.specs.{Prelude.{◌||◌, ◌⊎◌, IfOk, Result, Err, Ok, codes, not, if◌then◌else◌}, Ordering.{is_lt}}
use Rattle.ocfl_tree.specs.{Place.{Place, Text, place_cmp, text_eq}, Ascending.{IsAmong}}
use Rattle.ocfl_tree.specs.{StorageRoot.{StorageRoot}, Store.{Store}}
use Rattle.ocfl_tree.specs.{Calls.{opening}, declared.store.Opening.{Opening}}
use Rattle.ocfl_tree.proofs.Orders.{among_filter, among_from_filter, among_map, among_right, true_not_false}
use Rattle.ocfl_digest.specs.declared.algorithm.Algorithm.TheVariants.{Sha256, Sha512}
use Rattle.ocfl_inventory.specs.Declaration.{is_declaration}
use Rattle.ocfl_inventory.specs.declared.declaration.Level.TheVariants.{Object}
use Rattle.ocfl_rules.specs.Due.{hashed_among}
use Rattle.ocfl_rules.specs.Head.{sidecar_name}
use Rattle.ocfl_rules.specs.Parts.{Part}
use Rattle.ocfl_rules.specs.Inventories.{is_hashed}
use Rattle.ocfl_rules.specs.Lines.{is_inventory_or_sidecar}
use Rattle.ocfl_rules.specs.Trail.{content_openings, is_common_meta, is_meta, is_meta_zone, is_object_meta, is_root_meta}
use Rattle.ocfl_rules.specs.Zone.{Zone, skipped, hierarchy, inside, inventory_name, zone}
use Rattle.ocfl_report.specs.declared.further.Further.TheVariants.{Nothing, Inventories}
use Rattle.ocfl_rules.specs.{Inventories.{is_version_sidecar}, Objects.{IsVersionSidecar}}
use Rattle.ocfl_rules.proofs.AuditExists.{zone_is}
use Rattle.ocfl_rules.proofs.MetaLaws.{version_sidecar_is}
use Rattle.ocfl_night.proofs.Chains.{run_checks}
use Rattle.ocfl_rules.proofs.BelowLaws.{text_from_test}
use Rattle.ocfl_rules.proofs.BranchLaws.{nothing_above}
use Rattle.ocfl_item.specs.{Auditing.{Fails, FailedAt, in_listing, in_opening}, Looking.{LiesUpTo}}
use Rattle.ocfl_item.specs.declared.fault.Fault.TheVariants as fault
use Rattle.ocfl_cursor.specs.Cursor.{Cursor}
use Rattle.ocfl_scrub.specs.Joining.{PartRun, Ran}
use Rattle.ocfl_scrub.specs.Running.{RunEndsWithin, RunStopsWithin, place_in, state_after}
use Rattle.ocfl_scrub.specs.{Call.{known_call}, Starting.{due_within}, declared.stop.ReportStop.{ReportStop}}
use Rattle.ocfl_scrub.specs.declared.running.RunStatus.{RunStatus}
use Rattle.ocfl_scrub.specs.declared.running.RunStatus.TheVariants as status
use Rattle.ocfl_scrub.specs.declared.stop.ReportStop.TheVariants as report
use Rattle.ocfl_item.proofs.UpToLaws.{begins_not_before, not_less_or}
use Rattle.ocfl_scrub.proofs.DirectoryLaws.{has_directory}
use Rattle.ocfl_scrub.specs.declared.running.RunEnd.{RunEnd}
use Rattle.ocfl_state.specs.{Checkpoint.{Checkpoint}, declared.checkpoint_parts.Left.{Left}}
use Rattle.ocfl_state.specs.declared.checkpoint_parts.ReportMark.{ReportMark}
use Rattle.ocfl_night.specs.{Chain.{NoneBefore, part_after}, Ending.{IsAway, IsMadeBy, IsUnkept, place_or_pause, slice_end}}
use Rattle.ocfl_night.specs.{Looks.{Look}, Promises.{StopsNextOver}, Steps.{IsNext, IsRun}}
use Rattle.ocfl_terms.specs.{declared.made.Made.{Made}, declared.made.SliceEnd.{SliceEnd}, declared.stop.Stop.{Stop}}
use Rattle.ocfl_terms.specs.declared.made.SliceEnd.TheVariants as slice
use Rattle.ocfl_night.specs.Leaving.{branch_at, is_of_inventory, last_name, speaks_for_object}
use Rattle.ocfl_night.proofs.Branches.{last_of}
use Rattle.ocfl_report.specs.declared.further.Further.{Further}

-- ---- the branch of a place

-- the place begins with it
branch_begins : (q : Place) → (r : Place) × (q ≡ branch_at q ++ r)
branch_begins q = by (is_root_meta q || speaks_for_object (last_name q))
  where
    by : (b : Bool) → (r : Place) × (q ≡ (if b then take (length q - 1) q else q) ++ r)
    by true = (drop (length q - 1) q, sym (take-append-drop (length q - 1) q))
    by false = ([], sym (append-nil q))

-- what is not before a place is not before its branch
before_branch : (q y : Place) → is_lt (place_cmp y q) ≡ false → is_lt (place_cmp y (branch_at q)) ≡ false
before_branch q y h =
    let k = branch_begins q in
    not_less_or y q (branch_at q) h (subst (λ z. is_lt (place_cmp z (branch_at q)) ≡ false) (sym k.1) (begins_not_before (branch_at q) k.0))

-- ---- that of metadata is its directory

or_left : (a b : Bool) → a ≡ true → (a || b) ≡ true
or_left a b is = ap (λ (x : Bool). x || b) is

inventory_file : (n : Text) → is_inventory_or_sidecar n ≡ true → is_of_inventory n ≡ true
inventory_file n h = by (text_eq n inventory_name) (text_eq n (sidecar_name Sha256)) (text_eq n (sidecar_name Sha512)) refl refl refl h
  where
    by : (a b c : Bool) → text_eq n inventory_name ≡ a → text_eq n (sidecar_name Sha256) ≡ b → text_eq n (sidecar_name Sha512) ≡ c → (a || b || c) ≡ true → is_of_inventory n ≡ true
    by true b c e f g k = ap is_of_inventory (text_from_test n inventory_name e)
    by false true c e f g k = ap is_of_inventory (text_from_test n (sidecar_name Sha256) f)
    by false false true e f g k = ap is_of_inventory (text_from_test n (sidecar_name Sha512) g)
    by false false false e f g k = absurd (true_not_false (sym k))

object_file : (n : Text) → (is_declaration Object n || is_inventory_or_sidecar n) ≡ true → speaks_for_object n ≡ true
object_file n h = by (is_declaration Object n) refl h
  where
    by : (b : Bool) → is_declaration Object n ≡ b → (b || is_inventory_or_sidecar n) ≡ true → speaks_for_object n ≡ true
    by true e k = or_right (is_of_inventory n) (is_declaration Object n) e
    by false e k = or_left (is_of_inventory n) (is_declaration Object n) (inventory_file n k)

module _ (further : Further) (root : StorageRoot) (q : Place) where
  in_object : (o s : Place) → zone root q ≡ inside o s → is_object_meta s ≡ true → speaks_for_object (last_name q) ≡ true
  in_object o [] e h = absurd (true_not_false (sym h))
  in_object o (k ∷ []) e h = ap speaks_for_object (last_of q o k (zone_is root q o (k ∷ []) e).whole) ∙ object_file k h
  in_object o (k ∷ m ∷ s) e h = absurd (true_not_false (sym h))

  in_zone : (z : Zone) → zone root q ≡ z → is_meta_zone z ≡ true → speaks_for_object (last_name q) ≡ true
  in_zone skipped e h = absurd (true_not_false (sym h))
  in_zone hierarchy e h = absurd (true_not_false (sym h))
  in_zone (inside o s) e h = in_object o s e h

  common_speaks : is_common_meta root q ≡ true → (is_root_meta q || speaks_for_object (last_name q)) ≡ true
  common_speaks h = by (is_root_meta q) refl h
    where
      by : (b : Bool) → is_root_meta q ≡ b → (b || is_meta_zone (zone root q)) ≡ true → (is_root_meta q || speaks_for_object (last_name q)) ≡ true
      by true e k = or_left (is_root_meta q) (speaks_for_object (last_name q)) e
      by false e k = or_right (is_root_meta q) (speaks_for_object (last_name q)) (in_zone (zone root q) refl k)

  -- the sidecar of a version's inventory speaks for that
  named : (n : Text) → (n ≡ codes "inventory.json.sha256") ⊎ (n ≡ codes "inventory.json.sha512") → speaks_for_object n ≡ true
  named n (inl e) = ap speaks_for_object e
  named n (inr e) = ap speaks_for_object e

  sidecar_speaks : IsVersionSidecar root q → speaks_for_object (last_name q) ≡ true
  sidecar_speaks k = ap speaks_for_object (last_of q (k.object ++ k.version ∷ []) k.name (k.whole ∙ sym (append_assoc k.object (k.version ∷ []) (k.name ∷ [])))) ∙ named k.name k.named

  speaks : is_meta further root q ≡ true → (is_root_meta q || speaks_for_object (last_name q)) ≡ true
  speaks h = by further h
    where
      either : (b : Bool) → is_common_meta root q ≡ b → (b || is_version_sidecar (zone root q)) ≡ true → (is_root_meta q || speaks_for_object (last_name q)) ≡ true
      either true e k = common_speaks e
      either false e k = or_right (is_root_meta q) (speaks_for_object (last_name q)) (sidecar_speaks ((version_sidecar_is root q).0 k))

      by : (f : Further) → is_meta f root q ≡ true → (is_root_meta q || speaks_for_object (last_name q)) ≡ true
      by Nothing k = common_speaks k
      by Inventories k = either (is_common_meta root q) refl k

  meta_branch : (d : Place) (n : Text) → q ≡ d ++ n ∷ [] → is_meta further root q ≡ true → branch_at q ≡ d
  meta_branch d n is h =
      let long : length q - 1 ≡ length d = omega (arith, ap length is, length-append d (n ∷ [])) in
      ap (λ (b : Bool). if b then take (length q - 1) q else q) (speaks h)
      ∙ ap (λ m. take m q) long ∙ ap (take (length d)) is ∙ take-append-le (length d) d (n ∷ []) (omega arith) ∙ take_all (length d) d (omega arith)

-- ---- the place at which a call failed

hashed_there : (further : Further) (root : StorageRoot) (ps : List Place) (p : Place) → IsAmong (hashed_among further root ps) p → is_hashed further root p ≡ true
unfolding hashed_among
hashed_there further root ps p i = (among_from_filter (is_hashed further root) ps p i).1

-- what was opened last speaks for its directory: what is not before that is not before its branch
opened_ahead : (further : Further) (root : StorageRoot) (q y : Place) → is_meta further root q ≡ true → LiesUpTo (Some y) q → is_lt (place_cmp y (branch_at q)) ≡ false
opened_ahead further root [] y meta up = before_branch [] y (nothing_above y)
opened_ahead further root (n ∷ q) y meta up =
    let k = has_directory (n ∷ q) (λ e. cc) in
    subst (λ b. is_lt (place_cmp y b) ≡ false) (sym (meta_branch further root (n ∷ q) k.0 k.1.0 k.1.1 meta)) (up k.0 k.1.0 k.1.1)

-- a place that is not before a directory that was listed, nor before the one in which the store
-- failed, is not before the branch of where it failed
failed_ahead : (further : Further) (root : StorageRoot) (s t : Store) (begun listed heads : List Place) (trail : List Opening) (q y : Place) → Fails further root s t begun listed heads trail (Some q)
    → ((d : Place) → IsAmong listed d → is_lt (place_cmp y d) ≡ false) → LiesUpTo (Some y) q → is_lt (place_cmp y (branch_at q)) ≡ false
failed_ahead further root s t begun listed heads trail q y h ahead up = by (h.store q refl).1
  where
    by : FailedAt further root s t listed trail q → is_lt (place_cmp y (branch_at q)) ≡ false
    by (in_listing before is failed read) = before_branch q y (ahead q (subst (λ ds. IsAmong ds q) (sym is) (among_right before (q ∷ []) q (inl refl))))
    by (in_opening before given is none) = of (is_meta further root q) refl
      where
        there : IsAmong trail (opening q given true)
        there = subst (λ os. IsAmong os (opening q given true)) (sym is) (among_right before (opening q given true ∷ []) (opening q given true) (inl refl))

        of : (b : Bool) → is_meta further root q ≡ b → is_lt (place_cmp y (branch_at q)) ≡ false
        of true e = opened_ahead further root q y e up
        of false e =
            let content : IsAmong (content_openings further root trail) (opening q given true) = among_filter (λ x. not (is_meta further root x.place)) trail (opening q given true) there (ap not e) in
            let hashed = hashed_there further root begun q (subst (λ l. IsAmong l q) h.opened (among_map (λ x. x.place) (content_openings further root trail) (opening q given true) content)) in
            absurd (true_not_false (sym hashed ∙ (h.store q refl).0))

-- ---- a run that stopped there

place_left : (why : ReportStop) (last : Option Place) → place_in (state_after (status.Stopped why) last) ≡ last
place_left why None = refl
place_left why (Some p) = refl

pub none_before : (further : Further) (root : StorageRoot) (part : Part) (c : Cursor) (r : PartRun) (q : Place) → Ran further root part c r → r.ran.end ≡ status.Stopped (report.Fault (fault.Store q))
    → NoneBefore further root part (place_in r.ran.cursor.state) (branch_at q)
none_before further root part c r q m is y i =
    let h = m.runs in
    let why : ReportStop = report.Fault (fault.Store q) in
    let call = known_call further root m.before m.behind m.old (m.old ++ (r.report ++ m.cut)) in
    let w : RunStopsWithin call part (place_in c.state) h.last r.limits r.ran.spent r.ran.files r.ran.found why =
    subst (λ (e : RunStatus). RunEndsWithin call part (place_in c.state) h.last r.limits r.ran.spent r.ran.files r.ran.found e) is h.run in
    let stood : place_in r.ran.cursor.state ≡ h.last =
    ap (λ (x : Cursor). place_in x.state) h.cursor_is ∙ ap (λ (e : RunStatus). place_in (state_after e h.last)) is ∙ place_left why h.last in
    let left : IsAmong (due_within further root part h.last) y = subst (λ o. IsAmong (due_within further root part o) y) stood i in
    failed_ahead further root m.before m.behind _ _ _ w.trail q y w.looks.fails (λ d j. w.ahead d y j left) (w.up_to q y refl left)

-- ---- the same of a slice

-- a slice stopped where its run did
stop_of : (e : RunStatus) (p : Place) → place_or_pause (slice_end e) ≡ Ok p → e ≡ status.Stopped (report.Fault (fault.Store p))
stop_of status.Ended p is = absurd cc
stop_of status.Spent p is = absurd cc
stop_of status.Worn p is = absurd cc
stop_of (status.Stopped report.Output) p is = absurd cc
stop_of (status.Stopped (report.Fault fault.Memory)) p is = absurd cc
stop_of (status.Stopped (report.Fault (fault.Store q))) p is = let same : q ≡ p = cc in ap (λ x. status.Stopped (report.Fault (fault.Store x))) same

away : (e : SliceEnd) (p : Place) → IsAway e → place_or_pause e ≡ Ok p → ⊥
away slice.Ended p gone is = gone
away slice.Spent p gone is = gone
away (slice.Stopped why) p gone is = gone
away slice.RootChanged p gone is = cc
away (slice.Unread q) p gone is = cc

pub unkept_stops : (root : StorageRoot) (part : Part) (k : Checkpoint) (r : Result Made Stop) → IfOk r (IsUnkept k) → IfOk r (StopsNextOver root part)
unkept_stops root part k (Err e) h = tt
unkept_stops root part k (Ok m) h = λ p is. absurd (away m.end p h.away is)

pub made_stops : (root : StorageRoot) (part : Part) (k : Checkpoint) (look : Look) (ran : RunEnd) (lines : Text) → look.root ≡ root → IsRun (part_after part k.left) k.cursor look lines ran
    → (r : Result Made Stop) → IfOk r (λ m. (mark : ReportMark) × IsNext k ran mark m.checkpoint) → IfOk r (IsMadeBy ran) → IfOk r (StopsNextOver root part)
made_stops root part k look ran lines over run (Err e) next made = tt
made_stops root part k look ran lines over run (Ok m) next made = λ p is.
    let stopped : ran.end ≡ status.Stopped (report.Fault (fault.Store p)) = stop_of ran.end p (ap place_or_pause (sym made.end) ∙ is) in
    let none = none_before k.cursor.further look.root (part_after part k.left) k.cursor run.run p run.made (ap (λ (x : RunEnd). x.end) run.ran_is ∙ stopped) in
    let cursor : run.run.ran.cursor ≡ m.checkpoint.cursor = ap (λ (x : RunEnd). x.cursor) run.ran_is ∙ sym next.1.cursor_is in
    let left : k.left ≡ m.checkpoint.left = sym (ap (λ (x : Checkpoint). x.left) next.1.rest_is) in
    let checks : k.cursor.further ≡ m.checkpoint.cursor.further = sym (run_checks k.cursor.further look.root (part_after part k.left) k.cursor run.run run.made) ∙ ap (λ (x : Cursor). x.further) cursor in
    subst (λ (x : StorageRoot). NoneBefore m.checkpoint.cursor.further x (part_after part m.checkpoint.left) (place_in m.checkpoint.cursor.state) (branch_at p)) over
    (subst (λ (f : Further). NoneBefore f look.root (part_after part m.checkpoint.left) (place_in m.checkpoint.cursor.state) (branch_at p)) checks
    (subst (λ (l : List Left). NoneBefore k.cursor.further look.root (part_after part l) (place_in m.checkpoint.cursor.state) (branch_at p)) left
    (subst (λ (x : Cursor). NoneBefore k.cursor.further look.root (part_after part k.left) (place_in x.state) (branch_at p)) cursor none)))
