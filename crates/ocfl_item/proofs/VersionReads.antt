-- What reading the sidecars beside an inventory in the directory of a version did.
use Rattle.std.proofs.Common.{◌≡◌, ◌≢◌, ℕ, ◌-◌, ◌+◌, List, [], ◌∷◌, ◌++◌, refl, sym, ◌∙◌, ap, subst, true, false, Bool, inr, Some, None, arith, length, take, map, is_some}
use Rattle.std.proofs.{Math.Bool.{or-true}, Math.Seq.{take-append_seam}, lemmas.List.{length-append}, lemmas.Map.Made.{AllPairs-from_IsDistinct}}
use Rattle.std.specs.Prelude.{cond, ◌&&◌, ◌||◌, AllPairs, Result, Ok, Err, option_map}
use Rattle.std.specs.List.{AllByRecursion, IsDistinct}
use Rattle.ocfl_tree.specs.{Place.{Place, Text, text_eq}, Ascending.{IsAmong}}
use Rattle.ocfl_tree.specs.{StorageRoot.{StorageRoot, file_at}, Store.{Store}}
use Rattle.ocfl_tree.specs.{declared.store.Entry.{Entry}, declared.store.Opening.{Opening}}
use Rattle.ocfl_tree.proofs.Places.{text_eq-Decides}
use Rattle.ocfl_tree.specs.declared.store.Kind.{Kind}
use Rattle.ocfl_tree.specs.declared.store.Kind.TheVariants as kind
use Rattle.ocfl_tree.proofs.Orders.{true_not_false}
use Rattle.ocfl_report.specs.declared.further.Further.{Further}
use Rattle.ocfl_report.specs.declared.further.Further.TheVariants.{Nothing, Inventories}
use Rattle.ocfl_digest.specs.declared.algorithm.Algorithm.TheVariants.{Sha256, Sha512}
use Rattle.ocfl_rules.specs.Zone.{inside, zone, inventory_name}
use Rattle.ocfl_rules.specs.{Between.{is_looked_into}, Head.{on, sidecar_name}}
use Rattle.ocfl_inventory.specs.ListedPath.{is_version_name}
use Rattle.ocfl_rules.specs.Inventories.{is_version_sidecar, root_inventory}
use Rattle.ocfl_rules.specs.Trail.{content_trail, heads_of, inventory_of, is_common_meta, is_head, is_meta, places_of, reads_inventory}
use Rattle.ocfl_rules.proofs.AuditExists.{append_one, zone_is}
use Rattle.ocfl_rules.proofs.BelowLaws.{text_from_test}
use Rattle.ocfl_rules.proofs.{MetaLaws.{object_around}, ObjectLaws.{object_by_zone}}
use Rattle.ocfl_item.specs.{Around.{AreBehind, IsMet, TellOfSidecars}, Auditing.{LiesBeside}, HeadFiles.{FilesStop, ReadsFiles, files_there}}
use Rattle.ocfl_item.specs.Internal.HeadFiles.{HaveSidecars}
use Rattle.ocfl_item.specs.Internal.Visiting.{IsEntryAt, IsInventoryAt, IsShut, is_checked}
use Rattle.ocfl_item.specs.{Looking.{IsFront, LiesUpTo}, Meeting.{IsItemAt, MeetFails, Meets, Visits}, Pending.{IsPending}}
use Rattle.ocfl_item.specs.{declared.fault.Fault.{Fault}, declared.visit.Visit.{Visit}}
use Rattle.ocfl_item.specs.{declared.meeting.Around.{Around}, Root.{root_at, root_view}}
use Rattle.ocfl_item.specs.declared.pending.Pending.{Pending}
use Rattle.ocfl_item.specs.declared.fault.Fault.TheVariants as fault
use Rattle.ocfl_item.proofs.{AuditingLaws.{files_in, front_none, front_of_none}, BaseLaws.{IsQuiet, front_quiet, only_quiet}}
use Rattle.ocfl_item.proofs.{FileLaws.{front_once, whole_front}, LooksZones.{inside_on}}
use Rattle.ocfl_item.proofs.UpToLaws.{files_up_to}
use Rattle.ocfl_item.proofs.{VersionItems.{found}, VisitLaws.{file_shut, visit_of_item, visits_memory, visits_told}, VisitPlaces.{entry_met}}

abbrev both : List Text
both = sidecar_name Sha256 ∷ sidecar_name Sha512 ∷ []

both_distinct : IsDistinct text_eq both
unfolding IsDistinct
both_distinct = ((refl, tt), (tt, tt))

both_apart : AllPairs (λ n m. n ≢ m) both
both_apart = AllPairs-from_IsDistinct text_eq-Decides both both_distinct

-- the directory of a place
pub directory_is : (p d : Place) (n : Text) (i : ℕ) → p ≡ d ++ n ∷ [] → i ≡ length p - 1 → take i p ≡ d
directory_is p d n i is short =
    let long : length p ≡ length d + 1 = ap length is ∙ length-append d (n ∷ []) in
    let same : i ≡ length d = omega (arith, short, long) in
    (λ j. take (same j) (is j)) ∙ take-append_seam d (n ∷ [])

module _ (root : StorageRoot) (e o : Place) (v : Text) (h : IsInventoryAt root e o v) where
  abbrev d : Place
  d = o ++ v ∷ []

  pub whole : e ≡ d ++ inventory_name ∷ []
  whole = (zone_is root e o (v ∷ inventory_name ∷ []) h.zone).whole ∙ sym (append_one o (inventory_name ∷ []) v)

  below : (n : Text) → zone root (d ++ n ∷ []) ≡ inside o (v ∷ n ∷ [])
  below n = ap (zone root) (append_one o (n ∷ []) v) ∙ inside_on root o o [] (v ∷ n ∷ []) ((object_by_zone root o).0 (object_around root e o (v ∷ inventory_name ∷ []) h.zone))

  is_sidecar_meta : (n : Text) → text_eq n (sidecar_name Sha256) || text_eq n (sidecar_name Sha512) ≡ true → is_meta Inventories root (d ++ n ∷ []) ≡ true
  is_sidecar_meta n is =
      ap (λ z. is_common_meta root (d ++ n ∷ []) || is_version_sidecar z) (below n)
      ∙ (λ i. is_common_meta root (d ++ n ∷ []) || (h.named i && is i)) ∙ or-true (is_common_meta root (d ++ n ∷ []))

  pub have_sidecars : (es : List Entry) → TellOfSidecars root d es → HaveSidecars Inventories root d es
  have_sidecars es told = record { told = told; short = is_sidecar_meta (sidecar_name Sha256) refl; long = is_sidecar_meta (sidecar_name Sha512) refl }

  -- ---- what was opened

  quiet_at : (n : Text) → text_eq n (sidecar_name Sha256) || text_eq n (sidecar_name Sha512) ≡ true → IsQuiet Inventories root (d ++ n ∷ [])
  quiet_at n is = (is_sidecar_meta n is, ap inventory_of (below n))

  there_quiet : AllByRecursion (IsQuiet Inventories root) (files_there root d both)
  there_quiet = by (is_some (file_at root (d ++ sidecar_name Sha256 ∷ []))) (is_some (file_at root (d ++ sidecar_name Sha512 ∷ [])))
    where
      by : (a b : Bool) → AllByRecursion (IsQuiet Inventories root)
          (map (λ n. d ++ n ∷ []) (cond a (sidecar_name Sha256 ∷ cond b (sidecar_name Sha512 ∷ []) []) (cond b (sidecar_name Sha512 ∷ []) [])))
      by true true = (quiet_at (sidecar_name Sha256) refl, (quiet_at (sidecar_name Sha512) refl, tt))
      by true false = (quiet_at (sidecar_name Sha256) refl, tt)
      by false true = (quiet_at (sidecar_name Sha512) refl, tt)
      by false false = tt

  module _ (trail : List Opening) (opened : IsFront (places_of trail) (files_there root d both)) where
    quiet : (content_trail Inventories root trail ≡ []) × (heads_of root trail ≡ [])
    quiet = only_quiet Inventories root trail (front_quiet Inventories root (places_of trail) opened.0 (subst (AllByRecursion (IsQuiet Inventories root)) opened.1 there_quiet))

    beside : (x : Opening) → IsAmong trail x → LiesBeside root e x.place
    beside x i =
        let n = files_in root d both trail opened x i in
        (ap is_some (found root e o v h), (d, (inventory_name, (n.0, (whole, n.1)))))

  shut : IsShut root e
  shut = file_shut root e kind.File h.here refl

  pub inventory_meets : (s t : Store) → ReadsFiles Inventories root s t d both → Meets Inventories root s t e
  inventory_meets s t r =
      let opened = whole_front root d r.trail both r.opened in
      record {
        over = r.over;
        trail = r.trail;
        listings = [];
        did = r.did;
        read = r.read;
        meta = (quiet r.trail opened).0;
        once = front_once root d both both_apart r.trail opened;
        elsewhere = λ g some. beside r.trail opened;
        listed = sym (ap (λ b. on b e) shut.looked);
        heads = (quiet r.trail opened).1 ∙ sym (ap (λ b. on b e) shut.read);
        near = λ x i meta. inr (e, beside r.trail opened x i);
      }

  pub inventory_fails : (s t : Store) (why : Fault) → FilesStop Inventories root s t d both why → MeetFails Inventories root s t e why
  inventory_fails s t why r =
      record {
        over = r.stops.goes.over;
        trail = r.trail;
        listings = r.stops.goes.listings;
        did = r.stops.goes.did;
        read = r.stops.goes.read;
        meta = (quiet r.trail r.opened).0;
        once = front_once root d both both_apart r.trail r.opened;
        elsewhere = λ g some. beside r.trail r.opened;
        listed = subst (λ ls. IsFront ls (on (is_looked_into root e) e)) (sym (front_of_none r.stops.goes.listings r.stops.goes.listed)) (front_none (on (is_looked_into root e) e));
        heads = subst (λ os. IsFront os (on (reads_inventory root e) e)) (sym (quiet r.trail r.opened).1) (front_none (on (reads_inventory root e) e));
        near = λ x i meta. inr (e, beside r.trail r.opened x i);
        store = r.stops.store;
        up_to = λ q g. subst (λ x. LiesUpTo (Some x) q) (sym whole) (files_up_to Inventories root s t d both why r (inventory_name ∷ []) q g);
      }

  -- ---- what is met there

  module _ (s t : Store) (x : Place) (is : x ≡ d) where
    pub inventory_stops : (why : Fault) → FilesStop Inventories root s t x both why → Visits Inventories root s t e (Err why)
    inventory_stops why r = record { gives = inventory_fails s t why (subst (λ y. FilesStop Inventories root s t y both why) is r) }

    met : ReadsFiles Inventories root s t x both → Meets Inventories root s t e
    met r = inventory_meets s t (subst (λ y. ReadsFiles Inventories root s t y both) is r)

    pub inventory_refused : ReadsFiles Inventories root s t x both → Visits Inventories root s t e (Err fault.Memory)
    inventory_refused r = visits_memory Inventories root s t e (met r)

    -- an item, and nothing else
    pub inventory_visits : ReadsFiles Inventories root s t x both → (m : Visit) (p : Pending) → IsPending Inventories root p → p.place ≡ e → m.item ≡ Some p → m.folder ≡ None → m.table ≡ None
        → Visits Inventories root s t e (Ok m)
    inventory_visits r m p pending place item folder table =
        visits_told Inventories root s t e m (met r) (visit_of_item Inventories root e m (subst (IsItemAt Inventories root e) (sym item) (pending, place)) folder table (ap is_head h.zone) shut.names)

checked_asked : (further : Further) (n : Text) (k : Kind) → is_checked further n k ≡ true → (further ≡ Inventories) × (k ≡ kind.File) × (n ≡ inventory_name)
checked_asked Nothing n k h = absurd (true_not_false (sym h))
checked_asked Inventories n kind.File h = (refl, refl, text_from_test n inventory_name h)
checked_asked Inventories n kind.Dir h = absurd (true_not_false (sym h))
checked_asked Inventories n kind.Other h = absurd (true_not_false (sym h))

-- an entry of a version directory is its inventory, and is checked
pub checked_visits : (further : Further) (root : StorageRoot) (d p : Place) (v : Text) (a : Around) (entry : Entry) (es : List Entry) (s t : Store) (r : Result Visit Fault)
    → is_checked further entry.name entry.kind ≡ true → IsMet further root d (Some a) entry p → d ≡ a.place ++ v ∷ []
    → zone root p ≡ inside a.place (v ∷ entry.name ∷ []) → is_version_name v ≡ true → AreBehind further root d entry es
    → ((o : Place) (w : Text) → IsInventoryAt root p o w → option_map root_view a.root ≡ root_inventory root o → TellOfSidecars root (o ++ w ∷ []) es → Visits Inventories root s t p r)
    → Visits further root s t p r
checked_visits further root d p v a entry es s t r checked met is z named behind told =
    let asked = checked_asked further entry.name entry.kind checked in
    subst (λ f. Visits f root s t p r) (sym asked.0)
    (told a.place v
    (record {
      here = subst (IsEntryAt root p) asked.1 (entry_met further root d p (Some a) entry met);
      zone = z ∙ ap (λ n. inside a.place (v ∷ n ∷ [])) asked.2;
      named = named;
      table = a.table;
      goes_on = met.part.2;
    })
    (met.part.3 ∙ ap (λ f. root_at f root a.place) asked.0)
    (subst (λ x. TellOfSidecars root x es) is (subst (λ f. AreBehind f root d entry es) asked.0 behind asked.2)))
