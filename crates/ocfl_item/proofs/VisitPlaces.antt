-- Entries of the storage hierarchy: what is outside objects, and objects.
use Rattle.std.proofs.Common.{◌≡◌, ◌≢◌, suc, ◌+◌, ◌-◌, ◌<◌, ◌≤◌, List, [], ◌∷◌, ◌++◌, refl, sym, ◌∙◌, ap, subst, true, false, Bool, Option, Some, None, arith, length}
use Rattle.std.proofs.lemmas.List.{length-append}
use Rattle.std.proofs.Math.Bool.{and-false}
use Rattle.std.proofs.lemmas.Bool.{eqb-true, le-leb, lt-ltb, le-ltb, lt-leb}
use Rattle.std.specs.Prelude.{cond, nat_eq, nat_le, option_map, codes, ◌&&◌, Result, Ok, Err, IfOk, option_map, IfSome}
use Rattle.std.specs.List.{list_all}
use Rattle.ocfl_tree.specs.Place.{Place, Text, text_eq}
use Rattle.ocfl_tree.specs.StorageRoot.{StorageRoot, Leaf, file, other, at, is_dir, names_in}
use Rattle.ocfl_tree.specs.{Store.{Store, Did}, Listing.{kind_of, IsListing, IsOrdinary}}
use Rattle.ocfl_tree.specs.{declared.store.Entry.{Entry}, declared.store.Kind.{Kind}}
use Rattle.ocfl_tree.specs.declared.store.Kind.TheVariants as kind
use Rattle.ocfl_tree.proofs.{Orders.{true_not_false}, Stores.{did_then, listed_well}}
use Rattle.ocfl_tree.proofs.Bools.{and_both, and_first}
use Rattle.ocfl_report.specs.declared.further.Further.{Further}
use Rattle.ocfl_inventory.specs.{Note.{Note, plain}, Table.{Table}}
use Rattle.ocfl_inventory.specs.Declaration.{undeclared, declared}
use Rattle.ocfl_inventory.specs.Entries.{file_names, meaning, PointsAtOne}
use Rattle.ocfl_inventory.specs.declared.declaration.Declared.{Declared as MadeDeclared}
use Rattle.ocfl_report.specs.declared.code.Code.TheVariants.{E072, E073, S04, S05}
use Rattle.ocfl_inventory.specs.declared.declaration.Declared.TheVariants as made
use Rattle.ocfl_inventory.specs.declared.declaration.Level.TheVariants as level
use Rattle.ocfl_rules.specs.Head.{on}
use Rattle.ocfl_rules.specs.Zone.{skipped, hierarchy, inside, zone, seen, table_at, is_entered, is_listed_zone, is_listed_in_object, max_listed_depth, object_declared, beginnings, files_in, is_declared}
use Rattle.ocfl_rules.specs.Inventories.{notes}
use Rattle.ocfl_rules.specs.Lines.{notes_in, named_in, is_empty, listed_dir_notes, hierarchy_notes}
use Rattle.ocfl_rules.specs.Walk.{is_extensions, is_reached, seen_names, step_zone}
use Rattle.ocfl_rules.specs.Trail.{is_head}
use Rattle.ocfl_rules.specs.Between.{is_looked_into, shows_entries}
use Rattle.ocfl_rules.proofs.AuditExists.{not_empty}
use Rattle.ocfl_rules.proofs.PathLaws.{notes_at}
use Rattle.ocfl_rules.proofs.StepLaws.{all_beginnings_step, zone_step}
use Rattle.ocfl_item.specs.{Looking.{IsFront, failures_by}, Pending.{IsPending}}
use Rattle.ocfl_item.specs.{Internal.Lines.{HasLines, IsUnhashed}, Ways.{Enters, is_listable}}
use Rattle.ocfl_item.specs.Internal.Ways.{IsDeclared}
use Rattle.ocfl_item.specs.Meeting.{IsFairVisit, IsFolderAt, IsItemAt, IsTableAt, IsVisit, Meets, MeetFails, Visits}
use Rattle.ocfl_item.specs.Around.{IsMet}
use Rattle.ocfl_item.specs.Internal.Visiting.{HasRole, IsDirectoryAt, IsEntryAt, IsPlainAt, IsUndeclaredAt, ReadsOne, ReadOneFails, VisitsHead}
use Rattle.ocfl_item.specs.{declared.fault.Fault.{Fault}, declared.folder.Folder.{Folder}}
use Rattle.ocfl_item.specs.declared.lines.PlaceLines.{PlaceLines}
use Rattle.ocfl_item.specs.{declared.pending.Pending.{Pending}, declared.meeting.Around.{Around}}
use Rattle.ocfl_item.specs.declared.visit.Visit.{Visit}
use Rattle.ocfl_item.specs.declared.role.Role.TheVariants as role
use Rattle.ocfl_item.proofs.AuditingLaws.{failed_behind, front_all}
use Rattle.ocfl_item.proofs.{LooksCalls.{declares_one}, LooksEntries.{emptied, not_emptied}, ItemLaws.{head_unhashed}}
use Rattle.ocfl_item.proofs.LooksZones.{declared_object, entered_from, out_of_zone}
use Rattle.ocfl_item.proofs.ShutLaws.{hidden, looked_at, shut_zone}
use Rattle.ocfl_item.proofs.VisitLaws.{deep_notes, entered_meets, entry_dir, entry_file, entry_other, file_shut, no_dir, other_shut, relined, short_notes, dir_here, visit_of_folder, rootless}
use Rattle.ocfl_item.specs.Root.{root_at, root_view}
use Rattle.ocfl_item.proofs.CommonLaws.{lines_alone, no_version, unnamed_unhashed}

-- ---- an entry that is next

pub entry_met : (further : Further) (root : StorageRoot) (d e : Place) (a : Option Around) (entry : Entry) → IsMet further root d a entry e → IsEntryAt root e entry.kind
entry_met further root d e a entry m = record {
  way = ap (λ x. list_all (is_entered root) (beginnings x)) m.is ∙ all_beginnings_step (is_entered root) d entry.name ∙ m.reached;
  kind = ap (λ x. option_map kind_of (at root x)) m.is ∙ m.kind;
}

pub filled_by : (e d : Place) (n : Text) → e ≡ d ++ n ∷ [] → e ≢ []
filled_by e d n is g = not_empty d n (sym is ∙ g)

and_false : (a b : Bool) → b ≡ false → a && b ≡ false
and_false a b h = ap (λ x. a && x) h ∙ and-false a

pub hierarchy_plain : (further : Further) (root : StorageRoot) (e : Place) → e ≢ [] → zone root e ≡ hierarchy → IsPlainAt further root e (hierarchy_notes root e (seen root e))
hierarchy_plain further root e some z = record {
  lines = lines_alone root e (no_version root e _ z refl) further (ap is_head z) None ∙ notes_at root None e some ∙ ap (notes_in root e None) z;
  unhashed = unnamed_unhashed root e (no_version root e _ z refl) further (ap (named_in root) z);
  head = ap is_head z;
}

pub skipped_plain : (further : Further) (root : StorageRoot) (e : Place) → e ≢ [] → zone root e ≡ skipped → IsPlainAt further root e []
skipped_plain further root e some z = record {
  lines = lines_alone root e (no_version root e _ z refl) further (ap is_head z) None ∙ notes_at root None e some ∙ ap (notes_in root e None) z;
  unhashed = unnamed_unhashed root e (no_version root e _ z refl) further (ap (named_in root) z);
  head = ap is_head z;
}

undeclared_no_dir : (root : StorageRoot) (e : Place) → is_dir root e ≡ false → object_declared root e ≡ undeclared
undeclared_no_dir root e h = ap (λ b. cond (b && nat_le (length e) max_listed_depth) (declared level.Object (files_in root e)) undeclared) h

pub undeclared_deep : (root : StorageRoot) (e : Place) → 127 < length e → object_declared root e ≡ undeclared
undeclared_deep root e h = ap (λ b. cond b (declared level.Object (files_in root e)) undeclared) (and_false (is_dir root e) (nat_le (length e) max_listed_depth) (lt-leb (length e) 127 h))

module _ (root : StorageRoot) (e d : Place) (n : Text) (is : e ≡ d ++ n ∷ []) (part : zone root d ≡ hierarchy) where
  zone_next : zone root e ≡ cond (is_extensions root d n) skipped (cond (is_declared (object_declared root e)) (inside e []) hierarchy)
  zone_next =
      ap (zone root) is ∙ zone_step root d n ∙ ap (λ z. cond (is_extensions root d n) skipped (step_zone root d n z)) part
      ∙ ap (λ x. cond (is_extensions root d n) skipped (cond (is_declared (object_declared root x)) (inside x []) hierarchy)) (sym is)

  pub zone_passed : is_extensions root d n ≡ false → zone root e ≡ cond (is_declared (object_declared root e)) (inside e []) hierarchy
  zone_passed h = zone_next ∙ ap (λ b. cond b skipped (cond (is_declared (object_declared root e)) (inside e []) hierarchy)) h

  pub zone_skipped : is_extensions root d n ≡ true → zone root e ≡ skipped
  zone_skipped h = zone_next ∙ ap (λ b. cond b skipped (cond (is_declared (object_declared root e)) (inside e []) hierarchy)) h

  no_extensions : is_dir root e ≡ false → is_extensions root d n ≡ false
  no_extensions h = by d is
    where
      by : (d : Place) → e ≡ d ++ n ∷ [] → is_extensions root d n ≡ false
      by [] g = and_false (text_eq n (codes "extensions")) (is_dir root (n ∷ [])) (ap (is_dir root) (sym g) ∙ h)
      by (m ∷ d) g = refl

  pub extensions_from : nat_eq (length e - 1) 0 && text_eq n (codes "extensions") ≡ true → is_dir root e ≡ true → is_extensions root d n ≡ true
  extensions_from h there = by d is
    where
      by : (d : Place) → e ≡ d ++ n ∷ [] → is_extensions root d n ≡ true
      by [] g = and_both (text_eq n (codes "extensions")) (is_dir root (n ∷ []))
          (ap (λ k. nat_eq (k - 1) 0 && text_eq n (codes "extensions")) (sym (ap length g)) ∙ h) (ap (is_dir root) (sym g) ∙ there)
      by (m ∷ d) g =
          let one : length e - 1 ≡ 0 = eqb-true (length e - 1) 0 (and_first (nat_eq (length e - 1) 0) (text_eq n (codes "extensions")) h) in
          let long : length e ≡ suc (length (d ++ n ∷ [])) = ap length g in
          let inner : length (d ++ n ∷ []) ≡ length d + 1 = length-append d (n ∷ []) in
          absurd (omega (arith, one, long, inner))

  pub extensions_not : nat_eq (length e - 1) 0 && text_eq n (codes "extensions") ≡ false → is_extensions root d n ≡ false
  extensions_not h = by d is
    where
      by : (d : Place) → e ≡ d ++ n ∷ [] → is_extensions root d n ≡ false
      by [] g = ap (λ b. b && is_dir root (n ∷ [])) (ap (λ k. nat_eq (k - 1) 0 && text_eq n (codes "extensions")) (sym (ap length g)) ∙ h)
      by (m ∷ d) g = refl

  -- what is no directory is in the hierarchy
  zone_no_dir : is_dir root e ≡ false → zone root e ≡ hierarchy
  zone_no_dir h = zone_passed (no_extensions h) ∙ ap (λ x. cond (is_declared x) (inside e []) hierarchy) (undeclared_no_dir root e h)

module _ (further : Further) (root : StorageRoot) (e d : Place) (n : Text) (is : e ≡ d ++ n ∷ []) (part : zone root d ≡ hierarchy) where
  module _ (k : Kind) (h : IsEntryAt root e k) where
    in_hierarchy : (leaf : Leaf) (ns : List Note) → is_dir root e ≡ false → seen root e ≡ Some leaf → hierarchy_notes root e (Some leaf) ≡ ns → IsPlainAt further root e ns
    in_hierarchy leaf ns not s k = relined further root e (hierarchy_notes root e (seen root e)) ns (ap (hierarchy_notes root e) s ∙ k) (hierarchy_plain further root e (filled_by e d n is) (zone_no_dir root e d n is part not))

    no_file_dir : k ≡ kind.File → is_dir root e ≡ false
    no_file_dir g = no_dir root e k h (λ x. cc)

    no_other_dir : k ≡ kind.Other → is_dir root e ≡ false
    no_other_dir g = no_dir root e k h (λ x. cc)

    pub file_deeper : k ≡ kind.File → 1 < length e → HasRole further root e (role.Plain E072)
    file_deeper g deep = let f = entry_file root e k h g in
        (in_hierarchy (file f.0) (plain E072 ∷ []) (no_file_dir g) f.1 (ap (λ b. on b (plain E072)) (lt-ltb 1 (length e) deep)), file_shut root e k h g)

    pub file_in_root : k ≡ kind.File → length e ≤ 1 → HasRole further root e role.LeftAlone
    file_in_root g short = let f = entry_file root e k h g in (in_hierarchy (file f.0) [] (no_file_dir g) f.1 (ap (λ b. on b (plain E072)) (le-ltb 1 (length e) short)), file_shut root e k h g)

    pub other_in_hierarchy : k ≡ kind.Other → HasRole further root e (role.Plain S04)
    other_in_hierarchy g = (in_hierarchy other (plain S04 ∷ []) (no_other_dir g) (entry_other root e k h g) refl, other_shut root e k h g)

    pub extensions_alone : k ≡ kind.Dir → nat_eq (length e - 1) 0 && text_eq n (codes "extensions") ≡ true → HasRole further root e role.LeftAlone
    extensions_alone g x =
        let z : zone root e ≡ skipped = zone_skipped root e d n is part (extensions_from root e d n is part x (dir_here root e k h g)) in
        (skipped_plain further root e (filled_by e d n is) z, shut_zone root e (filled_by e d n is) (ap (shows_entries root) z))

    pub other_directory : k ≡ kind.Dir → nat_eq (length e - 1) 0 && text_eq n (codes "extensions") ≡ false → HasRole further root e role.Directory
    other_directory g x = record { here = subst (IsEntryAt root e) g h; below = filled_by e d n is; zone = zone_passed root e d n is part (extensions_not root e d n is part x) }

-- ---- a directory of the hierarchy, or an object

module _ (root : StorageRoot) (e : Place) (h : IsDirectoryAt root e) where
  undeclared_zone : object_declared root e ≡ undeclared → zone root e ≡ hierarchy
  undeclared_zone g = h.zone ∙ ap (λ x. cond (is_declared x) (inside e []) hierarchy) g

  pub short_listable : length e ≤ 127 → is_listable root e ≡ true
  short_listable short = and_both (nat_le (length e) max_listed_depth) (is_dir root e) (le-leb (length e) 127 short) (dir_here root e kind.Dir h.here refl)

  -- it is looked into, an object or not
  pub looked_either : length e ≤ 127 → is_looked_into root e ≡ true
  looked_either short = looked_at root e h.here.way (short_listable short) (ap (shows_entries root) h.zone ∙ by (is_declared (object_declared root e)))
    where
      by : (b : Bool) → shows_entries root (cond b (inside e []) hierarchy) ≡ true
      by true = refl
      by false = refl

  pub directory_reached : length e ≤ 127 → object_declared root e ≡ undeclared → is_reached root e ≡ true
  directory_reached short g = and_both (list_all (is_entered root) (beginnings e)) (is_entered root e) h.here.way
      (entered_from root e (short_listable short) (ap (is_listed_zone root) (undeclared_zone g)))

module _ (further : Further) (root : StorageRoot) (e : Place) (h : IsDirectoryAt root e) where
  directory_plain : (ns : List Note) → object_declared root e ≡ undeclared → listed_dir_notes root e (plain E073 ∷ []) ≡ ns → IsPlainAt further root e ns
  directory_plain ns g k = relined further root e (hierarchy_notes root e (seen root e)) ns (ap (hierarchy_notes root e) (entry_dir root e kind.Dir h.here refl) ∙ k)
      (hierarchy_plain further root e h.below (undeclared_zone root e h g))

  pub deep_plain : 127 < length e → IsPlainAt further root e (plain S05 ∷ [])
  deep_plain deep = directory_plain (plain S05 ∷ []) (undeclared_deep root e deep) (deep_notes root e (plain E073 ∷ []) deep)

-- ---- one that was listed, and declares nothing

module _ (root : StorageRoot) (e : Place) (es : List Entry) (h : IsUndeclaredAt root e es) where
  pub empty_names : es ≡ [] → seen_names root e ≡ []
  empty_names none = by (is_reached root e) (names_in root e) (emptied root e es h.listing none)
    where
      by : (b : Bool) (ns : List Text) → is_empty ns ≡ true → cond b ns [] ≡ []
      by true [] g = refl
      by true (n ∷ ns) g = absurd (true_not_false (sym g))
      by false ns g = refl

module _ (further : Further) (root : StorageRoot) (e : Place) (es : List Entry) (h : IsUndeclaredAt root e es) where
  listed_plain : (ns : List Note) (b : Bool) → is_empty (names_in root e) ≡ b → cond b (plain E073 ∷ []) [] ≡ ns → IsPlainAt further root e ns
  listed_plain ns b is k = directory_plain further root e h.directory ns h.none (short_notes root e (plain E073 ∷ []) h.short ∙ ap (λ x. cond x (plain E073 ∷ []) []) is ∙ k)

  pub empty_plain : es ≡ [] → IsPlainAt further root e (plain E073 ∷ [])
  empty_plain none = listed_plain (plain E073 ∷ []) true (emptied root e es h.listing none) refl

  pub full_visit : (v : Visit) (f : Folder) → es ≢ [] → v.item ≡ None → v.folder ≡ Some f → v.table ≡ None → f.place ≡ e → f.entries.items ≡ es → IsVisit further root e v
  full_visit v f full item folder table place entries =
      let k = listed_plain [] false (not_emptied root e es h.listing full) refl in
      visit_of_folder further root e v f (subst (IsItemAt further root e) (sym item) k.lines) folder table k.head place (directory_reached root e h.directory h.short h.none)
      (subst (IsListing root e) (sym entries) h.listing)

-- the listing, and then what the head reads
pub listed_then : (further : Further) (root : StorageRoot) (s t u : Store) (e : Place) → is_head (zone root e) ≡ true → s.tree ≡ root → Did s t [] (e ∷ []) 0
    → is_looked_into root e ≡ true → ReadsOne further root t u e → Meets further root s u e
listed_then further root s t u e head over did looked h = record {
  over = over;
  trail = h.trail;
  listings = e ∷ [];
  did = did_then s t u [] h.trail (e ∷ []) [] 0 did h.did;
  read = h.read;
  meta = h.meta;
  once = h.once;
  elsewhere = λ g k. absurd (true_not_false (sym head ∙ g));
  near = h.near;
  listed = sym (ap (λ b. on b e) looked);
  heads = h.heads;
}

listed_fails : (further : Further) (root : StorageRoot) (s t u : Store) (e : Place) (why : Fault) → is_head (zone root e) ≡ true → s.tree ≡ root → Did s t [] (e ∷ []) 0
    → is_looked_into root e ≡ true → ReadOneFails further root t u e why → MeetFails further root s u e why
listed_fails further root s t u e why head over did looked h = record {
  over = over;
  trail = h.trail;
  listings = e ∷ [];
  did = did_then s t u [] h.trail (e ∷ []) [] (failures_by why) did h.did;
  read = h.read;
  meta = h.meta;
  once = h.once;
  elsewhere = λ g k. absurd (true_not_false (sym head ∙ g));
  near = h.near;
  listed = subst (λ b. IsFront (e ∷ []) (on b e)) (sym looked) (front_all (e ∷ []));
  heads = h.heads;
  store = λ q g. let w = h.store q g in (w.0, failed_behind further root s t u (e ∷ []) [] [] h.trail q refl (listed_well s t [] (e ∷ []) 0 (omega arith) did) w.1);
  up_to = h.up_to;
}

pub visits_then : (further : Further) (root : StorageRoot) (s t u : Store) (e : Place) (r : Result Visit Fault) → is_head (zone root e) ≡ true → s.tree ≡ root
    → Did s t [] (e ∷ []) 0 → is_looked_into root e ≡ true → VisitsHead further root t u e r → Visits further root s u e r
visits_then further root s t u e (Ok v) head over did looked h = record { gives = (listed_then further root s t u e head over did looked h.gives.0, h.gives.1) }
visits_then further root s t u e (Err why) head over did looked h = record { gives = listed_fails further root s t u e why head over did looked h.gives }

-- ---- one that was listed, by what it declares

-- a directory that was listed, and what its declarations were read to be
pub record IsListedAs (root : StorageRoot) (s t : Store) (e : Place) (f : Folder) (m : MadeDeclared) : Type 0 where
  pub over : s.tree ≡ root
  pub directory : IsDirectoryAt root e
  pub short : length e ≤ 127
  pub there : Enters root s t e f.place f.entries.items
  pub ordinary : IsOrdinary f.entries.items
  pub says : meaning level.Object f.entries.items m ≡ declared level.Object (file_names f.entries.items)
  pub points : PointsAtOne level.Object f.entries.items m

pub listed_as : (root : StorageRoot) (s t : Store) (e : Place) (f : Folder) (m : MadeDeclared) (given : List Entry) → s.tree ≡ root → IsDirectoryAt root e
    → length e ≤ 127 → (is_listable root e ≡ true → Enters root s t e f.place f.entries.items) → IsOrdinary f.entries.items → given ≡ f.entries.items
    → meaning level.Object given m ≡ declared level.Object (file_names given) → PointsAtOne level.Object given m → IsListedAs root s t e f m
listed_as root s t e f m given over h short told ordinary same says points = record {
  over = over;
  directory = h;
  short = short;
  there = told (short_listable root e h short);
  ordinary = ordinary;
  says = subst (λ xs. meaning level.Object xs m ≡ declared level.Object (file_names xs)) same says;
  points = subst (λ xs. PointsAtOne level.Object xs m) same points;
}

module _ (root : StorageRoot) (s t : Store) (e : Place) (f : Folder) (m : MadeDeclared) (h : IsListedAs root s t e f m) where
  looked : is_looked_into root e ≡ true
  looked = looked_either root e h.directory h.short

  says : object_declared root e ≡ meaning level.Object f.entries.items m
  says = declared_object root e f.entries.items (short_listable root e h.directory h.short) h.ordinary h.there.listing ∙ sym h.says

module _ (further : Further) (root : StorageRoot) (s t : Store) (e : Place) (f : Folder) (m : MadeDeclared) (h : IsListedAs root s t e f m) where
  -- just it was listed, and it is a directory of the hierarchy
  pub undeclared_met : m ≡ made.None → Meets further root s t e × IsUndeclaredAt root f.place f.entries.items
  undeclared_met is =
      let none : object_declared root e ≡ undeclared = says root s t e f m h ∙ ap (meaning level.Object f.entries.items) is in
      let here : IsUndeclaredAt root e f.entries.items = record { directory = h.directory; short = h.short; listing = h.there.listing; none = none } in (
        entered_meets further root s t e f.place f.entries.items h.over h.there (looked root s t e f m h) (ap is_head (undeclared_zone root e h.directory none)),
        subst (λ x. IsUndeclaredAt root x f.entries.items) (sym h.there.is) here,
      )

  pub object_visits : (u : Store) (r : Result Visit Fault) → m ≢ made.None → (t.tree ≡ root → IsDeclared root f.place f.entries.items m → VisitsHead further root t u f.place r) → Visits further root s u e r
  object_visits u r not told =
      let z : zone root e ≡ inside e [] = h.directory.zone ∙ ap (λ b. cond b (inside e []) hierarchy) (ap is_declared (says root s t e f m h) ∙ declares_one f.entries.items m h.points not) in
      let object : IsDeclared root e f.entries.items m = record
      { listing = h.there.listing; way = h.directory.here.way; listable = short_listable root e h.directory h.short; zone = z; says = sym (says root s t e f m h); points = h.points } in
      visits_then further root s t u e r (ap is_head z) h.over h.there.did (looked root s t e f m h)
      (subst (λ x. VisitsHead further root t u x r) h.there.is (told (h.there.did.tree ∙ h.over) (subst (λ x. IsDeclared root x f.entries.items m) (sym h.there.is) object)))

-- ---- an object

module _ (root : StorageRoot) (o : Place) (es : List Entry) (m : MadeDeclared) (h : IsDeclared root o es m) where
  pub head_here : is_head (zone root o) ≡ true
  head_here = ap is_head h.zone

module _ (further : Further) (root : StorageRoot) (o : Place) (es : List Entry) (m : MadeDeclared) (h : IsDeclared root o es m) where
  pub head_item : (l : PlaceLines) (made : Pending) → HasLines l (notes further root None o) → l.place ≡ o → made.place ≡ l.place
      → (IsUnhashed further root l → IsPending further root made) → IsPending further root made × (made.place ≡ o)
  head_item l made are at same told = (told (head_unhashed further root o l (head_here root o es m h) at are), same ∙ at)

  pub stopped_visit : (v : Visit) (p : Pending) → v.item ≡ Some p → v.folder ≡ None → v.table ≡ None → IsPending further root p × (p.place ≡ o) → table_at root o ≡ None → IsVisit further root o v
  stopped_visit v p item folder table pending none = record {
    item = subst (IsItemAt further root o) (sym item) pending;
    folder = subst (IsFolderAt root o) (sym folder) (hidden root o (out_of_zone root o (ap (is_listed_zone root) h.zone ∙ ap (λ x. is_listed_in_object x []) none)));
    table = subst (IsTableAt root o) (sym table) (λ g. none);
    root_inventory = rootless further root o v table;
  }

  pub open_visit : (v : Visit) (p : Pending) (f : Folder) (t : Table) → v.item ≡ Some p → v.folder ≡ Some f → v.table ≡ Some t → IsPending further root p
      × (p.place ≡ o) → f.place ≡ o → f.entries.items ≡ es → table_at root o ≡ Some t → option_map root_view v.root ≡ root_at further root o → IsVisit further root o v
  open_visit v p f t item folder table pending place entries is known = record {
    item = subst (IsItemAt further root o) (sym item) pending;
    folder = subst (IsFolderAt root o) (sym folder) (
      place,
      and_both (list_all (is_entered root) (beginnings o)) (is_entered root o) h.way
          (entered_from root o h.listable (ap (is_listed_zone root) h.zone ∙ ap (λ x. is_listed_in_object x []) is)),
      subst (IsListing root o) (sym entries) h.listing,
    );
    table = subst (IsTableAt root o) (sym table) (h.zone, is);
    root_inventory = subst (λ x. IfSome x (λ _. option_map root_view v.root ≡ root_at further root o)) (sym table) known;
  }

-- what is fair of a directory that was listed
pub fair_over : (e : Place) (f : Folder) (r : Result Visit Fault) → f.place ≡ e → length e ≤ 127 → (length f.place ≤ 127 → IfOk r (λ v. IsFairVisit f.place v)) → IfOk r (λ v. IsFairVisit e v)
fair_over e f r is short fair = subst (λ x. IfOk r (λ v. IsFairVisit x v)) is (fair (subst (λ x. length x ≤ 127) (sym is) short))
