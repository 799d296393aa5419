-- What is met at an entry.
use Rattle.std.proofs.Common.{◌≡◌, ◌≢◌, ◌<◌, ◌≤◌, List, [], ◌∷◌, refl, sym, ◌∙◌, ap, subst, true, false, Bool, Option, Some, None, arith, length, map}
use Rattle.std.proofs.lemmas.Bool.{le-leb, lt-ltb, le-ltb}
use Rattle.std.specs.Prelude.{cond, nat_le, option_map, IfSome, IsErrAnd, Result, Ok, Err, ◌&&◌, ◌||◌, not, codes}
use Rattle.std.specs.List.{list_all}
use Rattle.ocfl_tree.specs.Place.{Place, Text, text_eq}
use Rattle.ocfl_tree.specs.StorageRoot.{StorageRoot, Leaf, file, dir, other, at, is_dir, is_dir_leaf, names_in}
use Rattle.ocfl_tree.specs.{Store.{Store, Did}, Listing.{kind_of, IsListing}}
use Rattle.ocfl_tree.specs.{declared.store.Entry.{Entry}, declared.store.Kind.{Kind}}
use Rattle.ocfl_tree.specs.declared.store.Kind.TheVariants as kind
use Rattle.ocfl_tree.proofs.{Orders.{true_not_false}, Bools.{and_both}, Stores.{did_nothing}}
use Rattle.ocfl_report.specs.declared.further.Further.{Further}
use Rattle.ocfl_report.specs.declared.further.Further.TheVariants.{Nothing, Inventories}
use Rattle.ocfl_inventory.specs.{Note.{Note, plain}, Remark.{remark_view}}
use Rattle.ocfl_inventory.specs.Table.{Table, named}
use Rattle.ocfl_inventory.specs.{Declaration.{is_declaration}, ListedPath.{is_version_name}}
use Rattle.ocfl_report.specs.declared.code.Code.{Code}
use Rattle.ocfl_report.specs.declared.code.Code.TheVariants.{E001, E015, E024, S04, S05}
use Rattle.ocfl_rules.specs.Zone.{Zone, skipped, hierarchy, inside, zone, seen, table_at, is_entered, is_listed_zone, is_listed_in_object, max_listed_depth, beginnings}
use Rattle.ocfl_rules.specs.Inventories.{inventory_bytes, version_inventory_in, notes, is_hashed}
use Rattle.ocfl_rules.specs.Lines.{notes_in, object_notes, object_entry_notes, version_entry_notes, is_inventory_or_sidecar, is_empty, listed_dir_notes}
use Rattle.ocfl_rules.specs.Head.{on}
use Rattle.ocfl_rules.specs.Walk.{is_reached, seen_names}
use Rattle.ocfl_rules.specs.Trail.{heads_of, is_head, reads_inventory}
use Rattle.ocfl_rules.specs.Between.{is_looked_into, shows_entries}
use Rattle.ocfl_rules.proofs.PathLaws.{notes_at}
use Rattle.ocfl_inventory.specs.declared.declaration.Level.TheVariants as level
use Rattle.ocfl_item.specs.{Auditing.{FailedAt}, Looking.{IsFront, failures_by}, Internal.Content.{IsSight, content_in, content_at}}
use Rattle.ocfl_item.specs.{Pending.{IsPending}, Internal.Lines.{HasLines, IsUnhashed}}
use Rattle.ocfl_item.specs.{Root.{root_at, root_view}, Ways.{Enters, Stops, is_listable}}
use Rattle.ocfl_item.specs.Meeting.{IsFolderAt, IsItemAt, IsRootAt, IsTableAt, IsVisit, Meets, MeetFails, OpensBeside, Visits}
use Rattle.ocfl_item.specs.Internal.Visiting.{HasRole, IsEntryAt, IsListedAt, IsPlainAt, IsShut, is_checked}
use Rattle.ocfl_item.specs.{declared.fault.Fault.{Fault}, declared.folder.Folder.{Folder}}
use Rattle.ocfl_item.specs.declared.lines.PlaceLines.{PlaceLines}
use Rattle.ocfl_item.specs.{declared.pending.Pending.{Pending}, declared.visit.Visit.{Visit}}
use Rattle.ocfl_item.specs.declared.fault.Fault.TheVariants as fault
use Rattle.ocfl_item.specs.declared.role.Role.TheVariants as role
use Rattle.ocfl_item.specs.declared.sight.Sight.TheVariants as sight
use Rattle.ocfl_item.proofs.{ContentLaws.{named_short, not_root}, CommonLaws.{IsFree, lines_alone, lines_free, no_version, unnamed_free, unnamed_unhashed}, LooksZones.{dir_from_leaf, entered_from}}
use Rattle.ocfl_item.proofs.LooksEntries.{emptied, kind_file, not_emptied}
use Rattle.ocfl_item.proofs.{AuditingLaws.{front_all, front_none, near_none, none_once}, UpToLaws.{listed_up_to}}
use Rattle.ocfl_item.proofs.ShutLaws.{listed_shows, looked_at, no_head_unread, shut_no_dir, shut_zone}
use Rattle.ocfl_item.proofs.LinesLaws.{unhashed_at}

-- ---- the item of one line

pub unhashed_pending : (further : Further) (root : StorageRoot) (l : PlaceLines) (made : Pending) → IsUnhashed further root l → made.place ≡ l.place → made.remarks ≡ l.remarks
    → made.hashed ≡ false → IsPending further root made
unhashed_pending further root l made h place lines unhashed = record {
  some = subst (λ x. notes further root None x ≢ []) (sym place) h.some;
  hashed = unhashed ∙ sym (ap (is_hashed further root) place ∙ h.unhashed);
  lines = λ g. ap (λ v. map remark_view v.items) lines ∙ h.lines ∙ ap (notes further root None) (sym place);
  judged = λ g. absurd (true_not_false (sym g ∙ unhashed));
}

pub plain_unhashed : (further : Further) (root : StorageRoot) (e : Place) (code : Code) (l : PlaceLines) → IsPlainAt further root e (plain code ∷ []) → l.place ≡ e → HasLines l (plain code ∷ []) → IsUnhashed further root l
plain_unhashed further root e code l h at are = unhashed_at further root l e at (λ g. let both = sym h.lines ∙ g in cc) h.unhashed (are ∙ sym h.lines)

-- ---- directories

pub listable : (root : StorageRoot) (e : Place) → IsListedAt root e → length e ≤ 127 → is_listable root e ≡ true
listable root e h short = and_both (nat_le (length e) max_listed_depth) (is_dir root e) (le-leb (length e) 127 short) h.directory

pub reached_here : (root : StorageRoot) (e : Place) → IsListedAt root e → length e ≤ 127 → is_reached root e ≡ true
reached_here root e h short = and_both (list_all (is_entered root) (beginnings e)) (is_entered root e) h.way (entered_from root e (listable root e h short) h.listed)

-- ---- the lines of a directory

pub deep_notes : (root : StorageRoot) (e : Place) (ns : List Note) → 127 < length e → listed_dir_notes root e ns ≡ plain S05 ∷ []
deep_notes root e ns h = ap (λ b. cond b (plain S05 ∷ []) (cond (is_empty (names_in root e)) ns [])) (lt-ltb 127 (length e) h)

pub short_notes : (root : StorageRoot) (e : Place) (ns : List Note) → length e ≤ 127 → listed_dir_notes root e ns ≡ cond (is_empty (names_in root e)) ns []
short_notes root e ns h = ap (λ b. cond b (plain S05 ∷ []) (cond (is_empty (names_in root e)) ns [])) (le-ltb 127 (length e) h)

same_either : (b : Bool) → cond {A = List Note} b [] [] ≡ []
same_either true = refl
same_either false = refl

pub no_notes : (root : StorageRoot) (e : Place) → length e ≤ 127 → listed_dir_notes root e [] ≡ []
no_notes root e h = short_notes root e [] h ∙ same_either (is_empty (names_in root e))

-- ---- what was done

pub opens_none : (further : Further) (root : StorageRoot) (e : Place) → OpensBeside further root e []
opens_none Nothing root e = refl
opens_none Inventories root e = λ o i. absurd i

-- no file was opened
abbrev pub meets_unopened : (further : Further) (root : StorageRoot) (s t : Store) (e : Place) (listings : List Place) → s.tree ≡ root → Did s t [] listings 0
    → listings ≡ on (is_looked_into root e) e → reads_inventory root e ≡ false → Meets further root s t e
meets_unopened further root s t e listings over did listed read = record {
  over = over;
  trail = [];
  listings = listings;
  did = did;
  read = refl;
  meta = refl;
  once = none_once;
  elsewhere = λ g k. opens_none further root e;
  near = near_none further root listings;
  listed = listed;
  heads = sym (ap (λ b. on b e) read);
}

-- nothing, at a place that is shut
pub meets_shut : (further : Further) (root : StorageRoot) (s : Store) (e : Place) → s.tree ≡ root → IsShut root e → Meets further root s s e
meets_shut further root s e over h = meets_unopened further root s s e [] over (did_nothing s) (sym (ap (λ b. on b e) h.looked)) h.read

fails_unopened : (further : Further) (root : StorageRoot) (s t : Store) (e : Place) (why : Fault) (listings : List Place) → s.tree ≡ root → Did s t [] listings (failures_by why)
    → IsFront listings (on (is_looked_into root e) e) → ((q : Place) → why ≡ fault.Store q → (is_hashed further root q ≡ false) × FailedAt further root s t listings [] q) → MeetFails further root s t e why
fails_unopened further root s t e why listings over did listed store = record {
  over = over;
  trail = [];
  listings = listings;
  did = did;
  read = λ g. refl;
  meta = refl;
  once = none_once;
  elsewhere = λ g k. opens_none further root e;
  near = near_none further root listings;
  listed = listed;
  heads = front_none (on (reads_inventory root e) e);
  store = store;
  up_to = λ q g. listed_up_to further root s t e (is_looked_into root e) listings q listed (store q g).1;
}

pub meet_stop : (further : Further) (root : StorageRoot) (s t : Store) (e : Place) (why : Fault) → is_looked_into root e ≡ true → Stops further root s t (e ∷ []) [] why → MeetFails further root s t e why
meet_stop further root s t e why looked h = fails_unopened further root s t e why h.goes.listings h.goes.over h.goes.did (subst (λ b. IsFront h.goes.listings (on b e)) (sym looked) h.goes.listed) h.store

pub meet_out : (further : Further) (root : StorageRoot) (s t : Store) (e : Place) → Meets further root s t e → MeetFails further root s t e fault.Memory
meet_out further root s t e h = record {
  over = h.over;
  trail = h.trail;
  listings = h.listings;
  did = h.did;
  read = λ g. h.read;
  meta = h.meta;
  once = h.once;
  elsewhere = h.elsewhere;
  near = h.near;
  listed = subst (IsFront h.listings) h.listed (front_all h.listings);
  heads = subst (IsFront (heads_of root h.trail)) h.heads (front_all (heads_of root h.trail));
  store = λ q g. absurd cc;
  up_to = λ q g. absurd cc;
}

-- nothing was done, and memory was refused
pub meet_nothing : (further : Further) (root : StorageRoot) (s : Store) (e : Place) → s.tree ≡ root → MeetFails further root s s e fault.Memory
meet_nothing further root s e over = fails_unopened further root s s e fault.Memory [] over (did_nothing s) (front_none (on (is_looked_into root e) e)) (λ q g. absurd cc)

pub visits_stop : (further : Further) (root : StorageRoot) (s t : Store) (e : Place) (why : Fault) → is_looked_into root e ≡ true → Stops further root s t (e ∷ []) [] why → Visits further root s t e (Err why)
visits_stop further root s t e why looked h = record { gives = meet_stop further root s t e why looked h }

-- nothing is known of a root inventory without a table
pub rootless : (further : Further) (root : StorageRoot) (e : Place) (v : Visit) → v.table ≡ None → IsRootAt further root e v
rootless further root e v none = subst (λ t. IfSome t (λ _. option_map root_view v.root ≡ root_at further root e)) (sym none) tt

-- ---- a directory that is listed

-- its listing, and no table
pub visit_of_folder : (further : Further) (root : StorageRoot) (e : Place) (v : Visit) (f : Folder) → IsItemAt further root e v.item → v.folder ≡ Some f → v.table ≡ None
    → is_head (zone root e) ≡ false → f.place ≡ e → is_reached root e ≡ true → IsListing root e f.entries.items → IsVisit further root e v
visit_of_folder further root e v f item folder table head place reached listing = record {
  item = item;
  folder = subst (IsFolderAt root e) (sym folder) (place, reached, listing);
  table = subst (IsTableAt root e) (sym table) (λ h. absurd (true_not_false (sym h ∙ head)));
  root_inventory = rootless further root e v table;
}

-- an item, and nothing else
pub visit_of_item : (further : Further) (root : StorageRoot) (e : Place) (v : Visit) → IsItemAt further root e v.item → v.folder ≡ None → v.table ≡ None → is_head (zone root e) ≡ false → seen_names root e ≡ [] → IsVisit further root e v
visit_of_item further root e v item folder table head none = record {
  item = item;
  folder = subst (IsFolderAt root e) (sym folder) none;
  table = subst (IsTableAt root e) (sym table) (λ h. absurd (true_not_false (sym h ∙ head)));
  root_inventory = rootless further root e v table;
}

-- ---- content

pub content_no_head : (root : StorageRoot) (e : Place) (x : Table × Place) → content_at root e ≡ Some x → is_head (zone root e) ≡ false
content_no_head root e x h = by (zone root e) h
  where
    by : (z : Zone) → content_in root z ≡ Some x → is_head z ≡ false
    by skipped k = refl
    by hierarchy k = refl
    by (inside o []) k = absurd cc
    by (inside o (n ∷ q)) k = refl

pub seen_entry : (root : StorageRoot) (e : Place) → list_all (is_entered root) (beginnings e) ≡ true → seen root e ≡ at root e
seen_entry root e h = ap (λ b. cond b (at root e) None) h

kind_dir : (leaf : Option Leaf) → option_map kind_of leaf ≡ Some kind.Dir → leaf ≡ Some dir
kind_dir None h = absurd cc
kind_dir (Some (file bytes)) h = absurd cc
kind_dir (Some dir) h = refl
kind_dir (Some other) h = absurd cc

kind_other : (leaf : Option Leaf) → option_map kind_of leaf ≡ Some kind.Other → leaf ≡ Some other
kind_other None h = absurd cc
kind_other (Some (file bytes)) h = absurd cc
kind_other (Some dir) h = absurd cc
kind_other (Some other) h = refl

pub entry_file : (root : StorageRoot) (e : Place) (k : Kind) → IsEntryAt root e k → k ≡ kind.File → (bytes : Text) × (seen root e ≡ Some (file bytes))
entry_file root e k h is = let w = kind_file (at root e) (sym (h.kind ∙ ap Some is)) in (w.0, seen_entry root e h.way ∙ w.1)

pub entry_dir : (root : StorageRoot) (e : Place) (k : Kind) → IsEntryAt root e k → k ≡ kind.Dir → seen root e ≡ Some dir
entry_dir root e k h is = seen_entry root e h.way ∙ kind_dir (at root e) (h.kind ∙ ap Some is)

pub entry_other : (root : StorageRoot) (e : Place) (k : Kind) → IsEntryAt root e k → k ≡ kind.Other → seen root e ≡ Some other
entry_other root e k h is = seen_entry root e h.way ∙ kind_other (at root e) (h.kind ∙ ap Some is)

pub dir_here : (root : StorageRoot) (e : Place) (k : Kind) → IsEntryAt root e k → k ≡ kind.Dir → is_dir root e ≡ true
dir_here root e k h is = ap is_dir_leaf (kind_dir (at root e) (h.kind ∙ ap Some is))

-- what is no directory is not entered
pub no_dir : (root : StorageRoot) (e : Place) (k : Kind) → IsEntryAt root e k → k ≢ kind.Dir → is_dir root e ≡ false
no_dir root e k h not = by (at root e) h.kind
  where
    by : (leaf : Option Leaf) → option_map kind_of leaf ≡ Some k → is_dir_leaf leaf ≡ false
    by None g = refl
    by (Some (file bytes)) g = refl
    by (Some dir) g = absurd (not cc)
    by (Some other) g = refl

pub no_dir_shut : (root : StorageRoot) (e : Place) (k : Kind) → IsEntryAt root e k → k ≢ kind.Dir → IsShut root e
no_dir_shut root e k h not = shut_no_dir root e (no_dir root e k h not)

module _ (root : StorageRoot) (e : Place) (h : IsListedAt root e) where
  seen_dir : seen root e ≡ Some dir
  seen_dir = seen_entry root e h.way ∙ dir_from_leaf (at root e) h.directory

  pub deep_sight : 127 < length e → IsSight root e sight.DeepDir
  deep_sight deep = (seen_dir, deep_notes root e (plain E024 ∷ []) deep)

  pub empty_sight : (es : List Entry) → length e ≤ 127 → IsListing root e es → es ≡ [] → IsSight root e sight.EmptyDir
  empty_sight es short listing none = (seen_dir, short_notes root e (plain E024 ∷ []) short ∙ ap (λ b. cond b (plain E024 ∷ []) []) (emptied root e es listing none))

  pub dir_sight : (es : List Entry) → length e ≤ 127 → IsListing root e es → es ≢ [] → IsSight root e sight.Dir
  dir_sight es short listing some = (seen_dir, short_notes root e (plain E024 ∷ []) short ∙ ap (λ b. cond b (plain E024 ∷ []) []) (not_emptied root e es listing some))

-- ---- answers

pub relined : (further : Further) (root : StorageRoot) (e : Place) (ns ms : List Note) → ns ≡ ms → IsPlainAt further root e ns → IsPlainAt further root e ms
relined further root e ns ms is h = record { lines = h.lines ∙ is; unhashed = h.unhashed; head = h.head }

pub visits_memory : (further : Further) (root : StorageRoot) (s t : Store) (e : Place) → Meets further root s t e → Visits further root s t e (Err fault.Memory)
visits_memory further root s t e h = record { gives = meet_out further root s t e h }

pub visits_told : (further : Further) (root : StorageRoot) (s t : Store) (e : Place) (v : Visit) → Meets further root s t e → IsVisit further root e v → Visits further root s t e (Ok v)
visits_told further root s t e v h told = record { gives = (h, told) }

-- nothing was done, and memory was refused
pub visits_nothing : (further : Further) (root : StorageRoot) (s : Store) (e : Place) → s.tree ≡ root → Visits further root s s e (Err fault.Memory)
visits_nothing further root s e over = record { gives = meet_nothing further root s e over }

pub visits_refused : (further : Further) (root : StorageRoot) (s : Store) (e : Place) (r : Result Visit Fault) → s.tree ≡ root → IsErrAnd r (λ why. why ≡ fault.Memory) → Visits further root s s e r
visits_refused further root s e (Ok v) over is = absurd is
visits_refused further root s e (Err why) over is = rw is (visits_nothing further root s e over)

-- a directory that is no object was listed
pub entered_meets : (further : Further) (root : StorageRoot) (s t : Store) (e d : Place) (es : List Entry) → s.tree ≡ root → Enters root s t e d es → is_looked_into root e ≡ true
    → is_head (zone root e) ≡ false → Meets further root s t e
entered_meets further root s t e d es over h looked head = meets_unopened further root s t e (e ∷ []) over h.did (sym (ap (λ b. on b e) looked)) (no_head_unread root e head)

-- one that is listed
pub looked_listed : (root : StorageRoot) (e : Place) → IsListedAt root e → length e ≤ 127 → is_looked_into root e ≡ true
looked_listed root e h short = looked_at root e h.way (listable root e h short) (listed_shows root (zone root e) h.listed)

pub file_shut : (root : StorageRoot) (e : Place) (k : Kind) → IsEntryAt root e k → k ≡ kind.File → IsShut root e
file_shut root e k h is = no_dir_shut root e k h (λ g. cc)

pub other_shut : (root : StorageRoot) (e : Place) (k : Kind) → IsEntryAt root e k → k ≡ kind.Other → IsShut root e
other_shut root e k h is = no_dir_shut root e k h (λ g. cc)

pub listed_entry : (root : StorageRoot) (e : Place) (k : Kind) → IsEntryAt root e k → k ≡ kind.Dir → is_listed_zone root (zone root e) ≡ true → IsListedAt root e
listed_entry root e k h is listed = record { way = h.way; directory = dir_here root e k h is; listed = listed }

-- ---- entries of an object's root and of its versions

pub object_plain : (further : Further) (root : StorageRoot) (e o : Place) (n : Text) (t : Table) → zone root e ≡ inside o (n ∷ []) → table_at root o ≡ Some t → IsPlainAt further root e (object_entry_notes root e n (seen root e))
object_plain further root e o n t z h = record {
  lines = lines_alone root e (no_version root e _ z refl) further (ap is_head z) None ∙ notes_at root None e (not_root root e o (n ∷ []) z) ∙ ap (notes_in root e None) z ∙ ap (λ y. object_notes root e None y (n ∷ [])) h;
  unhashed = unnamed_unhashed root e (no_version root e _ z refl) further (named_short root e o (n ∷ []) z (omega arith));
  head = ap is_head z;
}

pub version_plain : (further : Further) (root : StorageRoot) (e o : Place) (v n : Text) (t : Table) → zone root e ≡ inside o (v ∷ n ∷ []) → table_at root o ≡ Some t → IsFree further root e
    → IsPlainAt further root e (version_entry_notes root t e n (seen root e))
version_plain further root e o v n t z h free = record {
  lines = lines_free further root e free (ap is_head z) None ∙ notes_at root None e (not_root root e o (v ∷ n ∷ []) z) ∙ ap (notes_in root e None) z
      ∙ ap (λ y. object_notes root e None y (v ∷ n ∷ [])) h;
  unhashed = unnamed_free further root e free (named_short root e o (v ∷ n ∷ []) z (omega arith));
  head = ap is_head z;
}

-- an entry of a version directory that is no inventory that is checked
pub unchecked : (further : Further) (root : StorageRoot) (e o : Place) (v n : Text) (k : Kind) → IsEntryAt root e k → zone root e ≡ inside o (v ∷ n ∷ []) → is_checked further n k ≡ false → IsFree further root e
unchecked Nothing root e o v n k h z out = tt
unchecked Inventories root e o v n k h z out = ap (λ x. version_inventory_in x (seen root e)) z ∙ ap (option_map (λ bytes. (o, v, bytes))) (by k refl out)
  where
    by : (j : Kind) → k ≡ j → is_checked Inventories n j ≡ false → inventory_bytes n (seen root e) ≡ None
    by kind.File is g = let f = entry_file root e k h is in ap (inventory_bytes n) f.1 ∙ ap (λ b. cond b (Some f.0) None) g
    by kind.Dir is g = ap (inventory_bytes n) (entry_dir root e k h is)
    by kind.Other is g = ap (inventory_bytes n) (entry_other root e k h is)

-- ---- at a place that is not entered

module _ (further : Further) (root : StorageRoot) (s : Store) (e : Place) (over : s.tree ≡ root) (shut : IsShut root e) where
  pub shut_visits : (v : Visit) → (seen_names root e ≡ [] → IsVisit further root e v) → Visits further root s s e (Ok v)
  shut_visits v told = visits_told further root s s e v (meets_shut further root s e over shut) (told shut.names)

  pub nothing_visits : (v : Visit) → IsPlainAt further root e [] → v.item ≡ None → v.folder ≡ None → v.table ≡ None → Visits further root s s e (Ok v)
  nothing_visits v plain item folder table = shut_visits v (visit_of_item further root e v (subst (IsItemAt further root e) (sym item) plain.lines) folder table plain.head)

module _ (root : StorageRoot) (e o : Place) (n : Text) (t : Table) (k : Kind) (h : IsEntryAt root e k) (z : zone root e ≡ inside o (n ∷ [])) (table : table_at root o ≡ Some t) where
  dir_else : k ≡ kind.Dir → is_version_name n ≡ false → object_entry_notes root e n (Some dir) ≡ on (not (text_eq n (codes "extensions") || text_eq n (codes "logs"))) (plain E001)
  dir_else is b = ap (λ x. cond x (listed_dir_notes root e []) (on (not (text_eq n (codes "extensions") || text_eq n (codes "logs"))) (plain E001))) b

  dir_shut : is_version_name n ≡ false → IsShut root e
  dir_shut b = shut_zone root e (not_root root e o (n ∷ []) z) (ap (shows_entries root) z ∙ ap (λ x. is_listed_in_object x (n ∷ [])) table ∙ b)

module _ (further : Further) (root : StorageRoot) (e o : Place) (n : Text) (t : Table) (k : Kind) (h : IsEntryAt root e k) (z : zone root e ≡ inside o (n ∷ [])) (table : table_at root o ≡ Some t) where
  of_object : (leaf : Leaf) (ns : List Note) → seen root e ≡ Some leaf → object_entry_notes root e n (Some leaf) ≡ ns → IsPlainAt further root e ns
  of_object leaf ns s is = relined further root e (object_entry_notes root e n (seen root e)) ns (ap (object_entry_notes root e n) s ∙ is) (object_plain further root e o n t z table)

  pub object_file_known : k ≡ kind.File → is_declaration level.Object n || is_inventory_or_sidecar n ≡ true → HasRole further root e role.LeftAlone
  object_file_known is b = let f = entry_file root e k h is in (of_object (file f.0) [] f.1 (ap (λ x. on (not x) (plain E001)) b), file_shut root e k h is)

  pub object_file_other : k ≡ kind.File → is_declaration level.Object n || is_inventory_or_sidecar n ≡ false → HasRole further root e (role.Plain E001)
  object_file_other is b = let f = entry_file root e k h is in (of_object (file f.0) (plain E001 ∷ []) f.1 (ap (λ x. on (not x) (plain E001)) b), file_shut root e k h is)

  pub object_other : k ≡ kind.Other → HasRole further root e (role.Plain S04)
  object_other is = (of_object other (plain S04 ∷ []) (entry_other root e k h is) refl, other_shut root e k h is)

  pub object_version : k ≡ kind.Dir → is_version_name n ≡ true → HasRole further root e role.Listed
  object_version is b = (
    listed_entry root e k h is (ap (is_listed_zone root) z ∙ ap (λ x. is_listed_in_object x (n ∷ [])) table ∙ b),
    of_object dir (listed_dir_notes root e []) (entry_dir root e k h is)
        (ap (λ x. cond x (listed_dir_notes root e []) (on (not (text_eq n (codes "extensions") || text_eq n (codes "logs"))) (plain E001))) b),
  )

  pub object_dir_known : k ≡ kind.Dir → is_version_name n ≡ false → text_eq n (codes "extensions") || text_eq n (codes "logs") ≡ true → HasRole further root e role.LeftAlone
  object_dir_known is b a = (of_object dir [] (entry_dir root e k h is) (dir_else root e o n t k h z table is b ∙ ap (λ x. on (not x) (plain E001)) a), dir_shut root e o n t k h z table b)

  pub object_dir_other : k ≡ kind.Dir → is_version_name n ≡ false → text_eq n (codes "extensions") || text_eq n (codes "logs") ≡ false → HasRole further root e (role.Plain E001)
  object_dir_other is b a = (of_object dir (plain E001 ∷ []) (entry_dir root e k h is) (dir_else root e o n t k h z table is b ∙ ap (λ x. on (not x) (plain E001)) a), dir_shut root e o n t k h z table b)

module _ (root : StorageRoot) (e o : Place) (v n : Text) (t : Table) (k : Kind) (h : IsEntryAt root e k) (z : zone root e ≡ inside o (v ∷ n ∷ [])) (table : table_at root o ≡ Some t) where
  in_version : (b : Bool) → is_version_name v ≡ true → text_eq n t.content ≡ b → is_listed_in_object (table_at root o) (v ∷ n ∷ []) ≡ b
  in_version b named is = ap (λ x. is_listed_in_object x (v ∷ n ∷ [])) table ∙ ap (λ x. x && text_eq n t.content) named ∙ is

module _ (further : Further) (root : StorageRoot) (e o : Place) (v n : Text) (t : Table) (k : Kind) (h : IsEntryAt root e k) (out : is_checked further n k ≡ false)
    (z : zone root e ≡ inside o (v ∷ n ∷ [])) (table : table_at root o ≡ Some t) where
  of_version : (leaf : Leaf) (ns : List Note) → seen root e ≡ Some leaf → version_entry_notes root t e n (Some leaf) ≡ ns → IsPlainAt further root e ns
  of_version leaf ns s is =
      relined further root e (version_entry_notes root t e n (seen root e)) ns (ap (version_entry_notes root t e n) s ∙ is)
      (version_plain further root e o v n t z table (unchecked further root e o v n k h z out))

  pub version_file_known : k ≡ kind.File → is_inventory_or_sidecar n ≡ true → HasRole further root e role.LeftAlone
  version_file_known is b = let f = entry_file root e k h is in (of_version (file f.0) [] f.1 (ap (λ x. on (not x) (plain E015)) b), file_shut root e k h is)

  pub version_file_other : k ≡ kind.File → is_inventory_or_sidecar n ≡ false → HasRole further root e (role.Plain E015)
  version_file_other is b = let f = entry_file root e k h is in (of_version (file f.0) (plain E015 ∷ []) f.1 (ap (λ x. on (not x) (plain E015)) b), file_shut root e k h is)

  pub version_other : k ≡ kind.Other → HasRole further root e (role.Plain S04)
  version_other is = (of_version other (plain S04 ∷ []) (entry_other root e k h is) refl, other_shut root e k h is)

  pub version_content : k ≡ kind.Dir → is_version_name v ≡ true → text_eq n t.content ≡ true → HasRole further root e role.Listed
  version_content is named b = (
    listed_entry root e k h is (ap (is_listed_zone root) z ∙ in_version root e o v n t k h z table true named b),
    of_version dir (listed_dir_notes root e []) (entry_dir root e k h is) (ap (λ x. cond x (listed_dir_notes root e []) []) b),
  )

  pub version_dir : k ≡ kind.Dir → is_version_name v ≡ true → text_eq n t.content ≡ false → HasRole further root e role.LeftAlone
  version_dir is named b = (
    of_version dir [] (entry_dir root e k h is) (ap (λ x. cond x (listed_dir_notes root e []) []) b),
    shut_zone root e (not_root root e o (v ∷ n ∷ []) z) (ap (shows_entries root) z ∙ in_version root e o v n t k h z table false named b),
  )
