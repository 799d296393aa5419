-- The storage root: its lines, what is read for them, and its listing.
use Rattle.std.proofs.Common.{◌≡◌, ◌≢◌, ◌≤◌, ℕ, List, [], ◌∷◌, ◌++◌, refl, sym, ◌∙◌, ap, subst, true, false, Bool, Option, Some, None, arith, length, map}
use Rattle.std.proofs.{lemmas.List.{append-nil, length-map}, lemmas.List.Prefix.{front_fits}}
use Rattle.std.specs.Prelude.{AllPairs, cond, ◌||◌, not, Result, Ok, is_some, filter}
use Rattle.std.specs.List.{AllByRecursion}
use Rattle.ocfl_tree.specs.{Place.{Place, Text}, StorageRoot.{StorageRoot, file_at, names_in}}
use Rattle.ocfl_tree.specs.{Store.{Store}, Listing.{IsListing, IsOrdinary}}
use Rattle.ocfl_tree.specs.{declared.store.Entry.{Entry}, declared.store.Opening.{Opening}}
use Rattle.ocfl_report.specs.declared.further.Further.{Further}
use Rattle.ocfl_inventory.specs.Declaration.{Declared, undeclared, known, unknown, several, declaration_name, declared}
use Rattle.ocfl_inventory.specs.Entries.{PointsAtOne, file_names, meaning}
use Rattle.ocfl_inventory.specs.declared.declaration.Declared.{Declared as MadeDeclared}
use Rattle.ocfl_inventory.specs.declared.declaration.Level.TheVariants.{Root}
use Rattle.ocfl_inventory.specs.declared.declaration.Version.{Version}
use Rattle.ocfl_inventory.specs.declared.declaration.Version.TheVariants.{V1_0, V1_1}
use Rattle.ocfl_inventory.specs.declared.declaration.Declared.TheVariants as made
use Rattle.ocfl_digest.specs.declared.bounded.Bounded.{Bounded}
use Rattle.ocfl_rules.specs.Zone.{seen, skipped, hierarchy, inside, zone, root_declared, object_declared, is_in_extensions, is_listed_zone, is_known, is_declared}
use Rattle.ocfl_rules.specs.Head.{root_notes_by}
use Rattle.ocfl_rules.specs.Lines.{named_at, named_in}
use Rattle.ocfl_rules.specs.Inventories.{notes, version_inventory, version_inventory_in}
use Rattle.ocfl_rules.specs.Trail.{content_trail, heads_of, inventory_of, is_head, is_meta, places_of}
use Rattle.ocfl_rules.proofs.BetweenLaws.{root_unread}
use Rattle.ocfl_rules.proofs.Trails.{content_behind}
use Rattle.ocfl_item.specs.{Auditing.{LieIn}, HeadFiles.{FilesStop, ReadsFiles, files_there}}
use Rattle.ocfl_item.specs.Internal.HeadFiles.{IsFileAt, ReadsFile}
use Rattle.ocfl_item.specs.{Looking.{IsFront, failures_by}, Pending.{IsPending}}
use Rattle.ocfl_item.specs.Internal.Lines.{HasLines, IsUnhashed}
use Rattle.ocfl_item.specs.Meeting.{IsItemAt, IsVisit, MeetFails, Meets}
use Rattle.ocfl_item.specs.{Internal.Visiting.{IsBase}, Ways.{Enters, Stops}}
use Rattle.ocfl_item.specs.{declared.fault.Fault.{Fault}, declared.folder.Folder.{Folder}}
use Rattle.ocfl_item.specs.declared.lines.PlaceLines.{PlaceLines}
use Rattle.ocfl_item.specs.{declared.pending.Pending.{Pending}, declared.visit.Visit.{Visit}}
use Rattle.ocfl_item.proofs.{HeadLaws.{unknown_stops}, ItemLaws.{clean_some}}
use Rattle.ocfl_item.proofs.{LinesLaws.{unhashed_at}, LooksZones.{at_root, declared_root}}
use Rattle.ocfl_item.proofs.CommonLaws.{lines_alone, unnamed_unhashed}
use Rattle.ocfl_rules.proofs.MetaLaws.{common_is_meta}
use Rattle.ocfl_item.proofs.UpToLaws.{files_up_to}
use Rattle.ocfl_item.proofs.AuditingLaws.{failed_behind, files_near, front_of_none, near_within, read_behind, few_once, front_all, heads_append}
use Rattle.ocfl_item.proofs.VisitLaws.{meet_stop, meets_unopened, visit_of_folder, visit_of_item}
use Rattle.ocfl_tree.proofs.Stores.{did_then, listed_well}

-- ---- its lines

some_notes : (root : StorageRoot) (d : Declared) → root_notes_by root d ≢ []
some_notes root undeclared e = cc
some_notes root several e = cc
some_notes root (unknown t) e = cc
some_notes root (known v) e = clean_some _ e

-- the root is no object, and no inventory of a version
root_no_head : (root : StorageRoot) → is_head (zone root []) ≡ false
root_no_head root = by (not (is_known (root_declared root)))
  where
    by : (b : Bool) → is_head (cond (b || false) skipped hierarchy) ≡ false
    by true = refl
    by false = refl

root_no_version : (root : StorageRoot) → version_inventory root [] ≡ None
root_no_version root = by (not (is_known (root_declared root)))
  where
    by : (b : Bool) → version_inventory_in (cond (b || false) skipped hierarchy) (seen root []) ≡ None
    by true = refl
    by false = refl

base_lines : (further : Further) (root : StorageRoot) → notes further root None [] ≡ root_notes_by root (root_declared root)
base_lines further root = lines_alone root [] (root_no_version root) further (root_no_head root) None

pub root_some : (further : Further) (root : StorageRoot) → notes further root None [] ≢ []
root_some further root e = some_notes root (root_declared root) (sym (base_lines further root) ∙ e)

root_unnamed : (root : StorageRoot) → named_at root [] ≡ []
root_unnamed root = by (not (is_known (root_declared root)))
  where
    by : (b : Bool) → named_in root (cond (b || false) skipped hierarchy) ≡ []
    by true = refl
    by false = refl

pub declaration_at_root : (further : Further) (root : StorageRoot) (p : Place) (n : Text) (v : Version) → p ≡ [] → n ≡ declaration_name Root v → is_meta further root (p ++ n ∷ []) ≡ true
declaration_at_root further root p n v e f = (λ i. is_meta further root (e i ++ f i ∷ [])) ∙ by v
  where
    by : (v : Version) → is_meta further root (declaration_name Root v ∷ []) ≡ true
    by V1_0 = common_is_meta further root _ refl
    by V1_1 = common_is_meta further root _ refl

-- the storage root has lines, and nothing is hashed there
pub root_unhashed : (further : Further) (root : StorageRoot) (d : Declared) (l : PlaceLines) → l.place ≡ [] → d ≡ root_declared root → HasLines l (root_notes_by root d) → IsUnhashed further root l
root_unhashed further root d l top same are =
    unhashed_at further root l [] top (root_some further root) (unnamed_unhashed root [] (root_no_version root) further (root_unnamed root)) (are ∙ ap (root_notes_by root) same ∙ sym (base_lines further root))

-- ---- what was done

module _ (root : StorageRoot) where
  no_heads : (q : Text) → inventory_of (zone root (q ∷ [])) ≡ []
  no_heads q = by (not (is_known (root_declared root)) || is_in_extensions root (q ∷ [])) (is_declared (object_declared root (q ∷ [])))
    where
      by : (a b : Bool) → inventory_of (cond a skipped (cond b (inside (q ∷ []) []) hierarchy)) ≡ []
      by true b = refl
      by false true = refl
      by false false = refl

  one_once : (n : Text) (os trail : List Opening) → os ≡ [] → IsFront (places_of trail) (files_there root [] (n ∷ [])) → AllPairs (λ a b. a.place ≢ b.place) (os ++ trail)
  one_once n os trail none h = few_once (os ++ trail) (
      let long = front_fits (files_there root [] (n ∷ [])) (places_of trail) h.0 h.1 in
      let few = by (is_some (file_at root ([] ++ n ∷ []))) in
      let before = ap (λ x. length (x ++ trail)) none in
      omega (arith, long, few, before, length-map trail (λ x. x.place)))
    where
      by : (c : Bool) → length (map (λ m. [] ++ m ∷ []) (cond c (n ∷ []) [])) ≤ 1
      by true = omega arith
      by false = omega arith

  -- ---- what was met

  no_head : is_head (zone root []) ≡ false
  no_head = by (not (is_known (root_declared root)))
    where
      by : (b : Bool) → is_head (cond (b || false) skipped hierarchy) ≡ false
      by true = refl
      by false = refl

  -- ---- what the declarations say

  listing_there : (s t : Store) (d e : Place) (es : List Entry) → Enters root s t d e es → IsListing root e es
  listing_there s t d e es h = subst (λ x. IsListing root x es) (sym h.is) h.listing

  pub base_stops : (e : Place) (es : List Entry) (m : MadeDeclared) → IsBase root e es m → ((v : Version) → m ≡ made.One v → ⊥) → is_known (meaning Root es m) ≡ false
  base_stops e es m h none = unknown_stops Root es m none h.points

module _ (further : Further) (root : StorageRoot) where
  abbrev pub IsQuiet : Place → Type 0
  IsQuiet p = (is_meta further root p ≡ true) × (inventory_of (zone root p) ≡ [])

  pub front_quiet : (xs ys : List Place) → AllByRecursion IsQuiet (xs ++ ys) → AllByRecursion IsQuiet xs
  front_quiet [] ys h = tt
  front_quiet (x ∷ xs) ys h = (h.0, front_quiet xs ys h.1)

  pub only_quiet : (trail : List Opening) → AllByRecursion IsQuiet (places_of trail) → (content_trail further root trail ≡ []) × (heads_of root trail ≡ [])
  only_quiet [] h = (refl, refl)
  only_quiet (x ∷ trail) h =
      let more = only_quiet trail h.1 in
      let others = filter (λ o. not (is_meta further root o.place)) trail in
      (ap (λ b. map (λ y. y.place) (cond (not b) (x ∷ others) others)) h.0.0 ∙ more.0, (λ i. h.0.1 i ++ more.1 i))

  trail_quiet : (n : Text) (trail : List Opening) → is_meta further root (n ∷ []) ≡ true → IsFront (places_of trail) (files_there root [] (n ∷ []))
      → (content_trail further root trail ≡ []) × (heads_of root trail ≡ [])
  trail_quiet n trail meta h = only_quiet trail (front_quiet (places_of trail) h.0 (subst (AllByRecursion IsQuiet) h.1 (by (is_some (file_at root ([] ++ n ∷ []))))))
    where
      by : (c : Bool) → AllByRecursion IsQuiet (map (λ m. [] ++ m ∷ []) (cond c (n ∷ []) []))
      by true = ((meta, no_heads root n), tt)
      by false = tt

  pub base_not_listed : (s t : Store) (p : Place) (why : Fault) → p ≡ [] → Stops further root s t (p ∷ []) [] why → MeetFails further root s t [] why
  base_not_listed s t p why top h = meet_stop further root s t [] why refl (subst (λ x. Stops further root s t (x ∷ []) [] why) top h)

  abbrev pub base_listed : (s t : Store) (p e : Place) (es : List Entry) → p ≡ [] → s.tree ≡ root → Enters root s t p e es → Meets further root s t []
  base_listed s t p e es top over h = meets_unopened further root s t [] (p ∷ []) over h.did (ap (λ x. x ∷ []) top) (root_unread root)

  base_read : (s t u : Store) (n : Text) → is_meta further root (n ∷ []) ≡ true → (m : Meets further root s t []) → m.trail ≡ [] → ReadsFiles further root t u [] (n ∷ []) → Meets further root s u []
  base_read s t u n meta m none k =
      let quiet = trail_quiet n k.trail meta ([], sym k.opened ∙ sym (append-nil (places_of k.trail))) in
      record {
        over = m.over;
        trail = m.trail ++ k.trail;
        listings = m.listings ++ [];
        did = did_then s t u m.trail k.trail m.listings [] 0 m.did k.did;
        read = read_behind further root m.trail k.trail m.read k.read;
        meta = content_behind further root m.trail k.trail m.meta ∙ quiet.0;
        once = one_once root n m.trail k.trail none ([], sym k.opened ∙ sym (append-nil (places_of k.trail)));
        elsewhere = λ g e. absurd (e refl);
        near = near_within further root m.listings [] m.trail k.trail m.near (subst (λ l. LieIn further root l k.trail) (sym m.listed) (files_near further root [] (n ∷ []) k.trail ([], sym k.opened ∙ sym (append-nil (places_of k.trail)))));
        listed = append-nil m.listings ∙ m.listed;
        heads = heads_append root m.trail k.trail ∙ ap (λ l. heads_of root m.trail ++ l) quiet.1 ∙ append-nil (heads_of root m.trail) ∙ m.heads;
      }

  base_unread : (s t u : Store) (n : Text) (why : Fault) → is_meta further root (n ∷ []) ≡ true → (m : Meets further root s t []) → m.trail ≡ [] → FilesStop further root t u [] (n ∷ []) why → MeetFails further root s u [] why
  base_unread s t u n why meta m none k =
      let quiet = trail_quiet n k.trail meta k.opened in
      let no_listing : k.stops.goes.listings ≡ [] = front_of_none k.stops.goes.listings k.stops.goes.listed in
      record {
        over = m.over;
        trail = m.trail ++ k.trail;
        listings = m.listings ++ k.stops.goes.listings;
        did = did_then s t u m.trail k.trail m.listings k.stops.goes.listings (failures_by why) m.did k.stops.goes.did;
        read = λ e. read_behind further root m.trail k.trail m.read (k.stops.goes.read e);
        meta = content_behind further root m.trail k.trail m.meta ∙ quiet.0;
        once = one_once root n m.trail k.trail none k.opened;
        elsewhere = λ g e. absurd (e refl);
        near = near_within further root m.listings k.stops.goes.listings m.trail k.trail m.near (subst (λ l. LieIn further root l k.trail) (sym m.listed) (files_near further root [] (n ∷ []) k.trail k.opened));
        listed = subst (IsFront (m.listings ++ k.stops.goes.listings)) (ap (λ l. m.listings ++ l) no_listing ∙ append-nil m.listings ∙ m.listed) (front_all (m.listings ++ k.stops.goes.listings));
        heads = subst (IsFront (heads_of root (m.trail ++ k.trail)))
            (heads_append root m.trail k.trail ∙ ap (λ l. heads_of root m.trail ++ l) quiet.1 ∙ append-nil (heads_of root m.trail) ∙ m.heads) (front_all (heads_of root (m.trail ++ k.trail)));
        store = λ q g. let w = k.stops.store q g in (w.0, failed_behind further root s t u m.listings k.stops.goes.listings m.trail k.trail q m.read (listed_well s t m.trail m.listings 0 (omega arith) m.did) w.1);
        up_to = λ q g. files_up_to further root t u [] (n ∷ []) why k [] q g;
      }

  module _ (e : Place) (es : List Entry) (m : MadeDeclared) (h : IsBase root e es m) (v : Visit) (p : Pending) (item : v.item ≡ Some p) (table : v.table ≡ None) (pending : IsPending further root p) (at : p.place ≡ e) where
    there : IsItemAt further root [] v.item
    there = subst (IsItemAt further root []) (sym item) (pending, at ∙ h.top)

    known_is : (b : Bool) → is_known (meaning Root es m) ≡ b → is_known (root_declared root) ≡ b
    known_is b is = ap is_known (sym h.says) ∙ is

    pub base_known : (f : Folder) → f.place ≡ e → f.entries.items ≡ es → v.folder ≡ Some f → is_known (meaning Root es m) ≡ true → IsVisit further root [] v
    base_known f place entries folder is =
        let listing : IsListing root [] f.entries.items = subst (IsListing root []) (sym entries) (subst (λ x. IsListing root x es) h.top h.listing) in
        visit_of_folder further root [] v f there folder table (no_head root) (place ∙ h.top) (at_root root f.entries.items (known_is true is) listing).here.reached listing

    pub base_stopped : v.folder ≡ None → is_known (meaning Root es m) ≡ false → IsVisit further root [] v
    base_stopped folder is = visit_of_item further root [] v there folder table (no_head root)
        (ap (λ b. cond (is_listed_zone root (cond (not b || false) skipped hierarchy)) (names_in root []) []) (known_is false is))

  module _ (s t : Store) (p e : Place) (es given : List Entry) (m : MadeDeclared) (top : p ≡ []) (there : Enters root s t p e es) (same : given ≡ es) (ordinary : IsOrdinary es) (says : meaning Root given m ≡ declared Root (file_names given)) (points : PointsAtOne Root given m) where
    pub base_is : IsBase root e es m
    base_is = record {
      top = there.is ∙ top;
      listing = listing_there root s t p e es there;
      says = ap (λ xs. meaning Root xs m) (sym same) ∙ says ∙ ap (λ xs. declared Root (file_names xs)) same ∙ sym (declared_root root es ordinary (subst (λ x. IsListing root x es) top there.listing));
      points = subst (λ xs. PointsAtOne Root xs m) same points;
    }

  -- ---- its declaration

  -- it is read at the place that was listed
  pub declaration_read : (t u : Store) (e : Place) (es : List Entry) (m : MadeDeclared) (v : Version) (limit : ℕ) (n : Text) (r : Result (Option Bounded) Fault)
      → IsBase root e es m → n ≡ declaration_name Root v → (IsListing root e es → is_meta further root (e ++ n ∷ []) ≡ true → ReadsFile further root t u e n limit r)
      → ReadsFile further root t u e (declaration_name Root v) limit r
  declaration_read t u e es m v limit n r h same told = subst (λ x. ReadsFile further root t u e x limit r) same (told h.listing (declaration_at_root further root e n v h.top same))

  pub read_at_top : (s t : Store) (d : Place) (n : Text) (f : Option Bounded) → d ≡ [] → ReadsFile further root s t d n 4096 (Ok f) → IsFileAt root (n ∷ []) 4096 f
  read_at_top s t d n f top read = subst (λ x. IsFileAt root (x ++ n ∷ []) 4096 f) top read.gives.1

  module _ (s t u : Store) (p e : Place) (es : List Entry) (top : p ≡ []) (over : s.tree ≡ root) (there : Enters root s t p e es) (v : Version) where
    abbrev name : Text
    name = declaration_name Root v

    at_base : e ≡ []
    at_base = there.is ∙ top

    pub declared_meets : ReadsFiles further root t u e (declaration_name Root v ∷ []) → Meets further root s u []
    declared_meets read = base_read s t u name (declaration_at_root further root [] name v refl refl) (base_listed s t p e es top over there) refl (subst (λ x. ReadsFiles further root t u x (name ∷ [])) at_base read)

    pub declared_fails : (why : Fault) → FilesStop further root t u e (declaration_name Root v ∷ []) why → MeetFails further root s u [] why
    declared_fails why read = base_unread s t u name why (declaration_at_root further root [] name v refl refl) (base_listed s t p e es top over there) refl
        (subst (λ x. FilesStop further root t u x (name ∷ []) why) at_base read)
