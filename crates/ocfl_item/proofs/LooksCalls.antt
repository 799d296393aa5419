-- What calls did on the way down to a place.
use Rattle.std.proofs.Common.{◌≡◌, ◌⊎◌, inl, inr, ℕ, List, [], ◌∷◌, ◌++◌, refl, sym, ◌∙◌, ap, subst, true, false, Bool, Option, Some, None}
use Rattle.std.specs.Prelude.{cond, nat_lt, map}
use Rattle.ocfl_tree.specs.{Place.{Text, Place}, StorageRoot.{StorageRoot, Leaf, dir, at}}
use Rattle.ocfl_tree.specs.{Store.{Store}, Listing.{IsOrdinary}, Calls.{ListFails}}
use Rattle.ocfl_tree.specs.{declared.store.Entry.{Entry}, declared.store.Kind.{Kind}}
use Rattle.ocfl_tree.specs.declared.store.Trouble.{Trouble}
use Rattle.ocfl_tree.specs.declared.store.Trouble.TheVariants.{Device, Absent, Memory}
use Rattle.ocfl_tree.specs.declared.store.Kind.TheVariants as kind
use Rattle.ocfl_report.specs.declared.further.Further.{Further}
use Rattle.ocfl_inventory.specs.Declaration.{Declared, undeclared, known, unknown, several, declared}
use Rattle.ocfl_inventory.specs.Entries.{file_names, meaning, unknown_by, PointsAtOne}
use Rattle.ocfl_inventory.specs.declared.declaration.Declared.{Declared as MadeDeclared}
use Rattle.ocfl_inventory.specs.declared.declaration.Version.{Version}
use Rattle.ocfl_inventory.specs.{declared.declaration.Level.{Level}, Table.{Named}}
use Rattle.ocfl_inventory.specs.declared.declaration.Declared.TheVariants as made
use Rattle.ocfl_inventory.specs.declared.declaration.Level.TheVariants as level
use Rattle.ocfl_item.specs.{declared.folder.Head.{Head}, Looking.{way_to}}
use Rattle.ocfl_item.specs.Ways.{Stops, is_listable, Enters, IsHead, InHierarchy, IsObject, is_extensions_name, way_below}
use Rattle.ocfl_item.specs.Internal.Ways.{fault_by, is_file_kind, IsDeclared, head_by}
use Rattle.ocfl_item.specs.declared.folder.Head.TheVariants as head
use Rattle.ocfl_rules.specs.Zone.{Zone, skipped, hierarchy, inside, zone, is_entered, object_declared, seen, beginnings, is_known, is_declared}
use Rattle.ocfl_rules.specs.Lines.{cost_of, named_at}
use Rattle.ocfl_rules.specs.Inventories.{version_inventory_in, is_hashed}
use Rattle.ocfl_rules.proofs.StepLaws.{all_beginnings_step}
use Rattle.ocfl_item.specs.declared.fault.Fault.TheVariants as fault
use Rattle.ocfl_tree.proofs.Orders.{true_not_false}
use Rattle.ocfl_item.proofs.{AuditingLaws.{failed_listing}, CommonLaws.{hashed_alone}}
use Rattle.ocfl_item.proofs.LooksZones.{listable_dir, declared_object, declared_root, hierarchy_on, object_zone_here, at_root}

-- ---- one call after the other

-- ---- a listing that fails

cost_of_dir : (ns : List Named) (u : Option ℕ) → cost_of ns u (Some dir) ≡ 0
cost_of_dir [] u = refl
cost_of_dir (n ∷ ns) None = refl
cost_of_dir (n ∷ ns) (Some given) = refl

cost_of_none : (ns : List Named) (u : Option ℕ) → cost_of ns u None ≡ 0
cost_of_none [] u = refl
cost_of_none (n ∷ ns) None = refl
cost_of_none (n ∷ ns) (Some given) = refl

pub dir_not_hashed : (further : Further) (root : StorageRoot) (d : Place) → at root d ≡ Some dir → is_hashed further root d ≡ false
dir_not_hashed further root d h =
    hashed_alone root d (no_inventory (seen root d) (seen_as _ (at root d))) further ∙ ap (nat_lt 0) (by (seen root d) (seen_as _ (at root d)))
  where
    nothing_in : (z : Zone) → version_inventory_in z None ≡ None
    nothing_in skipped = refl
    nothing_in hierarchy = refl
    nothing_in (inside o []) = refl
    nothing_in (inside o (n ∷ [])) = refl
    nothing_in (inside o (v ∷ n ∷ [])) = refl
    nothing_in (inside o (v ∷ c ∷ n ∷ q)) = refl

    dir_in : (z : Zone) → version_inventory_in z (Some dir) ≡ None
    dir_in skipped = refl
    dir_in hierarchy = refl
    dir_in (inside o []) = refl
    dir_in (inside o (n ∷ [])) = refl
    dir_in (inside o (v ∷ n ∷ [])) = refl
    dir_in (inside o (v ∷ c ∷ n ∷ q)) = refl

    no_inventory : (leaf : Option Leaf) → (leaf ≡ at root d) ⊎ (leaf ≡ None) → version_inventory_in (zone root d) leaf ≡ None
    no_inventory leaf (inl e) = ap (version_inventory_in (zone root d)) (e ∙ h) ∙ dir_in (zone root d)
    no_inventory leaf (inr e) = ap (version_inventory_in (zone root d)) e ∙ nothing_in (zone root d)

    seen_as : (b : Bool) (leaf : Option Leaf) → (cond b leaf None ≡ leaf) ⊎ (cond b leaf None ≡ None)
    seen_as true leaf = inl refl
    seen_as false leaf = inr refl

    by : (leaf : Option Leaf) → (leaf ≡ at root d) ⊎ (leaf ≡ None) → cost_of (named_at root d) None leaf ≡ 0
    by leaf (inl e) = ap (cost_of (named_at root d) None) (e ∙ h) ∙ cost_of_dir (named_at root d) None
    by leaf (inr e) = ap (cost_of (named_at root d) None) e ∙ cost_of_none (named_at root d) None

pub store_place : (p q : Place) → fault.Store p ≡ fault.Store q → p ≡ q
store_place p q e = cc

pub memory_no_store : (q : Place) → fault.Memory ≡ fault.Store q → ⊥
memory_no_store q e = cc

pub list_stops : (further : Further) (root : StorageRoot) (s t : Store) (p : Place) (trouble : Trouble) → s.tree ≡ root → is_listable root p ≡ true → ListFails s t p trouble
    → Stops further root s t (p ∷ []) [] (fault_by p trouble)
list_stops further root s t p Device over l h = record {
  goes = record { over = over; listings = p ∷ []; did = h.fails.did; read = λ e. refl; listed = ([], refl) };
  store = λ q e. (ap (is_hashed further root) (sym (store_place p q e)) ∙ dir_not_hashed further root p (listable_dir root p l), failed_listing further root s t p q (store_place p q e) h.fails.did);
}
list_stops further root s t p Absent over l h = absurd (h.absent refl (ap (λ x. at x p) over ∙ listable_dir root p l))
list_stops further root s t p Memory over l h = record {
  goes = record { over = over; listings = []; did = h.fails.did; read = λ e. refl; listed = (p ∷ [], refl) };
  store = λ q e. absurd (memory_no_store q e);
}

-- ---- what is seen at the end of the way

module _ (root : StorageRoot) where
  pub enters_at : (s t : Store) (p q e : Place) (es : List Entry) → p ≡ q → Enters root s t p e es → Enters root s t q e es
  enters_at s t p q e es same h = subst (λ x. Enters root s t x e es) same h

  pub over_then : (s t : Store) (d e : Place) (es : List Entry) → s.tree ≡ root → Enters root s t d e es → t.tree ≡ root
  over_then s t d e es over h = h.did.tree ∙ over

-- ---- an object's inventory

pub kind_is_file : (k : Option Kind) → is_file_kind k ≡ true → Some kind.File ≡ k
kind_is_file None h = absurd (true_not_false (sym h))
kind_is_file (Some kind.File) h = refl
kind_is_file (Some kind.Dir) h = absurd (true_not_false (sym h))
kind_is_file (Some kind.Other) h = absurd (true_not_false (sym h))

pub kind_is_no_file : (k : Option Kind) → is_file_kind k ≡ false → Some kind.File ≡ k → ⊥
kind_is_no_file k h e = true_not_false (ap is_file_kind e ∙ h)

-- ---- the answer for a content place

map_below : (n : Text) (d p : Place) → way_below (n ∷ d) p ≡ map (λ q. n ∷ q) (way_below d p)
map_below n d [] = refl
map_below n d (m ∷ p) = ap (λ ps. (n ∷ d ++ m ∷ []) ∷ ps) (map_below n (d ++ m ∷ []) p)

map_end : (n : Text) (ps : List Place) (p : Place) → map (λ q. n ∷ q) ps ++ (n ∷ p) ∷ [] ≡ map (λ q. n ∷ q) (ps ++ p ∷ [])
map_end n [] p = refl
map_end n (q ∷ ps) p = ap (λ qs. (n ∷ q) ∷ qs) (map_end n ps p)

pub way_is : (p : Place) → way_to p ≡ [] ∷ way_below [] p
way_is [] = refl
way_is (n ∷ p) =
    ap (λ ps. [] ∷ ps) (map_end n (beginnings p) p ∙ ap (map (λ q. n ∷ q)) (way_is p) ∙ ap (λ ps. (n ∷ []) ∷ ps) (sym (map_below n [] p)))

declares_as : (level : Level) (es : List Entry) (m : MadeDeclared) → meaning level es m ≡ declared level (file_names es) → PointsAtOne level es m → IsHead (declared level (file_names es)) (head_by m)
declares_as level es made.None e k = ap is_declared (sym e)
declares_as level es (made.One v) e k = (ap is_declared (sym e), ap is_known (sym e))
declares_as level es (made.Unknown i) e k =
    let is = sym e ∙ ap (unknown_by level) k.1 in
    (ap is_declared is, ap is_known is)
declares_as level es made.Several e k = (ap is_declared (sym e), ap is_known (sym e))

-- the head that a declaration's answer is
pub head_is : (level : Level) (files es : List Entry) (m : MadeDeclared) (h : Head) → files ≡ es → meaning level files m ≡ declared level (file_names files)
    → PointsAtOne level files m → h ≡ head_by m → IsHead (declared level (file_names es)) h
head_is level files es m h same e k is =
    subst (λ x. IsHead (declared level (file_names x)) h) same (subst (IsHead (declared level (file_names files))) (sym is) (declares_as level files m e k))

undeclared_unknown : (d : Declared) → is_declared d ≡ false → is_known d ≡ false
undeclared_unknown undeclared h = refl
undeclared_unknown (known v) h = absurd (true_not_false h)
undeclared_unknown (unknown t) h = refl
undeclared_unknown several h = refl

pub head_unknown : (d : Declared) (h : Head) → IsHead d h → (h ≡ head.Known → ⊥) → is_known d ≡ false
head_unknown d head.Undeclared k none = undeclared_unknown d k
head_unknown d head.Known k none = absurd (none refl)
head_unknown d head.Stops k none = k.1

pub declares_one : (es : List Entry) (m : MadeDeclared) → PointsAtOne level.Object es m → (m ≡ made.None → ⊥) → is_declared (meaning level.Object es m) ≡ true
declares_one es made.None k some = absurd (some refl)
declares_one es (made.One v) k some = refl
declares_one es (made.Unknown i) k some = ap (λ e. is_declared (unknown_by level.Object e)) k.1
declares_one es made.Several k some = refl

module _ (root : StorageRoot) where
  pub hierarchy_entered : (s t : Store) (d e : Place) (n : Text) (old es : List Entry) → InHierarchy root d old → is_extensions_name d n ≡ false → IsOrdinary es → Enters root s t (d ++ n ∷ []) e es
      → is_declared (declared level.Object (file_names es)) ≡ false → InHierarchy root e es
  hierarchy_entered s t d e n old es h out ordinary k none =
      subst (λ x. InHierarchy root x es) (sym k.is)
      (hierarchy_on root d n old es h out k.listable k.listing (ap is_declared (declared_object root (d ++ n ∷ []) es k.listable ordinary k.listing) ∙ none))

  -- an object, with what its declarations say
  pub declared_entered : (s t : Store) (d e : Place) (n : Text) (old es given : List Entry) (m : MadeDeclared) → InHierarchy root d old
      → is_extensions_name d n ≡ false → IsOrdinary es → Enters root s t (d ++ n ∷ []) e es → given ≡ es
      → meaning level.Object given m ≡ declared level.Object (file_names given) → PointsAtOne level.Object given m → (m ≡ made.None → ⊥) → IsDeclared root e es m
  declared_entered s t d e n old es given m h out ordinary k same said pointed some =
      let says : meaning level.Object es m ≡ declared level.Object (file_names es) = subst (λ xs. meaning level.Object xs m ≡ declared level.Object (file_names xs)) same said in
      let points : PointsAtOne level.Object es m = subst (λ xs. PointsAtOne level.Object xs m) same pointed in
      let is : object_declared root (d ++ n ∷ []) ≡ declared level.Object (file_names es) = declared_object root (d ++ n ∷ []) es k.listable ordinary k.listing in
      let declares : is_declared (object_declared root (d ++ n ∷ [])) ≡ true = ap is_declared (is ∙ sym says) ∙ declares_one es m points some in
      subst (λ x. IsDeclared root x es m) (sym k.is) (record {
        listing = k.listing;
        way = all_beginnings_step (is_entered root) d n ∙ h.here.reached;
        listable = k.listable;
        zone = object_zone_here root d n old h out declares;
        says = says ∙ sym is;
        points = points;
      })

  pub undeclared_entered : (s t : Store) (d e : Place) (n : Text) (old es given : List Entry) (m : MadeDeclared) → InHierarchy root d old
      → is_extensions_name d n ≡ false → IsOrdinary es → Enters root s t (d ++ n ∷ []) e es → given ≡ es
      → meaning level.Object given m ≡ declared level.Object (file_names given) → m ≡ made.None → InHierarchy root e es
  undeclared_entered s t d e n old es given m h out ordinary k same said none =
      let says : meaning level.Object es m ≡ declared level.Object (file_names es) = subst (λ xs. meaning level.Object xs m ≡ declared level.Object (file_names xs)) same said in
      hierarchy_entered s t d e n old es h out ordinary k (ap is_declared (sym says ∙ ap (meaning level.Object es) none))

  pub finds_object : (o : Place) (es : List Entry) (m : MadeDeclared) (v : Version) → IsDeclared root o es m → m ≡ made.One v → IsObject root o es
  finds_object o es m v h one = record {
    listing = h.listing;
    way = h.way;
    listable = h.listable;
    zone = h.zone;
    known = ap is_known (sym h.says ∙ ap (meaning level.Object es) one);
  }

  pub no_known : (o : Place) (es : List Entry) (m : MadeDeclared) → IsDeclared root o es m → (m ≡ made.None)
      ⊎ (((x : ℕ) × (m ≡ made.Unknown x)) ⊎ (m ≡ made.Several)) → is_known (meaning level.Object es m) ≡ false
  no_known o es m h (inl e) = ap (λ x. is_known (meaning level.Object es x)) e
  no_known o es m h (inr (inl k)) = ap (λ x. is_known (meaning level.Object es x)) k.1 ∙ ap (λ e. is_known (unknown_by level.Object e)) (subst (PointsAtOne level.Object es) k.1 h.points).1
  no_known o es m h (inr (inr e)) = ap (λ x. is_known (meaning level.Object es x)) e

  -- ---- from the root

  pub root_entered : (s t : Store) (e : Place) (es : List Entry) → IsOrdinary es → Enters root s t [] e es
      → (is_declared (declared level.Root (file_names es)) ≡ true) × (is_known (declared level.Root (file_names es)) ≡ true) → InHierarchy root e es
  root_entered s t e es ordinary k says =
      subst (λ x. InHierarchy root x es) (sym k.is) (at_root root es (ap is_known (declared_root root es ordinary k.listing) ∙ says.1) k.listing)

-- the storage root can be listed
pub root_listable : (root : StorageRoot) (p : Place) → p ≡ [] → is_listable root p ≡ true
root_listable root p top = subst (λ q. is_listable root q ≡ true) (sym top) refl
