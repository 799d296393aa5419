-- What is known of a content place, and of a file that is hashed.
use Rattle.std.proofs.Common.{◌≡◌, ◌≢◌, ℕ, ◌+◌, ◌≤◌, List, [], ◌∷◌, ◌++◌, length, cond, refl, sym, ◌∙◌, ap, subst, true, false, Bool, Option, Some, None, arith}
use Rattle.std.proofs.lemmas.Bool.{lt-ltb}
use Rattle.std.specs.{Prelude.{option_map, nat_lt}, List.{list_all}}
use Rattle.ocfl_tree.specs.{Place.{Place, Text}, Ascending.{IsAscending, IsAmong}}
use Rattle.ocfl_tree.specs.StorageRoot.{StorageRoot, Leaf, file, dir, other, at}
use Rattle.ocfl_report.specs.declared.further.Further.TheVariants.{Nothing}
use Rattle.ocfl_inventory.specs.ListedPath.{is_content_path}
use Rattle.ocfl_inventory.specs.Table.{Table, Named, named_cmp, named, paths_of}
use Rattle.ocfl_rules.specs.Zone.{Zone, skipped, hierarchy, inside, zone, seen, table_at, is_entered, beginnings}
use Rattle.ocfl_rules.specs.Lines.{content_notes, object_notes, notes_in, named_in, named_at, cost_of, file_notes, missing_notes}
use Rattle.ocfl_rules.specs.{Inventories.{version_inventory, notes, cost, is_hashed}, Trail.{is_head}}
use Rattle.ocfl_rules.proofs.AuditExists.{some_not_none, zone_is, path_among}
use Rattle.ocfl_rules.proofs.BoundLaws.{table_from_inventory, kept_paths, kept_short}
use Rattle.ocfl_rules.proofs.PathLaws.{deep_path, named_path, notes_at}
use Rattle.ocfl_item.specs.Internal.Content.{content_in, content_at, IsSight, is_read, sight_notes}
use Rattle.ocfl_item.specs.declared.sight.Sight.{Sight}
use Rattle.ocfl_item.specs.declared.sight.Sight.TheVariants as sight
use Rattle.ocfl_tree.proofs.Orders.{true_not_false}
use Rattle.ocfl_item.proofs.{AuditingLaws.{front_of_none}, CommonLaws.{no_version}, NamedLaws.{named_ascend}}

pub record IsContent (root : StorageRoot) (p : Place) (ns : List Named) : Type 0 where
  pub lines : (u : Option ℕ) → notes Nothing root u p ≡ content_notes root p ns u (seen root p)
  pub digests : named_at root p ≡ ns
  pub ascend : IsAscending named_cmp ns
  pub head : is_head (zone root p) ≡ false
  pub version : version_inventory root p ≡ None

pub not_root : (root : StorageRoot) (p o q : Place) → zone root p ≡ inside o q → p ≢ []
not_root root p o q z e = let is = zone_is root p o q z in is.below (front_of_none o (q, sym e ∙ is.whole))

-- the lines of a place that a table may name
pub content_by_table : (root : StorageRoot) (p o : Place) (v c n : Text) (r : Place) (t : Table) → zone root p ≡ inside o (v ∷ c ∷ n ∷ r)
    → table_at root o ≡ Some t → IsContent root p (named t (v ∷ c ∷ n ∷ r))
content_by_table root p o v c n r t z h = record {
  lines = λ u. notes_at root u p (not_root root p o _ z) ∙ ap (notes_in root p u) z ∙ ap (λ y. object_notes root p u y (v ∷ c ∷ n ∷ r)) h;
  digests = ap (named_in root) z ∙ ap named_of h;
  ascend = let k = table_from_inventory root o t h in subst (λ x. IsAscending named_cmp (named x (v ∷ c ∷ n ∷ r))) (sym k.1) (named_ascend k.0 _);
  head = ap is_head z;
  version = no_version root p _ z refl;
}
  where
    named_of : Option Table → List Named
    named_of None = []
    named_of (Some x) = named x (v ∷ c ∷ n ∷ r)

same_pair : {A B : Type 0} (x y : A × B) → Some x ≡ Some y → (x.0 ≡ y.0) × (x.1 ≡ y.1)
same_pair x y e = let pairs : x ≡ y = cc in (ap (λ k. k.0) pairs, ap (λ k. k.1) pairs)

pub content_is : (root : StorageRoot) (p q : Place) (t : Table) → content_at root p ≡ Some (t, q) → IsContent root p (named t q)
content_is root p q t h = by (zone root p) refl h
  where
    by : (z : Zone) → zone root p ≡ z → content_in root z ≡ Some (t, q) → IsContent root p (named t q)
    by skipped z e = absurd (some_not_none _ e)
    by hierarchy z e = absurd (some_not_none _ e)
    by (inside o []) z e = absurd (some_not_none _ e)
    by (inside o (v ∷ [])) z e = absurd (some_not_none _ e)
    by (inside o (v ∷ n ∷ [])) z e = absurd (some_not_none _ e)
    by (inside o (v ∷ c ∷ n ∷ r)) z e = go (table_at root o) refl e
      where
        go : (x : Option Table) → table_at root o ≡ x → option_map {U = Table × Place} (λ y. (y, v ∷ c ∷ n ∷ r)) x ≡ Some (t, q) → IsContent root p (named t q)
        go None f g = absurd (some_not_none _ g)
        go (Some y) f g =
            let same = same_pair (y, v ∷ c ∷ n ∷ r) (t, q) g in
            subst (IsContent root p) (λ i. named (same.0 i) (same.1 i)) (content_by_table root p o v c n r y z f)

-- ---- a file that is hashed

pub record IsHashedFile (root : StorageRoot) (p : Place) : Type 0 where
  pub bytes : Text
  pub is_file : at root p ≡ Some (file bytes)
  pub digests : named_at root p ≢ []
  pub lines : (u : Option ℕ) → notes Nothing root u p ≡ file_notes bytes (named_at root p) u
  pub whole : cost Nothing root None p ≡ length bytes + 1
  pub part : (given : ℕ) → cost Nothing root (Some given) p ≡ given + 1

-- what is seen is there
pub there : (root : StorageRoot) (p : Place) (leaf : Leaf) → seen root p ≡ Some leaf → at root p ≡ Some leaf
there root p leaf h = by (list_all (is_entered root) (beginnings p)) h
  where
    by : (b : Bool) → cond b (at root p) None ≡ Some leaf → at root p ≡ Some leaf
    by true e = e
    by false e = absurd (some_not_none leaf e)

record IsRead (ns : List Named) (leaf : Option Leaf) : Type 0 where
  bytes : Text
  is_file : leaf ≡ Some (file bytes)
  some : ns ≢ []
  whole : cost_of ns None leaf ≡ length bytes + 1
  part : (given : ℕ) → cost_of ns (Some given) leaf ≡ given + 1

read_file : (ns : List Named) (leaf : Option Leaf) → nat_lt 0 (cost_of ns None leaf) ≡ true → IsRead ns leaf
read_file [] leaf h = absurd (true_not_false (sym h))
read_file (n ∷ ns) None h = absurd (true_not_false (sym h))
read_file (n ∷ ns) (Some (file bytes)) h = record { bytes = bytes; is_file = refl; some = λ e. cc; whole = refl; part = λ given. refl }
read_file (n ∷ ns) (Some dir) h = absurd (true_not_false (sym h))
read_file (n ∷ ns) (Some other) h = absurd (true_not_false (sym h))

-- a place that some digest is named for is one of content
named_content : (root : StorageRoot) (p : Place) → named_at root p ≢ [] → IsContent root p (named_at root p)
named_content root p some = by (zone root p) refl some
  where
    in_table : (o q : Place) (t : Table) → zone root p ≡ inside o q → table_at root o ≡ Some t → named t q ≢ [] → IsContent root p (named_at root p)
    in_table o q t z e k =
        let i = table_from_inventory root o t e in
        let m = kept_paths i.0 q (subst (λ x. IsAmong (paths_of x) q) i.1 (path_among t q k)) in
        let d = deep_path i.0.content q (ap (is_content_path i.0.content) m.is ∙ (kept_short i.0.content m.text m.kept).0) in
        let c = content_by_table root p o d.0 d.1.0 d.1.1.0 d.1.1.1.0 t (z ∙ ap (inside o) d.1.1.1.1) e in
        subst (IsContent root p) (sym c.digests) c

    by : (z : Zone) → zone root p ≡ z → named_in root z ≢ [] → IsContent root p (named_at root p)
    by skipped z k = absurd (k refl)
    by hierarchy z k = absurd (k refl)
    by (inside o q) z k = go (table_at root o) refl k
      where
        go : (table : Option Table) → table_at root o ≡ table → elim table as (λ _. List Named) [ None ↦ [] | Some t ↦ named t q ] ≢ [] → IsContent root p (named_at root p)
        go None e l = absurd (l refl)
        go (Some t) e l = in_table o q t z e l

pub hashed_file : (root : StorageRoot) (p : Place) → is_hashed Nothing root p ≡ true → IsHashedFile root p
hashed_file root p h =
    let r = read_file (named_at root p) (seen root p) h in
    let c = named_content root p r.some in
    record {
      bytes = r.bytes;
      is_file = there root p (file r.bytes) r.is_file;
      digests = r.some;
      lines = λ u. c.lines u ∙ ap (content_notes root p (named_at root p) u) r.is_file;
      whole = r.whole;
      part = r.part;
    }

abbrev path_in : Zone → Place
path_in skipped = []
path_in hierarchy = []
path_in (inside o q) = q

-- no digest is named for a place of fewer than three names more
pub named_short : (root : StorageRoot) (e o q : Place) → zone root e ≡ inside o q → length q ≤ 2 → named_at root e ≡ []
named_short root e o q z short = by (named_at root e) refl
  where
    by : (ns : List Named) → named_at root e ≡ ns → named_at root e ≡ []
    by [] h = h
    by (n ∷ ns) h =
        let k = named_path root e (λ g. cc) in
        let long : length q ≡ length (k.version ∷ k.content ∷ k.name ∷ k.rest) = ap (λ x. length (path_in x)) (sym z ∙ k.lies) in
        absurd (omega (arith, long, short))

-- ---- what is known by sight

pub known_by_sight : (root : StorageRoot) (p : Place) (ns : List Named) (u : Option ℕ) (s : Sight) → IsSight root p s → is_read s ns ≡ false
    → content_notes root p ns u (seen root p) ≡ sight_notes s ++ missing_notes ns
known_by_sight root p ns u sight.Nothing h e = ap (content_notes root p ns u) h
known_by_sight root p [] u sight.File h e = ap (content_notes root p [] u) h.1
known_by_sight root p (n ∷ ns) u sight.File h e = absurd (true_not_false e)
known_by_sight root p ns u sight.Dir h e = ap (content_notes root p ns u) h.0 ∙ ap (λ xs. xs ++ missing_notes ns) h.1
known_by_sight root p ns u sight.EmptyDir h e = ap (content_notes root p ns u) h.0 ∙ ap (λ xs. xs ++ missing_notes ns) h.1
known_by_sight root p ns u sight.DeepDir h e = ap (content_notes root p ns u) h.0 ∙ ap (λ xs. xs ++ missing_notes ns) h.1
known_by_sight root p ns u sight.Other h e = ap (content_notes root p ns u) h

pub hashed_by_sight : (root : StorageRoot) (p : Place) (ns : List Named) (s : Sight) → IsSight root p s → nat_lt 0 (cost_of ns None (seen root p)) ≡ is_read s ns
hashed_by_sight root p [] sight.Nothing h = refl
hashed_by_sight root p [] sight.File h = refl
hashed_by_sight root p [] sight.Dir h = refl
hashed_by_sight root p [] sight.EmptyDir h = refl
hashed_by_sight root p [] sight.DeepDir h = refl
hashed_by_sight root p [] sight.Other h = refl
hashed_by_sight root p (n ∷ ns) sight.Nothing h = ap (λ leaf. nat_lt 0 (cost_of (n ∷ ns) None leaf)) h
hashed_by_sight root p (n ∷ ns) sight.File h = ap (λ leaf. nat_lt 0 (cost_of (n ∷ ns) None leaf)) h.1 ∙ positive (length h.0)
  where
    positive : (k : ℕ) → nat_lt 0 (k + 1) ≡ true
    positive k = lt-ltb 0 (k + 1) (omega arith)
hashed_by_sight root p (n ∷ ns) sight.Dir h = ap (λ leaf. nat_lt 0 (cost_of (n ∷ ns) None leaf)) h.0
hashed_by_sight root p (n ∷ ns) sight.EmptyDir h = ap (λ leaf. nat_lt 0 (cost_of (n ∷ ns) None leaf)) h.0
hashed_by_sight root p (n ∷ ns) sight.DeepDir h = ap (λ leaf. nat_lt 0 (cost_of (n ∷ ns) None leaf)) h.0
hashed_by_sight root p (n ∷ ns) sight.Other h = ap (λ leaf. nat_lt 0 (cost_of (n ∷ ns) None leaf)) h
