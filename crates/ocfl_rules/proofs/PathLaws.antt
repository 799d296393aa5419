-- Each path that an object's table names is an item.
use Rattle.std.proofs.Common.{◌≡◌, ◌≢◌, inl, inr, ℕ, List, [], ◌∷◌, ◌++◌, refl, sym, ◌∙◌, ap, subst, true, false, Bool, map, Option, Some, None, nat_lt}
use Rattle.std.specs.Prelude.{cond, filter_map, if◌then◌else◌, codes, ◌||◌, nat_lt}
use Rattle.std.specs.{Ordering.{match_ordering}, declared.cmp.Ordering.{Ordering}}
use Rattle.std.specs.{declared.cmp.Ordering.TheVariants.{Less, Equal, Greater}, List.{cons_option}}
use Rattle.ocfl_tree.specs.Place.{Place, Text, place_eq}
use Rattle.ocfl_tree.specs.Ascending.{insert_once, ascending, IsAmong}
use Rattle.ocfl_tree.specs.StorageRoot.{StorageRoot, Leaf, file, dir, other}
use Rattle.ocfl_inventory.specs.{Note.{note}, Table.{Table, Triple, Named, named, paths_of}}
use Rattle.ocfl_inventory.specs.ListedPath.{is_content_path}
use Rattle.ocfl_digest.specs.Algorithm.{algorithm_name}
use Rattle.ocfl_rules.specs.Zone.{skipped, hierarchy, inside, zone, table_at, seen, Zone}
use Rattle.ocfl_rules.specs.Lines.{block_cmp, block_code, is_empty, file_notes, missing_notes, listed_dir_notes, content_notes, object_notes, notes_in, common_notes, cost_of, is_named, named_in, named_at}
use Rattle.ocfl_rules.specs.Trail.{is_root_meta, is_common_meta, is_meta_zone}
use Rattle.ocfl_tree.proofs.Orders.{true_not_false}
use Rattle.ocfl_rules.proofs.{AuditExists.{zone_is, path_among}, BelowLaws.{place_eq-same}}
use Rattle.ocfl_rules.proofs.BoundLaws.{kept_paths, kept_short, table_from_inventory}
use Rattle.ocfl_rules.proofs.UnreadLaws.{file_some}

filled : {A : Type 0} (x : A) (xs : List A) → x ∷ xs ≢ []
filled x xs e = cc

not_filled : {A : Type 0} (xs : List A) → is_empty xs ≡ false → xs ≢ []
not_filled [] h e = true_not_false h
not_filled (x ∷ xs) h e = filled x xs e

append_filled : {A : Type 0} (xs ys : List A) → ys ≢ [] → xs ++ ys ≢ []
append_filled [] ys h e = h e
append_filled (x ∷ xs) ys h e = filled x (xs ++ ys) e

named_triples : (q : Place) (ts : List Triple) → IsAmong (map (λ e. e.path) ts) q → filter_map (λ e. if place_eq e.path q then Some e.named else None) ts ≢ []
named_triples q [] i = absurd i
named_triples q (e ∷ ts) i = by (place_eq e.path q) refl i (named_triples q ts)
  where
    by : (b : Bool) → place_eq e.path q ≡ b → IsAmong (map (λ x. x.path) (e ∷ ts)) q → (IsAmong (map (λ x. x.path) ts) q → filter_map (λ x. if place_eq x.path q then Some x.named else None) ts ≢ [])
        → cons_option (cond b (Some e.named) None) (filter_map (λ x. if place_eq x.path q then Some x.named else None) ts) ≢ []
    by true f i k = filled e.named _
    by false f (inl g) k = absurd (true_not_false (sym (place_eq-same q) ∙ ap (λ x. place_eq x q) g ∙ f))
    by false f (inr j) k = k j

ascending_filled : {A : Type 0} (cmp : A → A → Ordering) (xs : List A) → xs ≢ [] → ascending cmp xs ≢ []
ascending_filled cmp [] h = h
ascending_filled {A = A} cmp (x ∷ xs) h = by (ascending cmp xs)
  where
    by : (ys : List A) → insert_once cmp x ys ≢ []
    by [] = filled x []
    by (y ∷ ys) = go (cmp x y)
      where
        go : (r : Ordering) → match_ordering r (x ∷ y ∷ ys) (y ∷ ys) (y ∷ insert_once cmp x ys) ≢ []
        go Less = filled x _
        go Equal = filled y _
        go Greater = filled y _

missing_filled : (ns : List Named) → ns ≢ [] → missing_notes ns ≢ []
missing_filled ns h = by (ascending block_cmp ns) (ascending_filled block_cmp ns h)
  where
    by : (ms : List Named) → ms ≢ [] → map (λ n. note (block_code n) (algorithm_name n.algorithm ++ codes " missing")) ms ≢ []
    by [] k = absurd (k refl)
    by (m ∷ ms) k = filled _ _

content_filled : (root : StorageRoot) (p : Place) (ns : List Named) (u : Option ℕ) (leaf : Option Leaf) → ns ≢ [] → content_notes root p ns u leaf ≢ []
content_filled root p ns u None h = missing_filled ns h
content_filled root p ns u (Some (file bytes)) h = not_filled (file_notes bytes ns u) (file_some bytes ns u)
content_filled root p ns u (Some dir) h = append_filled (listed_dir_notes root p _) (missing_notes ns) (missing_filled ns h)
content_filled root p ns u (Some other) h = filled _ _

pub notes_at : (root : StorageRoot) (u : Option ℕ) (p : Place) → p ≢ [] → common_notes root u p ≡ notes_in root p u (zone root p)
notes_at root u [] h = absurd (h refl)
notes_at root u (n ∷ p) h = refl

pub deep_path : (content : Text) (q : Place) → is_content_path content q ≡ true → (v : Text) × ((c : Text) × ((n : Text) × ((r : Place) × (q ≡ v ∷ c ∷ n ∷ r))))
deep_path content [] h = absurd (true_not_false (sym h))
deep_path content (v ∷ []) h = absurd (true_not_false (sym h))
deep_path content (v ∷ c ∷ []) h = absurd (true_not_false (sym h))
deep_path content (v ∷ c ∷ n ∷ r) h = (v, (c, (n, (r, refl))))

pub common_path_lines : (root : StorageRoot) (u : Option ℕ) (p o q : Place) (t : Table) → zone root p ≡ inside o q → table_at root o ≡ Some t → IsAmong (paths_of t) q → common_notes root u p ≢ []
common_path_lines root u p o q t z h i =
    let k = table_from_inventory root o t h in
    let m = kept_paths k.0 q (subst (λ x. IsAmong (paths_of x) q) k.1 i) in
    let deep : is_content_path k.0.content q ≡ true = ap (is_content_path k.0.content) m.is ∙ (kept_short k.0.content m.text m.kept).0 in
    by (deep_path k.0.content q deep)
  where
    names : named t q ≢ []
    names = named_triples q t.triples i

    below : p ≢ []
    below e = (zone_is root p o q z).below (front o q (sym e ∙ (zone_is root p o q z).whole))
      where
        front : (a b : Place) → [] ≡ a ++ b → a ≡ []
        front [] b f = refl
        front (x ∷ a) b f = absurd (filled x (a ++ b) (sym f))

    by : (v : Text) × ((c : Text) × ((n : Text) × ((r : Place) × (q ≡ v ∷ c ∷ n ∷ r)))) → common_notes root u p ≢ []
    by d e =
        let shape : q ≡ d.0 ∷ d.1.0 ∷ d.1.1.0 ∷ d.1.1.1.0 = d.1.1.1.1 in
        content_filled root p (named t (d.0 ∷ d.1.0 ∷ d.1.1.0 ∷ d.1.1.1.0)) u (seen root p) (subst (λ x. named t x ≢ []) shape names)
        (ap (λ y. object_notes root p u y (d.0 ∷ d.1.0 ∷ d.1.1.0 ∷ d.1.1.1.0)) (sym h) ∙ ap (notes_in root p u) (ap (inside o) (sym shape) ∙ sym z) ∙ sym (notes_at root u p below) ∙ e)

-- ---- no place with a named digest is a declaration, an inventory or a sidecar

no_root_meta : (o : Place) (v c n : Text) (r : Place) → is_root_meta (o ++ v ∷ c ∷ n ∷ r) ≡ false
no_root_meta [] v c n r = refl
no_root_meta (a ∷ []) v c n r = refl
no_root_meta (a ∷ b ∷ o) v c n r = refl

free_unnamed : (ns : List Named) (leaf : Option Leaf) → ns ≡ [] → cost_of ns None leaf ≡ 0
free_unnamed ns leaf e = ap (λ x. cost_of x None leaf) e

hashed_named : (ns : List Named) (leaf : Option Leaf) → nat_lt 0 (cost_of ns None leaf) ≡ true → ns ≢ []
hashed_named ns leaf h e = true_not_false (sym h ∙ ap (nat_lt 0) (free_unnamed ns leaf e))

-- a place with a named digest is a content path of the table of the object that it is in
pub record IsPath (root : StorageRoot) (p : Place) : Type 0 where
  pub object : Place
  pub table : Table
  pub version : Text
  pub content : Text
  pub name : Text
  pub rest : Place
  pub lies : zone root p ≡ inside object (version ∷ content ∷ name ∷ rest)
  pub has : table_at root object ≡ Some table
  pub among : IsAmong (paths_of table) (version ∷ content ∷ name ∷ rest)

pub named_path : (root : StorageRoot) (p : Place) → named_at root p ≢ [] → IsPath root p
named_path root p some = by (zone root p) refl some
  where
    in_table : (o q : Place) (t : Table) → zone root p ≡ inside o q → table_at root o ≡ Some t → named t q ≢ [] → IsPath root p
    in_table o q t z e names =
        let k = table_from_inventory root o t e in
        let m = kept_paths k.0 q (subst (λ x. IsAmong (paths_of x) q) k.1 (path_among t q names)) in
        let d = deep_path k.0.content q (ap (is_content_path k.0.content) m.is ∙ (kept_short k.0.content m.text m.kept).0) in
        let shape : q ≡ d.0 ∷ d.1.0 ∷ d.1.1.0 ∷ d.1.1.1.0 = d.1.1.1.1 in
        record {
          object = o;
          table = t;
          version = d.0;
          content = d.1.0;
          name = d.1.1.0;
          rest = d.1.1.1.0;
          lies = z ∙ ap (inside o) shape;
          has = e;
          among = subst (IsAmong (paths_of t)) shape (path_among t q names);
        }

    by : (z : Zone) → zone root p ≡ z → named_in root z ≢ [] → IsPath root p
    by skipped z k = absurd (k refl)
    by hierarchy z k = absurd (k refl)
    by (inside o q) z k = go (table_at root o) refl k
      where
        go : (table : Option Table) → table_at root o ≡ table → elim table as (λ _. List Named) [ None ↦ [] | Some t ↦ named t q ] ≢ [] → IsPath root p
        go None e l = absurd (l refl)
        go (Some t) e l = in_table o q t z e l

pub named_has_path : (root : StorageRoot) (p : Place) → is_named root p ≡ true → IsPath root p
named_has_path root p h = named_path root p (hashed_named (named_at root p) (seen root p) h)

pub named_no_meta : (root : StorageRoot) (p : Place) → is_named root p ≡ true → is_common_meta root p ≡ false
named_no_meta root p h = by (named_has_path root p h)
  where
    by : IsPath root p → is_common_meta root p ≡ false
    by k =
        let q : Place = k.version ∷ k.content ∷ k.name ∷ k.rest in
        let whole : p ≡ k.object ++ q = (zone_is root p k.object q k.lies).whole in
        (λ i. is_root_meta (whole i) || is_meta_zone (k.lies i)) ∙ ap (λ b. b || false) (no_root_meta k.object k.version k.content k.name k.rest)

-- and so it has lines
pub named_lines : (root : StorageRoot) (u : Option ℕ) (p : Place) → is_named root p ≡ true → common_notes root u p ≢ []
named_lines root u p h = let k = named_has_path root p h in common_path_lines root u p k.object _ k.table k.lies k.has k.among
