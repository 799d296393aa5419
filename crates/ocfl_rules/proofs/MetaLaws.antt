-- Which names are allowed, what is metadata, and what openings show.
use Rattle.std.proofs.Common.{◌≡◌, ◌≢◌, ◌↔◌, ◌⊎◌, inl, inr, ℕ, List, [], ◌∷◌, ◌++◌, refl, sym, ◌∙◌, ap, true, false, Bool, map, filter, Some, codes, append_assoc}
use Rattle.std.proofs.{lemmas.List.{map-append}, lemmas.Bool.{false_from_ne_true, or_right}}
use Rattle.std.specs.Prelude.{cond, ◌||◌, ◌&&◌, not, nat_lt, length}
use Rattle.ocfl_tree.specs.Place.{Place, Text, text_eq, place_eq}
use Rattle.ocfl_tree.specs.StorageRoot.{StorageRoot, file, dir, at, is_dir, is_dir_leaf, names_in}
use Rattle.ocfl_tree.specs.declared.store.Opening.{Opening}
use Rattle.ocfl_inventory.specs.{Note.{Note, plain}, ListedPath.{is_version_name}, Table.{Table}}
use Rattle.ocfl_inventory.specs.Declaration.{is_declaration}
use Rattle.ocfl_inventory.specs.declared.declaration.Level.TheVariants.{Object}
use Rattle.ocfl_report.specs.declared.code.Code.TheVariants.{E001, E015, S05}
use Rattle.ocfl_report.specs.declared.further.Further.{Further}
use Rattle.ocfl_report.specs.declared.further.Further.TheVariants.{Nothing, Inventories}
use Rattle.ocfl_tree.proofs.{Orders.{true_not_false}, Trees.{dir_from_leaf}}
use Rattle.ocfl_digest.specs.declared.algorithm.Algorithm.TheVariants.{Sha256, Sha512}
use Rattle.ocfl_rules.specs.Inventories.{is_version_sidecar}
use Rattle.ocfl_rules.specs.Zone.{Zone, skipped, hierarchy, inside, zone, inventory_name, max_listed_depth, is_in_extensions}
use Rattle.ocfl_rules.specs.Head.{on, sidecar_name}
use Rattle.ocfl_rules.specs.Lines.{is_empty, is_inventory_or_sidecar, listed_dir_notes, object_entry_notes, version_entry_notes}
use Rattle.ocfl_rules.specs.Audit.{Unread, given_by}
use Rattle.ocfl_rules.specs.Trail.{is_root_meta, is_meta_zone, is_common_meta, is_meta, content_openings, content_trail, unread_of, inventory_of, heads_of}
use Rattle.ocfl_rules.specs.Objects.{IsObjectRoot, IsInventoryFile, inventory, sidecar_sha256, sidecar_sha512, IsObjectFile, declaration, of_inventory, IsMetadata, of_root, of_object, of_version, IsVersionSidecar}
use Rattle.ocfl_rules.proofs.AuditExists.{append_nothing, zone_is, place_from_test}
use Rattle.ocfl_rules.proofs.BelowLaws.{text_from_test, text_eq-same, place_eq-same}
use Rattle.ocfl_rules.proofs.WayLaws.{is_closed, zone_part}
use Rattle.ocfl_rules.proofs.NextLaws.{zone_longer}
use Rattle.ocfl_rules.proofs.ObjectLaws.{object_by_zone}
use Rattle.ocfl_rules.proofs.Trails.{filter_append}

-- ---- names of files

inventory_file : (n : Text) → is_inventory_or_sidecar n ≡ true → IsInventoryFile n
inventory_file n h = by (text_eq n inventory_name) (text_eq n (sidecar_name Sha256)) (text_eq n (sidecar_name Sha512)) refl refl refl h
  where
    by : (a b c : Bool) → text_eq n inventory_name ≡ a → text_eq n (sidecar_name Sha256) ≡ b → text_eq n (sidecar_name Sha512) ≡ c → (a || b || c) ≡ true → IsInventoryFile n
    by true b c e f g k = inventory (text_from_test n inventory_name e)
    by false true c e f g k = sidecar_sha256 (text_from_test n (sidecar_name Sha256) f)
    by false false true e f g k = sidecar_sha512 (text_from_test n (sidecar_name Sha512) g)
    by false false false e f g k = absurd (true_not_false (sym k))

inventory_test : (n : Text) → IsInventoryFile n → is_inventory_or_sidecar n ≡ true
inventory_test n (inventory e) = ap is_inventory_or_sidecar e
inventory_test n (sidecar_sha256 e) = ap is_inventory_or_sidecar e
inventory_test n (sidecar_sha512 e) = ap is_inventory_or_sidecar e

object_file : (n : Text) → (is_declaration Object n || is_inventory_or_sidecar n) ≡ true → IsObjectFile n
object_file n h = by (is_declaration Object n) refl h
  where
    by : (b : Bool) → is_declaration Object n ≡ b → (b || is_inventory_or_sidecar n) ≡ true → IsObjectFile n
    by true e k = declaration e
    by false e k = of_inventory (inventory_file n k)

object_test : (n : Text) → IsObjectFile n → (is_declaration Object n || is_inventory_or_sidecar n) ≡ true
object_test n (declaration e) = ap (λ b. b || is_inventory_or_sidecar n) e
object_test n (of_inventory h) = or_right (is_declaration Object n) (is_inventory_or_sidecar n) (inventory_test n h)

-- ---- which entries have no line

none_of : (b : Bool) (x : Note) → on (not b) x ≡ [] → b ≡ true
none_of true x e = refl
none_of false x e = absurd cc

pub object_files : (root : StorageRoot) (p : Place) (n bytes : Text) → (object_entry_notes root p n (Some (file bytes)) ≡ []) ↔ IsObjectFile n
object_files root p n bytes = (λ e. object_file n (none_of (is_declaration Object n || is_inventory_or_sidecar n) (plain E001) e), λ h. ap (λ b. on (not b) (plain E001)) (object_test n h))

pub version_files : (root : StorageRoot) (t : Table) (p : Place) (n bytes : Text) → (version_entry_notes root t p n (Some (file bytes)) ≡ []) ↔ IsInventoryFile n
version_files root t p n bytes = (λ e. inventory_file n (none_of (is_inventory_or_sidecar n) (plain E015) e), λ h. ap (λ b. on (not b) (plain E015)) (inventory_test n h))

-- a directory that an object's root may not hold
pub object_directories : (root : StorageRoot) (p : Place) (n : Text)
    → (object_entry_notes root p n (Some dir) ≡ plain E001 ∷ []) ↔ ((is_version_name n ≡ false) × ((n ≢ codes "extensions") × (n ≢ codes "logs")))
object_directories root p n = (to, back)
  where
    apart : (b : Bool) → cond b (plain S05 ∷ []) (cond (is_empty (names_in root p)) [] []) ≡ plain E001 ∷ [] → ⊥
    apart true e = let f : plain S05 ≡ plain E001 = cc in let g : S05 ≡ E001 = ap (λ x. x.code) f in cc
    apart false e = nothing (is_empty (names_in root p)) e
      where
        nothing : (b : Bool) → cond b [] [] ≡ plain E001 ∷ [] → ⊥
        nothing true e = cc
        nothing false e = cc

    differs : (m : Text) → text_eq n m ≡ false → n ≢ m
    differs m e same = true_not_false (sym (text_eq-same m) ∙ ap (λ x. text_eq x m) (sym same) ∙ e)

    to : object_entry_notes root p n (Some dir) ≡ plain E001 ∷ [] → (is_version_name n ≡ false) × ((n ≢ codes "extensions") × (n ≢ codes "logs"))
    to h = by (is_version_name n) (text_eq n (codes "extensions")) (text_eq n (codes "logs")) refl refl refl h
      where
        by : (a b c : Bool) → is_version_name n ≡ a → text_eq n (codes "extensions") ≡ b → text_eq n (codes "logs") ≡ c
            → cond a (listed_dir_notes root p []) (on (not (b || c)) (plain E001)) ≡ plain E001 ∷ []
            → (is_version_name n ≡ false) × ((n ≢ codes "extensions") × (n ≢ codes "logs"))
        by true b c e f g k = absurd (apart (nat_lt max_listed_depth (length p)) k)
        by false true c e f g k = absurd cc
        by false false true e f g k = absurd cc
        by false false false e f g k = (e, (differs (codes "extensions") f, differs (codes "logs") g))

    is_false : (m : Text) → n ≢ m → text_eq n m ≡ false
    is_false m other_name = false_from_ne_true (text_eq n m) (λ e. other_name (text_from_test n m e))

    back : (is_version_name n ≡ false) × ((n ≢ codes "extensions") × (n ≢ codes "logs")) → object_entry_notes root p n (Some dir) ≡ plain E001 ∷ []
    back h =
        let a = h.0 in
        let b = is_false (codes "extensions") h.1.0 in
        let c = is_false (codes "logs") h.1.1 in
        λ i. cond (a i) (listed_dir_notes root p []) (on (not (b i || c i)) (plain E001))

-- ---- the storage root's extensions

pub in_extensions : (root : StorageRoot) (p : Place) → (is_in_extensions root p ≡ true) ↔ ((q : Place) × ((p ≡ codes "extensions" ∷ q) × (at root (codes "extensions" ∷ []) ≡ Some dir)))
in_extensions root [] = (λ e. absurd (true_not_false (sym e)), λ k. absurd (let e = k.1.0 in cc))
in_extensions root (n ∷ p) = (to, λ k. ap (is_in_extensions root) k.1.0 ∙ ap is_dir_leaf k.1.1)
  where
    to : is_in_extensions root (n ∷ p) ≡ true → (q : Place) × ((n ∷ p ≡ codes "extensions" ∷ q) × (at root (codes "extensions" ∷ []) ≡ Some dir))
    to h = by (text_eq n (codes "extensions")) refl h
      where
        by : (b : Bool) → text_eq n (codes "extensions") ≡ b → (b && is_dir root (n ∷ [])) ≡ true → (q : Place) × ((n ∷ p ≡ codes "extensions" ∷ q) × (at root (codes "extensions" ∷ []) ≡ Some dir))
        by true e k =
            let same = text_from_test n (codes "extensions") e in
            (p, (ap (λ m. m ∷ p) same, ap (λ m. at root (m ∷ [])) (sym same) ∙ dir_from_leaf (at root (n ∷ [])) k))
        by false e k = absurd (true_not_false (sym k))

module _ (root : StorageRoot) where
  -- ---- what is metadata

  -- the object that a place is in
  pub object_around : (p o q : Place) → zone root p ≡ inside o q → IsObjectRoot root o
  object_around p o q z = (object_by_zone root o).1 (ap (zone root) (sym (append_nothing o)) ∙ zone_part root (is_closed root) p o [] q z)

  -- and an entry of its root
  entry_zone : (o : Place) (n : Text) → IsObjectRoot root o → zone root (o ++ n ∷ []) ≡ inside o (n ∷ [])
  entry_zone o n h = zone_longer root (is_closed root) o o [] (n ∷ []) ((object_by_zone root o).0 h)

  -- ---- whose inventories were opened

  pub head_shown : (x : Opening) (o : Place) → IsObjectRoot root o → x.place ≡ o ++ codes "inventory.json" ∷ [] → heads_of root (x ∷ []) ≡ o ∷ []
  head_shown x o is e = ap (λ z. inventory_of z ++ []) (ap (zone root) e ∙ entry_zone o (codes "inventory.json") is)

  pub no_head_shown : (x : Opening) → ((o : Place) → IsObjectRoot root o → x.place ≡ o ++ codes "inventory.json" ∷ [] → ⊥) → heads_of root (x ∷ []) ≡ []
  no_head_shown x isnt = ap (λ l. l ++ []) (by (zone root x.place) refl)
    where
      by : (z : Zone) → zone root x.place ≡ z → inventory_of z ≡ []
      by skipped z = refl
      by hierarchy z = refl
      by (inside o []) z = refl
      by (inside o (n ∷ [])) z = named (text_eq n inventory_name) refl
        where
          named : (b : Bool) → text_eq n inventory_name ≡ b → cond b (o ∷ []) [] ≡ []
          named true e = absurd (isnt o (object_around x.place o (n ∷ []) z) ((zone_is root x.place o (n ∷ []) z).whole ∙ ap (λ m. o ++ m ∷ []) (text_from_test n inventory_name e)))
          named false e = refl
      by (inside o (n ∷ m ∷ q)) z = refl

  pub heads_on : (front trail : List Opening) → heads_of root (front ++ trail) ≡ heads_of root front ++ heads_of root trail
  heads_on [] trail = refl
  heads_on (x ∷ front) trail = ap (λ l. inventory_of (zone root x.place) ++ l) (heads_on front trail)
      ∙ sym (append_assoc (inventory_of (zone root x.place)) (heads_of root front) (heads_of root trail))

-- ---- sidecars in version directories

pub version_sidecar_is : (root : StorageRoot) (p : Place) → (is_version_sidecar (zone root p) ≡ true) ↔ IsVersionSidecar root p
version_sidecar_is root p = (to, back)
  where
    named : (n : Text) → (text_eq n (sidecar_name Sha256) || text_eq n (sidecar_name Sha512)) ≡ true → (n ≡ codes "inventory.json.sha256") ⊎ (n ≡ codes "inventory.json.sha512")
    named n h = by (text_eq n (sidecar_name Sha256)) refl h
      where
        by : (b : Bool) → text_eq n (sidecar_name Sha256) ≡ b → (b || text_eq n (sidecar_name Sha512)) ≡ true → (n ≡ codes "inventory.json.sha256") ⊎ (n ≡ codes "inventory.json.sha512")
        by true e g = inl (text_from_test n (sidecar_name Sha256) e)
        by false e g = inr (text_from_test n (sidecar_name Sha512) g)

    unnamed : (n : Text) → (n ≡ codes "inventory.json.sha256") ⊎ (n ≡ codes "inventory.json.sha512") → (text_eq n (sidecar_name Sha256) || text_eq n (sidecar_name Sha512)) ≡ true
    unnamed n (inl e) = ap (λ m. text_eq m (sidecar_name Sha256) || text_eq m (sidecar_name Sha512)) e
    unnamed n (inr e) = ap (λ m. text_eq m (sidecar_name Sha256) || text_eq m (sidecar_name Sha512)) e

    found : (o : Place) (v n : Text) → zone root p ≡ inside o (v ∷ n ∷ []) → (is_version_name v && (text_eq n (sidecar_name Sha256) || text_eq n (sidecar_name Sha512))) ≡ true → IsVersionSidecar root p
    found o v n z h = by (is_version_name v) refl h
      where
        by : (b : Bool) → is_version_name v ≡ b → (b && (text_eq n (sidecar_name Sha256) || text_eq n (sidecar_name Sha512))) ≡ true → IsVersionSidecar root p
        by true e g = record { object = o; version = v; name = n; is_object = object_around root p o (v ∷ n ∷ []) z; is_version = e; named = named n g; whole = (zone_is root p o (v ∷ n ∷ []) z).whole }
        by false e g = absurd (true_not_false (sym g))

    to : is_version_sidecar (zone root p) ≡ true → IsVersionSidecar root p
    to h = by (zone root p) refl h
      where
        by : (z : Zone) → zone root p ≡ z → is_version_sidecar z ≡ true → IsVersionSidecar root p
        by skipped z g = absurd (true_not_false (sym g))
        by hierarchy z g = absurd (true_not_false (sym g))
        by (inside o []) z g = absurd (true_not_false (sym g))
        by (inside o (n ∷ [])) z g = absurd (true_not_false (sym g))
        by (inside o (v ∷ n ∷ [])) z g = found o v n z g
        by (inside o (v ∷ c ∷ n ∷ q)) z g = absurd (true_not_false (sym g))

    back : IsVersionSidecar root p → is_version_sidecar (zone root p) ≡ true
    back k =
        ap (λ x. is_version_sidecar (zone root x)) k.whole
        ∙ ap is_version_sidecar (zone_longer root (is_closed root) k.object k.object [] (k.version ∷ k.name ∷ []) ((object_by_zone root k.object).0 k.is_object))
        ∙ (λ i. k.is_version i && (text_eq k.name (sidecar_name Sha256) || text_eq k.name (sidecar_name Sha512))) ∙ unnamed k.name k.named

-- ---- what is metadata

module _ (further : Further) (root : StorageRoot) where
  by_root : (p : Place) → is_root_meta p ≡ true → IsMetadata further root p
  by_root [] h = absurd (true_not_false (sym h))
  by_root (n ∷ []) h = of_root n h refl
  by_root (n ∷ m ∷ q) h = absurd (true_not_false (sym h))

  by_zone : (p : Place) (z : Zone) → zone root p ≡ z → is_meta_zone z ≡ true → IsMetadata further root p
  by_zone p skipped z h = absurd (true_not_false (sym h))
  by_zone p hierarchy z h = absurd (true_not_false (sym h))
  by_zone p (inside o []) z h = absurd (true_not_false (sym h))
  by_zone p (inside o (n ∷ [])) z h = of_object o n (object_around root p o (n ∷ []) z) (object_file n h) (zone_is root p o (n ∷ []) z).whole
  by_zone p (inside o (n ∷ m ∷ q)) z h = absurd (true_not_false (sym h))

  -- that of each audit
  common_metadata : (p : Place) → is_common_meta root p ≡ true → IsMetadata further root p
  common_metadata p h = by (is_root_meta p) refl h
    where
      by : (b : Bool) → is_root_meta p ≡ b → (b || is_meta_zone (zone root p)) ≡ true → IsMetadata further root p
      by true e g = by_root p e
      by false e g = by_zone p (zone root p) refl g

metadata : (further : Further) (root : StorageRoot) (p : Place) → is_meta further root p ≡ true → IsMetadata further root p
metadata Nothing root p h = common_metadata Nothing root p h
metadata Inventories root p h = by (is_common_meta root p) refl h
  where
    by : (b : Bool) → is_common_meta root p ≡ b → (b || is_version_sidecar (zone root p)) ≡ true → IsMetadata Inventories root p
    by true e g = common_metadata Inventories root p e
    by false e g = of_version refl ((version_sidecar_is root p).0 g)

pub common_is_meta : (further : Further) (root : StorageRoot) (p : Place) → is_common_meta root p ≡ true → is_meta further root p ≡ true
common_is_meta Nothing root p h = h
common_is_meta Inventories root p h = ap (λ b. b || is_version_sidecar (zone root p)) h

sidecar_is_meta : (further : Further) (root : StorageRoot) (p : Place) → further ≡ Inventories → is_version_sidecar (zone root p) ≡ true → is_meta further root p ≡ true
sidecar_is_meta further root p are h = ap (λ f. is_meta f root p) are ∙ or_right (is_common_meta root p) (is_version_sidecar (zone root p)) h

module _ (further : Further) (root : StorageRoot) where
  is_there : (p : Place) → IsMetadata further root p → is_meta further root p ≡ true
  is_there p (of_root n h whole) = common_is_meta further root p (ap (is_common_meta root) whole ∙ ap (λ b. b || is_meta_zone (zone root (n ∷ []))) h)
  is_there p (of_object o n is h whole) = common_is_meta further root p (ap (is_common_meta root) whole
      ∙ or_right (is_root_meta (o ++ n ∷ [])) (is_meta_zone (zone root (o ++ n ∷ []))) (ap is_meta_zone (entry_zone root o n is) ∙ object_test n h))
  is_there p (of_version are s) = sidecar_is_meta further root p are ((version_sidecar_is root p).1 s)

  pub meta_is : (p : Place) → (is_meta further root p ≡ true) ↔ IsMetadata further root p
  meta_is p = (metadata further root p, is_there p)

  not_meta : (p : Place) → (IsMetadata further root p → ⊥) → is_meta further root p ≡ false
  not_meta p isnt = false_from_ne_true (is_meta further root p) (λ e. isnt (metadata further root p e))

  -- ---- what one opening shows of content

  meta_shows_nothing : (o : Opening) → IsMetadata further root o.place → content_openings further root (o ∷ []) ≡ []
  meta_shows_nothing o h = ap (λ b. cond (not b) (o ∷ []) []) (is_there o.place h)

  shows_itself : (o : Opening) → (IsMetadata further root o.place → ⊥) → content_openings further root (o ∷ []) ≡ o ∷ []
  shows_itself o h = ap (λ b. cond (not b) (o ∷ []) []) (not_meta o.place h)

  -- what it gave, if it failed
  abbrev gave : Opening → Place × ℕ
  gave o = (o.place, o.given)

  failed_alone : (o : Opening) (b : Bool) → o.failed ≡ b → map (λ x. gave x) (filter (λ x. x.failed) (o ∷ [])) ≡ cond b (gave o ∷ []) []
  failed_alone o b e = ap (λ c. map (λ x. gave x) (cond c (o ∷ []) [])) e ∙ by b
    where
      by : (c : Bool) → map (λ x. gave x) (cond c (o ∷ []) []) ≡ cond c (gave o ∷ []) []
      by true = refl
      by false = refl

  pub content_shown : (o : Opening) → (IsMetadata further root o.place → ⊥) → content_trail further root (o ∷ []) ≡ o.place ∷ []
  content_shown o h = ap (map (λ x. x.place)) (shows_itself o h)

  pub unread_shown : (o : Opening) → (IsMetadata further root o.place → ⊥) → o.failed ≡ true → unread_of further root (o ∷ []) ≡ (o.place, o.given) ∷ []
  unread_shown o h e = ap (λ os. map (λ x. gave x) (filter (λ x. x.failed) os)) (shows_itself o h) ∙ failed_alone o true e

  pub read_shown : (o : Opening) → o.failed ≡ false → unread_of further root (o ∷ []) ≡ []
  read_shown o e = by (is_meta further root o.place)
    where
      by : (b : Bool) → map (λ x. gave x) (filter (λ x. x.failed) (cond (not b) (o ∷ []) [])) ≡ []
      by true = refl
      by false = failed_alone o false e

  pub meta_shown : (o : Opening) → IsMetadata further root o.place → (content_trail further root (o ∷ []) ≡ []) × (unread_of further root (o ∷ []) ≡ [])
  meta_shown o h =
      let e = meta_shows_nothing o h in
      (ap (map (λ x. x.place)) e, ap (λ os. map (λ x. gave x) (filter (λ x. x.failed) os)) e)

  -- and more of them
  content_on : (front trail : List Opening) → content_openings further root (front ++ trail) ≡ content_openings further root front ++ content_openings further root trail
  content_on front trail = filter_append (λ o. not (is_meta further root o.place)) front trail

  pub trail_on : (front trail : List Opening) → content_trail further root (front ++ trail) ≡ content_trail further root front ++ content_trail further root trail
  trail_on front trail = ap (map (λ o. o.place)) (content_on front trail) ∙ map-append (λ o. o.place) (content_openings further root front) (content_openings further root trail)

  pub unread_on : (front trail : List Opening) → unread_of further root (front ++ trail) ≡ unread_of further root front ++ unread_of further root trail
  unread_on front trail =
      ap (λ os. map (λ x. gave x) (filter (λ o. o.failed) os)) (content_on front trail)
      ∙ ap (map (λ x. gave x)) (filter_append (λ o. o.failed) (content_openings further root front) (content_openings further root trail))
      ∙ map-append (λ x. gave x) (filter (λ o. o.failed) (content_openings further root front)) (filter (λ o. o.failed) (content_openings further root trail))

-- ---- what a content file gave

pub given_first : (unread : Unread) (p : Place) (n : ℕ) → given_by ((p, n) ∷ unread) p ≡ Some n
given_first unread p n = ap (λ b. cond b (Some n) (given_by unread p)) (place_eq-same p)

pub given_behind : (unread : Unread) (p q : Place) (n : ℕ) → q ≢ p → given_by ((q, n) ∷ unread) p ≡ given_by unread p
given_behind unread p q n apart = by (place_eq q p) refl
  where
    by : (b : Bool) → place_eq q p ≡ b → cond b (Some n) (given_by unread p) ≡ given_by unread p
    by true e = absurd (apart (place_from_test q p e))
    by false e = refl
