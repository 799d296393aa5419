-- What an audit checks further gives lines where something is seen, and there alone. So which places
-- may have lines is known from what each audit looks at.
use Rattle.std.proofs.Common.{◌≡◌, ◌≢◌, ◌⊎◌, inl, inr, ℕ, List, [], ◌∷◌, ◌++◌, refl, sym, ◌∙◌, ap, true, false, Bool, Option, Some, None}
use Rattle.std.specs.Prelude.{cond, ◌&&◌, not, is_some, option_map}
use Rattle.std.proofs.Common.{subst}
use Rattle.ocfl_tree.specs.{Place.{Place, Text, text_eq}, Ascending.{IsAmong}}
use Rattle.ocfl_tree.specs.StorageRoot.{StorageRoot, Leaf, file, dir, other}
use Rattle.ocfl_tree.proofs.Orders.{true_not_false}
use Rattle.ocfl_report.specs.declared.code.Code.TheVariants.{E058, E060, E061, S08}
use Rattle.ocfl_report.specs.declared.further.Further.{Further}
use Rattle.ocfl_report.specs.declared.further.Further.TheVariants.{Nothing, Inventories}
use Rattle.ocfl_inventory.specs.{Note.{note, Note, plain}, Sidecar.{sidecar_of}}
use Rattle.hex.specs.Hex.{encode_lower}
use Rattle.ocfl_digest.specs.{Algorithm.{algorithm_name}, declared.algorithm.Algorithm.{Algorithm}}
use Rattle.ocfl_digest.specs.declared.algorithm.Algorithm.TheVariants.{Sha256, Sha512}
use Rattle.ocfl_rules.specs.Zone.{Zone, skipped, hierarchy, inside, zone, seen, inventory_name}
use Rattle.ocfl_rules.specs.Head.{on, sidecar_at}
use Rattle.ocfl_rules.specs.Lines.{is_empty, common_notes}
use Rattle.ocfl_rules.specs.Inventories.{Expected, VersionInventory, expected_digest, expected_beside, expected_by_root, expected_of, form_notes, beside_notes, inventory_notes, inventory_bytes, version_inventory_in, version_inventory, root_inventory, head_notes, version_notes, further_notes, notes}
use Rattle.ocfl_rules.specs.{Audit.{candidates}, Walk.{names_below, IsClosed}}
use Rattle.ocfl_rules.proofs.AuditExists.{append_nothing, seen_candidate, zone_is, common_candidate}
use Rattle.ocfl_rules.proofs.UnreadLaws.{or_bytes_some, common_alike, no_notes}
use Rattle.ocfl_rules.proofs.WayLaws.{Reason, by_sight, common_reason, way_of_reason, head_seen, is_closed}

-- ---- what could be read has no part in which places have lines

appended_some : (ns : List Note) (m : Note) → is_empty (ns ++ m ∷ []) ≡ false
appended_some [] m = refl
appended_some (n ∷ ns) m = refl

expected_some : (beside : List Note) (bytes : Text) (e : Expected) (es : List Expected) (u : Option ℕ) → is_empty (inventory_notes beside bytes (e ∷ es) u) ≡ false
expected_some beside bytes e es None = or_bytes_some bytes _
expected_some beside bytes e es (Some given) = appended_some beside (plain S08)

inventory_alike : (beside : List Note) (bytes : Text) (es : List Expected) (u v : Option ℕ) → is_empty (inventory_notes beside bytes es u) ≡ is_empty (inventory_notes beside bytes es v)
inventory_alike beside bytes [] u v = refl
inventory_alike beside bytes (e ∷ es) u v = expected_some beside bytes e es u ∙ sym (expected_some beside bytes e es v)

both_alike : {A : Type 0} (xs ys more less : List A) → is_empty xs ≡ is_empty ys → is_empty more ≡ is_empty less → is_empty (xs ++ more) ≡ is_empty (ys ++ less)
both_alike [] [] more less e f = f
both_alike [] (y ∷ ys) more less e f = absurd (true_not_false e)
both_alike (x ∷ xs) [] more less e f = absurd (true_not_false (sym e))
both_alike (x ∷ xs) (y ∷ ys) more less e f = refl

version_alike : (root : StorageRoot) (u v : Option ℕ) (x : Option VersionInventory) → is_empty (version_notes root u x) ≡ is_empty (version_notes root v x)
version_alike root u v None = refl
version_alike root u v (Some x) = inventory_alike (beside_notes root (x.0 ++ x.1 ∷ [])) x.2 (expected_of root x.0 x.1) u v

pub notes_alike : (further : Further) (root : StorageRoot) (u v : Option ℕ) (p : Place) → is_empty (notes further root u p) ≡ is_empty (notes further root v p)
notes_alike Nothing root u v p = common_alike root u v p
notes_alike Inventories root u v p =
    both_alike (common_notes root u p) (common_notes root v p) (further_notes root u p) (further_notes root v p) (common_alike root u v p)
    (both_alike (head_notes root (zone root p)) (head_notes root (zone root p)) _ _ refl (version_alike root u v (version_inventory root p)))

pub lines_alike : (further : Further) (root : StorageRoot) (u v : Option ℕ) (p : Place) → notes further root u p ≡ [] → notes further root v p ≡ []
lines_alike further root u v p h = no_notes (notes further root u p) (notes further root v p) (notes_alike further root u v p) h

-- ---- an inventory in a version directory has a line

beside_some : (n : Note) (ns : List Note) (bytes : Text) (es : List Expected) (u : Option ℕ) → is_empty (inventory_notes (n ∷ ns) bytes es u) ≡ false
beside_some n ns bytes [] u = refl
beside_some n ns bytes (e ∷ es) u = expected_some (n ∷ ns) bytes e es u

-- what a sidecar of the form names
abbrev named : Algorithm → List ℕ → Expected
named a d = record { code = E060; algorithm = a; digest = encode_lower d }

-- by what is beside it
module _ (bytes : Text) (others : List Expected) (u : Option ℕ) where
  abbrev lines_beside : Option Text → Option Text → List Note
  lines_beside a b =
      inventory_notes (on (not (is_some a) && not (is_some b)) (plain E058) ++ form_notes Sha256 a ++ form_notes Sha512 b) bytes
      (expected_beside Sha256 a ++ expected_beside Sha512 b ++ others) u

  some_beside : (a b : Option Text) → is_empty (lines_beside a b) ≡ false
  some_beside None None = beside_some (plain E058) [] bytes others u
  some_beside None (Some s) = by (sidecar_of Sha512 s)
    where
      by : (d : Option (List ℕ)) → is_empty (inventory_notes (on (not (is_some d)) (note E061 (algorithm_name Sha512))) bytes (expected_digest Sha512 d ++ others) u) ≡ false
      by None = beside_some _ [] bytes others u
      by (Some d) = expected_some [] bytes (named Sha512 d) others u
  some_beside (Some s) b = by (sidecar_of Sha256 s)
    where
      by : (d : Option (List ℕ)) → is_empty (inventory_notes (on (not (is_some d)) (note E061 (algorithm_name Sha256)) ++ form_notes Sha512 b) bytes
          (expected_digest Sha256 d ++ expected_beside Sha512 b ++ others) u) ≡ false
      by None = beside_some _ (form_notes Sha512 b) bytes (expected_beside Sha512 b ++ others) u
      by (Some d) = expected_some (form_notes Sha512 b) bytes (named Sha256 d) (expected_beside Sha512 b ++ others) u

filled : {A : Type 0} (xs : List A) → is_empty xs ≡ false → xs ≢ []
filled xs h e = true_not_false (sym (ap is_empty e) ∙ h)

pub version_some : (root : StorageRoot) (u : Option ℕ) (x : VersionInventory) → version_notes root u (Some x) ≢ []
version_some root u x =
    filled _ (some_beside x.2 (expected_by_root x.1 (root_inventory root x.0)) u (sidecar_at root (x.0 ++ x.1 ∷ []) Sha256) (sidecar_at root (x.0 ++ x.1 ∷ []) Sha512))

-- what is known of such an inventory
pub record IsFound (root : StorageRoot) (p : Place) (x : VersionInventory) : Type 0 where
  pub name : Text
  pub named : text_eq name inventory_name ≡ true
  pub lies : zone root p ≡ inside x.0 (x.1 ∷ name ∷ [])
  pub is_seen : seen root p ≡ Some (file x.2)

known_bytes : (n : Text) (leaf : Option Leaf) (bytes : Text) → inventory_bytes n leaf ≡ Some bytes → (text_eq n inventory_name ≡ true) × (leaf ≡ Some (file bytes))
known_bytes n None bytes h = absurd cc
known_bytes n (Some (file b)) bytes h = by (text_eq n inventory_name) refl h
  where
    by : (c : Bool) → text_eq n inventory_name ≡ c → cond c (Some b) None ≡ Some bytes → (text_eq n inventory_name ≡ true) × (Some (file b) ≡ Some (file bytes))
    by true e g = let same : b ≡ bytes = cc in (e, ap (λ x. Some (file x)) same)
    by false e g = absurd cc
known_bytes n (Some dir) bytes h = absurd cc
known_bytes n (Some other) bytes h = absurd cc

pub known_inventory : (root : StorageRoot) (p : Place) (x : VersionInventory) → version_inventory root p ≡ Some x → IsFound root p x
known_inventory root p x h = by (zone root p) refl h
  where
    found : (o : Place) (v n : Text) → zone root p ≡ inside o (v ∷ n ∷ []) → (b : Option Text) → inventory_bytes n (seen root p) ≡ b → option_map (λ bytes. (o, v, bytes)) b ≡ Some x → IsFound root p x
    found o v n z None e g = absurd cc
    found o v n z (Some bytes) e g =
        let same : (o, v, bytes) ≡ x = cc in
        let k = known_bytes n (seen root p) bytes e in
        subst (IsFound root p) same (record { name = n; named = k.0; lies = z; is_seen = k.1 })

    by : (z : Zone) → zone root p ≡ z → version_inventory_in z (seen root p) ≡ Some x → IsFound root p x
    by skipped z g = absurd cc
    by hierarchy z g = absurd cc
    by (inside o []) z g = absurd cc
    by (inside o (n ∷ [])) z g = absurd cc
    by (inside o (v ∷ n ∷ [])) z g = found o v n z (inventory_bytes n (seen root p)) refl g
    by (inside o (v ∷ c ∷ n ∷ q)) z g = absurd cc

-- ---- where there are further lines, something is seen

pub either_some : {A : Type 0} (xs ys : List A) → xs ++ ys ≢ [] → (xs ≢ []) ⊎ (ys ≢ [])
either_some [] ys h = inr h
either_some (x ∷ xs) ys h = inl (λ e. cc)

head_in_sight : (root : StorageRoot) (p : Place) (z : Zone) → zone root p ≡ z → head_notes root z ≢ [] → (leaf : Leaf) × (seen root p ≡ Some leaf)
head_in_sight root p skipped e some = absurd (some refl)
head_in_sight root p hierarchy e some = absurd (some refl)
head_in_sight root p (inside o []) e some = (dir, ap (seen root) ((zone_is root p o [] e).whole ∙ append_nothing o) ∙ head_seen root (is_closed root) p o [] e)
head_in_sight root p (inside o (n ∷ q)) e some = absurd (some refl)

version_in_sight : (root : StorageRoot) (u : Option ℕ) (p : Place) (x : Option VersionInventory) → version_inventory root p ≡ x → version_notes root u x ≢ [] → (leaf : Leaf) × (seen root p ≡ Some leaf)
version_in_sight root u p None e some = absurd (some refl)
version_in_sight root u p (Some x) e some = (file x.2, (known_inventory root p x e).is_seen)

further_in_sight : (root : StorageRoot) (u : Option ℕ) (p : Place) → further_notes root u p ≢ [] → (leaf : Leaf) × (seen root p ≡ Some leaf)
further_in_sight root u p some = by (either_some (head_notes root (zone root p)) _ some)
  where
    by : (head_notes root (zone root p) ≢ []) ⊎ (version_notes root u (version_inventory root p) ≢ []) → (leaf : Leaf) × (seen root p ≡ Some leaf)
    by (inl h) = head_in_sight root p (zone root p) refl h
    by (inr h) = version_in_sight root u p (version_inventory root p) refl h

-- a place with lines has those of each audit, or something is seen there
in_sight_or_common : (further : Further) (root : StorageRoot) (u : Option ℕ) (p : Place) → notes further root u p ≢ [] → (common_notes root u p ≢ []) ⊎ ((leaf : Leaf) × (seen root p ≡ Some leaf))
in_sight_or_common Nothing root u p some = inl some
in_sight_or_common Inventories root u p some = by (either_some (common_notes root u p) (further_notes root u p) some)
  where
    by : (common_notes root u p ≢ []) ⊎ (further_notes root u p ≢ []) → (common_notes root u p ≢ []) ⊎ ((leaf : Leaf) × (seen root p ≡ Some leaf))
    by (inl h) = inl h
    by (inr h) = inr (further_in_sight root u p h)

pub notes_candidate : (further : Further) (root : StorageRoot) (u : Option ℕ) (p : Place) → notes further root u p ≢ [] → IsAmong (candidates root) p
notes_candidate further root u p some = by (in_sight_or_common further root u p some)
  where
    by : (common_notes root u p ≢ []) ⊎ ((leaf : Leaf) × (seen root p ≡ Some leaf)) → IsAmong (candidates root) p
    by (inl h) = common_candidate root u p h
    by (inr k) = seen_candidate root p k.0 k.1

pub reason : (further : Further) (root : StorageRoot) (closed : IsClosed root) (u : Option ℕ) (p : Place) → notes further root u p ≢ [] → Reason root closed p
reason further root closed u p some = by (in_sight_or_common further root u p some)
  where
    by : (common_notes root u p ≢ []) ⊎ ((leaf : Leaf) × (seen root p ≡ Some leaf)) → Reason root closed p
    by (inl h) = common_reason root closed u p h
    by (inr k) = by_sight k.0 k.1

-- the names on the way to an item are among those that the walk takes
pub item_way : (further : Further) (root : StorageRoot) (closed : IsClosed root) (u : Option ℕ) (d : Place) (n : Text) (r : Place) → notes further root u (d ++ n ∷ r) ≢ [] → IsAmong (names_below root d) n
item_way further root closed u d n r some = way_of_reason root closed (d ++ n ∷ r) (reason further root closed u (d ++ n ∷ r) some) d n r refl

-- ---- each audit's lines are among them

filled_front : {A : Type 0} (xs ys : List A) → xs ≢ [] → xs ++ ys ≢ []
filled_front [] ys h e = h refl
filled_front (x ∷ xs) ys h e = cc

pub common_lines : (further : Further) (root : StorageRoot) (u : Option ℕ) (p : Place) → common_notes root u p ≢ [] → notes further root u p ≢ []
common_lines Nothing root u p h = h
common_lines Inventories root u p h = filled_front (common_notes root u p) (further_notes root u p) h
