-- Places that are not looked into, and at which no inventory is read.
use Rattle.std.proofs.Common.{◌≡◌, ◌≢◌, ◌<◌, [], ◌∷◌, ◌++◌, refl, sym, ◌∙◌, ap, true, false, Bool, Option, Some, None, length, arith}
use Rattle.std.proofs.{Math.Bool.{and-false, and_comm}, lemmas.Bool.{false_from_ne_true, lt-leb}}
use Rattle.std.specs.{Prelude.{cond, ◌&&◌, is_some, nat_le}, List.{list_all}}
use Rattle.ocfl_tree.specs.Place.{Place, Text}
use Rattle.ocfl_tree.specs.StorageRoot.{StorageRoot, dir, file_at, is_dir, names_in}
use Rattle.ocfl_tree.proofs.Orders.{true_not_false}
use Rattle.ocfl_inventory.specs.Declaration.{declared, undeclared}
use Rattle.ocfl_inventory.specs.declared.declaration.Level.TheVariants as level
use Rattle.ocfl_rules.specs.Zone.{Zone, skipped, hierarchy, inside, zone, is_entered, is_listed_zone, inventory_at, inventory_name, max_listed_depth, seen, beginnings, files_in, is_known}
use Rattle.ocfl_rules.specs.{Walk.{is_reached, seen_names}, Trail.{is_head, reads_inventory}}
use Rattle.ocfl_rules.specs.Between.{is_looked_into, shows_entries}
use Rattle.ocfl_rules.proofs.BetweenLaws.{looked_seen, read_seen, seen_reached}
use Rattle.ocfl_item.specs.{Internal.Visiting.{IsShut}, Ways.{is_listable}}
use Rattle.ocfl_item.proofs.LooksZones.{not_entered, out_of_zone}

-- what is not entered shows no names
pub hidden : (root : StorageRoot) (e : Place) → is_entered root e ≡ false → seen_names root e ≡ []
hidden root e h = by (list_all (is_entered root) (beginnings e)) (is_entered root e) h
  where
    by : (a b : Bool) → b ≡ false → cond (a && b) (names_in root e) [] ≡ []
    by true b k = ap (λ x. cond x (names_in root e) []) k
    by false b k = refl

-- if there is neither a place nor a directory of the hierarchy or an object
module _ (root : StorageRoot) (e : Place) (some : e ≢ []) where
  looked_false : (way short there shows : Bool) → (short && there ≡ false) → way && (short && (there && shows)) ≡ false
  looked_false true true true shows h = absurd (true_not_false h)
  looked_false true true false shows h = refl
  looked_false true false there shows h = refl
  looked_false false short there shows h = refl

  shows_false : (way short there : Bool) (shows : Bool) → shows ≡ false → way && (short && (there && shows)) ≡ false
  shows_false true true true shows h = h
  shows_false true true false shows h = refl
  shows_false true false there shows h = refl
  shows_false false short there shows h = refl

  unread : (b : Bool) (o : Option Text) → o ≡ None → b && is_some o ≡ false
  unread true o h = ap is_some h
  unread false o h = refl

  pub shut_unlistable : is_listable root e ≡ false → IsShut root e
  shut_unlistable h = record {
    looked = looked e some h;
    read = unread (is_head (zone root e)) (inventory_at root e)
        (ap (λ b. cond (is_known (cond b (declared level.Object (files_in root e)) undeclared)) (file_at root (e ++ inventory_name ∷ [])) None)
        (and_comm (is_dir root e) (nat_le (length e) max_listed_depth) ∙ h));
    names = hidden root e (not_entered root e h);
  }
    where
      looked : (e : Place) → e ≢ [] → is_listable root e ≡ false → is_looked_into root e ≡ false
      looked [] not k = absurd (not refl)
      looked (n ∷ d) not k = looked_false (list_all (is_entered root) (beginnings (n ∷ d))) (nat_le (length (n ∷ d)) max_listed_depth) (is_dir root (n ∷ d)) (shows_entries root (zone root (n ∷ d))) k

  pub shut_zone : shows_entries root (zone root e) ≡ false → IsShut root e
  shut_zone h = record {
    looked = looked e some h;
    read = ap (λ b. b && is_some (inventory_at root e)) (no_head (zone root e) h);
    names = hidden root e (out_of_zone root e (unlisted (zone root e) h));
  }
    where
      looked : (e : Place) → e ≢ [] → shows_entries root (zone root e) ≡ false → is_looked_into root e ≡ false
      looked [] not k = absurd (not refl)
      looked (n ∷ d) not k = shows_false (list_all (is_entered root) (beginnings (n ∷ d))) (nat_le (length (n ∷ d)) max_listed_depth) (is_dir root (n ∷ d)) (shows_entries root (zone root (n ∷ d))) k

      no_head : (z : Zone) → shows_entries root z ≡ false → is_head z ≡ false
      no_head skipped k = refl
      no_head hierarchy k = refl
      no_head (inside o []) k = absurd (true_not_false k)
      no_head (inside o (n ∷ q)) k = refl

      unlisted : (z : Zone) → shows_entries root z ≡ false → is_listed_zone root z ≡ false
      unlisted skipped k = refl
      unlisted hierarchy k = k
      unlisted (inside o []) k = absurd (true_not_false k)
      unlisted (inside o (n ∷ q)) k = k

pub shut_no_dir : (root : StorageRoot) (e : Place) → is_dir root e ≡ false → IsShut root e
shut_no_dir root e h = shut_unlistable root e (some e h) (ap (λ b. nat_le (length e) max_listed_depth && b) h ∙ and-false _)
  where
    some : (e : Place) → is_dir root e ≡ false → e ≢ []
    some [] k g = true_not_false k
    some (n ∷ d) k g = cc

pub shut_deep : (root : StorageRoot) (e : Place) → 127 < length e → IsShut root e
shut_deep root e h = shut_unlistable root e (some e h) (ap (λ b. b && is_dir root e) (lt-leb (length e) 127 h))
  where
    some : (e : Place) → 127 < length e → e ≢ []
    some [] k g = omega (arith, k)
    some (n ∷ d) k g = cc

-- at a place that is not seen
pub shut_unseen : (root : StorageRoot) (e : Place) → seen root e ≡ None → IsShut root e
shut_unseen root e h = record {
  looked = false_from_ne_true (is_looked_into root e) (λ k. clash (sym h ∙ looked_seen root e k));
  read = false_from_ne_true (reads_inventory root e) (λ k. clash (sym h ∙ (read_seen root e k).0));
  names = ap (λ b. cond b (names_in root e) []) (false_from_ne_true (is_reached root e) (λ k. clash (sym h ∙ seen_reached root e k)));
}
  where
    clash : None ≡ Some dir → ⊥
    clash g = cc

-- ---- places that are looked into

and_three : (a b c d : Bool) → a ≡ true → b && c ≡ true → d ≡ true → a && (b && (c && d)) ≡ true
and_three true true true d h k l = l
and_three true true false d h k l = absurd (true_not_false (sym k))
and_three true false c d h k l = absurd (true_not_false (sym k))
and_three false b c d h k l = absurd (true_not_false (sym h))

pub looked_at : (root : StorageRoot) (e : Place) → list_all (is_entered root) (beginnings e) ≡ true → is_listable root e ≡ true → shows_entries root (zone root e) ≡ true → is_looked_into root e ≡ true
looked_at root [] way listable shows = refl
looked_at root (n ∷ d) way listable shows =
    and_three (list_all (is_entered root) (beginnings (n ∷ d))) (nat_le (length (n ∷ d)) max_listed_depth) (is_dir root (n ∷ d)) (shows_entries root (zone root (n ∷ d))) way listable shows

-- what is listed shows its entries
pub listed_shows : (root : StorageRoot) (z : Zone) → is_listed_zone root z ≡ true → shows_entries root z ≡ true
listed_shows root skipped h = h
listed_shows root hierarchy h = h
listed_shows root (inside o []) h = refl
listed_shows root (inside o (n ∷ q)) h = h

pub no_head_unread : (root : StorageRoot) (e : Place) → is_head (zone root e) ≡ false → reads_inventory root e ≡ false
no_head_unread root e h = ap (λ b. b && is_some (inventory_at root e)) h
