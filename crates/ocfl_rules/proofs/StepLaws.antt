-- Zones and what is seen, one name further; and calls one after the other.
use Rattle.std.proofs.Common.{◌≡◌, List, [], ◌∷◌, ◌++◌, refl, sym, ◌∙◌, ap, true, false, Bool, map}
use Rattle.std.proofs.Math.Bool.{and-true, and_assoc}
use Rattle.std.specs.Prelude.{cond, if◌then◌else◌, ◌&&◌, ◌||◌, not, nat_le, suc, length, None}
use Rattle.std.specs.List.{list_all}
use Rattle.ocfl_tree.specs.{Place.{Place, Text}, StorageRoot.{StorageRoot, at, is_dir}}
use Rattle.ocfl_inventory.specs.Table.{Table}
use Rattle.ocfl_rules.specs.Zone.{skipped, hierarchy, inside, object_zone, object_declared, zone, root_declared, is_in_extensions, is_entered, is_listed_zone, is_listed_within, seen, max_listed_depth, beginnings, is_known, is_declared}
use Rattle.ocfl_rules.specs.Walk.{step_zone, is_extensions, step_listed, is_reached}
use Rattle.ocfl_rules.proofs.AuditExists.{append_one, append_nothing}

pub object_zone_step : (root : StorageRoot) (front d : Place) (n : Text) → object_zone root front (d ++ n ∷ []) ≡ step_zone root (front ++ d) n (object_zone root front d)
object_zone_step root front [] n = ap (λ x. step_zone root x n hierarchy) (sym (append_nothing front))
object_zone_step root front (m ∷ d) n = by (is_declared (object_declared root (front ++ m ∷ []))) (object_zone_step root (front ++ m ∷ []) d n)
  where
    by : (b : Bool) → object_zone root (front ++ m ∷ []) (d ++ n ∷ []) ≡ step_zone root ((front ++ m ∷ []) ++ d) n (object_zone root (front ++ m ∷ []) d)
        → cond b (inside (front ++ m ∷ []) (d ++ n ∷ [])) (object_zone root (front ++ m ∷ []) (d ++ n ∷ [])) ≡ step_zone root (front ++ m ∷ d) n
        (cond b (inside (front ++ m ∷ []) d) (object_zone root (front ++ m ∷ []) d))
    by true h = refl
    by false h = h ∙ ap (λ x. step_zone root x n (object_zone root (front ++ m ∷ []) d)) (append_one front d m)

pub all_map : (f : Place → Place) (test : Place → Bool) (ps : List Place) → list_all test (map f ps) ≡ list_all (λ p. test (f p)) ps
all_map f test [] = refl
all_map f test (p ∷ ps) = ap (λ b. test (f p) && b) (all_map f test ps)

-- each proper beginning of a longer place passes if those of d do and d does
pub all_beginnings_step : (test : Place → Bool) (d : Place) (n : Text) → list_all test (beginnings (d ++ n ∷ [])) ≡ list_all test (beginnings d) && test d
all_beginnings_step test [] n = and-true (test [])
all_beginnings_step test (m ∷ d) n =
    ap (λ b. test [] && b) (all_map (λ q. m ∷ q) test (beginnings (d ++ n ∷ [])) ∙ all_beginnings_step (λ q. test (m ∷ q)) d n
    ∙ ap (λ b. b && test (m ∷ d)) (sym (all_map (λ q. m ∷ q) test (beginnings d))))
    ∙ sym (and_assoc (test []) (list_all test (map (λ q. m ∷ q) (beginnings d))) (test (m ∷ d)))

-- ---- one name further

pub zone_step : (root : StorageRoot) (d : Place) (n : Text) → zone root (d ++ n ∷ []) ≡ (if is_extensions root d n then skipped else step_zone root d n (zone root d))
zone_step root [] n = by (not (is_known (root_declared root))) (is_in_extensions root (n ∷ []))
  where
    by : (x y : Bool) → cond (x || y) skipped (object_zone root [] (n ∷ [])) ≡ cond y skipped (step_zone root [] n (cond (x || false) skipped hierarchy))
    by true true = refl
    by true false = refl
    by false true = refl
    by false false = refl
zone_step root (m ∷ d) n = by (not (is_known (root_declared root)) || is_in_extensions root (m ∷ d)) (object_zone_step root [] (m ∷ d) n)
  where
    by : (x : Bool) → object_zone root [] (m ∷ (d ++ n ∷ [])) ≡ step_zone root (m ∷ d) n (object_zone root [] (m ∷ d))
        → cond x skipped (object_zone root [] (m ∷ (d ++ n ∷ []))) ≡ step_zone root (m ∷ d) n (cond x skipped (object_zone root [] (m ∷ d)))
    by true h = refl
    by false h = h

pub length_step : (d : Place) (n : Text) → length (d ++ n ∷ []) ≡ suc (length d)
length_step [] n = refl
length_step (m ∷ d) n = ap suc (length_step d n)

pub entered_step : (root : StorageRoot) (d : Place) (n : Text) → is_entered root (d ++ n ∷ [])
    ≡ nat_le (suc (length d)) max_listed_depth && (is_dir root (d ++ n ∷ []) && is_listed_zone root (if is_extensions root d n then skipped else step_zone root d n (zone root d)))
entered_step root d n = λ i. nat_le (length_step d n i) max_listed_depth && (is_dir root (d ++ n ∷ []) && is_listed_zone root (zone_step root d n i))

pub reached_step : (root : StorageRoot) (d : Place) (n : Text) → is_reached root (d ++ n ∷ []) ≡ is_reached root d && is_entered root (d ++ n ∷ [])
reached_step root d n = ap (λ b. b && is_entered root (d ++ n ∷ [])) (all_beginnings_step (is_entered root) d n)

pub seen_step : (root : StorageRoot) (d : Place) (n : Text) → seen root (d ++ n ∷ []) ≡ (if is_reached root d then at root (d ++ n ∷ []) else None)
seen_step root d n = ap (λ b. cond b (at root (d ++ n ∷ [])) None) (all_beginnings_step (is_entered root) d n)

pub listed_step : (t : Table) (q : Place) (n : Text) → is_listed_within t (q ++ n ∷ []) ≡ step_listed t q n
listed_step t [] n = refl
listed_step t (v ∷ []) n = refl
listed_step t (v ∷ c ∷ q) n = refl
