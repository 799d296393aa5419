-- The order that a walk keeps on every store, as a test.
use Rattle.std.specs.Prelude.{ℕ, ◌&&◌, nat_le, nat_lt, ◌^◌, List, [], ◌∷◌, ◌++◌, Bool, true, Option, Some, None, is_none, map, length}
use Rattle.std.specs.{List.{list_all}, Ordering.{is_lt}, declared.cmp.Ordering.{Ordering}}
use Rattle.ocfl_tree.specs.{Place.{Place, text_cmp, place_cmp, begins}, StorageRoot.{max_entries}}
use Rattle.ocfl_inventory.specs.{Table.{Table, paths_of, triple_cmp}, ListedPath.{max_elements}}
use Rattle.ocfl_rules.specs.{Lines.{is_empty}, Stack.{Frame}, Zone.{max_listed_depth}}
use Rattle.ocfl_walk.specs.Standing.{Pile, frames_of, piles_in, levels}
use Rattle.ocfl_walk.specs.declared.stand.Stand.{Stand}
use Rattle.ocfl_item.specs.declared.meeting.Around.{Around}

abbrev pub is_before_all : {A : Type 0} → (A → A → Ordering) → A → List A → Bool
is_before_all cmp x ys = list_all (λ y. is_lt (cmp x y)) ys

abbrev pub is_ascending : {A : Type 0} → (A → A → Ordering) → List A → Bool
is_ascending cmp [] = true
is_ascending cmp (x ∷ xs) = is_before_all cmp x xs && is_ascending cmp xs

abbrev pub is_chain : Place → ℕ → List Frame → Bool
is_chain p k [] = true
is_chain p k (f ∷ fs) =
    begins f.0 p && (nat_lt (length f.0) k && (is_before_all place_cmp p (map (λ n. f.0 ++ n ∷ []) f.1) && (is_ascending text_cmp f.1 && is_chain f.0 (length f.0) fs)))

abbrev pub is_fit : Table → Bool
is_fit t = list_all (λ q. nat_le (length q) max_elements) (paths_of t) && (is_ascending triple_cmp t.triples && nat_lt (length t.triples) (2 ^ 64))

abbrev pub is_around : Place → Option Around → Bool
is_around last None = true
is_around last (Some a) = begins a.place last && (nat_le (length a.place) max_listed_depth && is_fit a.table)

abbrev pub is_orderly_if : Option Place → List Pile → Option Around → Bool
is_orderly_if None ps around = is_empty ps && is_none around
is_orderly_if (Some last) ps around = is_chain last levels (frames_of ps) && (list_all (λ p. nat_le (length p.1) max_entries) ps && is_around last around)

-- each listing is of a directory on the way to the last place, of what is left of it all is above
-- that, and the table is one that may be read
abbrev pub is_orderly : Stand → Bool
is_orderly s = is_orderly_if s.last (piles_in s.last s.listings.items) s.around
