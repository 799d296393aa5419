-- Worked cases: the place before a place, the ends of walks, and what a store tells of walks.
use Rattle.std.proofs.Common.{◌≡◌, ◌∙◌, ◌++◌, List, [], ◌∷◌, refl, true, false, Some, None, map, Option}
use Rattle.ocfl_tree.specs.{Place.{Place}, StorageRoot.{StorageRoot}, Store.{Store}}
use Rattle.ocfl_report.specs.declared.further.Further.{Further}
use Rattle.ocfl_report.specs.declared.further.Further.TheVariants.{Nothing}
use Rattle.ocfl_rules.specs.{Trail.{heads_of}, Between.{looked_between, read_between}, Due.{due, item_places}}
use Rattle.ocfl_rules.proofs.Cases.OnLiterals.{audit_on_literals}
use Rattle.ocfl_rules.proofs.Cases.Trees.{place, folder, storage_root, three_objects}
use Rattle.ocfl_item.specs.{Looking.{IsFront}, declared.fault.Fault.{Fault}}
use Rattle.ocfl_walk.specs.Before.{last_place, place_before, places_from, directory_of}
use Rattle.ocfl_walk.specs.{Ends.{is_above_branch, is_at_bound, is_past, before_end}, declared.end.End.{End}}
use Rattle.ocfl_walk.specs.WalkCalls.{Walks, FailsAmong, FailsBetween, next_due, WalksOut, FailsOut, GoDownFails}

-- ---- before a place, and from one on

last_of_two : last_place (place "a" ∷ place "b" ∷ []) ≡ Some (place "b")
last_of_two = refl

-- the storage root has none before it
places_before : (place_before (storage_root (folder "a" ∷ folder "b" ∷ [])) (place "b") ≡ Some (place "a"))
    × (place_before (storage_root (folder "a" ∷ folder "b" ∷ [])) [] ≡ None)
unfolding audit_on_literals place_before
places_before = (refl, refl)

places_from_one_on : places_from (place "b") (place "a" ∷ place "b" ∷ place "c" ∷ []) ≡ place "b" ∷ place "c" ∷ []
places_from_one_on = refl

directories : (directory_of [] ≡ None) × (directory_of (place "a") ≡ Some []) × (directory_of (place "a/b") ≡ Some (place "a"))
directories = (refl, refl, refl)

-- ---- ends

-- `a-b` is no part of the branch of `a`
above_a_branch : map (is_above_branch (place "a")) ([] ∷ place "a" ∷ place "a/b" ∷ place "a-b" ∷ []) ≡ false ∷ false ∷ false ∷ true ∷ []
above_a_branch = refl

at_a_bound : map (is_at_bound (Some (place "b"))) (place "a" ∷ place "b" ∷ place "c" ∷ []) ≡ false ∷ true ∷ true ∷ []
at_a_bound = refl

-- the branch of the storage root, below `b`
abbrev below_b : End
below_b = record { under = []; below = Some (place "b") }

past_a_bound : map (is_past below_b) (place "a" ∷ place "c" ∷ []) ≡ false ∷ true ∷ []
past_a_bound = refl

before_a_bound : before_end below_b ([] ∷ place "a" ∷ place "b" ∷ []) ≡ [] ∷ place "a" ∷ []
before_a_bound = refl

-- ---- what a store tells

-- a walk of the whole root opened these inventories, and one below the second object that of the
-- first
inventories_of_a_walk : (s t : Store) (w : Walks Nothing three_objects s t None None) → heads_of three_objects w.trail ≡ place "o1" ∷ place "o2" ∷ place "o3" ∷ []
unfolding audit_on_literals read_between
inventories_of_a_walk s t w = w.audits.heads_are

abbrev below_o2 : End
below_o2 = record { under = []; below = Some (place "o2") }

inventories_before_an_end : (s t : Store) (w : WalksOut Nothing three_objects s t None below_o2) → heads_of three_objects w.trail ≡ place "o1" ∷ []
unfolding audit_on_literals read_between
inventories_before_an_end s t w = w.audits.heads_are

front_of_none : {A : Type 0} (xs : List A) → IsFront xs [] → xs ≡ []
front_of_none [] f = refl
front_of_none (x ∷ xs) f = absurd (cc (f.1))

-- no inventory was to be read
no_inventory_read : (root : StorageRoot) (s t : Store) (looked : List Place) (why : Fault) (f : FailsAmong Nothing root s t looked [] None why) → heads_of root f.trail ≡ []
no_inventory_read root s t looked why f = f.fails.heads_are ∙ front_of_none f.heads f.heads_front

-- on the way to the first object
inventories_on_the_way : (s t : Store) (why : Fault) (f : FailsBetween Nothing three_objects s t None (Some (place "o1")) why) → IsFront f.heads (place "o1" ∷ [])
unfolding audit_on_literals read_between
inventories_on_the_way s t why f = f.heads_front

-- an empty directory two names below another
abbrev three_deep : StorageRoot
three_deep = storage_root (folder "a" ∷ folder "a/b" ∷ folder "a/b/c" ∷ [])

next_items : (next_due Nothing three_deep None ≡ Some []) × (next_due Nothing three_deep (Some []) ≡ Some (place "a/b/c")) × (next_due Nothing three_deep (Some (place "a/b/c")) ≡ None)
unfolding audit_on_literals due item_places
next_items = (refl, refl, refl)

abbrev below_a_b : End
below_a_b = record { under = []; below = Some (place "a/b") }

-- a walk behind the storage root that ends at `a/b`
listed_before_an_end : (s t : Store) (why : Fault) (f : FailsOut Nothing three_deep s t (Some []) below_a_b why) → IsFront f.listed (place "a" ∷ [])
unfolding audit_on_literals looked_between due item_places
listed_before_an_end s t why f = f.listed_front

-- what failed on the way down comes after what the store told before
opened_on_the_way_down : (further : Further) (root : StorageRoot) (s t : Store) (p : Option Place) (why : Fault) (g : GoDownFails further root s t p why)
    → (s.tree ≡ root) × (t.openings ≡ s.openings ++ g.trail)
opened_on_the_way_down further root s t p why g = (g.fails.over, g.fails.did.openings_are)
