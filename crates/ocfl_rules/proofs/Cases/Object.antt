-- Worked cases: whose inventories are read, and which directories are looked into.
use Rattle.std.proofs.Common.{◌≡◌, [], ◌∷◌, codes, refl, Some, None}
use Rattle.ocfl_tree.specs.StorageRoot.{StorageRoot}
use Rattle.ocfl_rules.specs.{Trail.{inventories}, Between.{IsBeyond, IsWithin, looked_between, read_between}}
use Rattle.ocfl_rules.proofs.Cases.OnLiterals.{audit_on_literals}
use Rattle.ocfl_rules.proofs.Cases.Trees.{place, text_at, folder, storage_root, object_in, listing, lists_f}

-- objects `bare` with no inventory, `two` with two declarations, `u` of unknown version, one in the
-- extensions, one in the content of `o`, and `h/q` whose head stops at what its inventory says
abbrev some_count : StorageRoot
some_count = storage_root (
    folder "bare" ∷ text_at "bare/0=ocfl_object_1.1" "ocfl_object_1.1\n" ∷ folder "bare/v1" ∷
    folder "extensions" ∷ object_in "extensions/e" (listing lists_f) (
    folder "h" ∷ object_in "h/q" (codes "{}") (folder "h/q/v1" ∷ folder "h/q/v1/content" ∷
    object_in "o" (listing lists_f) (folder "o/v1" ∷ folder "o/v1/content" ∷ text_at "o/v1/content/f" "abc" ∷
    object_in "o/v1/content/p" (listing lists_f) (folder "o/v1/content/p/v1" ∷
    folder "two" ∷ text_at "two/0=ocfl_object_1.0" "ocfl_object_1.0\n" ∷ text_at "two/0=ocfl_object_1.1" "ocfl_object_1.1\n" ∷ text_at "two/inventory.json" "{}" ∷
    folder "u" ∷ text_at "u/0=ocfl_object_2.0" "" ∷ text_at "u/inventory.json" "{}" ∷ [])))))

inventories_that_count : inventories some_count ≡ place "h/q/inventory.json" ∷ place "o/inventory.json" ∷ []
unfolding audit_on_literals
inventories_that_count = refl

objects_that_count : read_between some_count None None ≡ place "h/q" ∷ place "o" ∷ []
unfolding audit_on_literals read_between
objects_that_count = refl

-- an object's root is looked into even if its head stops, and then nothing below it
directories_that_count : looked_between some_count None None
    ≡ [] ∷ place "bare" ∷ place "h" ∷ place "h/q" ∷ place "o" ∷ place "o/v1" ∷ place "o/v1/content" ∷ place "o/v1/content/p" ∷ place "o/v1/content/p/v1" ∷ place "two" ∷ place "u" ∷ []
unfolding audit_on_literals looked_between
directories_that_count = refl

-- after the one, up to the other
between_a_head_and_a_version : (read_between some_count (Some (place "h/q")) (Some (place "o/v1")) ≡ place "o" ∷ [])
    × (looked_between some_count (Some (place "h/q")) (Some (place "o/v1")) ≡ place "o" ∷ place "o/v1" ∷ [])
unfolding audit_on_literals looked_between read_between
between_a_head_and_a_version = (refl, refl)

-- neither end need be a place of the tree
up_to_nothing : (read_between some_count None (Some (place "i")) ≡ place "h/q" ∷ []) × (looked_between some_count (Some (place "p")) None ≡ place "two" ∷ place "u" ∷ [])
unfolding audit_on_literals looked_between read_between
up_to_nothing = (refl, refl)

-- a storage root of unknown version
abbrev unknown_root : StorageRoot
unknown_root = text_at "0=ocfl_2.0" "ocfl_2.0\n" ∷ object_in "o" (listing lists_f) []

nothing_of_an_unknown_root : (inventories unknown_root ≡ []) × (looked_between unknown_root None None ≡ [] ∷ [])
unfolding audit_on_literals looked_between
nothing_of_an_unknown_root = (refl, refl)

-- a place is not beyond itself, and is within itself
ends_between_places : IsBeyond (Some (place "a")) (place "a/b") × (IsBeyond (Some (place "a")) (place "a") → ⊥) × IsWithin (Some (place "a")) (place "a") × (IsWithin (Some (place "a")) (place "a/b") → ⊥)
ends_between_places = (refl, (λ e. absurd cc), refl, λ e. absurd cc)

-- in order, however the tree is written
read_in_order : read_between (storage_root (object_in "p" (listing lists_f) (object_in "b" (listing lists_f) []))) None None ≡ place "b" ∷ place "p" ∷ []
unfolding audit_on_literals read_between
read_in_order = refl
