-- Worked cases: which directories split a storage root, and what is listed for it.
use Rattle.std.proofs.Common.{◌≡◌, ◌<◌, ◌≤◌, ℕ, List, [], ◌∷◌, ◌++◌, map, refl, Some, None, arith}
use Prim.Native.String.{String}
use Rattle.ocfl_tree.specs.{Place.{Place}, StorageRoot.{StorageRoot}, Store.{Store}}
use Rattle.ocfl_rules.proofs.Cases.Trees.{place, text_at, folder, link}
use Rattle.ocfl_item.specs.declared.fault.Fault.{Fault}
use Rattle.ocfl_split.specs.Levels.{level, LiesInHierarchy}
use Rattle.ocfl_split.specs.Splitting.{split_level, level_from, separators_of, listed_for, listed_from, listed_within, next_level, room_below, deepest_level, held, IsSplitLevel, ListsAll, ListsStop}

abbrev places : List String → List (List (List ℕ))
places ts = map place ts

-- a storage root of version 1.1, an object, and a directory in one
abbrev known_root : StorageRoot
known_root = text_at "0=ocfl_1.1" "ocfl_1.1\n" ∷ []

abbrev object_at : String → String → StorageRoot
object_at o declaration = folder o ∷ text_at declaration "ocfl_object_1.1\n" ∷ []

-- three objects in the storage root
abbrev three : StorageRoot
three = known_root ++ object_at "o1" "o1/0=ocfl_object_1.1" ++ object_at "o2" "o2/0=ocfl_object_1.1" ++ folder "o2/v1" ∷ object_at "o3" "o3/0=ocfl_object_1.1"

three_levels : (level three 0 ≡ [] ∷ []) × (level three 1 ≡ places ("o1" ∷ "o2" ∷ "o3" ∷ [])) × (level three 2 ≡ [])
three_levels = (refl, refl, refl)

three_by_count : (separators_of three 0 ≡ []) × (separators_of three 1 ≡ []) × (separators_of three 2 ≡ places ("o2" ∷ [])) × (separators_of three 3 ≡ places ("o2" ∷ "o3" ∷ []))
unfolding split_level level_from
three_by_count = (refl, refl, refl, refl)

-- more than there are objects: each begins a part, but the first
three_by_more : (separators_of three 4 ≡ places ("o2" ∷ "o3" ∷ [])) × (separators_of three 10 ≡ places ("o2" ∷ "o3" ∷ []))
unfolding split_level level_from
three_by_more = (refl, refl)

-- nothing is listed for one part; objects are listed if a deeper level is looked for
three_listed : (listed_for three 1 ≡ []) × (listed_for three 3 ≡ [] ∷ []) × (listed_for three 4 ≡ [] ∷ places ("o1" ∷ "o2" ∷ "o3" ∷ []))
unfolding listed_for listed_from
three_listed = (refl, refl, refl)

-- objects one level further down
abbrev two_levels : StorageRoot
two_levels = known_root ++ folder "a" ∷ object_at "a/o1" "a/o1/0=ocfl_object_1.1" ++ object_at "a/o2" "a/o2/0=ocfl_object_1.1" ++ folder "b" ∷ object_at "b/o3" "b/o3/0=ocfl_object_1.1"

two_levels_are : (level two_levels 1 ≡ places ("a" ∷ "b" ∷ [])) × (level two_levels 2 ≡ places ("a/o1" ∷ "a/o2" ∷ "b/o3" ∷ [])) × (level two_levels 3 ≡ [])
two_levels_are = (refl, refl, refl)

two_levels_by_count : (separators_of two_levels 2 ≡ places ("b" ∷ [])) × (separators_of two_levels 3 ≡ places ("a/o2" ∷ "b/o3" ∷ [])) × (separators_of two_levels 4 ≡ places ("a/o2" ∷ "b/o3" ∷ []))
unfolding split_level level_from
two_levels_by_count = (refl, refl, refl)

two_levels_listed : (listed_for two_levels 2 ≡ [] ∷ []) × (listed_for two_levels 3 ≡ [] ∷ places ("a" ∷ "b" ∷ [])) × (listed_for two_levels 4 ≡ [] ∷ places ("a" ∷ "b" ∷ "a/o1" ∷ "a/o2" ∷ "b/o3" ∷ []))
unfolding listed_for listed_from
two_levels_listed = (refl, refl, refl)

-- an object beside a directory: the level below has the directory's objects alone
abbrev uneven : StorageRoot
uneven = known_root ++ folder "a" ∷ object_at "a/o1" "a/o1/0=ocfl_object_1.1" ++ object_at "a/o2" "a/o2/0=ocfl_object_1.1" ++ object_at "a/o3"
    "a/o3/0=ocfl_object_1.1" ++ object_at "o" "o/0=ocfl_object_1.1" ++ folder "o/v1" ∷ []

uneven_by_count : (separators_of uneven 2 ≡ places ("o" ∷ [])) × (separators_of uneven 3 ≡ places ("a/o2" ∷ "a/o3" ∷ []))
unfolding split_level level_from
uneven_by_count = (refl, refl)

-- more than any level has: the widest is split
uneven_by_more : (separators_of uneven 4 ≡ places ("a/o2" ∷ "a/o3" ∷ [])) × (separators_of uneven 10 ≡ places ("a/o2" ∷ "a/o3" ∷ []))
unfolding split_level level_from
uneven_by_more = (refl, refl)

-- the lower levels are narrower: two objects, and one below a third directory
abbrev narrowing : StorageRoot
narrowing = known_root ++ folder "a" ∷ object_at "a/o" "a/o/0=ocfl_object_1.1" ++ object_at "o1" "o1/0=ocfl_object_1.1" ++ object_at "o2" "o2/0=ocfl_object_1.1"

narrowing_are : (level narrowing 1 ≡ places ("a" ∷ "o1" ∷ "o2" ∷ [])) × (level narrowing 2 ≡ places ("a/o" ∷ [])) × (level narrowing 3 ≡ [])
narrowing_are = (refl, refl, refl)

narrowing_by_count : (separators_of narrowing 3 ≡ places ("o1" ∷ "o2" ∷ [])) × (separators_of narrowing 4 ≡ places ("o1" ∷ "o2" ∷ [])) × (separators_of narrowing 10 ≡ places ("o1" ∷ "o2" ∷ []))
unfolding split_level level_from
narrowing_by_count = (refl, refl, refl)

narrowing_listed : (listed_for narrowing 3 ≡ [] ∷ []) × (listed_for narrowing 4 ≡ [] ∷ places ("a" ∷ "o1" ∷ "o2" ∷ "a/o" ∷ []))
unfolding listed_for listed_from
narrowing_listed = (refl, refl)

-- a narrow level between wider ones: the lower of two that are equally wide is split
abbrev waist : StorageRoot
waist = known_root ++ folder "a" ∷ folder "a/b" ∷ object_at "a/b/o1" "a/b/o1/0=ocfl_object_1.1" ++ object_at "a/b/o2" "a/b/o2/0=ocfl_object_1.1" ++ object_at "o" "o/0=ocfl_object_1.1"

waist_by_count : (separators_of waist 2 ≡ places ("o" ∷ [])) × (separators_of waist 3 ≡ places ("a/b/o2" ∷ []))
unfolding split_level level_from
waist_by_count = (refl, refl)

-- and the upper of the two is not, where the lower one is reached
waist_is_split_below : (split : IsSplitLevel waist 3 1) → 3 ≤ split.last → ⊥
waist_is_split_below split reached = let less : 2 < 2 = split.lowest 3 (omega arith) reached in absurd (omega (arith, less))

-- nor is a level below a wider one
narrowing_is_split_above : IsSplitLevel narrowing 10 2 → ⊥
narrowing_is_split_above split = let wide : 3 ≤ 1 = split.widest 1 (omega (arith, split.reached)) in absurd (omega (arith, wide))

-- no directories; what is no directory; extensions; a storage root that declares nothing
nothing_there : (separators_of known_root 2 ≡ []) × (listed_for known_root 2 ≡ [] ∷ [])
unfolding split_level level_from listed_for listed_from
nothing_there = (refl, refl)

abbrev beside : StorageRoot
beside = known_root ++ folder "a" ∷ folder "extensions" ∷ folder "extensions/x" ∷ text_at "f" "" ∷ link "l" ∷ folder "b" ∷ folder "b/extensions" ∷ []

beside_are : (level beside 1 ≡ places ("a" ∷ "b" ∷ [])) × (level beside 2 ≡ places ("b/extensions" ∷ []))
beside_are = (refl, refl)

undeclared : separators_of (folder "a" ∷ folder "b" ∷ []) 2 ≡ []
unfolding split_level level_from
undeclared = refl

-- ---- what is held, and what is in the hierarchy

-- a file is no directory of it
file_of_the_hierarchy : LiesInHierarchy three (place "0=ocfl_1.1") → ⊥
file_of_the_hierarchy lies = absurd (cc (lies.directory))

-- 1,000,000 directories in all, of which three and two are held
room_for_directories : room_below (places ("a" ∷ "b" ∷ "c" ∷ [])) (places ("d" ∷ "e" ∷ [])) ≡ 999995
room_for_directories = refl

next_levels : (next_level three 3 ([] ∷ []) ≡ Some (places ("o1" ∷ "o2" ∷ "o3" ∷ []))) × (next_level three 2 ([] ∷ []) ≡ None) × (next_level known_root 2 ([] ∷ []) ≡ None)
next_levels = (refl, refl, refl)

-- a level counts once, also if it is the last
held_together : (held three 1 1 ≡ 3) × (held three 0 1 ≡ 4)
held_together = (refl, refl)

-- `a` has two directories
listed_as_far_as_they_fit : (listed_within two_levels 2 (places ("a" ∷ "b" ∷ [])) ≡ places ("a" ∷ "b" ∷ [])) × (listed_within two_levels 1 (places ("a" ∷ "b" ∷ [])) ≡ places ("a" ∷ []))
listed_as_far_as_they_fit = (refl, refl)

-- a directory at depth 128 is not listed
deepest_directories : deepest_level ≡ 128
deepest_directories = refl

-- ---- what a store tells

listed_for_two : (s t : Store) → ListsAll two_levels s t (places ("a" ∷ "b" ∷ [])) → t.listings ≡ s.listings ++ places ("a" ∷ "b" ∷ [])
listed_for_two s t lists = lists.did.listings_are

-- nothing was to be listed
listed_for_none : (s t : Store) (why : Fault) (lists : ListsStop two_levels s t [] why) → lists.listings ≡ []
listed_for_none s t why lists = by lists.listings lists.front.0 (lists.front.1)
  where
    by : (ps rest : List Place) → [] ≡ ps ++ rest → ps ≡ []
    by [] rest e = refl
    by (p ∷ ps) rest e = absurd (cc e)
