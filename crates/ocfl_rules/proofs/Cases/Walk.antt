-- Worked cases: the walk over a stack of listings and the table of one object.
use Rattle.std.proofs.Common.{◌≡◌, ℕ, List, [], ◌∷◌, codes, refl, true, false, map}
use Rattle.ocfl_tree.specs.{Place.{Text, Place}, StorageRoot.{StorageRoot}}
use Rattle.ocfl_report.specs.Text.{text}
use Rattle.ocfl_report.specs.declared.further.Further.TheVariants.{Nothing}
use Rattle.ocfl_inventory.specs.Table.{Table}
use Rattle.ocfl_digest.specs.declared.algorithm.Algorithm.TheVariants.{Sha512}
use Rattle.ocfl_rules.specs.{Walk.{walk, step_listed}, Stack.{taken, lists, listed_at}}
use Rattle.ocfl_rules.specs.Zone.{beginnings, is_listed_within}
use Rattle.ocfl_rules.proofs.Cases.OnLiterals.{audit_on_literals}
use Rattle.ocfl_rules.proofs.Cases.Trees.{Case, case, AllAre, Behind, behind, behind_each, place, text_at, folder, storage_root, missing_and_right, three_objects, sha512_file}

-- what a walk that enters a tree at a place takes from there on
abbrev takes : StorageRoot → Behind → Case
takes root b = case b.name (text (taken Nothing 12 root [] (place b.place) (listed_at root [] (place b.place) []))) (codes b.lines)

-- ---- a file that is missing, and one that is right

entered_at_each : AllAre (map (takes missing_and_right) behind_each)
unfolding audit_on_literals
entered_at_each = refl

-- ---- what is listed, and when

directories_listed : lists 12 missing_and_right [] (listed_at missing_and_right [] [] []) ≡ place "o" ∷ place "o/v1" ∷ place "o/v1/content" ∷ []
unfolding audit_on_literals
directories_listed = refl

-- what the walk has taken, and has listed, after n places
abbrev taken_of_one_file : ℕ → Text
taken_of_one_file n = text (taken Nothing n sha512_file [] [] (listed_at sha512_file [] [] []))

abbrev listed_of_one_file : ℕ → List Place
listed_of_one_file n = lists n sha512_file [] (listed_at sha512_file [] [] [])

-- the root is listed first
listed_at_the_root : (map (λ f. f.0) (listed_at sha512_file [] [] []) ≡ [] ∷ []) × (listed_of_one_file 1 ≡ [])
unfolding audit_on_literals
listed_at_the_root = (refl, refl)

-- after the root's declaration comes the object
listed_at_the_head : (taken_of_one_file 2 ≡ codes "ok\to\t-\n") × (listed_of_one_file 2 ≡ place "o" ∷ [])
unfolding audit_on_literals
listed_at_the_head = (refl, refl)

-- then its three files, the version and its content directory
listed_at_the_file : (taken_of_one_file 7 ≡ codes "ok\to\t-\n") × (taken_of_one_file 8 ≡ codes "ok\to\t-\nok\to/v1/content/f\t3\n")
    × (listed_of_one_file 8 ≡ place "o" ∷ place "o/v1" ∷ place "o/v1/content" ∷ [])
unfolding audit_on_literals
listed_at_the_file = (refl, refl, refl)

-- the root and the second object, and nothing of the first
listed_on_entering : map (λ f. f.0) (listed_at three_objects [] (place "o2") []) ≡ place "o2" ∷ [] ∷ []
unfolding audit_on_literals
listed_on_entering = refl

listed_behind_the_second_head : lists 16 three_objects (place "o2") (listed_at three_objects [] (place "o2") []) ≡ place "o2/v1" ∷ place "o2/v1/content" ∷ place
    "o3" ∷ place "o3/v1" ∷ place "o3/v1/content" ∷ []
unfolding audit_on_literals
listed_behind_the_second_head = refl

-- ---- a walk through the whole tree

abbrev plain_tree : StorageRoot
plain_tree = storage_root (folder "x" ∷ folder "y" ∷ text_at "y/z" "z" ∷ [])

walk_through_the_hierarchy : text (walk Nothing 4 plain_tree [] []) ≡ codes "ok\t.\t-\nE073\tx\t-\nE072\ty/z\t-\n"
unfolding audit_on_literals
walk_through_the_hierarchy = refl

walk_through_an_object : text (walk Nothing 6 missing_and_right [] []) ≡ codes "ok\t.\t-\nok\to\t-\nE092\to/v1/content/a\tsha256 missing\nE093\to/v1/content/a\tsha1 missing\nok\to/v1/content/b\t3\n"
unfolding audit_on_literals
walk_through_an_object = refl

taken_from_the_hierarchy : AllAre (takes plain_tree (behind "taken_from_the_hierarchy" "x" "E072\ty/z\t-\n") ∷ [])
unfolding audit_on_literals
taken_from_the_hierarchy = refl

-- what is under no directory is not there, for the walk as for the audit
walk_without_directory : text (walk Nothing 4 (storage_root (folder "a/b" ∷ text_at "a/b/0=ocfl_object_1.1" "ocfl_object_1.1\n" ∷ [])) [] []) ≡ codes "ok\t.\t-\n"
unfolding audit_on_literals
walk_without_directory = refl

-- ---- the directories of an object

abbrev table : Table
table = record { algorithm = Sha512; content = codes "data"; triples = [] }

-- its versions, and their content directories
listed_in_an_object : (map (is_listed_within table) (place "v1" ∷ place "logs" ∷ place "v1/data" ∷ place "v1/content" ∷ place "logs/data" ∷ []) ≡ true ∷ false ∷ true ∷ false ∷ false ∷ [])
listed_in_an_object = refl

-- the same from the place above, and the name
listed_by_the_next_name : (map (step_listed table []) (codes "v1" ∷ codes "logs" ∷ []) ≡ true ∷ false ∷ [])
    × (map (step_listed table (place "v1")) (codes "data" ∷ codes "content" ∷ []) ≡ true ∷ false ∷ [])
    × (map (step_listed table (place "logs")) (codes "data" ∷ codes "v1" ∷ []) ≡ false ∷ false ∷ [])
listed_by_the_next_name = (refl, refl, refl)

-- a place is none of its own
beginnings_of_places : (beginnings [] ≡ []) × (beginnings (place "a/b/c") ≡ [] ∷ place "a" ∷ place "a/b" ∷ [])
beginnings_of_places = (refl, refl)
