-- Worked cases: where the walk over a part begins, and what it looks at.
use Rattle.std.proofs.Common.{◌≡◌, refl, inl, List, [], ◌∷◌, ◌++◌, codes, true, false, Some, None}
use Prim.Native.String.{String}
use Rattle.ocfl_tree.specs.{Place.{Place}, StorageRoot.{StorageRoot}, Store.{Store, empty_store}}
use Rattle.ocfl_report.specs.declared.further.Further.TheVariants.{Nothing}
use Rattle.ocfl_rules.specs.Parts.{Part, whole}
use Rattle.ocfl_rules.specs.{Between.{looked_between, read_between}, Due.{hashed_among}}
use Rattle.ocfl_rules.proofs.Cases.Trees.{place, folder, text_at, storage_root}
use Rattle.ocfl_walk.specs.Before.{place_before}
use Rattle.ocfl_scrub.specs.Call.{Call, call_of}
use Rattle.ocfl_scrub.specs.Starting.{end_of, greater_of, first_place, is_before, entry_by, entry, way_by, way_in, stand_by, stand, read_in, FailsUpTo, LooksOver}
use Rattle.ocfl_scrub.specs.Together.{inventories_in}

-- from one place to below another
abbrev between : String → String → Part
between from below = record { under = []; from = Some (place from); below = Some (place below) }

abbrev part_from : String → Part
part_from p = record { under = []; from = Some (place p); below = None }

-- of a branch what is from a place on
abbrev branch_from : String → String → Part
branch_from under from = record { under = place under; from = Some (place from); below = None }

-- ---- ends

end_of_a_part : end_of (between "o1" "o2") ≡ record { under = []; below = Some (place "o2") }
end_of_a_part = refl

greater_of_two : (greater_of (place "o1") (Some (place "o2")) ≡ place "o2") × (greater_of (place "o2") (Some (place "o1")) ≡ place "o2") × (greater_of (place "o1") None ≡ place "o1")
greater_of_two = (refl, refl, refl)

-- of a branch `o` from `o/v1` on that is `o/v1`, and of the whole there is none
first_places : (first_place (branch_from "o" "o/v1") ≡ Some (place "o/v1")) × (first_place (branch_from "o/v1" "o") ≡ Some (place "o/v1")) × (first_place whole ≡ None)
first_places = (refl, refl, refl)

-- the start is before each place, and no place is before itself
before_a_place : (is_before None (place "o2") ≡ true) × (is_before (Some (place "o1")) (place "o2") ≡ true) × (is_before (Some (place "o2")) (place "o2") ≡ false)
before_a_place = (refl, refl, refl)

-- ---- the way down

-- to meet a file the walk goes down to its directory
entry_at_a_file : (entry_by (Some (place "o/v1/content/a")) None ≡ Some (place "o/v1/content")) × (entry_by (Some (place "o/v1/content/a")) (Some (place "o/v1/content/b")) ≡ Some (place "o/v1/content/b"))
entry_at_a_file = (refl, refl)

entry_of_a_part : (entry (part_from "o/v1/content/a") None ≡ Some (place "o/v1/content")) × (entry whole None ≡ None)
entry_of_a_part = (refl, refl)

-- the directories on the way to a file, which is none of them
way_to_a_file : way_by (place "o/v1/f") None ≡ [] ∷ place "o" ∷ place "o/v1" ∷ []
way_to_a_file = refl

way_of_a_branch : (way_in (branch_from "o" "o/v1/f") None ≡ [] ∷ place "o" ∷ place "o/v1" ∷ []) × (way_in whole None ≡ [])
way_of_a_branch = (refl, refl)

-- ---- where the walk stands

-- directories without objects: `x`, with `y` in it, and `z`
abbrev three_folders : StorageRoot
three_folders = storage_root (folder "x" ∷ folder "x/y" ∷ folder "z" ∷ [])

-- before `z` comes what is in `x`
stand_before_a_place : (stand_by three_folders (Some (place "z")) None ≡ Some (place "x/y")) × (stand_by three_folders (Some (place "x")) (Some (place "x/y")) ≡ Some (place "x/y"))
unfolding place_before
stand_before_a_place = (refl, refl)

stand_of_a_part : (stand three_folders (part_from "z") None ≡ Some (place "x/y")) × (stand three_folders whole None ≡ None)
unfolding place_before
stand_of_a_part = (refl, refl)

-- ---- inventories

-- an object with an inventory
abbrev object_at : String → String → String → StorageRoot
object_at o declaration inventory = folder o ∷ text_at declaration "ocfl_object_1.1\n" ∷ text_at inventory "{}" ∷ []

abbrev two_objects : StorageRoot
two_objects = storage_root (object_at "o1" "o1/0=ocfl_object_1.1" "o1/inventory.json" ++ object_at "o2" "o2/0=ocfl_object_1.1" "o2/inventory.json")

-- the part from the second one on reads its inventory alone
inventories_of_a_part : (read_in two_objects (part_from "o2") None None ≡ place "o2" ∷ []) × (read_in two_objects whole None None ≡ place "o1" ∷ place "o2" ∷ [])
unfolding read_between
inventories_of_a_part = (refl, refl)

-- and one that begins in the first object reads that of the first too
inventories_above_a_part : (inventories_in two_objects (part_from "o1/v1/content/f") ≡ 2) × (inventories_in two_objects (part_from "o2") ≡ 1)
unfolding read_between
inventories_above_a_part = (refl, refl)

-- ---- directories

-- a store that tells these directories, with listings and nothing else
abbrev listed_folders : List Place → Store
listed_folders listings = record empty_store { tree = three_folders; listings = listings }

abbrev listing_call : List Place → Call
listing_call listings = call_of Nothing three_folders (listed_folders []) (listed_folders listings) None None

-- above `z` the way to it is listed, and neither `x` nor what is in it
looked_above_a_place : LooksOver (listing_call ([] ∷ place "z" ∷ [])) whole (Some (place "z")) None [] []
unfolding looked_between read_between hashed_among
looked_above_a_place = record {
  down = [] ∷ place "z" ∷ [];
  held = [];
  audits = record {
    over = refl;
    did = record {
      tree = refl;
      openings_are = refl;
      listings_are = refl;
      failures_are = refl;
      failed = [];
      failed_are = refl;
      failed_among = λ p h. absurd h;
      each_failed = refl;
    };
    read = refl;
    opened = refl;
    heads_are = refl;
    near = λ o h. absurd h;
  };
  down_front = ([], refl);
  files_lie = λ p h. absurd h;
  held_front = ([], refl);
}

-- while `a` is due the store fails in no directory after it: not in `b`
failed_after_what_is_due : FailsUpTo (Some (place "b/f")) (place "a" ∷ []) → ⊥
failed_after_what_is_due h =
    let m : true ≡ false = h (place "b/f") (place "a") refl (inl refl) (place "b") (codes "f") refl in cc

fails_before_what_is_due : FailsUpTo None (place "a" ∷ [])
fails_before_what_is_due = λ q p e. absurd (let two : None ≡ Some q = e in cc)
