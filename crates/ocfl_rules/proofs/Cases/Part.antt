-- Worked cases: parts of storage roots.
use Rattle.std.proofs.Common.{◌≡◌, ◌++◌, List, [], ◌∷◌, codes, refl, Some, None, map, replicate}
use Prim.Native.String.{String}
use Rattle.ocfl_tree.specs.Place.{Text}
use Rattle.ocfl_report.specs.{Line.{Item}, Text.{text}}
use Rattle.ocfl_report.specs.declared.further.Further.TheVariants.{Nothing}
use Rattle.ocfl_rules.specs.Audit.{Unread, audit, after, total_cost}
use Rattle.ocfl_rules.specs.{Due.{item_places, hashed_among}, Runs.{runs, of_budget}}
use Rattle.ocfl_rules.specs.Parts.{Part, branch, within, places_within, parts_of, costs_of, file_counts, together, audited_apart, branch_end, enclosed}
use Rattle.ocfl_rules.proofs.Cases.OnLiterals.{audit_on_literals}
use Rattle.ocfl_rules.proofs.Cases.Trees.{folder, storage_root, three_files_listing, three_files_content, three_files, three_objects, missing_and_right, place, the_root, clean, right}
use Rattle.ocfl_rules.proofs.Cases.Quiet.{audit_256}
use Rattle.ocfl_rules.proofs.Cases.Run.{three_items, items_of_three_files, items_around_a_missing_file, slash_and_dash, slash_items, items_of_slash_and_dash}

-- the texts of the parts that these separators make of some items
abbrev cut_at : List String → List Item → List Text
cut_at separators items = map (λ part. text (within part items)) (parts_of (map place separators))

-- the part below a separator, and the one from it on
abbrev part_below : String → Part
part_below p = record { under = []; from = None; below = Some (place p) }

abbrev part_from : String → Part
part_from p = record { under = []; from = Some (place p); below = None }

-- ---- three files

-- the item at a separator belongs to the part that it begins
-- Seen to refuse: the item at a separator is in neither part; the first part leaves out the
-- storage root's item; a part without an end loses its last item.
at_items : cut_at ("o/v1/content/a" ∷ "o/v1/content/b" ∷ []) (audit Nothing three_files []) ≡ codes "ok\t.\t-\nok\to\t-\n" ∷ codes "ok\to/v1/content/a\t3\n" ∷ codes
    "ok\to/v1/content/b\t0\nok\to/v1/content/c\t3\n" ∷ []
at_items = rw items_of_three_files refl

costs_at_items : (costs_of (parts_of (map place ("o/v1/content/a" ∷ "o/v1/content/b" ∷ []))) three_items ≡ 0 ∷ 4 ∷ 5 ∷ [])
    × (file_counts (parts_of (map place ("o/v1/content/a" ∷ "o/v1/content/b" ∷ []))) three_items ≡ 0 ∷ 1 ∷ 2 ∷ [])
costs_at_items = (refl, refl)

-- Seen to refuse: the first part leaves out the storage root's item.
at_no_item : cut_at ("o/v1/content/aa" ∷ []) (audit Nothing three_files []) ≡ codes "ok\t.\t-\nok\to\t-\nok\to/v1/content/a\t3\n" ∷ codes "ok\to/v1/content/b\t0\nok\to/v1/content/c\t3\n" ∷ []
at_no_item = rw items_of_three_files refl

no_separators : cut_at [] (audit Nothing three_files []) ≡ text (audit Nothing three_files []) ∷ []
no_separators = refl

-- Seen to refuse: the item at a separator is in neither part.
at_the_root : map (λ part. within part (audit Nothing three_files [])) (parts_of ([] ∷ [])) ≡ [] ∷ three_items ∷ []
at_the_root = rw items_of_three_files refl

-- above the last item nothing is left
above_the_last_item : cut_at ("p" ∷ []) three_items ≡ text three_items ∷ [] ∷ []
above_the_last_item = refl

-- a part that ends where it begins, and one that ends below that
empty_parts : (within (record { under = []; from = Some (place "o"); below = Some (place "o") }) three_items ≡ [])
    × (within (record { under = []; from = Some (place "o/v1/content/b"); below = Some (place "o") }) three_items ≡ [])
empty_parts = (refl, refl)

-- a branch between ends
branch_between : text (within (record { under = place "o/v1"; from = Some (place "o"); below = Some (place "o/v1/content/b") }) three_items) ≡ codes "ok\to/v1/content/a\t3\n"
branch_between = refl

-- runs of a part, by a budget of one
runs_of_a_part : (map text (runs (within (part_from "o/v1/content/b") three_items) (replicate 3 (of_budget 1))) ≡ codes "ok\to/v1/content/b\t0\n" ∷ codes
    "ok\to/v1/content/c\t3\n" ∷ []) × (map total_cost (runs (within (part_from "o/v1/content/b") three_items) (replicate 3 (of_budget 1))) ≡ 1 ∷ 4 ∷ [])
runs_of_a_part = (refl, refl)

-- what is left of a part above a place before it, and of one above a place after it
above_a_place_before_a_part : text (after (within (part_from "o/v1/content/b") three_items) (Some (place "o"))) ≡ codes "ok\to/v1/content/b\t0\nok\to/v1/content/c\t3\n"
above_a_place_before_a_part = refl

above_a_place_behind_a_part : after (within (part_below "o/v1/content/b") three_items) (Some (place "o/v1/content/c")) ≡ []
above_a_place_behind_a_part = refl

-- the hashed files of each part
hashed_in_parts : map (λ part. hashed_among Nothing three_files (places_within part (item_places Nothing three_files))) (parts_of (map place ("o/v1/content/b" ∷ [])))
    ≡ (place "o/v1/content/a" ∷ []) ∷ (place "o/v1/content/b" ∷ place "o/v1/content/c" ∷ []) ∷ []
unfolding audit_on_literals hashed_among item_places
hashed_in_parts = refl

-- ---- a slash before a dash

at_the_directory : cut_at ("o/v1/content/a" ∷ []) (audit Nothing slash_and_dash []) ≡ codes "ok\t.\t-\nok\to\t-\n" ∷ codes "ok\to/v1/content/a/b\t3\nok\to/v1/content/a-b\t3\n" ∷ []
at_the_directory = rw items_of_slash_and_dash refl

at_the_dash : cut_at ("o/v1/content/a-b" ∷ []) (audit Nothing slash_and_dash []) ≡ codes "ok\t.\t-\nok\to\t-\nok\to/v1/content/a/b\t3\n" ∷ codes "ok\to/v1/content/a-b\t3\n" ∷ []
at_the_dash = rw items_of_slash_and_dash refl

-- the branch of `a` goes by names: `a-b` is not in it
branch_by_names : text (within (branch (place "o/v1/content/a")) slash_items) ≡ codes "ok\to/v1/content/a/b\t3\n"
branch_by_names = refl

-- two separators enclose it
around_the_branch : map (λ part. text (within part slash_items)) (parts_of (place "o/v1/content/a" ∷ (place "o/v1/content" ++ (97 ∷ 1 ∷ []) ∷ []) ∷ [])) ≡ codes
    "ok\t.\t-\nok\to\t-\n" ∷ codes "ok\to/v1/content/a/b\t3\n" ∷ codes "ok\to/v1/content/a-b\t3\n" ∷ []
around_the_branch = refl

enclosed_is_the_middle : parts_of (place "o" ∷ branch_end [] (codes "o") ∷ []) ≡ part_below "o" ∷ enclosed [] (codes "o")
    ∷ record { under = []; from = Some (branch_end [] (codes "o")); below = None } ∷ []
enclosed_is_the_middle = refl

-- the branch of `a/b` ends before `a/b` with any byte but 0 behind it
ends_of_a_branch : (branch_end (place "a") (codes "b") ≡ codes "a" ∷ (98 ∷ 1 ∷ []) ∷ [])
    × (enclosed (place "a") (codes "b") ≡ record { under = []; from = Some (place "a/b"); below = Some (codes "a" ∷ (98 ∷ 1 ∷ []) ∷ []) })
ends_of_a_branch = (refl, refl)

-- ---- a missing file, and one that is right

-- both lines of the missing file are in one part
at_the_missing_file : cut_at ("o/v1/content/a" ∷ []) (audit Nothing missing_and_right []) ≡ codes "ok\t.\t-\nok\to\t-\n" ∷ codes
    "E092\to/v1/content/a\tsha256 missing\nE093\to/v1/content/a\tsha1 missing\nok\to/v1/content/b\t3\n" ∷ []
at_the_missing_file = rw items_around_a_missing_file refl

-- ---- three objects

abbrev object_items : List Item
object_items = the_root ∷ clean "o1" ∷ right "o1/v1/content/f" 4 "3" ∷ clean "o2" ∷ right "o2/v1/content/f" 4 "3" ∷ clean "o3" ∷ right "o3/v1/content/f" 4 "3" ∷ []

items_of_three_objects : audit Nothing three_objects [] ≡ object_items
unfolding audit_on_literals
items_of_three_objects = refl

-- a separator at an object leaves it whole
at_an_object : cut_at ("o2" ∷ []) (audit Nothing three_objects []) ≡ codes "ok\t.\t-\nok\to1\t-\nok\to1/v1/content/f\t3\n" ∷ codes "ok\to2\t-\nok\to2/v1/content/f\t3\nok\to3\t-\nok\to3/v1/content/f\t3\n" ∷ []
at_an_object = rw items_of_three_objects refl

-- and one inside it parts its head from its file
inside_an_object : cut_at ("o2/v1/content/f" ∷ []) (audit Nothing three_objects []) ≡ codes "ok\t.\t-\nok\to1\t-\nok\to1/v1/content/f\t3\nok\to2\t-\n" ∷ codes
    "ok\to2/v1/content/f\t3\nok\to3\t-\nok\to3/v1/content/f\t3\n" ∷ []
inside_an_object = rw items_of_three_objects refl

-- Seen to refuse: a part without an end loses its last item.
branch_of_an_object : text (within (branch (place "o2")) object_items) ≡ codes "ok\to2\t-\nok\to2/v1/content/f\t3\n"
branch_of_an_object = refl

branch_of_a_version : text (within (branch (place "o2/v1")) object_items) ≡ codes "ok\to2/v1/content/f\t3\n"
branch_of_a_version = refl

branches_without_items : (within (branch (place "zz")) object_items ≡ []) × (within (branch (place "o2/v2")) object_items ≡ [])
branches_without_items = (refl, refl)

branch_of_the_root : within (branch []) object_items ≡ object_items
branch_of_the_root = refl

-- ---- parts that are audited apart

-- below `b` neither `a` nor `c` could be read, and from there on `b` could not
abbrev first_unread : Unread
first_unread = (place "o/v1/content/a", 2) ∷ (place "o/v1/content/c", 0) ∷ []

abbrev second_unread : Unread
second_unread = (place "o/v1/content/b", 0) ∷ []

abbrev two_audits : List (Part × Unread)
two_audits = (part_below "o/v1/content/b", first_unread) ∷ (part_from "o/v1/content/b", second_unread) ∷ []

-- that `c` could not be read does not count, since it is in the other part
-- Seen to refuse: what one part could not read counts in all.
unread_together : together two_audits ≡ (place "o/v1/content/a", 2) ∷ (place "o/v1/content/b", 0) ∷ []
unread_together = refl

-- the items of the two audits, and what of them is in the parts
abbrev joined_text : List Item → List Item → Text
joined_text first second = text (within (part_below "o/v1/content/b") first) ++ text (within (part_from "o/v1/content/b") second)

audits_apart : joined_text (audit Nothing three_files first_unread) (audit Nothing three_files second_unread) ≡ codes "ok\t.\t-\nok\to\t-\nS08\to/v1/content/a\t-\nS08\to/v1/content/b\t-\nok\to/v1/content/c\t3\n"
unfolding audit_on_literals
audits_apart = λ k. joined_text (audit_256 three_files_listing three_files_content first_unread k) (audit_256 three_files_listing three_files_content second_unread k)

-- each item is there once
parts_of_a_small_root : text (audited_apart Nothing (storage_root (folder "x" ∷ folder "y" ∷ [])) ((part_below "y", []) ∷ (part_from "y", []) ∷ [])) ≡ codes "ok\t.\t-\nE073\tx\t-\nE073\ty\t-\n"
unfolding audit_on_literals
parts_of_a_small_root = refl
