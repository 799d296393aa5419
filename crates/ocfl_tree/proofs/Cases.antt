-- Worked cases: lists in order, names and paths, what is in a storage root, and what a store tells.
use Rattle.std.proofs.Common.{◌≡◌, ◌==◌, ℕ, ◌<◌, List, [], ◌∷◌, codes, refl, inl, inr, arith, Option, Some, None, true, false, replicate}
use Rattle.std.specs.{List.{slice_split}, Ordering.{nat_cmp}, Str.{chars, is_utf8}}
use Rattle.std.specs.declared.cmp.Ordering.TheVariants.{Less, Equal, Greater}
use Rattle.std.proofs.lemmas.Str.{IsUtf8-had, is_utf8-from_IsUtf8}
use Prim.Native.String.{String}
use Rattle.ocfl_tree.specs.{Ascending.{insert_once, ascending, IsBeforeAll, IsAscending, IsAmong}, Name.{IsName, IsPlace}}
use Rattle.ocfl_tree.specs.Path.{elements, names_of, slashed, below, joined, fits, byte_cmp, path_cmp, is_ended, path_begins}
use Rattle.ocfl_tree.specs.Place.{Text, Place, text_cmp, text_eq, place_eq, begins, child_name}
use Rattle.ocfl_tree.specs.StorageRoot.{StorageRoot, file, dir, other, lookup, is_dir_leaf, at, bytes_of, file_at, is_dir, max_entries, names_in}
use Rattle.ocfl_tree.specs.Listing.{kind_at, entry_at, entries_in, kind_in}
use Rattle.ocfl_tree.specs.{Store.{Did, empty_store, failed_openings}, Calls.{opening, OpenFails, Closes}}
use Rattle.ocfl_tree.specs.{declared.store.Kind.{Kind}, declared.store.Entry.{Entry}}
use Rattle.ocfl_tree.specs.declared.store.Kind.TheVariants as kind
use Rattle.ocfl_tree.specs.declared.store.Trouble.TheVariants.{Absent}

-- ---- lists in order

inserted_once : (insert_once nat_cmp 2 (1 ∷ 3 ∷ []) ≡ 1 ∷ 2 ∷ 3 ∷ []) × (insert_once nat_cmp 2 (1 ∷ 2 ∷ 3 ∷ []) ≡ 1 ∷ 2 ∷ 3 ∷ [])
inserted_once = (refl, refl)

sorted : ascending nat_cmp (3 ∷ 1 ∷ 2 ∷ 1 ∷ []) ≡ 1 ∷ 2 ∷ 3 ∷ []
sorted = refl

greater_is_not_less : Greater ≡ Less → ⊥
greater_is_not_less e = cc

one_is_before_three_and_two : IsBeforeAll nat_cmp 1 (3 ∷ 2 ∷ [])
one_is_before_three_and_two = (refl, (refl, tt))

three_numbers_ascend : IsAscending nat_cmp (1 ∷ 2 ∷ 3 ∷ [])
three_numbers_ascend = ((refl, (refl, tt)), ((refl, tt), (tt, tt)))

two_of_three_descend : IsAscending nat_cmp (1 ∷ 3 ∷ 2 ∷ []) → ⊥
two_of_three_descend h = greater_is_not_less h.1.0.0

two_is_among_one_and_two : IsAmong {A = ℕ} (1 ∷ 2 ∷ []) 2
two_is_among_one_and_two = inr (inl refl)

three_is_not_among_one_and_two : IsAmong {A = ℕ} (1 ∷ 2 ∷ []) 3 → ⊥
three_is_not_among_one_and_two (inl e) = omega (arith, e)
three_is_not_among_one_and_two (inr (inl e)) = omega (arith, e)
three_is_not_among_one_and_two (inr (inr i)) = i

-- ---- names

no_name_is_empty : IsName [] → ⊥
no_name_is_empty h = h.fits.not_empty refl

false_is_not_true : false ≡ true → ⊥
false_is_not_true e = cc

-- no UTF-8 has the byte 255
names_of_a_place_are_text : IsPlace ((255 ∷ []) ∷ []) → ⊥
unfolding chars is_utf8
names_of_a_place_are_text p =
    let h : 0 < 1 = omega arith in
    let e : is_utf8 (255 ∷ []) ≡ true = is_utf8-from_IsUtf8 (255 ∷ []) (IsUtf8-had (255 ∷ []) (p 0 [] h).text) in
    false_is_not_true e

-- ---- places

-- a place by its path
abbrev place : String → Place
place t = slice_split (λ b. b == 47) (codes t)

order_of_texts : (text_cmp (codes "a") (codes "b") ≡ Less) × (text_cmp (codes "ab") (codes "a") ≡ Greater) × (text_cmp (codes "a") (codes "a") ≡ Equal)
order_of_texts = (refl, refl, refl)

texts_that_are_equal : (text_eq (codes "ab") (codes "ab") ≡ true) × (text_eq (codes "ab") (codes "ac") ≡ false)
texts_that_are_equal = (refl, refl)

places_that_are_equal : (place_eq (place "d/f") (place "d/f") ≡ true) × (place_eq (place "d/f") (place "d/g") ≡ false)
places_that_are_equal = (refl, refl)

below_a_directory : (begins (place "d") (place "d/f") ≡ true) × (begins (place "d") (place "e") ≡ false) × (begins (place "d") [] ≡ false)
below_a_directory = (refl, refl, refl)

right_below_a_directory : (child_name (place "d") (place "d/e") ≡ Some (codes "e")) × (child_name (place "d") (place "d/e/f") ≡ None)
right_below_a_directory = (refl, refl)

-- ---- paths

names_between_slashes : elements (codes "a.b/c") ≡ codes "a.b" ∷ codes "c" ∷ []
names_between_slashes = refl

no_names_of_the_storage_root : names_of [] ≡ []
no_names_of_the_storage_root = refl

names_with_slashes : slashed (codes "d" ∷ codes "e" ∷ codes "f" ∷ []) ≡ codes "d/e/f"
names_with_slashes = refl

path_of_a_name : (below [] (codes "f") ≡ codes "f") × (below (codes "d/e") (codes "f") ≡ codes "d/e/f")
path_of_a_name = (refl, refl)

paths_one_after_the_other : (joined [] (codes "d/e") ≡ codes "d/e") × (joined (codes "d/e") [] ≡ codes "d/e") × (joined (codes "d") (codes "e/f") ≡ codes "d/e/f")
paths_one_after_the_other = (refl, refl, refl)

-- a name has 1 to 255 bytes
lengths_of_names : (fits [] ≡ false) × (fits (replicate 255 97) ≡ true) × (fits (replicate 256 97) ≡ false)
lengths_of_names = (refl, refl, refl)

-- of `a/b` and `a-b`
slash_and_dash : (byte_cmp 47 45 ≡ Less) × (byte_cmp 45 47 ≡ Greater) × (byte_cmp 45 98 ≡ Less)
slash_and_dash = (refl, refl, refl)

order_of_paths : (path_cmp (codes "a") (codes "a/b") ≡ Less) × (path_cmp (codes "a/b") (codes "a-b") ≡ Less)
order_of_paths = (refl, refl)

where_an_element_ends : (is_ended [] ≡ true) × (is_ended (codes "/b") ≡ true) × (is_ended (codes "b") ≡ false)
where_an_element_ends = (refl, refl, refl)

path_and_longer_ones : (path_begins (codes "a") (codes "a") ≡ true) × (path_begins (codes "a") (codes "a/b") ≡ true) × (path_begins (codes "a") (codes "ab") ≡ false)
path_and_longer_ones = (refl, refl, refl)

-- ---- what is in a storage root

-- a directory with another, a file and a link; the file is there twice, and something is below it
abbrev tree : StorageRoot
tree = (place "d", dir) ∷ (place "d/f", file (codes "abc")) ∷ (place "d/l", other) ∷ (place "d/e", dir) ∷ (place "d/f", other) ∷ (place "d/f/g", file []) ∷ (place "d/f/h", dir) ∷ []

first_of_two : (lookup tree (place "d/f") ≡ Some (file (codes "abc"))) × (lookup tree (place "d/x") ≡ None)
first_of_two = (refl, refl)

links_are_no_directories : (is_dir_leaf (Some dir) ≡ true) × (is_dir_leaf (Some other) ≡ false)
links_are_no_directories = (refl, refl)

storage_root_is_a_directory : (at [] [] ≡ Some dir) × (at tree [] ≡ Some dir)
storage_root_is_a_directory = (refl, refl)

links_are_no_files : (bytes_of (file (codes "abc")) ≡ Some (codes "abc")) × (bytes_of other ≡ None)
links_are_no_files = (refl, refl)

no_file_below_a_file : (file_at tree (place "d/f") ≡ Some (codes "abc")) × (file_at tree (place "d/f/g") ≡ None)
no_file_below_a_file = (refl, refl)

no_directory_below_a_file : (is_dir tree (place "d/e") ≡ true) × (is_dir tree (place "d/f/h") ≡ false)
no_directory_below_a_file = (refl, refl)

largest_directory : max_entries ≡ 1000000
largest_directory = refl

names_of_a_directory : names_in tree (place "d") ≡ codes "e" ∷ codes "f" ∷ codes "l" ∷ []
names_of_a_directory = refl

-- ---- the entries of a directory

abbrev entry : String → Kind → Entry
entry name k = record { name = codes name; kind = k }

abbrev entries : List Entry
entries = entry "e" kind.Dir ∷ entry "f" kind.File ∷ entry "l" kind.Other ∷ []

kinds_of_a_directory : (kind_at tree (place "d") (codes "e") ≡ Some kind.Dir) × (kind_at tree [] (codes "e") ≡ None)
kinds_of_a_directory = (refl, refl)

entry_of_a_file : entry_at tree (place "d") (codes "f") ≡ Some (entry "f" kind.File)
entry_of_a_file = refl

entries_of_a_directory : entries_in tree (place "d") ≡ entries
entries_of_a_directory = refl

kinds_by_names : (kind_in entries (codes "f") ≡ Some kind.File) × (kind_in entries (codes "x") ≡ None)
kinds_by_names = (refl, refl)

-- ---- what a store tells

opening_that_failed : (opening (place "d/f") 3 true).failed ≡ true
opening_that_failed = refl

one_of_two_failed : failed_openings (opening (place "d/f") 3 true ∷ opening (place "d/f") 3 false ∷ []) ≡ 1
one_of_two_failed = refl

-- what a call did that shows nothing, with or without an open file before it
nothing_shown : (rest : Option Text) → Did (record empty_store { rest = rest }) empty_store [] [] 0
nothing_shown rest = record {
  tree = refl;
  openings_are = refl;
  listings_are = refl;
  failures_are = refl;
  failed = [];
  failed_are = refl;
  failed_among = λ _ i. i;
  each_failed = refl;
}

none_is_not_some : {A : Type 0} (x : A) → None ≡ Some x → ⊥
none_is_not_some x e = cc

absent_file_is_not_shown : OpenFails empty_store empty_store (place "f") Absent
absent_file_is_not_shown = record {
  fails = record { did = nothing_shown None; closed = refl; largest = refl };
  absent = λ _ bytes e. none_is_not_some (file bytes) e;
}

closing_is_not_shown : Closes (record empty_store { rest = Some [] }) empty_store
closing_is_not_shown = record { did = nothing_shown (Some []); closed = refl; largest = refl }
