-- Worked cases: the content of objects, and what else is in them.
use Rattle.std.proofs.Common.{◌≡◌, ap, List, [], ◌∷◌, ◌++◌, codes, refl, true, map}
use Prim.Native.String.{String}
use Rattle.ocfl_tree.specs.{Place.{Text}, StorageRoot.{StorageRoot, file}}
use Rattle.ocfl_report.specs.{Line.{found}, Text.{text}}
use Rattle.ocfl_report.specs.declared.further.Further.TheVariants.{Nothing}
use Rattle.ocfl_digest.specs.declared.algorithm.Algorithm.{Algorithm}
use Rattle.ocfl_digest.specs.declared.algorithm.Algorithm.TheVariants.{Md5, Sha1, Sha256, Sha512, Sha512_256}
use Rattle.ocfl_rules.specs.{Head.{digest_of}, Audit.{audit, total_cost}}
use Rattle.ocfl_rules.specs.{Due.{item_places, hashed_among}, Walk.{item_at}}
use Rattle.ocfl_rules.proofs.Cases.OnLiterals.{audit_on_literals}
use Rattle.ocfl_rules.proofs.Cases.Trees.{missing_and_right_content, missing_and_right_listing, sha512_file_listing, Case, case, AllAre, quickly, reports, place, text_at, folder, link, storage_root, object_in, sha256_object, sha512_object, f_is_abc, key, keys, inventory, listing, listing_with, lists_f, missing_and_right, sha512_file, abc, abc_sha512_capitals, no_bytes}
use Rattle.ocfl_rules.proofs.Cases.Quiet.{audit_256, audit_512, reports_256, reports_512}

-- ---- digests

abbrev AreDigests : Text → (Algorithm → String) → Type 0
AreDigests bytes d =
    (digest_of Md5 bytes ≡ codes (d Md5)) × (digest_of Sha1 bytes ≡ codes (d Sha1)) × (digest_of Sha256 bytes ≡ codes (d Sha256))
    × (digest_of Sha512 bytes ≡ codes (d Sha512)) × (digest_of Sha512_256 bytes ≡ codes (d Sha512_256))

digests_of_abc : AreDigests (codes "abc") abc
unfolding audit_on_literals
digests_of_abc = (refl, refl, refl, refl, refl)

digests_of_no_bytes : AreDigests [] no_bytes
unfolding audit_on_literals
digests_of_no_bytes = (refl, refl, refl, refl, refl)

-- ---- a file and its digests

cost_of_right_file : map (λ i. i.cost) (audit Nothing sha512_file []) ≡ 0 ∷ 0 ∷ 4 ∷ []
unfolding audit_on_literals
cost_of_right_file = ap (map (λ i. i.cost)) (audit_512 sha512_file_listing f_is_abc [])

-- an empty file that all algorithms name
abbrev empty_file_listing : Text
empty_file_listing = listing_with (key (no_bytes Sha256) "[\"v1/content/f\"]" ∷ []) (keys (
    key "md5" "{\"d41d8cd98f00b204e9800998ecf8427e\":[\"v1/content/f\"]}"
    ∷ key "sha1" "{\"da39a3ee5e6b4b0d3255bfef95601890afd80709\":[\"v1/content/f\"]}"
    ∷ key "sha512" "{\"cf83e1357eefb8bdf1542850d66d8007d620e4050b5715dc83f4a921d36ce9ce47d0d13c5d85f2b0ff8318d2877eec2f63b931bd47417a81a538327af927da3e\":[\"v1/content/f\"]}"
    ∷ key "sha512/256" "{\"c672b8d1ef56ed28ab87c3622c5114069bdd3ad7b8f9737498d0c01ecef0967a\":[\"v1/content/f\"]}" ∷ []))

abbrev empty_file_content : StorageRoot
empty_file_content = text_at "o/v1/content/f" "" ∷ []

abbrev empty_file : StorageRoot
empty_file = sha256_object empty_file_listing empty_file_content

-- one file to be opened, of cost one
empty_file_is_hashed_once : (hashed_among Nothing empty_file (item_places Nothing empty_file) ≡ place "o/v1/content/f" ∷ []) × (total_cost (audit Nothing empty_file []) ≡ 1)
unfolding audit_on_literals hashed_among item_places
empty_file_is_hashed_once = (refl, refl)

-- `f` is right in the manifest, and wrong in the fixity block
abbrev wrong_in_fixity_listing : Text
wrong_in_fixity_listing = listing_with lists_f (codes "{\"md5\":{\"d41d8cd98f00b204e9800998ecf8427e\":[\"v1/content/f\"]}}")

abbrev wrong_in_fixity : StorageRoot
wrong_in_fixity = sha256_object wrong_in_fixity_listing f_is_abc

cost_of_fixity_mismatch : (total_cost (audit Nothing wrong_in_fixity []) ≡ 4) × (found (audit Nothing wrong_in_fixity []) ≡ true)
unfolding audit_on_literals
cost_of_fixity_mismatch = (refl, refl)

cost_of_named_by_fixity_alone : map (λ i. i.cost) (audit Nothing (sha256_object (listing_with [] (codes "{\"md5\":{\"900150983cd24fb0d6963f7d28e17f72\":[\"v1/content/f\"]}}")) f_is_abc) []) ≡ 0 ∷ 0 ∷ 4 ∷ []
unfolding audit_on_literals
cost_of_named_by_fixity_alone = refl

abbrev files_and_digests_cases : List Case
files_and_digests_cases =
    reports_512 "right_file" sha512_file_listing f_is_abc "ok\t.\t-\nok\to\t-\nok\to/v1/content/f\t3\n" ∷
    reports_512 "capitals_in_manifest_key" (inventory "sha512" (keys (key abc_sha512_capitals "[\"v1/content/f\"]" ∷ [])) (codes "{}")) f_is_abc "ok\t.\t-\nok\to\t-\nok\to/v1/content/f\t3\n" ∷
    reports_256 "all_algorithms_on_an_empty_file" empty_file_listing empty_file_content "ok\t.\t-\nok\to\t-\nok\to/v1/content/f\t0\n" ∷
    reports_256 "fixity_mismatch" wrong_in_fixity_listing f_is_abc "ok\t.\t-\nok\to\t-\nE093\to/v1/content/f\tmd5 d41d8cd98f00b204e9800998ecf8427e 900150983cd24fb0d6963f7d28e17f72\n" ∷
    reports_256 "fixity_match" (listing_with lists_f (codes "{\"md5\":{\"900150983CD24FB0D6963F7D28E17F72\":[\"v1/content/f\"]}}")) f_is_abc "ok\t.\t-\nok\to\t-\nok\to/v1/content/f\t3\n" ∷
    -- by the algorithms' names, whatever the order of the block
    reports_256 "fixity_mismatch_in_each_algorithm"
    (listing_with lists_f
    (codes "{\"sha512/256\":{\"x\":[\"v1/content/f\"]},\"sha512\":{\"x\":[\"v1/content/f\"]},\"sha256\":{\"x\":[\"v1/content/f\"]},\"sha1\":{\"x\":[\"v1/content/f\"]},\"md5\":{\"x\":[\"v1/content/f\"]}}")) f_is_abc "ok\t.\t-\nok\to\t-\nE093\to/v1/content/f\tmd5 x 900150983cd24fb0d6963f7d28e17f72\nE093\to/v1/content/f\tsha1 x a9993e364706816aba3e25717850c26c9cd0d89d\nE093\to/v1/content/f\tsha256 x ba7816bf8f01cfea414140de5dae2223b00361a396177a9cb410ff61f20015ad\nE093\to/v1/content/f\tsha512 x ddaf35a193617abacc417349ae20413112e6fa4e89a97ea20a9eeee64b55d39a2192992a274fc1a836ba3c23a3feebbd454d4423643ce80e2a9ac94fa54ca49f\nE093\to/v1/content/f\tsha512/256 x 53048e2681941ef99b2e29b76b4c7dabe4c2d0c634fc6d46e0e2f13107e7af23\n" ∷
    -- the manifest before the fixity block; the digest that is right has no line
    reports_256 "two_digests_and_fixity"
    (listing_with (key (no_bytes Sha256) "[\"v1/content/f\"]" ∷ key (abc Sha256) "[\"v1/content/f\"]" ∷ [])
    (codes "{\"md5\":{\"d41d8cd98f00b204e9800998ecf8427e\":[\"v1/content/f\"]}}")) f_is_abc
    "ok\t.\t-\nE101\to\tv1/content/f\nE092\to/v1/content/f\tsha256 e3b0c44298fc1c149afbf4c8996fb92427ae41e4649b934ca495991b7852b855 ba7816bf8f01cfea414140de5dae2223b00361a396177a9cb410ff61f20015ad\nE093\to/v1/content/f\tmd5 d41d8cd98f00b204e9800998ecf8427e 900150983cd24fb0d6963f7d28e17f72\n" ∷
    -- ascending, told folded and escaped
    reports_256 "two_wrong_digests" (listing (key "Y%" "[\"v1/content/f\"]" ∷ key "X y" "[\"v1/content/f\"]" ∷ [])) f_is_abc
    "ok\t.\t-\nE101\to\tv1/content/f\nE092\to/v1/content/f\tsha256 x y ba7816bf8f01cfea414140de5dae2223b00361a396177a9cb410ff61f20015ad\nE092\to/v1/content/f\tsha256 y%25 ba7816bf8f01cfea414140de5dae2223b00361a396177a9cb410ff61f20015ad\n" ∷
    -- as written, `B` comes before `a`
    -- Seen to refuse: a table is not in order.
    reports_256 "wrong_digests_ascend_folded" (listing (key "B" "[\"v1/content/f\"]" ∷ key "a" "[\"v1/content/f\"]" ∷ [])) f_is_abc
    "ok\t.\t-\nE101\to\tv1/content/f\nE092\to/v1/content/f\tsha256 a ba7816bf8f01cfea414140de5dae2223b00361a396177a9cb410ff61f20015ad\nE092\to/v1/content/f\tsha256 b ba7816bf8f01cfea414140de5dae2223b00361a396177a9cb410ff61f20015ad\n" ∷
    -- one digest in either case of letters is one
    -- Seen to refuse: a table keeps repeats.
    reports_256 "same_wrong_digest_twice" (listing (key "x" "[\"v1/content/f\"]" ∷ key "X" "[\"v1/content/f\"]" ∷ [])) f_is_abc
    "ok\t.\t-\nE096\to\tx\nE101\to\tv1/content/f\nE092\to/v1/content/f\tsha256 x ba7816bf8f01cfea414140de5dae2223b00361a396177a9cb410ff61f20015ad\n" ∷
    -- hashed, but no `ok`
    reports_256 "named_by_fixity_alone" (listing_with [] (codes "{\"md5\":{\"900150983cd24fb0d6963f7d28e17f72\":[\"v1/content/f\"]}}")) f_is_abc "ok\t.\t-\nok\to\t-\nE023\to/v1/content/f\t-\n" ∷
    reports_256 "wrong_by_fixity_alone" (listing_with [] (codes "{\"md5\":{\"x\":[\"v1/content/f\"]}}")) f_is_abc
    "ok\t.\t-\nok\to\t-\nE023\to/v1/content/f\t-\nE093\to/v1/content/f\tmd5 x 900150983cd24fb0d6963f7d28e17f72\n" ∷
    []

files_and_digests : AllAre files_and_digests_cases
unfolding audit_on_literals
files_and_digests = quickly files_and_digests_cases refl

-- ---- the fifth algorithm

-- `f` is named by it alone
abbrev fifth_alone_listing : Text
fifth_alone_listing = listing_with [] (codes "{\"sha512/256\":{\"53048e2681941ef99b2e29b76b4c7dabe4c2d0c634fc6d46e0e2f13107e7af23\":[\"v1/content/f\"]}}")

abbrev fifth_alone : StorageRoot
fifth_alone = sha256_object fifth_alone_listing f_is_abc

abbrev fifth_algorithm_cases : List Case
fifth_algorithm_cases =
    reports_256 "fifth_algorithm_match"
    (listing_with lists_f (codes "{\"sha512/256\":{\"53048e2681941ef99b2e29b76b4c7dabe4c2d0c634fc6d46e0e2f13107e7af23\":[\"v1/content/f\"]}}")) f_is_abc
    "ok\t.\t-\nok\to\t-\nok\to/v1/content/f\t3\n" ∷
    reports_256 "fifth_algorithm_mismatch"
    (listing_with lists_f (codes "{\"sha512/256\":{\"ba7816bf8f01cfea414140de5dae2223b00361a396177a9cb410ff61f20015ad\":[\"v1/content/f\"]}}")) f_is_abc
    "ok\t.\t-\nok\to\t-\nE093\to/v1/content/f\tsha512/256 ba7816bf8f01cfea414140de5dae2223b00361a396177a9cb410ff61f20015ad 53048e2681941ef99b2e29b76b4c7dabe4c2d0c634fc6d46e0e2f13107e7af23\n" ∷
    reports_256 "fifth_algorithm_without_manifest" fifth_alone_listing f_is_abc "ok\t.\t-\nok\to\t-\nE023\to/v1/content/f\t-\n" ∷
    []

fifth_algorithm : AllAre fifth_algorithm_cases
unfolding audit_on_literals
fifth_algorithm = quickly fifth_algorithm_cases refl

cost_of_fifth_algorithm : (map (λ i. i.cost) (audit Nothing fifth_alone []) ≡ 0 ∷ 0 ∷ 4 ∷ []) × (hashed_among Nothing fifth_alone (item_places Nothing fifth_alone) ≡ place "o/v1/content/f" ∷ [])
unfolding audit_on_literals hashed_among item_places
cost_of_fifth_algorithm = (refl, refl)

-- ---- the item at one place

-- the lines of one place
abbrev shows : String → StorageRoot → String → String → Case
shows name root p t = case name (text (item_at Nothing root [] (place p))) (codes t)

-- the same with an unlisted file
abbrev with_unlisted : StorageRoot
with_unlisted = sha512_file ++ text_at "o/v1/content/g" "abc" ∷ []

unlisted_file_is_not_hashed : hashed_among Nothing with_unlisted (item_places Nothing with_unlisted) ≡ place "o/v1/content/f" ∷ []
unfolding audit_on_literals hashed_among item_places
unlisted_file_is_not_hashed = refl

items_at_one_place : AllAre (
    shows "item_of_a_right_file" sha512_file "o/v1/content/f" "ok\to/v1/content/f\t3\n" ∷
    shows "item_of_a_wrong_file" (sha512_object (inventory "sha512" (keys (key (abc Sha512) "[\"v1/content/f\"]" ∷ [])) (codes "{}"))
    (text_at "o/v1/content/f" "" ∷ [])) "o/v1/content/f"
    "E092\to/v1/content/f\tsha512 ddaf35a193617abacc417349ae20413112e6fa4e89a97ea20a9eeee64b55d39a2192992a274fc1a836ba3c23a3feebbd454d4423643ce80e2a9ac94fa54ca49f cf83e1357eefb8bdf1542850d66d8007d620e4050b5715dc83f4a921d36ce9ce47d0d13c5d85f2b0ff8318d2877eec2f63b931bd47417a81a538327af927da3e\n" ∷
    shows "item_of_an_unlisted_file" with_unlisted "o/v1/content/g" "E023\to/v1/content/g\t-\n" ∷
    shows "no_item_where_nothing_is" sha512_file "o/v1/content/h" "" ∷
    shows "no_item_at_a_version" sha512_file "o/v1" "" ∷
    shows "no_item_at_a_content_directory" sha512_file "o/v1/content" "" ∷
    shows "no_item_at_an_inventory" sha512_file "o/inventory.json" "" ∷
    shows "no_item_where_the_object_is_gone" (storage_root []) "o/v1/content/f" "" ∷
    [])
unfolding audit_on_literals
items_at_one_place = refl

-- ---- files that nothing names

abbrev files_that_nothing_names_cases : List Case
files_that_nothing_names_cases =
    reports_256 "unlisted_file" (listing lists_f) (text_at "o/v1/content/z" "abc" ∷ f_is_abc) "ok\t.\t-\nok\to\t-\nok\to/v1/content/f\t3\nE023\to/v1/content/z\t-\n" ∷
    -- é, a tab, a percent sign and a space
    reports_256 "odd_letters_in_a_name" (listing []) ((place "o/v1/content" ++ (0xC3 ∷ 0xA9 ∷ 9 ∷ 37 ∷ 32 ∷ []) ∷ [], file []) ∷ []) "ok\t.\t-\nok\to\t-\nE023\to/v1/content/%C3%A9%09%25 \t-\n" ∷
    []

files_that_nothing_names : AllAre files_that_nothing_names_cases
unfolding audit_on_literals
files_that_nothing_names = quickly files_that_nothing_names_cases refl

-- ---- paths where no file is

cost_of_missing_and_right_files : map (λ i. i.cost) (audit Nothing missing_and_right []) ≡ 0 ∷ 0 ∷ 0 ∷ 4 ∷ []
unfolding audit_on_literals
cost_of_missing_and_right_files = ap (map (λ i. i.cost)) (audit_256 missing_and_right_listing missing_and_right_content [])

abbrev paths_without_file_cases : List Case
paths_without_file_cases =
    -- Seen to refuse: fixity before the manifest in missing lines.
    reports_256 "missing_and_right_files" missing_and_right_listing missing_and_right_content
    "ok\t.\t-\nok\to\t-\nE092\to/v1/content/a\tsha256 missing\nE093\to/v1/content/a\tsha1 missing\nok\to/v1/content/b\t3\n" ∷
    -- one line for a block and algorithm, however many digests
    reports_256 "missing_under_several_digests"
    (listing_with (key "x" "[\"v1/content/f\"]" ∷ key "y" "[\"v1/content/f\"]" ∷ [])
    (codes "{\"sha1\":{\"z\":[\"v1/content/f\"]},\"md5\":{\"z\":[\"v1/content/f\"],\"w\":[\"v1/content/f\"]}}")) []
    "ok\t.\t-\nE101\to\tv1/content/f\nE092\to/v1/content/f\tsha256 missing\nE093\to/v1/content/f\tmd5 missing\nE093\to/v1/content/f\tsha1 missing\n" ∷
    reports_256 "missing_by_fixity_alone" (listing_with [] (codes "{\"md5\":{\"x\":[\"v1/content/f\"]}}")) [] "ok\t.\t-\nok\to\t-\nE093\to/v1/content/f\tmd5 missing\n" ∷
    -- `v10` before `v2`, and no directory `v3`
    reports_256 "versions_in_order" (listing (key (abc Sha256) "[\"v10/content/f\",\"v2/content/f\",\"v3/content/f\"]" ∷ []))
    (folder "o/v10" ∷ folder "o/v10/content" ∷ text_at "o/v10/content/f" "abc" ∷ folder "o/v2" ∷ folder "o/v2/content" ∷ text_at "o/v2/content/f" "abc"
    ∷ []) "ok\t.\t-\nok\to\t-\nok\to/v10/content/f\t3\nok\to/v2/content/f\t3\nE092\to/v3/content/f\tsha256 missing\n" ∷
    reports_256 "missing_directory" (listing (key (abc Sha256) "[\"v1/content/x/y\"]" ∷ [])) [] "ok\t.\t-\nok\to\t-\nE092\to/v1/content/x/y\tsha256 missing\n" ∷
    []

paths_without_file : AllAre paths_without_file_cases
unfolding audit_on_literals
paths_without_file = quickly paths_without_file_cases refl

-- ---- directories and links in content

cost_of_listed_empty_directory : total_cost (audit Nothing (sha256_object (listing (key (abc Sha256) "[\"v1/content/d\"]" ∷ [])) (folder "o/v1/content/d" ∷ [])) []) ≡ 0
unfolding audit_on_literals
cost_of_listed_empty_directory = refl

-- nor does a link cost anything, and it is not hashed
cost_of_listed_link : let root : StorageRoot = sha256_object (listing lists_f) (link "o/v1/content/f" ∷ []) in
    (total_cost (audit Nothing root []) ≡ 0) × (hashed_among Nothing root (item_places Nothing root) ≡ [])
unfolding audit_on_literals hashed_among item_places
cost_of_listed_link = (refl, refl)

abbrev directories_and_links_in_content_cases : List Case
directories_and_links_in_content_cases =
    reports_256 "listed_empty_directory" (listing (key (abc Sha256) "[\"v1/content/d\"]" ∷ [])) (folder "o/v1/content/d" ∷ [])
    "ok\t.\t-\nok\to\t-\nE024\to/v1/content/d\t-\nE092\to/v1/content/d\tsha256 missing\n" ∷
    reports_256 "directories_in_content" (listing (key (abc Sha256) "[\"v1/content/d\",\"v1/content/e/g\"]" ∷ []))
    (folder "o/v1/content/d" ∷ folder "o/v1/content/d/x" ∷ folder "o/v1/content/e" ∷ text_at "o/v1/content/e/g" "abc" ∷ [])
    "ok\t.\t-\nok\to\t-\nE092\to/v1/content/d\tsha256 missing\nE024\to/v1/content/d/x\t-\nok\to/v1/content/e/g\t3\n" ∷
    -- the same digests as if `f` were a file
    reports_256 "listed_link" (listing_with (key (no_bytes Sha256) "[\"v1/content/f\"]" ∷ key (abc Sha256) "[\"v1/content/f\"]" ∷ [])
    (codes "{\"md5\":{\"d41d8cd98f00b204e9800998ecf8427e\":[\"v1/content/f\"]}}")) (link "o/v1/content/f" ∷ [])
    "ok\t.\t-\nE101\to\tv1/content/f\nS04\to/v1/content/f\t-\nE092\to/v1/content/f\tsha256 missing\nE093\to/v1/content/f\tmd5 missing\n" ∷
    reports_256 "unlisted_link_in_content" (listing []) (link "o/v1/content/f" ∷ []) "ok\t.\t-\nok\to\t-\nS04\to/v1/content/f\t-\n" ∷
    reports_256 "path_below_a_link" (listing (key (abc Sha256) "[\"v1/content/f/g\"]" ∷ [])) (link "o/v1/content/f" ∷ [])
    "ok\t.\t-\nok\to\t-\nS04\to/v1/content/f\t-\nE092\to/v1/content/f/g\tsha256 missing\n" ∷
    []

directories_and_links_in_content : AllAre directories_and_links_in_content_cases
unfolding audit_on_literals
directories_and_links_in_content = quickly directories_and_links_in_content_cases refl

-- ---- entries of an object root

-- an object that lists `f`, and more in its root
abbrev around_f : String → StorageRoot → String → Case
around_f name more t = reports_256 name (listing lists_f) (f_is_abc ++ more) t

abbrev entries_of_objects_cases : List Case
entries_of_objects_cases =
    around_f "entries_that_are_not_allowed"
    (text_at "o/junk" "" ∷ folder "o/logs" ∷ text_at "o/logs/l" "" ∷ text_at "o/v1/notes" "" ∷ folder "o/v1/other" ∷ text_at "o/v1/other/x" "" ∷ [])
    "ok\t.\t-\nok\to\t-\nE001\to/junk\t-\nok\to/v1/content/f\t3\nE015\to/v1/notes\t-\n" ∷
    around_f "directories_of_an_object_root"
    (folder "o/extensions" ∷ text_at "o/extensions/k" "" ∷ folder "o/logs" ∷ folder "o/v0002" ∷ folder "o/V3" ∷ folder "o/v" ∷ folder "o/vx" ∷ text_at
    "o/vx/y" "" ∷ []) "ok\t.\t-\nok\to\t-\nE001\to/V3\t-\nE001\to/v\t-\nok\to/v1/content/f\t3\nE001\to/vx\t-\n" ∷
    around_f "files_of_an_object_root"
    (text_at "o/0=ocfl_1.1" "" ∷ text_at "o/0=ocfl_object_x" "" ∷ text_at "o/extensions" "" ∷ text_at "o/logs" "" ∷ text_at "o/v2" "" ∷ [])
    "ok\t.\t-\nok\to\t-\nE001\to/0=ocfl_1.1\t-\nE001\to/0=ocfl_object_x\t-\nE001\to/extensions\t-\nE001\to/logs\t-\nok\to/v1/content/f\t3\nE001\to/v2\t-\n" ∷
    -- links have their line whatever their name
    around_f "links_of_an_object_root" (link "o/inventory.json.sha512" ∷ link "o/logs" ∷ link "o/v2" ∷ link "o/0=ocfl_object_1.0" ∷ [])
    "ok\t.\t-\nok\to\t-\nS04\to/0=ocfl_object_1.0\t-\nS04\to/inventory.json.sha512\t-\nS04\to/logs\t-\nok\to/v1/content/f\t3\nS04\to/v2\t-\n" ∷
    -- an object in an object is no object of its own
    around_f "object_within_an_object" (object_in "o/sub" (listing []) []) "ok\t.\t-\nok\to\t-\nE001\to/sub\t-\nok\to/v1/content/f\t3\n" ∷
    around_f "object_within_content" (folder "o/v1/content/p" ∷ text_at "o/v1/content/p/0=ocfl_object_1.1" "ocfl_object_1.1\n" ∷ [])
    "ok\t.\t-\nok\to\t-\nok\to/v1/content/f\t3\nE023\to/v1/content/p/0=ocfl_object_1.1\t-\n" ∷
    -- even if its head stops
    reports "object_within_a_stopped_object" (storage_root (folder "o" ∷ text_at "o/0=ocfl_object_2.0" "" ∷ object_in "o/sub" (listing []) [])) "ok\t.\t-\nS01\to\t2.0\n" ∷
    reports "object_in_the_hierarchy"
    (storage_root (folder "p" ∷ folder "p/x" ∷ object_in "p/q" (listing lists_f)
    (folder "p/q/v1" ∷ folder "p/q/v1/content" ∷ text_at "p/q/v1/content/f" "abc" ∷ []))) "ok\t.\t-\nok\tp/q\t-\nok\tp/q/v1/content/f\t3\nE073\tp/x\t-\n" ∷
    []

entries_of_objects : AllAre entries_of_objects_cases
unfolding audit_on_literals
entries_of_objects = quickly entries_of_objects_cases refl

-- ---- entries of a version directory

abbrev entries_of_versions_cases : List Case
entries_of_versions_cases =
    around_f "entries_of_a_version"
    (text_at "o/v1/inventory.json" "" ∷ text_at "o/v1/inventory.json.sha256" "" ∷ text_at "o/v1/inventory.json.sha512" "" ∷ text_at
    "o/v1/inventory.json.md5" "" ∷ folder "o/v1/logs" ∷ link "o/v1/other" ∷ folder "o/v2" ∷ folder "o/v2/content" ∷ [])
    "ok\t.\t-\nok\to\t-\nok\to/v1/content/f\t3\nE015\to/v1/inventory.json.md5\t-\nS04\to/v1/other\t-\n" ∷
    reports_256 "links_of_a_version" (listing (key (abc Sha256) "[\"v2/content/f\"]" ∷ []))
    (link "o/v1/inventory.json" ∷ folder "o/v2" ∷ link "o/v2/content" ∷ []) "ok\t.\t-\nok\to\t-\nS04\to/v1/inventory.json\t-\nS04\to/v2/content\t-\nE092\to/v2/content/f\tsha256 missing\n" ∷
    reports_256 "version_is_a_link" (listing (key (abc Sha256) "[\"v2/content/f\"]" ∷ [])) (link "o/v2" ∷ text_at "o/v2/content/f" "abc" ∷ [])
    "ok\t.\t-\nok\to\t-\nS04\to/v2\t-\nE092\to/v2/content/f\tsha256 missing\n" ∷
    reports_256 "version_is_a_file" (listing (key (abc Sha256) "[\"v2/content/f\"]" ∷ [])) (text_at "o/v2" "" ∷ []) "ok\t.\t-\nok\to\t-\nE001\to/v2\t-\nE092\to/v2/content/f\tsha256 missing\n" ∷
    reports_256 "content_directory_is_a_file" (listing (key (abc Sha256) "[\"v2/content/f\"]" ∷ [])) (folder "o/v2" ∷ text_at "o/v2/content" "" ∷ [])
    "ok\t.\t-\nok\to\t-\nE015\to/v2/content\t-\nE092\to/v2/content/f\tsha256 missing\n" ∷
    -- `content` is then a directory like others, and not entered
    reports_256 "content_directory_of_another_name"
    (codes "{\"digestAlgorithm\":\"sha256\",\"contentDirectory\":\"data\",\"manifest\":{\"ba7816bf8f01cfea414140de5dae2223b00361a396177a9cb410ff61f20015ad\":[\"v1/data/f\"]}}") (text_at "o/v1/content/x" "" ∷ folder "o/v1/data" ∷ text_at "o/v1/data/f" "abc" ∷ text_at "o/v1/data/g" "" ∷ []) "ok\t.\t-\nok\to\t-\nok\to/v1/data/f\t3\nE023\to/v1/data/g\t-\n" ∷
    []

entries_of_versions : AllAre entries_of_versions_cases
unfolding audit_on_literals
entries_of_versions = quickly entries_of_versions_cases refl
