-- Worked cases: the digests and the paths that an inventory lists.
use Rattle.std.proofs.Common.{◌≡◌, List, [], ◌∷◌, ◌++◌, codes, refl, Option, Some, None, map, length, replicate}
use Prim.Native.String.{String}
use Rattle.std.specs.List.{join_with_byte}
use Rattle.ocfl_tree.specs.Place.{Text}
use Rattle.ocfl_report.specs.{Text.{text}, declared.code.Code.{Code}}
use Rattle.ocfl_report.specs.declared.code.Code.TheVariants.{E099, E100, S06}
use Rattle.ocfl_report.specs.declared.further.Further.TheVariants.{Nothing}
use Rattle.ocfl_inventory.specs.ListedPath.{path_fault}
use Rattle.ocfl_digest.specs.declared.algorithm.Algorithm.TheVariants.{Sha256}
use Rattle.ocfl_rules.specs.Audit.{audit}
use Rattle.ocfl_rules.proofs.Cases.OnLiterals.{audit_on_literals}
use Rattle.ocfl_rules.proofs.Cases.Trees.{Case, AllAre, quickly, sha256_object, f_is_abc, key, keys, inventory, listing, listing_with, lists_f, abc, abc_sha256_capitals, no_bytes, no_bytes_sha256_capitals}
use Rattle.ocfl_rules.proofs.Cases.Quiet.{reports_256, told_256}

-- ---- keys

abbrev keys_that_stand_twice_cases : List Case
keys_that_stand_twice_cases =
    -- Seen to refuse: E096 and E097 go by keys as written.
    reports_256 "digest_twice_in_the_manifest" (listing (key (abc Sha256) "[\"v1/content/f\"]" ∷ key abc_sha256_capitals "[\"v1/content/f\"]" ∷ [])) f_is_abc
    "ok\t.\t-\nE096\to\tba7816bf8f01cfea414140de5dae2223b00361a396177a9cb410ff61f20015ad\nE101\to\tv1/content/f\nok\to/v1/content/f\t3\n" ∷
    -- keys count, even if they list nothing
    reports_256 "digest_twice_with_empty_lists" (listing (key abc_sha256_capitals "[]" ∷ key (abc Sha256) "[]" ∷ [])) []
    "ok\t.\t-\nE096\to\tba7816bf8f01cfea414140de5dae2223b00361a396177a9cb410ff61f20015ad\n" ∷
    reports_256 "two_digests_twice_ascending"
    (listing (key (no_bytes Sha256) "[]" ∷ key no_bytes_sha256_capitals "[]" ∷ key (abc Sha256) "[]" ∷ key abc_sha256_capitals "[]" ∷ [])) []
    "ok\t.\t-\nE096\to\tba7816bf8f01cfea414140de5dae2223b00361a396177a9cb410ff61f20015ad\nE096\to\te3b0c44298fc1c149afbf4c8996fb92427ae41e4649b934ca495991b7852b855\n" ∷
    -- as written, `BA` comes before `aB`
    reports_256 "repeated_digests_ascend_folded" (listing (key "BA" "[]" ∷ key "ba" "[]" ∷ key "aB" "[]" ∷ key "ab" "[]" ∷ [])) [] "ok\t.\t-\nE096\to\tab\nE096\to\tba\n" ∷
    -- one line for a digest, whatever its letters are
    reports_256 "any_key_three_times" (listing (key "xy" "[]" ∷ key "xY" "[]" ∷ key "XY" "[]" ∷ [])) [] "ok\t.\t-\nE096\to\txy\n" ∷
    -- the last value is kept
    reports_256 "key_twice_letter_for_letter" (listing (key (abc Sha256) "[\"v1/content/a\"]" ∷ key (abc Sha256) "[\"v1/content/f\"]" ∷ [])) f_is_abc "ok\t.\t-\nok\to\t-\nok\to/v1/content/f\t3\n" ∷
    -- Seen to refuse: E096 and E097 go by keys as written.
    reports_256 "digest_twice_in_fixity"
    (listing_with lists_f (keys (key "md5"
    "{\"900150983cd24fb0d6963f7d28e17f72\":[\"v1/content/f\"],\"900150983CD24FB0D6963F7D28E17F72\":[\"v1/content/f\"]}" ∷ []))) f_is_abc
    "ok\t.\t-\nE097\to\tmd5 900150983cd24fb0d6963f7d28e17f72\nok\to/v1/content/f\t3\n" ∷
    -- by the algorithms' names, then by the digests
    reports_256 "digests_twice_in_fixity_ascending"
    (listing_with lists_f
    (codes "{\"sha512/256\":{\"e\":[],\"E\":[]},\"sha512\":{\"d\":[],\"D\":[]},\"sha256\":{\"c\":[],\"C\":[]},\"sha1\":{\"b\":[],\"B\":[]},\"md5\":{\"z\":[],\"Z\":[],\"a\":[],\"A\":[]}}")) f_is_abc "ok\t.\t-\nE097\to\tmd5 a\nE097\to\tmd5 z\nE097\to\tsha1 b\nE097\to\tsha256 c\nE097\to\tsha512 d\nE097\to\tsha512/256 e\nok\to/v1/content/f\t3\n" ∷
    -- Seen to refuse: E097 before E096.
    reports_256 "manifest_keys_before_fixity_keys"
    (listing_with (key (abc Sha256) "[]" ∷ key abc_sha256_capitals "[]" ∷ []) (codes "{\"md5\":{\"a\":[],\"A\":[]}}")) []
    "ok\t.\t-\nE096\to\tba7816bf8f01cfea414140de5dae2223b00361a396177a9cb410ff61f20015ad\nE097\to\tmd5 a\n" ∷
    -- a digest may occur once in each block
    reports_256 "same_digest_in_other_blocks" (listing_with lists_f (codes "{\"md5\":{\"x\":[]},\"sha1\":{\"X\":[]}}")) f_is_abc "ok\t.\t-\nok\to\t-\nok\to/v1/content/f\t3\n" ∷
    []

keys_that_stand_twice : AllAre keys_that_stand_twice_cases
unfolding audit_on_literals
keys_that_stand_twice = quickly keys_that_stand_twice_cases refl

-- ---- bad paths

abbrev bad_paths_cases : List Case
bad_paths_cases =
    -- ascending by their bytes
    -- Seen to refuse: S06 before E099.
    reports_256 "bad_paths_of_each_kind" (listing (key (abc Sha256) "[\"x/content/a\",\"/a\",\"v1/content/f\",\"v1/content/../b\"]" ∷ [])) f_is_abc
    "ok\t.\t-\nE100\to\t/a\nE099\to\tv1/content/../b\nS06\to\tx/content/a\nok\to/v1/content/f\t3\n" ∷
    reports_256 "bad_path_twice" (listing (key (abc Sha256) "[\"/b\",\"/a\",\"/b\"]" ∷ key (no_bytes Sha256) "[\"/b\"]" ∷ [])) [] "ok\t.\t-\nE100\to\t/a\nE100\to\t/b\n" ∷
    -- once for the manifest, and once for the supported fixity algorithms together
    reports_256 "bad_path_in_manifest_and_fixity"
    (listing_with (key (abc Sha256) "[\"v1/content/f\",\"/x\"]" ∷ [])
    (codes "{\"md5\":{\"900150983cd24fb0d6963f7d28e17f72\":[\"/x\"]},\"sha1\":{\"a9993e364706816aba3e25717850c26c9cd0d89d\":[\"/x\"]}}")) f_is_abc
    "ok\t.\t-\nE100\to\t/x\nE100\to\t/x\nok\to/v1/content/f\t3\n" ∷
    reports_256 "manifest_paths_before_fixity_paths"
    (listing_with (key (abc Sha256) "[\"/b\"]" ∷ []) (codes "{\"sha1\":{\"x\":[\"/a\"]},\"md5\":{\"y\":[\"/c\"]}}")) [] "ok\t.\t-\nE100\to\t/b\nE100\to\t/a\nE100\to\t/c\n" ∷
    -- Seen to refuse: S06 before E099.
    reports_256 "empty_path" (listing (key (abc Sha256) "[\"\"]" ∷ [])) [] "ok\t.\t-\nE099\to\t\n" ∷
    []

bad_paths : AllAre bad_paths_cases
unfolding audit_on_literals
bad_paths = quickly bad_paths_cases refl

-- these paths have this fault, if the content directory is `content`
abbrev HaveFault : Option Code → List String → Type 0
HaveFault fault paths = map (λ p. path_fault (codes "content") (codes p)) paths ≡ replicate (length paths) fault

-- also before dots that are between
slashes_at_an_end : HaveFault (Some E100) ("v1/content/f/" ∷ "/" ∷ "/v1/../f" ∷ [])
slashes_at_an_end = refl

-- Seen to refuse: empty elements of a path are dropped.
empty_element : HaveFault (Some E099) ("v1/content//f" ∷ [])
empty_element = refl

-- also before all that makes no content path
-- Seen to refuse: S06 before E099.
dots_as_elements : HaveFault (Some E099) ("./v1/content/f" ∷ "v1/content/." ∷ "x/../f" ∷ [])
dots_as_elements = refl

too_few_elements : HaveFault (Some S06) ("v1/content" ∷ "v1" ∷ [])
too_few_elements = refl

names_of_no_version : HaveFault (Some S06) ("v/content/f" ∷ "v1a/content/f" ∷ "V1/content/f" ∷ "1/content/f" ∷ [])
names_of_no_version = refl

other_content_directory : HaveFault (Some S06) ("v1/data/f" ∷ [])
other_content_directory = refl

-- a padded version, and dots that are no whole elements
paths_without_fault : HaveFault None ("v0001/content/f" ∷ "v1/content/a..b/.c/..." ∷ [])
paths_without_fault = refl

-- `v1/content`, and n elements more
abbrev long_path : List Text → Text
long_path more = join_with_byte 47 (codes "v1" ∷ codes "content" ∷ more)

path_of_128_elements : path_fault (codes "content") (long_path (replicate 126 (codes "a"))) ≡ None
path_of_128_elements = refl

path_of_129_elements : path_fault (codes "content") (long_path (replicate 127 (codes "a"))) ≡ Some S06
path_of_129_elements = refl

element_of_255_bytes : path_fault (codes "content") (long_path (replicate 255 97 ∷ [])) ≡ None
element_of_255_bytes = refl

element_of_256_bytes : path_fault (codes "content") (long_path (replicate 256 97 ∷ [])) ≡ Some S06
element_of_256_bytes = refl

element_with_nul : path_fault (codes "content") (long_path ((97 ∷ 0 ∷ []) ∷ [])) ≡ Some S06
element_with_nul = refl

-- the same in whole audits: a kept path has its line, and a bad one is in the head

-- a manifest that lists one path
abbrev lists_one : Text → Text
lists_one path = inventory "sha256" (codes "{\"x\":[\"" ++ path ++ codes "\"]}") (codes "{}")

abbrev keeps : String → Text → Case
keeps name path = told_256 name (lists_one path) [] (codes "ok\t.\t-\nok\to\t-\nE092\to/" ++ path ++ codes "\tsha256 missing\n")

abbrev drops : String → Text → Case
drops name path = told_256 name (lists_one path) [] (codes "ok\t.\t-\nS06\to\t" ++ path ++ codes "\n")

abbrev long_paths_cases : List Case
long_paths_cases =
    keeps "longest_path_is_kept" (long_path (replicate 126 (codes "a"))) ∷
    drops "longer_path_is_told" (long_path (replicate 127 (codes "a"))) ∷
    keeps "longest_element_is_kept" (long_path (replicate 255 97 ∷ [])) ∷
    drops "longer_element_is_told" (long_path (replicate 256 97 ∷ [])) ∷
    reports_256 "nul_is_told_escaped" (lists_one (codes "v1/content/a\\u0000")) [] "ok\t.\t-\nS06\to\tv1/content/a%00\n" ∷
    []

long_paths : AllAre long_paths_cases
unfolding audit_on_literals
long_paths = quickly long_paths_cases refl

-- ---- a content directory of another name

-- an inventory with this content directory, whose manifest lists one path
abbrev with_content : Text → Text → Text
with_content d path = codes "{\"digestAlgorithm\":\"sha256\",\"contentDirectory\":\"" ++ d ++ codes
    "\",\"manifest\":{\"ba7816bf8f01cfea414140de5dae2223b00361a396177a9cb410ff61f20015ad\":[\"" ++ path ++ codes "\"]}}"

-- stops nothing, but no path can be in it
content_directory_longer_than_a_name : text (audit Nothing (sha256_object (with_content (replicate 256 97) (codes "v1/" ++ replicate 256 97 ++ codes "/f")) []) [])
    ≡ codes "ok\t.\t-\nS06\to\tv1/" ++ replicate 256 97 ++ codes "/f\n"
unfolding audit_on_literals
content_directory_longer_than_a_name = refl

content_directory_with_nul : text (audit Nothing (sha256_object (with_content (codes "a\\u0000") (codes "v1/a\\u0000/f")) []) []) ≡ codes "ok\t.\t-\nS06\to\tv1/a%00/f\n"
unfolding audit_on_literals
content_directory_with_nul = refl

-- ---- paths that are repeated or in each other's way

abbrev paths_in_conflict_cases : List Case
paths_in_conflict_cases =
    -- Seen to refuse: E101 for equal paths alone.
    reports_256 "path_below_a_path" (listing (key (abc Sha256) "[\"v1/content/f\",\"v1/content/f/g\"]" ∷ [])) f_is_abc
    "ok\t.\t-\nE101\to\tv1/content/f\nok\to/v1/content/f\t3\nE092\to/v1/content/f/g\tsha256 missing\n" ∷
    reports_256 "path_twice_in_one_list" (listing (key (abc Sha256) "[\"v1/content/f\",\"v1/content/f\"]" ∷ [])) f_is_abc "ok\t.\t-\nE101\to\tv1/content/f\nok\to/v1/content/f\t3\n" ∷
    -- by elements: `a` is no beginning of `a-b` or of `ab`
    -- Seen to refuse: E101 by the bytes of a beginning.
    reports_256 "letters_are_no_beginning" (listing (key (abc Sha256) "[\"v1/content/a-b\",\"v1/content/a\",\"v1/content/ab\"]" ∷ [])) []
    "ok\t.\t-\nok\to\t-\nE092\to/v1/content/a\tsha256 missing\nE092\to/v1/content/a-b\tsha256 missing\nE092\to/v1/content/ab\tsha256 missing\n" ∷
    -- although `a-b` is between the two as texts
    reports_256 "path_between_as_text" (listing (key (abc Sha256) "[\"v1/content/a-b\",\"v1/content/a\",\"v1/content/a/b\"]" ∷ [])) []
    "ok\t.\t-\nE101\to\tv1/content/a\nE092\to/v1/content/a\tsha256 missing\nE092\to/v1/content/a/b\tsha256 missing\nE092\to/v1/content/a-b\tsha256 missing\n" ∷
    -- ascending as places
    reports_256 "repeated_paths_ascending"
    (listing (key (abc Sha256) "[\"v1/content/a-b\",\"v1/content/a/b\"]" ∷ key (no_bytes Sha256) "[\"v1/content/a-b\",\"v1/content/a/b\"]" ∷ [])) []
    "ok\t.\t-\nE101\to\tv1/content/a/b\nE101\to\tv1/content/a-b\nE092\to/v1/content/a/b\tsha256 missing\nE092\to/v1/content/a-b\tsha256 missing\n" ∷
    -- Seen to refuse: E101 for equal paths alone.
    reports_256 "each_proper_beginning" (listing (key (abc Sha256) "[\"v1/content/a/b/c\",\"v1/content/a/b\",\"v1/content/a\"]" ∷ [])) []
    "ok\t.\t-\nE101\to\tv1/content/a\nE101\to\tv1/content/a/b\nE092\to/v1/content/a\tsha256 missing\nE092\to/v1/content/a/b\tsha256 missing\nE092\to/v1/content/a/b/c\tsha256 missing\n" ∷
    -- dropped paths are in nobody's way
    -- Seen to refuse: empty elements of a path are dropped.
    reports_256 "bad_path_is_no_conflict" (listing (key (abc Sha256) "[\"v1/content/f\",\"v1/content/f/\",\"v1/content/f//g\"]" ∷ [])) f_is_abc
    "ok\t.\t-\nE100\to\tv1/content/f/\nE099\to\tv1/content/f//g\nok\to/v1/content/f\t3\n" ∷
    -- a fixity block may repeat paths
    reports_256 "fixity_repeats_paths" (listing_with lists_f (codes "{\"md5\":{\"900150983cd24fb0d6963f7d28e17f72\":[\"v1/content/f\",\"v1/content/f\"]}}"))
    f_is_abc "ok\t.\t-\nok\to\t-\nok\to/v1/content/f\t3\n" ∷
    -- the lines of keys, of paths, of conflicts, and the note
    -- Seen to refuse: E097 before E096.
    reports_256 "lines_of_a_head_in_order"
    (listing_with (key (abc Sha256) "[\"v1/content/f\",\"/x\"]" ∷ key abc_sha256_capitals "[\"v1/content/f\"]" ∷ [])
    (codes "{\"blake2b-512\":7,\"md5\":{\"a\":[\"/w\"],\"A\":[]}}")) f_is_abc
    "ok\t.\t-\nE096\to\tba7816bf8f01cfea414140de5dae2223b00361a396177a9cb410ff61f20015ad\nE097\to\tmd5 a\nE100\to\t/x\nE100\to\t/w\nE101\to\tv1/content/f\nS07\to\tblake2b-512\nok\to/v1/content/f\t3\n" ∷
    []

paths_in_conflict : AllAre paths_in_conflict_cases
unfolding audit_on_literals
paths_in_conflict = quickly paths_in_conflict_cases refl
