-- Worked cases: the head of an object, but for the keys and paths of its inventory's tables.
use Rattle.std.proofs.Common.{◌≡◌, List, [], ◌∷◌, ◌++◌, codes, refl, true, false, Some, None, take, replicate, length, nat_le}
use Prim.Native.String.{String}
use Rattle.serde_json.specs.Data.{null, no_members, member}
use Rattle.ocfl_tree.specs.{Place.{Text, Place}, StorageRoot.{StorageRoot}}
use Rattle.ocfl_report.specs.{Line.{found}, declared.code.Code.TheVariants.{S02}}
use Rattle.ocfl_report.specs.declared.further.Further.TheVariants.{Nothing}
use Rattle.ocfl_inventory.specs.{Note.{plain}, Reading.{unsupported_in}, Sidecar.{sidecar_of}}
use Rattle.ocfl_inventory.specs.Table.{table_of}
use Rattle.ocfl_digest.specs.declared.algorithm.Algorithm.TheVariants.{Md5, Sha1, Sha256, Sha512_256}
use Rattle.ocfl_rules.specs.{Zone.{inventory_at, table_at}, Head.{inventory_file_notes, digest_of}}
use Rattle.ocfl_rules.specs.Audit.{audit}
use Rattle.ocfl_rules.proofs.Cases.OnLiterals.{audit_on_literals}
use Rattle.ocfl_rules.proofs.Cases.Trees.{Case, AllAre, quickly, reports, text_at, bytes_at, folder, link, storage_root, object, object_beside, right_sidecar_256, right_sidecar_512, sha256_object, f_is_abc, key, keys, inventory, inventory_with, listing, listing_with, lists_f, abc, abc_sha256_capitals}
use Rattle.ocfl_rules.proofs.Cases.Quiet.{reports_256, reports_512}

-- ---- the declaration

-- an object that lists `f`, with these declarations
abbrev declared_by : StorageRoot → StorageRoot
declared_by declarations = storage_root
    (folder "o" ∷ declarations ++ bytes_at "o/inventory.json" (listing lists_f) ∷ bytes_at "o/inventory.json.sha256" (right_sidecar_256 (listing lists_f))
    ∷ folder "o/v1" ∷ folder "o/v1/content" ∷ f_is_abc)

object_declarations : AllAre (
    reports "object_of_the_older_version" (declared_by (text_at "o/0=ocfl_object_1.0" "ocfl_object_1.0\n" ∷ [])) "ok\t.\t-\nok\to\t-\nok\to/v1/content/f\t3\n" ∷
    reports "two_object_declarations"
    (declared_by (text_at "o/0=ocfl_object_1.0" "ocfl_object_1.0\n" ∷ text_at "o/0=ocfl_object_1.1" "ocfl_object_1.1\n" ∷ text_at "o/junk" "" ∷ [])) "ok\t.\t-\nE003\to\t-\n" ∷
    reports "unknown_object_version" (declared_by (text_at "o/0=ocfl_object_2.0" "ocfl_object_2.0\n" ∷ text_at "o/junk" "" ∷ [])) "ok\t.\t-\nS01\to\t2.0\n" ∷
    -- the head goes on
    reports "object_declaration_without_line_feed" (declared_by (text_at "o/0=ocfl_object_1.1" "ocfl_object_1.1" ∷ [])) "ok\t.\t-\nE007\to\t-\nok\to/v1/content/f\t3\n" ∷
    -- 4,097 bytes
    reports "long_object_declaration" (declared_by (bytes_at "o/0=ocfl_object_1.1" (codes "ocfl_object_1.1\n" ++ replicate 4081 10) ∷ [])) "ok\t.\t-\nE007\to\t-\nok\to/v1/content/f\t3\n" ∷
    -- only files declare; a directory of such a name is not allowed
    reports "directory_beside_object_declaration" (declared_by (text_at "o/0=ocfl_object_1.1" "ocfl_object_1.1\n" ∷ folder "o/0=ocfl_object_1.0" ∷ []))
    "ok\t.\t-\nok\to\t-\nE001\to/0=ocfl_object_1.0\t-\nok\to/v1/content/f\t3\n" ∷
    [])
unfolding audit_on_literals
object_declarations = refl

-- ---- the file `inventory.json`

objects_without_inventory : AllAre (
    reports "no_inventory" (storage_root (folder "o" ∷ text_at "o/0=ocfl_object_1.1" "ocfl_object_1.1\n" ∷ text_at "o/junk" "" ∷ [])) "ok\t.\t-\nE063\to\t-\n" ∷
    reports "declaration_and_no_inventory" (storage_root (folder "o" ∷ text_at "o/0=ocfl_object_1.1" "" ∷ [])) "ok\t.\t-\nE007\to\t-\nE063\to\t-\n" ∷
    reports "inventory_is_a_directory" (storage_root (folder "o" ∷ text_at "o/0=ocfl_object_1.1" "ocfl_object_1.1\n" ∷ folder "o/inventory.json" ∷ [])) "ok\t.\t-\nE063\to\t-\n" ∷
    reports "inventory_is_a_link" (storage_root (folder "o" ∷ text_at "o/0=ocfl_object_1.1" "ocfl_object_1.1\n" ∷ link "o/inventory.json" ∷ [])) "ok\t.\t-\nE063\to\t-\n" ∷
    [])
unfolding audit_on_literals
objects_without_inventory = refl

inventory_too_long : (root : StorageRoot) (o : Place) (bytes : Text) → nat_le (length bytes) 268435456 ≡ false → inventory_file_notes root o (Some bytes) ≡ plain S02 ∷ []
inventory_too_long root o bytes long = rw long

-- and nothing of the object's insides
no_table_of_an_inventory_too_long : (root : StorageRoot) (o : Place) (bytes : Text) → inventory_at root o ≡ Some bytes → nat_le (length bytes) 268435456 ≡ false → table_at root o ≡ None
no_table_of_an_inventory_too_long root o bytes there long = rw (there, long)

-- an inventory of the limit is read
longest_inventory : (root : StorageRoot) (o : Place) (bytes : Text) → inventory_at root o ≡ Some bytes → nat_le (length bytes) 268435456 ≡ true → table_at root o ≡ table_of bytes
longest_inventory root o bytes there short = rw (there, short)

-- ---- sidecars

-- an object that lists `f`, with a sidecar of these bytes
abbrev beside : Text → StorageRoot
beside sidecar = object_beside sidecar (listing lists_f) (folder "o/v1" ∷ folder "o/v1/content" ∷ f_is_abc)

-- the digits of the right one
abbrev right_digits : Text
right_digits = digest_of Sha256 (listing lists_f)

forms_of_sidecars : AllAre (
    reports "right_sidecar" (beside (right_digits ++ codes " inventory.json\n")) "ok\t.\t-\nok\to\t-\nok\to/v1/content/f\t3\n" ∷
    reports "sidecar_with_two_spaces" (beside (right_digits ++ codes "  inventory.json")) "ok\t.\t-\nok\to\t-\nok\to/v1/content/f\t3\n" ∷
    reports "sidecar_with_tabs_and_line_ends" (beside (right_digits ++ codes "\t \tinventory.json \t\r\n\n")) "ok\t.\t-\nok\to\t-\nok\to/v1/content/f\t3\n" ∷
    -- Seen to refuse: a sidecar may have `*` before the name.
    reports "sidecar_with_star" (beside (right_digits ++ codes " *inventory.json\n")) "ok\t.\t-\nE061\to\tsha256\nok\to/v1/content/f\t3\n" ∷
    reports "sidecar_without_blank" (beside (right_digits ++ codes "inventory.json\n")) "ok\t.\t-\nE061\to\tsha256\nok\to/v1/content/f\t3\n" ∷
    reports "sidecar_with_blank_in_front" (beside (32 ∷ right_digits ++ codes " inventory.json\n")) "ok\t.\t-\nE061\to\tsha256\nok\to/v1/content/f\t3\n" ∷
    reports "sidecar_with_text_behind" (beside (right_digits ++ codes " inventory.json\nx")) "ok\t.\t-\nE061\to\tsha256\nok\to/v1/content/f\t3\n" ∷
    reports "sidecar_of_another_file" (beside (right_digits ++ codes " inventory.jsn\n")) "ok\t.\t-\nE061\to\tsha256\nok\to/v1/content/f\t3\n" ∷
    reports "empty_sidecar" (beside []) "ok\t.\t-\nE061\to\tsha256\nok\to/v1/content/f\t3\n" ∷
    reports "sidecar_with_a_digit_too_few" (beside (take 63 right_digits ++ codes " inventory.json\n")) "ok\t.\t-\nE061\to\tsha256\nok\to/v1/content/f\t3\n" ∷
    reports "sidecar_with_two_digits_too_few" (beside (take 62 right_digits ++ codes " inventory.json\n")) "ok\t.\t-\nE061\to\tsha256\nok\to/v1/content/f\t3\n" ∷
    reports "sidecar_with_a_digit_too_many" (beside (48 ∷ right_digits ++ codes " inventory.json\n")) "ok\t.\t-\nE061\to\tsha256\nok\to/v1/content/f\t3\n" ∷
    reports "sidecar_with_no_digit" (beside (103 ∷ take 63 right_digits ++ codes " inventory.json\n")) "ok\t.\t-\nE061\to\tsha256\nok\to/v1/content/f\t3\n" ∷
    -- 64 digits, a space, 14 letters, and as many line feeds as make 4,096 bytes
    reports "longest_sidecar" (beside (right_digits ++ codes " inventory.json" ++ replicate 4017 10)) "ok\t.\t-\nok\to\t-\nok\to/v1/content/f\t3\n" ∷
    -- 4,097 bytes
    reports "sidecar_too_long" (beside (right_digits ++ codes " inventory.json" ++ replicate 4018 10)) "ok\t.\t-\nE061\to\tsha256\nok\to/v1/content/f\t3\n" ∷
    [])
unfolding audit_on_literals
forms_of_sidecars = refl

sidecars_and_inventories : AllAre (
    -- Seen to refuse: the algorithm's own missing sidecar is reported even if no sidecar
    -- is there.
    reports "no_sidecar" (object (listing lists_f) (folder "o/v1" ∷ folder "o/v1/content" ∷ f_is_abc)) "ok\t.\t-\nE058\to\t-\nok\to/v1/content/f\t3\n" ∷
    -- a directory of its name is none, and is not allowed
    reports "sidecar_is_a_directory" (object (listing []) (folder "o/inventory.json.sha256" ∷ [])) "ok\t.\t-\nE058\to\t-\nE001\to/inventory.json.sha256\t-\n" ∷
    -- capitals are digits too
    reports "sidecar_in_capitals" (object_beside (codes abc_sha256_capitals ++ codes " inventory.json\n") (codes "abc") []) "ok\t.\t-\nE033\to\t-\n" ∷
    -- the sidecar's digest is told folded
    reports "wrong_sidecar_in_capitals" (object_beside (replicate 64 65 ++ codes " inventory.json\n") (codes "abc") [])
    "ok\t.\t-\nE060\to\tsha256 aaaaaaaaaaaaaaaaaaaaaaaaaaaaaaaaaaaaaaaaaaaaaaaaaaaaaaaaaaaaaaaa ba7816bf8f01cfea414140de5dae2223b00361a396177a9cb410ff61f20015ad\nE033\to\t-\n" ∷
    -- and nothing of the object's insides
    reports "inventory_that_is_no_json"
    (object_beside (codes "0000000000000000000000000000000000000000000000000000000000000000 inventory.json\n") (codes "abc")
    (folder "o/v1" ∷ folder "o/v1/content" ∷ f_is_abc))
    "ok\t.\t-\nE060\to\tsha256 0000000000000000000000000000000000000000000000000000000000000000 ba7816bf8f01cfea414140de5dae2223b00361a396177a9cb410ff61f20015ad\nE033\to\t-\n" ∷
    reports "both_sidecars_right" (object_beside (right_sidecar_256 (listing [])) (listing []) (bytes_at "o/inventory.json.sha512" (right_sidecar_512 (listing [])) ∷ [])) "ok\t.\t-\nok\to\t-\n" ∷
    reports "both_sidecars_without_form" (object_beside (codes "x") (listing []) (text_at "o/inventory.json.sha512" "y" ∷ [])) "ok\t.\t-\nE061\to\tsha256\nE061\to\tsha512\n" ∷
    -- Seen to refuse: the sidecar for sha512 before that for sha256.
    reports "both_sidecars_wrong" (object_beside (replicate 64 48 ++ codes " inventory.json") (codes "abc")
    (bytes_at "o/inventory.json.sha512" (replicate 128 48 ++ codes " inventory.json") ∷ []))
    "ok\t.\t-\nE060\to\tsha256 0000000000000000000000000000000000000000000000000000000000000000 ba7816bf8f01cfea414140de5dae2223b00361a396177a9cb410ff61f20015ad\nE060\to\tsha512 00000000000000000000000000000000000000000000000000000000000000000000000000000000000000000000000000000000000000000000000000000000 ddaf35a193617abacc417349ae20413112e6fa4e89a97ea20a9eeee64b55d39a2192992a274fc1a836ba3c23a3feebbd454d4423643ce80e2a9ac94fa54ca49f\nE033\to\t-\n" ∷
    [])
unfolding audit_on_literals
sidecars_and_inventories = refl

abbrev missing_sidecars_cases : List Case
missing_sidecars_cases =
    -- the sidecar that is there is the other algorithm's
    -- Seen to refuse: the algorithm's own missing sidecar is left out.
    reports_256 "sidecar_of_sha512_missing" (inventory "sha512" (codes "{}") (codes "{}")) [] "ok\t.\t-\nE058\to\tsha512\n" ∷
    reports_512 "sidecar_of_sha256_missing" (listing []) [] "ok\t.\t-\nE058\to\tsha256\n" ∷
    reports "other_sidecar_wrong_and_own_missing" (object_beside (codes "x") (inventory "sha512" (codes "{}") (codes "{}")) []) "ok\t.\t-\nE061\to\tsha256\nE058\to\tsha512\n" ∷
    -- before the lines of the keys
    -- Seen to refuse: the algorithm's own missing sidecar is left out.
    reports_256 "missing_sidecar_before_content_directory" (codes "{\"digestAlgorithm\":\"sha512\",\"contentDirectory\":\"a/b\"}") [] "ok\t.\t-\nE058\to\tsha512\nE017\to\ta/b\n" ∷
    -- no algorithm, so none of its own is missing
    reports_512 "unknown_algorithm_has_no_sidecar" (codes "{\"digestAlgorithm\":\"SHA256\"}") [] "ok\t.\t-\nE025\to\tSHA256\n" ∷
    reports "declaration_before_sidecar" (storage_root (folder "o" ∷ text_at "o/0=ocfl_object_1.1" "" ∷ bytes_at "o/inventory.json" (listing []) ∷ [])) "ok\t.\t-\nE007\to\t-\nE058\to\t-\n" ∷
    -- only sha256 and sha512 have sidecars
    reports_256 "sidecar_named_for_md5" (listing []) (text_at "o/inventory.json.md5" "" ∷ []) "ok\t.\t-\nok\to\t-\nE001\to/inventory.json.md5\t-\n" ∷
    []

missing_sidecars : AllAre missing_sidecars_cases
unfolding audit_on_literals
missing_sidecars = quickly missing_sidecars_cases refl

-- only sha256 and sha512 have sidecars
no_sidecar_for_others : (t : Text) → (sidecar_of Md5 t ≡ None) × (sidecar_of Sha1 t ≡ None) × (sidecar_of Sha512_256 t ≡ None)
no_sidecar_for_others t = (refl, refl, refl)

-- ---- JSON

abbrev inventories_without_json_cases : List Case
inventories_without_json_cases =
    reports_256 "inventory_is_an_array" (codes "[]") f_is_abc "ok\t.\t-\nE033\to\t-\n" ∷
    reports_256 "empty_inventory_file" [] [] "ok\t.\t-\nE033\to\t-\n" ∷
    reports "broken_json_without_sidecar" (object (codes "{\"digestAlgorithm\":") []) "ok\t.\t-\nE058\to\t-\nE033\to\t-\n" ∷
    reports_256 "text_behind_the_json" (listing [] ++ codes "x") [] "ok\t.\t-\nE033\to\t-\n" ∷
    []

inventories_without_json : AllAre inventories_without_json_cases
unfolding audit_on_literals
inventories_without_json = quickly inventories_without_json_cases refl

-- an inventory that lists `f`, with a `state` of these bytes
abbrev with_state : Text → Text
with_state state = inventory_with (key "digestAlgorithm" "\"sha256\"" ∷ (codes "\"manifest\":" ++ keys lists_f) ∷ (codes "\"state\":" ++ state) ∷ [])

abbrev values_in_json_cases : List Case
values_in_json_cases =
    reports_256 "byte_that_is_no_utf8" (with_state (34 ∷ 0xFF ∷ 34 ∷ [])) f_is_abc "ok\t.\t-\nE033\to\t-\n" ∷
    reports_256 "number_too_large" (with_state (codes "1e400")) [] "ok\t.\t-\nE033\to\t-\n" ∷
    reports_256 "lone_surrogate" (with_state (codes "\"\\ud800\"")) [] "ok\t.\t-\nE033\to\t-\n" ∷
    reports_256 "hundred_arrays" (with_state (replicate 100 91 ++ replicate 100 93)) f_is_abc "ok\t.\t-\nok\to\t-\nok\to/v1/content/f\t3\n" ∷
    -- with the inventory's own object 127
    reports_256 "deepest_nesting" (with_state (replicate 126 91 ++ replicate 126 93)) f_is_abc "ok\t.\t-\nok\to\t-\nok\to/v1/content/f\t3\n" ∷
    reports_256 "nesting_too_deep" (with_state (replicate 127 91 ++ replicate 127 93)) f_is_abc "ok\t.\t-\nE033\to\t-\n" ∷
    reports_256 "two_hundred_arrays" (with_state (replicate 200 91 ++ replicate 200 93)) f_is_abc "ok\t.\t-\nE033\to\t-\n" ∷
    []

values_in_json : AllAre values_in_json_cases
unfolding audit_on_literals
values_in_json = quickly values_in_json_cases refl

-- ---- the algorithm

abbrev inventory_algorithms_cases : List Case
inventory_algorithms_cases =
    -- Seen to refuse: E036 is answered as S03.
    reports "empty_object_as_inventory"
    (object_beside (codes "44136fa355b3678a1146ad16f7e8649e94fb4fc21fe77e8310c060f61caaff8a inventory.json") (codes "{}") []) "ok\t.\t-\nE036\to\tdigestAlgorithm\n" ∷
    reports_256 "algorithm_is_a_number" (inventory_with (key "digestAlgorithm" "7" ∷ key "manifest" "{}" ∷ [])) [] "ok\t.\t-\nS03\to\tdigestAlgorithm\n" ∷
    reports_256 "algorithm_in_capitals" (inventory "SHA256" (codes "{}") (codes "{}")) f_is_abc "ok\t.\t-\nE025\to\tSHA256\n" ∷
    reports_256 "algorithm_for_fixity_alone" (inventory "md5" (codes "{}") (codes "{}")) [] "ok\t.\t-\nE025\to\tmd5\n" ∷
    reports_256 "fifth_algorithm_is_no_inventory_algorithm" (inventory "sha512/256" (codes "{}") (codes "{}")) [] "ok\t.\t-\nE025\to\tsha512/256\n" ∷
    -- a detail is escaped as a name is; its slashes and spaces stay
    reports_256 "algorithm_with_odd_letters" (codes "{\"digestAlgorithm\":\"% /" ++ 0xC3 ∷ 0xA9 ∷ codes "\\t\"}") [] "ok\t.\t-\nE025\to\t%25 /%C3%A9%09\n" ∷
    -- the last value is kept
    reports_256 "algorithm_twice" (codes "{\"digestAlgorithm\":\"md5\",\"manifest\":{},\"digestAlgorithm\":\"sha256\"}") [] "ok\t.\t-\nok\to\t-\n" ∷
    []

inventory_algorithms : AllAre inventory_algorithms_cases
unfolding audit_on_literals
inventory_algorithms = quickly inventory_algorithms_cases refl

-- ---- the content directory

-- an inventory with a content directory of this JSON
abbrev with_content : String → Text
with_content d = inventory_with (key "digestAlgorithm" "\"sha256\"" ∷ key "contentDirectory" d ∷ key "manifest" "{}" ∷ [])

abbrev content_directories_cases : List Case
content_directories_cases =
    reports_256 "content_directory_with_slash" (with_content "\"a/b\"") [] "ok\t.\t-\nE017\to\ta/b\n" ∷
    reports_256 "content_directory_is_dots" (with_content "\"..\"") [] "ok\t.\t-\nE018\to\t..\n" ∷
    reports_256 "content_directory_is_a_dot" (with_content "\".\"") [] "ok\t.\t-\nE018\to\t.\n" ∷
    -- the slash is looked for first
    reports_256 "content_directory_of_dots_and_slash" (with_content "\"../\"") [] "ok\t.\t-\nE017\to\t../\n" ∷
    reports_256 "content_directory_is_empty" (with_content "\"\"") [] "ok\t.\t-\nS03\to\tcontentDirectory\n" ∷
    reports_256 "content_directory_is_a_number" (with_content "7") [] "ok\t.\t-\nS03\to\tcontentDirectory\n" ∷
    []

content_directories : AllAre content_directories_cases
unfolding audit_on_literals
content_directories = quickly content_directories_cases refl

-- ---- the manifest and the fixity block as values

-- Seen to refuse: S07 is a finding.
unsupported_fixity_is_no_finding : found (audit Nothing (sha256_object (listing_with lists_f (codes "{\"blake2b-512\":7}")) f_is_abc) []) ≡ false
unfolding audit_on_literals
unsupported_fixity_is_no_finding = refl

abbrev manifests_and_fixity_blocks_cases : List Case
manifests_and_fixity_blocks_cases =
    reports_256 "no_manifest" (inventory_with (key "digestAlgorithm" "\"sha256\"" ∷ key "fixity" "7" ∷ [])) [] "ok\t.\t-\nE041\to\tmanifest\n" ∷
    reports_256 "content_directory_before_manifest" (codes "{\"digestAlgorithm\":\"sha256\",\"contentDirectory\":\"..\"}") [] "ok\t.\t-\nE018\to\t..\n" ∷
    reports_256 "path_in_place_of_a_list" (listing (key (abc Sha256) "\"v1/content/f\"" ∷ [])) f_is_abc "ok\t.\t-\nS03\to\tmanifest\n" ∷
    reports_256 "manifest_is_an_array" (inventory "sha256" (codes "[]") (codes "{}")) [] "ok\t.\t-\nS03\to\tmanifest\n" ∷
    reports_256 "number_among_the_paths" (listing (key (abc Sha256) "[\"v1/content/f\",7]" ∷ [])) f_is_abc "ok\t.\t-\nS03\to\tmanifest\n" ∷
    reports_256 "no_fixity_block" (codes "{\"digestAlgorithm\":\"sha256\",\"manifest\":{}}") [] "ok\t.\t-\nok\to\t-\n" ∷
    reports_256 "fixity_is_an_array" (listing_with [] (codes "[]")) [] "ok\t.\t-\nS03\to\tfixity\n" ∷
    reports_256 "supported_fixity_is_a_number" (listing_with [] (codes "{\"md5\":7}")) [] "ok\t.\t-\nS03\to\tfixity\n" ∷
    reports_256 "fifth_fixity_is_a_number" (listing_with lists_f (codes "{\"sha512/256\":7}")) f_is_abc "ok\t.\t-\nS03\to\tfixity\n" ∷
    -- a note alone; its value is not examined
    reports_256 "unsupported_fixity" (listing_with lists_f (codes "{\"blake2b-512\":7}")) f_is_abc "ok\t.\t-\nS07\to\tblake2b-512\nok\to/v1/content/f\t3\n" ∷
    -- ascending; capitals count in the name of an algorithm
    reports_256 "two_unsupported_fixities" (listing_with lists_f (codes "{\"sha3\":[],\"blake2b-512\":{\"x\":[\"/x\"]},\"MD5\":7}")) f_is_abc
    "ok\t.\t-\nS07\to\tMD5\nS07\to\tblake2b-512\nS07\to\tsha3\nok\to/v1/content/f\t3\n" ∷
    []

manifests_and_fixity_blocks : AllAre manifests_and_fixity_blocks_cases
unfolding audit_on_literals
manifests_and_fixity_blocks = quickly manifests_and_fixity_blocks_cases refl

-- ascending of itself, in whatever order a reading has the keys; a supported one is left out
-- Seen to refuse: unsupported algorithms are not in order.
unsupported_keys_in_another_order : unsupported_in (member (codes "sha3") null (member (codes "md5") null (member (codes "blake2b-512") null no_members))) ≡ codes "blake2b-512" ∷ codes "sha3" ∷ []
unsupported_keys_in_another_order = refl
