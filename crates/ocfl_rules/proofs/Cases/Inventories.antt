-- Worked cases: an audit that also checks the inventories of version directories. Digests are those of
-- `sha256sum` and `sha512sum`.
use Rattle.std.proofs.Common.{◌≡◌, List, [], ◌∷◌, ◌++◌, codes, refl, true, false, map, filter, Some, None}
use Prim.Native.String.{String}
use Rattle.ocfl_tree.specs.{Place.{Text}, StorageRoot.{StorageRoot}}
use Rattle.ocfl_tree.specs.declared.store.Opening.{Opening}
use Rattle.ocfl_report.specs.Text.{text}
use Rattle.ocfl_report.specs.declared.code.Code.TheVariants.{Clean, E015, E023, E036, E058, E060, E061, E064, S04, S08, S09}
use Rattle.ocfl_report.specs.declared.further.Further.TheVariants.{Inventories}
use Rattle.ocfl_inventory.specs.Note.{note, Note, plain}
use Rattle.ocfl_rules.specs.Inventories.{notes, cost, is_hashed}
use Rattle.ocfl_rules.specs.{Audit.{audit}, Trail.{is_meta, content_trail, unread_of}, Due.{item_places, hashed_among}}
use Rattle.ocfl_rules.proofs.Cases.OnLiterals.{audit_on_literals}
use Rattle.ocfl_rules.proofs.Cases.Trees.{Case, AllAre, case, reports, place, text_at, bytes_at, folder, link, object, object_beside, item, the_root, right}

-- ---- inventories of 54 bytes, and their digests

abbrev naming : String → Text
naming head = codes "{\"digestAlgorithm\":\"sha256\",\"head\":\"" ++ codes head ++ codes "\",\"manifest\":{}}"

-- of the one that names `v1`, of the one that names `v2`, of the first with `w1` for `v1`, and of
-- the first without its last byte
abbrev first_256 : String
first_256 = "1e627d990f5696a2c4d8f68b01778d3a82cbb4c793b1a6c269235432ddabbed9"

abbrev second_256 : String
second_256 = "5aae4bf052d22be5d2840c5cf7ef5ae539183f222606b54201e8b297ec6924dd"

abbrev flipped_256 : String
flipped_256 = "0a89d02e2ae3f9ff9ec610469a950357c272693c4f67132ba549f9b521aeac7c"

abbrev cut_256 : String
cut_256 = "e38f8e028426ff012aa3f5435c46ba77dcbbe73fa046c544289d50e3cf2de383"

abbrev first_512 : String
first_512 = "17243934ba1b3f31de3b3a74c834ec36b9b97d7c4e64594360cb26e1691e9afa901028a4a6f8eba16cdc82048ce0268842cad7ca7a99560655c8675a9b3b2a25"

abbrev flipped_512 : String
flipped_512 = "2401a0e93677e3a5186d31bccf6aa3493d6959a841ddca8fe245d44530e8a47c639fe101326f7e656dc1206afa1f70328c87cd200f6261fe5f294663c269e2f2"

abbrev first_flipped : Text
first_flipped = naming "w1"

abbrev first_cut : Text
first_cut = codes "{\"digestAlgorithm\":\"sha256\",\"head\":\"v1\",\"manifest\":{}"

-- ---- trees

-- the text of a sidecar by its digits
abbrev beside : String → Text
beside digits = codes digits ++ codes " inventory.json\n"

-- an object whose root inventory names `v1`, and what is in the directory of that version
abbrev first : StorageRoot → StorageRoot
first more = object (naming "v1") (folder "o/v1" ∷ more)

-- there an inventory of these bytes, with this sidecar
abbrev first_beside : Text → Text → StorageRoot
first_beside sidecar bytes = first (bytes_at "o/v1/inventory.json" bytes ∷ bytes_at "o/v1/inventory.json.sha256" sidecar ∷ [])

-- two versions, each with its inventory and a right sidecar
abbrev both_versions : StorageRoot
both_versions =
    folder "o/v1" ∷ bytes_at "o/v1/inventory.json" (naming "v1") ∷ bytes_at "o/v1/inventory.json.sha256" (beside first_256)
    ∷ folder "o/v2" ∷ bytes_at "o/v2/inventory.json" (naming "v2") ∷ bytes_at "o/v2/inventory.json.sha256" (beside second_256) ∷ []

abbrev two_versions : Text → StorageRoot
two_versions inventory = object inventory both_versions

-- ---- lines of a place

-- a tree and a place in it; the lines of that place
pub record Said : Type 0 where
  pub name : String
  pub root : StorageRoot
  pub place : String
  pub lines : List Note

abbrev said : String → StorageRoot → String → List Note → Said
said name root p lines = record { name = name; root = root; place = p; lines = lines }

abbrev AllSay : List Said → Type 0
AllSay cases = map (λ c. notes Inventories c.root None (place c.place)) cases ≡ map (λ c. c.lines) cases

-- of the inventory in `v1`
abbrev in_first : String → StorageRoot → List Note → Said
in_first name root lines = said name root "o/v1/inventory.json" lines

right_and_damaged : AllSay (
    in_first "right" (first_beside (beside first_256) (naming "v1")) (note Clean (codes "54") ∷ []) ∷
    in_first "flipped" (first_beside (beside first_256) first_flipped)
    (note E060 (codes "sha256 1e627d990f5696a2c4d8f68b01778d3a82cbb4c793b1a6c269235432ddabbed9 0a89d02e2ae3f9ff9ec610469a950357c272693c4f67132ba549f9b521aeac7c")
    ∷ note E064 (codes "sha256 1e627d990f5696a2c4d8f68b01778d3a82cbb4c793b1a6c269235432ddabbed9 0a89d02e2ae3f9ff9ec610469a950357c272693c4f67132ba549f9b521aeac7c") ∷ []) ∷
    in_first "cut" (first_beside (beside first_256) first_cut)
    (note E060 (codes "sha256 1e627d990f5696a2c4d8f68b01778d3a82cbb4c793b1a6c269235432ddabbed9 e38f8e028426ff012aa3f5435c46ba77dcbbe73fa046c544289d50e3cf2de383")
    ∷ note E064 (codes "sha256 1e627d990f5696a2c4d8f68b01778d3a82cbb4c793b1a6c269235432ddabbed9 e38f8e028426ff012aa3f5435c46ba77dcbbe73fa046c544289d50e3cf2de383") ∷ []) ∷
    -- forged with its sidecar: the root inventory tells
    in_first "forged_with_its_sidecar" (first_beside (beside flipped_256) first_flipped)
    (note E064 (codes "sha256 1e627d990f5696a2c4d8f68b01778d3a82cbb4c793b1a6c269235432ddabbed9 0a89d02e2ae3f9ff9ec610469a950357c272693c4f67132ba549f9b521aeac7c") ∷ []) ∷
    -- and if it is the sidecar that is wrong, the root inventory says nothing
    in_first "sidecar_of_another" (first_beside (beside flipped_256) (naming "v1"))
    (note E060 (codes "sha256 0a89d02e2ae3f9ff9ec610469a950357c272693c4f67132ba549f9b521aeac7c 1e627d990f5696a2c4d8f68b01778d3a82cbb4c793b1a6c269235432ddabbed9") ∷ []) ∷
    [])
unfolding audit_on_literals
right_and_damaged = refl

sidecars_of_versions : AllSay (
    in_first "no_sidecar" (first (bytes_at "o/v1/inventory.json" (naming "v1") ∷ [])) (plain E058 ∷ []) ∷
    -- it is hashed all the same
    in_first "flipped_without_sidecar" (first (bytes_at "o/v1/inventory.json" first_flipped ∷ []))
    (plain E058 ∷ note E064 (codes "sha256 1e627d990f5696a2c4d8f68b01778d3a82cbb4c793b1a6c269235432ddabbed9 0a89d02e2ae3f9ff9ec610469a950357c272693c4f67132ba549f9b521aeac7c") ∷ []) ∷
    in_first "the_other_algorithm" (first (bytes_at "o/v1/inventory.json" (naming "v1") ∷ bytes_at "o/v1/inventory.json.sha512" (beside first_512) ∷ [])) (note Clean (codes "54") ∷ []) ∷
    in_first "flipped_beside_the_other_algorithm" (first (bytes_at "o/v1/inventory.json" first_flipped ∷ bytes_at "o/v1/inventory.json.sha512" (beside first_512) ∷ []))
    (note E060 (codes "sha512 17243934ba1b3f31de3b3a74c834ec36b9b97d7c4e64594360cb26e1691e9afa901028a4a6f8eba16cdc82048ce0268842cad7ca7a99560655c8675a9b3b2a25 2401a0e93677e3a5186d31bccf6aa3493d6959a841ddca8fe245d44530e8a47c639fe101326f7e656dc1206afa1f70328c87cd200f6261fe5f294663c269e2f2")
    ∷ note E064 (codes "sha256 1e627d990f5696a2c4d8f68b01778d3a82cbb4c793b1a6c269235432ddabbed9 0a89d02e2ae3f9ff9ec610469a950357c272693c4f67132ba549f9b521aeac7c") ∷ []) ∷
    in_first "sidecar_not_of_the_form" (first_beside (codes first_256 ++ codes " *inventory.json\n") (naming "v1")) (note E061 (codes "sha256") ∷ []) ∷
    -- what is not of the form comes first, and the other sidecar counts
    in_first "one_of_two_not_of_the_form"
    (first (bytes_at "o/v1/inventory.json" first_flipped ∷ bytes_at "o/v1/inventory.json.sha256" (beside first_256) ∷ text_at "o/v1/inventory.json.sha512" "x" ∷ []))
    (note E061 (codes "sha512")
    ∷ note E060 (codes "sha256 1e627d990f5696a2c4d8f68b01778d3a82cbb4c793b1a6c269235432ddabbed9 0a89d02e2ae3f9ff9ec610469a950357c272693c4f67132ba549f9b521aeac7c")
    ∷ note E064 (codes "sha256 1e627d990f5696a2c4d8f68b01778d3a82cbb4c793b1a6c269235432ddabbed9 0a89d02e2ae3f9ff9ec610469a950357c272693c4f67132ba549f9b521aeac7c") ∷ []) ∷
    -- a directory of its name is none
    in_first "sidecar_is_a_directory" (first (bytes_at "o/v1/inventory.json" (naming "v1") ∷ folder "o/v1/inventory.json.sha256" ∷ [])) (plain E058 ∷ []) ∷
    [])
unfolding audit_on_literals
sidecars_of_versions = refl

-- ---- the version that the root inventory names

root_inventory_and_versions : AllSay (
    -- the older one has its own digest, which is not the root inventory's
    said "older_version" (two_versions (naming "v2")) "o/v1/inventory.json" (note Clean (codes "54") ∷ []) ∷
    said "newest_version" (two_versions (naming "v2")) "o/v2/inventory.json" (note Clean (codes "54") ∷ []) ∷
    -- the inventory of before, put back: it is that of the version that it names
    said "first_version_put_back" (two_versions (naming "v1")) "o/v1/inventory.json" (note Clean (codes "54") ∷ []) ∷
    said "newest_version_put_back" (two_versions (naming "v1")) "o/v2/inventory.json" (note Clean (codes "54") ∷ []) ∷
    -- forged with its sidecar: the version that it names tells
    said "root_inventory_forged" (object (codes "{\"digestAlgorithm\":\"sha256\",\"head\":\"v1\",\"manifest\":{} }")
    (folder "o/v1" ∷ bytes_at "o/v1/inventory.json" (naming "v1") ∷ bytes_at "o/v1/inventory.json.sha256" (beside first_256) ∷ [])) "o/v1/inventory.json"
    (note E064 (codes "sha256 061ffac81657165d57316cb8e9e233d317624a7c8410e7372005891bac51101e 1e627d990f5696a2c4d8f68b01778d3a82cbb4c793b1a6c269235432ddabbed9") ∷ []) ∷
    -- a head that names no directory, and one that is no text
    said "head_names_no_directory" (object (naming "v3") (folder "o/v1" ∷ bytes_at "o/v1/inventory.json" (naming "v1") ∷ bytes_at "o/v1/inventory.json.sha256" (beside first_256) ∷ []))
    "o/v1/inventory.json" (note Clean (codes "54") ∷ []) ∷
    said "nothing_in_that_directory" (object (naming "v3") (folder "o/v1" ∷ [])) "o/v3/inventory.json" [] ∷
    said "head_is_no_text" (object (codes "{\"digestAlgorithm\":\"sha256\",\"head\":1,\"manifest\":{}}")
    (folder "o/v1" ∷ bytes_at "o/v1/inventory.json" (naming "v1") ∷ bytes_at "o/v1/inventory.json.sha256" (beside first_256) ∷ [])) "o/v1/inventory.json" (note Clean (codes "54") ∷ []) ∷
    [])
unfolding audit_on_literals
root_inventory_and_versions = refl

-- ---- the head

what_the_root_inventory_is : AllSay (
    said "head_of_the_second" (object_beside (beside second_256) (naming "v2") []) "o" (plain Clean ∷ note S09 (codes "sha256 5aae4bf052d22be5d2840c5cf7ef5ae539183f222606b54201e8b297ec6924dd v2") ∷ []) ∷
    -- put back: a lower head
    said "head_of_the_first" (object_beside (beside first_256) (naming "v1") []) "o" (plain Clean ∷ note S09 (codes "sha256 1e627d990f5696a2c4d8f68b01778d3a82cbb4c793b1a6c269235432ddabbed9 v1") ∷ []) ∷
    said "head_without_a_version" (object (codes "{\"digestAlgorithm\":\"sha256\",\"head\":1,\"manifest\":{}}") []) "o" (plain E058 ∷ note S09 (codes "sha256 3975a0a16669db31a4b2fb16ec4480bce5bfb6256bf5fa763ac2f33246a07821") ∷ []) ∷
    said "by_the_algorithm_of_the_inventory" (object (codes "{\"digestAlgorithm\":\"sha512\",\"head\":\"v1\",\"manifest\":{}}") []) "o"
    (plain E058 ∷ note S09 (codes "sha512 7103de30520e10b9601bd805dd5f39009199c3bd277902fe5ac6f09d48409c2fa73cfd2e5c7e7b32eb842f162f87a22fb2135bb520bb554bb6e6c4c098063290 v1") ∷ []) ∷
    -- of a version that is not there, and of none
    said "head_names_no_directory" (object (naming "v3") []) "o" (plain E058 ∷ note S09 (codes "sha256 0d695294f625ab3a87c7dfeadd955b89836d22c1c74b20e37235130ebb38e221 v3") ∷ []) ∷
    said "no_head" (object (codes "{\"digestAlgorithm\":\"sha256\",\"manifest\":{}}") []) "o" (plain E058 ∷ note S09 (codes "sha256 85ca1ca45e2e9948310ca0c4cf2671540b5119e4a1eb687cd4d8a958d93e89b2") ∷ []) ∷
    -- none if the head stops
    said "head_stops" (object (codes "{}") []) "o" (plain E058 ∷ note E036 (codes "digestAlgorithm") ∷ []) ∷
    [])
unfolding audit_on_literals
what_the_root_inventory_is = refl

-- ---- where there is no such inventory

other_places : AllSay (
    in_first "version_without_inventory" (first []) [] ∷
    said "its_directory" (first []) "o/v1" [] ∷
    in_first "sidecar_alone" (first (bytes_at "o/v1/inventory.json.sha256" (beside first_256) ∷ [])) [] ∷
    said "the_sidecar_alone" (first (bytes_at "o/v1/inventory.json.sha256" (beside first_256) ∷ [])) "o/v1/inventory.json.sha256" [] ∷
    in_first "inventory_is_a_directory" (first (folder "o/v1/inventory.json" ∷ [])) [] ∷
    in_first "inventory_is_a_link" (first (link "o/v1/inventory.json" ∷ [])) (plain S04 ∷ []) ∷
    said "within_content" (first (folder "o/v1/content" ∷ bytes_at "o/v1/content/inventory.json" (naming "v1") ∷ [])) "o/v1/content/inventory.json" (plain E023 ∷ []) ∷
    said "another_directory" (object (naming "v1") (folder "o/w1" ∷ bytes_at "o/w1/inventory.json" (naming "v1") ∷ [])) "o/w1/inventory.json" [] ∷
    said "where_the_head_stops" (object (codes "{}") (folder "o/v1" ∷ bytes_at "o/v1/inventory.json" (naming "v1") ∷ [])) "o/v1/inventory.json" [] ∷
    said "of_the_root" (object (naming "v1") []) "o/inventory.json" [] ∷
    [])
unfolding audit_on_literals
other_places = refl

-- ---- an inventory that could not be read, and one that is not opened

abbrev form_and_flipped : StorageRoot
form_and_flipped = first_beside (codes "x") first_flipped

unread_inventory : (notes Inventories (first_beside (beside first_256) first_flipped) (Some 3) (place "o/v1/inventory.json") ≡ plain S08 ∷ [])
    × (notes Inventories form_and_flipped (Some 0) (place "o/v1/inventory.json") ≡ note E061 (codes "sha256") ∷ plain S08 ∷ [])
    × (cost Inventories form_and_flipped (Some 3) (place "o/v1/inventory.json") ≡ 4)
unfolding audit_on_literals
unread_inventory = (refl, refl, refl)

-- no digest is expected of it, so it is not opened
abbrev unexpected : StorageRoot
unexpected = object (naming "v2") (folder "o/v1" ∷ bytes_at "o/v1/inventory.json" first_flipped ∷ [])

unopened_inventory : (notes Inventories unexpected (Some 3) (place "o/v1/inventory.json") ≡ plain E058 ∷ [])
    × (is_hashed Inventories unexpected (place "o/v1/inventory.json") ≡ false) × (cost Inventories unexpected (Some 3) (place "o/v1/inventory.json") ≡ 0)
unfolding audit_on_literals
unopened_inventory = (refl, refl, refl)

-- ---- a whole audit

abbrev whole_object : StorageRoot
whole_object = object_beside (beside second_256) (naming "v2") (
    folder "o/v1" ∷ bytes_at "o/v1/inventory.json" (naming "v1") ∷ bytes_at "o/v1/inventory.json.sha256" (beside first_256) ∷ text_at "o/v1/note" "x"
    ∷ folder "o/v2" ∷ bytes_at "o/v2/inventory.json" first_flipped ∷ bytes_at "o/v2/inventory.json.sha256" (beside second_256) ∷ folder "o/v3" ∷ [])

audit_of_versions : audit Inventories whole_object []
    ≡ the_root ∷ item "o" 0 (plain Clean ∷ note S09 (codes "sha256 5aae4bf052d22be5d2840c5cf7ef5ae539183f222606b54201e8b297ec6924dd v2") ∷ [])
    ∷ right "o/v1/inventory.json" 55 "54" ∷ item "o/v1/note" 0 (plain E015 ∷ [])
    ∷ item "o/v2/inventory.json" 55 (
    note E060 (codes "sha256 5aae4bf052d22be5d2840c5cf7ef5ae539183f222606b54201e8b297ec6924dd 0a89d02e2ae3f9ff9ec610469a950357c272693c4f67132ba549f9b521aeac7c")
    ∷ note E064 (codes "sha256 5aae4bf052d22be5d2840c5cf7ef5ae539183f222606b54201e8b297ec6924dd 0a89d02e2ae3f9ff9ec610469a950357c272693c4f67132ba549f9b521aeac7c") ∷ []) ∷ []
unfolding audit_on_literals
audit_of_versions = refl

files_of_versions : hashed_among Inventories whole_object (item_places Inventories whole_object) ≡ place "o/v1/inventory.json" ∷ place "o/v2/inventory.json" ∷ []
unfolding audit_on_literals hashed_among item_places
files_of_versions = refl

-- ---- damages of root inventory and sidecar together, which nothing else shows

-- the inventory that names `v2`, with a blank more, and its digest
abbrev forged : Text
forged = codes "{\"digestAlgorithm\":\"sha256\",\"head\":\"v2\",\"manifest\":{} }"

abbrev forged_256 : String
forged_256 = "97a6b98ae0a3d5fa5389b813d130e968ef0f435b62f96a09cd41540bc8979b0d"

-- two versions, and a root inventory with its sidecar
abbrev two_beside : Text → Text → StorageRoot
two_beside sidecar inventory = object_beside sidecar inventory both_versions

-- the text of the audit of a tree
abbrev with_inventories : String → StorageRoot → String → Case
with_inventories name root t = case name (text (audit Inventories root [])) (codes t)

damages_with_the_sidecar : AllAre (
    with_inventories "undamaged" (two_beside (beside second_256) (naming "v2"))
    "ok\t.\t-\nok\to\t-\nS09\to\tsha256 5aae4bf052d22be5d2840c5cf7ef5ae539183f222606b54201e8b297ec6924dd v2\nok\to/v1/inventory.json\t54\nok\to/v2/inventory.json\t54\n" ∷
    -- those of the version before, put back: no finding, but a lower head
    with_inventories "rollback" (two_beside (beside first_256) (naming "v1"))
    "ok\t.\t-\nok\to\t-\nS09\to\tsha256 1e627d990f5696a2c4d8f68b01778d3a82cbb4c793b1a6c269235432ddabbed9 v1\nok\to/v1/inventory.json\t54\nok\to/v2/inventory.json\t54\n" ∷
    reports "rollback_of_each_audit" (two_beside (beside first_256) (naming "v1")) "ok\t.\t-\nok\to\t-\n" ∷
    -- forged: the inventory of the version that the head names tells
    with_inventories "forged" (two_beside (beside forged_256) forged)
    "ok\t.\t-\nok\to\t-\nS09\to\tsha256 97a6b98ae0a3d5fa5389b813d130e968ef0f435b62f96a09cd41540bc8979b0d v2\nok\to/v1/inventory.json\t54\nE064\to/v2/inventory.json\tsha256 97a6b98ae0a3d5fa5389b813d130e968ef0f435b62f96a09cd41540bc8979b0d 5aae4bf052d22be5d2840c5cf7ef5ae539183f222606b54201e8b297ec6924dd\n" ∷
    reports "forged_of_each_audit" (two_beside (beside forged_256) forged) "ok\t.\t-\nok\to\t-\n" ∷
    [])
unfolding audit_on_literals
damages_with_the_sidecar = refl

-- ---- metadata, and what openings show

metadata_with_versions : filter (is_meta Inventories whole_object) (map (λ e. e.0) whole_object)
    ≡ place "0=ocfl_1.1" ∷ place "o/0=ocfl_object_1.1" ∷ place "o/inventory.json" ∷ place "o/inventory.json.sha256" ∷ place "o/v1/inventory.json.sha256" ∷ place "o/v2/inventory.json.sha256" ∷ []
unfolding audit_on_literals
metadata_with_versions = refl

-- by its name, whether or not it is there; in a version directory alone
metadata_by_name_with_versions : map (is_meta Inventories whole_object)
    (place "o/v3/inventory.json.sha512" ∷ place "o/v1/inventory.json.md5" ∷ place "o/w1/inventory.json.sha256" ∷ place "o/v1/content/inventory.json.sha256" ∷ place "p/v1/inventory.json.sha256" ∷ [])
    ≡ true ∷ false ∷ false ∷ false ∷ false ∷ []
unfolding audit_on_literals
metadata_by_name_with_versions = refl

-- each failed, with two bytes
abbrev failed : String → Opening
failed p = record { place = place p; given = 2; failed = true }

openings_of_versions : (content_trail Inventories whole_object (failed "o/v1/inventory.json.sha256" ∷ failed "o/v1/inventory.json" ∷ []) ≡ place "o/v1/inventory.json" ∷ [])
    × (unread_of Inventories whole_object (failed "o/v1/inventory.json.sha256" ∷ failed "o/v1/inventory.json" ∷ []) ≡ (place "o/v1/inventory.json", 2) ∷ [])
unfolding audit_on_literals
openings_of_versions = (refl, refl)
