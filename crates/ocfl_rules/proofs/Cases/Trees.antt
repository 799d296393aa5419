-- Words to write the trees of worked cases with, and the digests that they name.
use Rattle.std.proofs.Common.{◌≡◌, ◌==◌, ℕ, List, [], ◌∷◌, ◌++◌, codes, map, refl, ◌∙◌}
use Rattle.std.specs.List.{join_with_byte, slice_split}
use Prim.Native.String.{String}
use Rattle.ocfl_tree.specs.{Place.{Text, Place}, StorageRoot.{StorageRoot, Leaf, file, dir, other}}
use Rattle.ocfl_report.specs.{Line.{Item}, Text.{text}, declared.code.Code.TheVariants.{Clean}}
use Rattle.ocfl_report.specs.declared.further.Further.TheVariants.{Nothing}
use Rattle.ocfl_inventory.specs.Note.{note, Note, plain, lines_at}
use Rattle.ocfl_digest.specs.declared.algorithm.Algorithm.{Algorithm}
use Rattle.ocfl_digest.specs.declared.algorithm.Algorithm.TheVariants.{Md5, Sha1, Sha256, Sha512, Sha512_256}
use Rattle.ocfl_rules.specs.{Head.{digest_of}, Audit.{audit}}

-- a case by its name: a text, and what it is to be; and a text that it is and that takes less to
-- compute
pub record Case : Type 0 where
  pub name : String
  pub shown : Text
  pub quick : Text
  pub is_quick : shown ≡ quick
  pub wanted : Text

-- each case of a table has the text that is wanted
abbrev pub AllAre : List Case → Type 0
AllAre cases = map (λ c. c.shown) cases ≡ map (λ c. c.wanted) cases

-- the same of the texts that take less
abbrev pub AllAreQuick : List Case → Type 0
AllAreQuick cases = map (λ c. c.quick) cases ≡ map (λ c. c.wanted) cases

quick_texts : (cases : List Case) → map (λ c. c.shown) cases ≡ map (λ c. c.quick) cases
quick_texts [] = refl
quick_texts (c ∷ cases) = λ i. c.is_quick i ∷ quick_texts cases i

pub quickly : (cases : List Case) → AllAreQuick cases → AllAre cases
quickly cases e = quick_texts cases ∙ e

-- a case whose text is computed as it is
abbrev pub case : String → Text → Text → Case
case name shown wanted = record { name = name; shown = shown; quick = shown; is_quick = refl; wanted = wanted }

-- the text of the audit of a tree in which each file can be read
abbrev pub reports : String → StorageRoot → String → Case
reports name root t = case name (text (audit Nothing root [])) (codes t)

-- ---- what is in a tree

-- a place by its text
abbrev pub place : String → Place
place t = slice_split (λ b. b == 47) (codes t)

abbrev pub bytes_at : String → Text → Place × Leaf
bytes_at p bytes = (place p, file bytes)

abbrev pub text_at : String → String → Place × Leaf
text_at p t = bytes_at p (codes t)

abbrev pub folder : String → Place × Leaf
folder p = (place p, dir)

abbrev pub link : String → Place × Leaf
link p = (place p, other)

-- a declared storage root, and what else is in it
abbrev pub storage_root : StorageRoot → StorageRoot
storage_root more = text_at "0=ocfl_1.1" "ocfl_1.1\n" ∷ more

-- a storage root with an object `o`: its declaration, and its inventory of these bytes
abbrev pub object : Text → StorageRoot → StorageRoot
object inventory more = storage_root (folder "o" ∷ text_at "o/0=ocfl_object_1.1" "ocfl_object_1.1\n" ∷ bytes_at "o/inventory.json" inventory ∷ more)

-- the same with a sidecar for sha256
abbrev pub object_beside : Text → Text → StorageRoot → StorageRoot
object_beside sidecar inventory more = object inventory (bytes_at "o/inventory.json.sha256" sidecar ∷ more)

-- the right ones
abbrev pub right_sidecar_256 : Text → Text
right_sidecar_256 inventory = digest_of Sha256 inventory ++ codes " inventory.json\n"

abbrev pub right_sidecar_512 : Text → Text
right_sidecar_512 inventory = digest_of Sha512 inventory ++ codes " inventory.json\n"

-- an object with a right sidecar, and what is in its first version
abbrev pub sha256_object : Text → StorageRoot → StorageRoot
sha256_object inventory more = object_beside (right_sidecar_256 inventory) inventory (folder "o/v1" ∷ folder "o/v1/content" ∷ more)

abbrev pub sha512_object : Text → StorageRoot → StorageRoot
sha512_object inventory more = object inventory (bytes_at "o/inventory.json.sha512" (right_sidecar_512 inventory) ∷ folder "o/v1" ∷ folder "o/v1/content" ∷ more)

-- at p an object like those, with a right sidecar for sha256
abbrev pub object_in : String → Text → StorageRoot → StorageRoot
object_in p inventory more =
    folder p ∷ (place p ++ codes "0=ocfl_object_1.1" ∷ [], file (codes "ocfl_object_1.1\n")) ∷
    (place p ++ codes "inventory.json" ∷ [], file inventory) ∷
    (place p ++ codes "inventory.json.sha256" ∷ [], file (right_sidecar_256 inventory)) ∷ more

-- a content file `f` of three bytes
abbrev pub f_is_abc : StorageRoot
f_is_abc = text_at "o/v1/content/f" "abc" ∷ []

-- ---- digests (FIPS 180-4, RFC 1321)

-- the digests of the bytes `abc` and of no bytes, as an inventory writes them
abbrev digests : Algorithm → String × String
digests Md5 = ("900150983cd24fb0d6963f7d28e17f72", "d41d8cd98f00b204e9800998ecf8427e")
digests Sha1 = ("a9993e364706816aba3e25717850c26c9cd0d89d", "da39a3ee5e6b4b0d3255bfef95601890afd80709")
digests Sha256 = ("ba7816bf8f01cfea414140de5dae2223b00361a396177a9cb410ff61f20015ad", "e3b0c44298fc1c149afbf4c8996fb92427ae41e4649b934ca495991b7852b855")
digests Sha512 = ("ddaf35a193617abacc417349ae20413112e6fa4e89a97ea20a9eeee64b55d39a2192992a274fc1a836ba3c23a3feebbd454d4423643ce80e2a9ac94fa54ca49f", "cf83e1357eefb8bdf1542850d66d8007d620e4050b5715dc83f4a921d36ce9ce47d0d13c5d85f2b0ff8318d2877eec2f63b931bd47417a81a538327af927da3e")
digests Sha512_256 = ("53048e2681941ef99b2e29b76b4c7dabe4c2d0c634fc6d46e0e2f13107e7af23", "c672b8d1ef56ed28ab87c3622c5114069bdd3ad7b8f9737498d0c01ecef0967a")

abbrev pub abc : Algorithm → String
abc a = (digests a).0

abbrev pub no_bytes : Algorithm → String
no_bytes a = (digests a).1

-- and some in capitals
abbrev pub abc_sha256_capitals : String
abc_sha256_capitals = "BA7816BF8F01CFEA414140DE5DAE2223B00361A396177A9CB410FF61F20015AD"

abbrev pub abc_sha512_capitals : String
abc_sha512_capitals = "DDAF35A193617ABACC417349AE20413112E6FA4E89A97EA20A9EEEE64B55D39A2192992A274FC1A836BA3C23A3FEEBBD454D4423643CE80E2A9AC94FA54CA49F"

abbrev pub no_bytes_sha256_capitals : String
no_bytes_sha256_capitals = "E3B0C44298FC1C149AFBF4C8996FB92427AE41E4649B934CA495991B7852B855"

-- ---- inventories

-- a key with its value
abbrev pub key : String → String → Text
key k value = 34 ∷ codes k ++ codes "\":" ++ codes value

-- keys with their values, as an object
abbrev pub keys : List Text → Text
keys ms = 123 ∷ join_with_byte 44 ms ++ 125 ∷ []

-- an inventory by its algorithm, its manifest and its fixity block
abbrev pub inventory : String → Text → Text → Text
inventory algorithm manifest fixity =
    codes "{\"id\":\"o\",\"type\":\"https://ocfl.io/1.1/spec/#inventory\",\"digestAlgorithm\":\"" ++ codes algorithm
    ++ codes "\",\"head\":\"v1\",\"manifest\":" ++ manifest ++ codes ",\"versions\":{},\"fixity\":" ++ fixity ++ codes "}"

-- one with these keys beside those that are not looked at
abbrev pub inventory_with : List Text → Text
inventory_with members = keys (key "id" "\"o\"" ∷ key "type" "\"https://ocfl.io/1.1/spec/#inventory\"" ∷ key "head" "\"v1\"" ∷ key "versions" "{}" ∷ members)

-- an inventory of sha256 by its manifest alone
abbrev pub listing : List Text → Text
listing manifest = inventory "sha256" (keys manifest) (codes "{}")

-- and with a fixity block
abbrev pub listing_with : List Text → Text → Text
listing_with manifest fixity = inventory "sha256" (keys manifest) fixity

-- the manifest that lists `f` rightly
abbrev pub lists_f : List Text
lists_f = key (abc Sha256) "[\"v1/content/f\"]" ∷ []

-- ---- trees of several cases

-- a file for each digest of the manifest: `a` and `c` of three bytes, `b` of none
abbrev pub three_files_listing : Text
three_files_listing = listing (key (abc Sha256) "[\"v1/content/a\",\"v1/content/c\"]" ∷ key (no_bytes Sha256) "[\"v1/content/b\"]" ∷ [])

abbrev pub three_files_content : StorageRoot
three_files_content = text_at "o/v1/content/a" "abc" ∷ text_at "o/v1/content/b" "" ∷ text_at "o/v1/content/c" "abc" ∷ []

abbrev pub three_files : StorageRoot
three_files = sha256_object three_files_listing three_files_content

-- `a` is listed twice and not there, `b` is right
abbrev pub missing_and_right_listing : Text
missing_and_right_listing = listing_with (key (no_bytes Sha256) "[\"v1/content/a\"]" ∷ key (abc Sha256) "[\"v1/content/b\"]" ∷ [])
    (codes "{\"sha1\":" ++ keys (key (no_bytes Sha1) "[\"v1/content/a\"]" ∷ []) ++ codes "}")

abbrev pub missing_and_right_content : StorageRoot
missing_and_right_content = text_at "o/v1/content/b" "abc" ∷ []

abbrev pub missing_and_right : StorageRoot
missing_and_right = sha256_object missing_and_right_listing missing_and_right_content

-- one file, by sha512
abbrev pub sha512_file_listing : Text
sha512_file_listing = inventory "sha512" (keys (key (abc Sha512) "[\"v1/content/f\"]" ∷ [])) (codes "{}")

abbrev pub sha512_file : StorageRoot
sha512_file = sha512_object sha512_file_listing f_is_abc

-- three objects, each with one file
abbrev pub three_objects : StorageRoot
three_objects = storage_root (
    object_in "o1" (listing lists_f) (folder "o1/v1" ∷ folder "o1/v1/content" ∷ text_at "o1/v1/content/f" "abc" ∷
    object_in "o2" (listing lists_f) (folder "o2/v1" ∷ folder "o2/v1/content" ∷ text_at "o2/v1/content/f" "abc" ∷
    object_in "o3" (listing lists_f) (folder "o3/v1" ∷ folder "o3/v1/content" ∷ text_at "o3/v1/content/f" "abc" ∷ []))))

-- ---- items, as audits give them

-- at a place, with what it costs and its lines
abbrev pub item : String → ℕ → List Note → Item
item p cost ns = record { place = place p; lines = lines_at (place p) ns; cost = cost }

-- with nothing to say
abbrev pub clean : String → Item
clean p = item p 0 (plain Clean ∷ [])

abbrev pub the_root : Item
the_root = record { place = []; lines = lines_at [] (plain Clean ∷ []); cost = 0 }

-- a right file, by what it costs and the number of its bytes
abbrev pub right : String → ℕ → String → Item
right p cost bytes = item p cost (note Clean (codes bytes) ∷ [])

-- ---- what is left after places, for runs and for walks

-- a place, and the lines of what comes after it
pub record Behind : Type 0 where
  pub name : String
  pub place : String
  pub lines : String

abbrev pub behind : String → String → String → Behind
behind name p lines = record { name = name; place = p; lines = lines }

-- of `missing_and_right`: before its object, in it, and after it
abbrev pub behind_each : List Behind
behind_each =
    behind "behind_an_earlier_sibling" "n" "ok\to\t-\nE092\to/v1/content/a\tsha256 missing\nE093\to/v1/content/a\tsha1 missing\nok\to/v1/content/b\t3\n" ∷
    behind "behind_an_absent_version" "o/v0" "E092\to/v1/content/a\tsha256 missing\nE093\to/v1/content/a\tsha1 missing\nok\to/v1/content/b\t3\n" ∷
    behind "behind_a_version" "o/v1" "E092\to/v1/content/a\tsha256 missing\nE093\to/v1/content/a\tsha1 missing\nok\to/v1/content/b\t3\n" ∷
    behind "behind_a_missing_file" "o/v1/content/a" "ok\to/v1/content/b\t3\n" ∷
    behind "behind_a_place_below_a_file" "o/v1/content/b/x" "" ∷
    behind "behind_a_later_sibling" "o-x" "" ∷
    behind "behind_a_later_place" "p/q" "" ∷
    []
