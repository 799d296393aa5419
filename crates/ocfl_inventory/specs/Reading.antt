-- What the bytes of an `inventory.json` hold, or the line that stops (OCFL 1.1, 3.5 Inventory; RFC
-- 8259).
use Rattle.std.specs.Prelude.{◌==◌, ◌||◌, List, [], ◌∷◌, not, if◌then◌else◌, Option, Some, None, option_map, option_and_then, is_some, Result, Ok, Err, filter, codes}
use Rattle.std.specs.{List.{list_any}, Result.{result_ok}, Str.{is_utf8}}
use Rattle.serde_json.specs.Data.{Data, Items, no_items, item, Members, no_members, member}
use Rattle.serde_json.specs.{Find.{as_str, as_array, as_object, get_member}, Read.{read}}
use Rattle.ocfl_tree.specs.{Place.{Text, text_cmp, text_eq}, Ascending.{ascending}}
use Rattle.ocfl_inventory.specs.Note.{note, Note, plain}
use Rattle.ocfl_report.specs.declared.code.Code.TheVariants.{E017, E018, E025, E033, E036, E041, S03}
use Rattle.ocfl_digest.specs.Algorithm.{supported, algorithm_name, algorithm_named}
use Rattle.ocfl_digest.specs.declared.algorithm.Algorithm.{Algorithm}
use Rattle.ocfl_digest.specs.declared.algorithm.Algorithm.TheVariants.{Sha256, Sha512}

-- a value, or the line that stops
abbrev pub Reading : Type 0 → Type 0
Reading A = Result A Note

infixl 10 ◌>>=◌
abbrev pub ◌>>=◌ : {A B : Type 0} → Reading A → (A → Reading B) → Reading B
Ok x >>= f = f x
Err n >>= f = Err n

abbrev pub or_stop : {A : Type 0} → Note → Option A → Reading A
or_stop n None = Err n
or_stop n (Some x) = Ok x

-- a block of an inventory: each key with the texts that it lists
abbrev pub Block : Type 0
Block = List (Text × List Text)

abbrev pub texts_of : Items → Option (List Text)
texts_of no_items = Some []
texts_of (item d ds) = option_and_then (λ t. option_map (λ ts. t ∷ ts) (texts_of ds)) (as_str d)

abbrev pub lists_of : Members → Option Block
lists_of no_members = Some []
lists_of (member k d ms) = option_and_then (λ ts. option_map (λ b. (k, ts) ∷ b) (lists_of ms)) (option_and_then texts_of (as_array d))

-- an object whose values are arrays of texts
abbrev pub block_of : Data → Option Block
block_of d = option_and_then lists_of (as_object d)

-- ---- the keys, each of which may stop

-- UTF-8, JSON, and an object (RFC 8259, 8.1, 2 and 4); of a key that is repeated the last value is
-- kept
abbrev pub object_of : Text → Reading Members
object_of bytes = or_stop (plain E033) (if is_utf8 bytes then option_and_then as_object (read bytes) else None)

-- the algorithms of inventories (OCFL 1.1, 3.5.1 Basic Structure)
abbrev pub digest_algorithm : Text → Reading Algorithm
digest_algorithm t = if text_eq t (codes "sha512") then Ok Sha512 else (if text_eq t (codes "sha256") then Ok Sha256 else Err (note E025 t))

abbrev pub algorithm_in : Members → Reading Algorithm
algorithm_in ms = do
  d ← or_stop (note E036 (codes "digestAlgorithm")) (get_member (codes "digestAlgorithm") ms)
  t ← or_stop (note S03 (codes "digestAlgorithm")) (as_str d)
  digest_algorithm t

-- one name, neither `.` nor `..` (OCFL 1.1, 3.3.1 Content Directory)
abbrev pub content_named : Text → Reading Text
content_named [] = Err (note S03 (codes "contentDirectory"))
content_named (c ∷ t) =
    if list_any (λ b. b == 47) (c ∷ t) then Err (note E017 (c ∷ t))
    else (if text_eq (c ∷ t) (codes ".") || text_eq (c ∷ t) (codes "..") then Err (note E018 (c ∷ t)) else Ok (c ∷ t))

abbrev pub content_from : Option Data → Reading Text
content_from None = Ok (codes "content")
content_from (Some d) = or_stop (note S03 (codes "contentDirectory")) (as_str d) >>= content_named

-- OCFL 1.1, 3.5.2 Manifest
abbrev pub manifest_from : Option Data → Reading Block
manifest_from o = do
  d ← or_stop (note E041 (codes "manifest")) o
  or_stop (note S03 (codes "manifest")) (block_of d)

abbrev pub manifest_in : Members → Reading Block
manifest_in ms = manifest_from (get_member (codes "manifest") ms)

-- OCFL 1.1, 3.5.4 Fixity
abbrev pub fixity_from : Option Data → Reading Members
fixity_from None = Ok no_members
fixity_from (Some d) = or_stop (note S03 (codes "fixity")) (as_object d)

-- the blocks of those of the algorithms that the members have, in the algorithms' order
abbrev pub blocks_for : Members → List Algorithm → Option (List (Algorithm × Block))
blocks_for ms [] = Some []
blocks_for ms (a ∷ rest) = blocks_with a (get_member (algorithm_name a) ms) (blocks_for ms rest)
  where
    blocks_with : Algorithm → Option Data → Option (List (Algorithm × Block)) → Option (List (Algorithm × Block))
    blocks_with a None more = more
    blocks_with a (Some d) more = option_and_then (λ b. option_map (λ bs. (a, b) ∷ bs) more) (block_of d)

abbrev pub keys_of : Members → List Text
keys_of no_members = []
keys_of (member k d ms) = k ∷ keys_of ms

-- the keys that name no supported algorithm, ascending
abbrev pub unsupported_in : Members → List Text
unsupported_in ms = ascending text_cmp (filter (λ k. not (is_some (algorithm_named k))) (keys_of ms))

-- an inventory that does not stop
pub record Inventory : Type 0 where
  pub algorithm : Algorithm
  pub content : Text
  pub manifest : Block
  pub fixity : List (Algorithm × Block)
  pub unsupported : List Text

abbrev pub algorithm_of : Text → Reading Algorithm
algorithm_of bytes = object_of bytes >>= algorithm_in

-- the version that is named as the newest, if that is a text; whether an inventory stops has no
-- part in it
abbrev pub head_in : Members → Option Text
head_in ms = option_and_then as_str (get_member (codes "head") ms)

abbrev pub head_of : Text → Option Text
head_of bytes = option_and_then head_in (result_ok (object_of bytes))

-- the keys are looked at in this order, after the algorithm: the first that stops is the answer
abbrev pub behind_algorithm : Members → Algorithm → Reading Inventory
behind_algorithm ms a = do
  c ← content_from (get_member (codes "contentDirectory") ms)
  m ← manifest_in ms
  fs ← fixity_from (get_member (codes "fixity") ms)
  f ← or_stop (note S03 (codes "fixity")) (blocks_for fs supported)
  Ok (record {
    algorithm = a;
    content = c;
    manifest = m;
    fixity = f;
    unsupported = unsupported_in fs;
  })

abbrev pub inventory_in : Members → Reading Inventory
inventory_in ms = algorithm_in ms >>= behind_algorithm ms

abbrev pub inventory_of : Text → Reading Inventory
inventory_of bytes = object_of bytes >>= inventory_in
