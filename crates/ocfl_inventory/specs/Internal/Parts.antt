-- What the functions of the reading give, beside the definitions.
use Rattle.std.specs.Prelude.{◌≡◌, List, [], ◌∷◌, ◌++◌, option_map, option_and_then, Option, Some, None, Result, Ok, Err, map, flat_map, string_bytes, String}
use Rattle.std.specs.{declared.alloc.Global.{Global}, BTreeMap.{BTreeMap}, List.{cons_option}}
use Rattle.serde_json.specs.{View.{view, members_view}, declared.value.Value.{Value}}
use Rattle.serde_json.specs.{Data.{Data, Members, no_members}, Find.{as_str, get_member}}
use Rattle.ocfl_tree.specs.Place.{Text}
use Rattle.ocfl_inventory.specs.{Note.{Note}, Reading.{Reading, Block, Inventory, block_of}}
use Rattle.ocfl_inventory.specs.Remark.{remark_view}
use Rattle.ocfl_inventory.specs.declared.remark.InventoryStop.{InventoryStop}
use Rattle.ocfl_inventory.specs.declared.inventory.Listing.{Listing}
use Rattle.ocfl_inventory.specs.declared.inventory.Supported.{Supported}
use Rattle.ocfl_inventory.specs.declared.inventory.Inventory.{Inventory as MadeInventory}
use Rattle.ocfl_digest.specs.{Algorithm.{algorithm_name}, declared.algorithm.Algorithm.{Algorithm}}
use Rattle.ocfl_inventory.specs.declared.remark.InventoryStop.TheVariants as stops

-- what stopped, unless memory ran out, is the line
abbrev pub Says : InventoryStop → Note → Type 0
Says stops.Memory n = Unit {0}
Says (stops.Because r) n = remark_view r ≡ n

abbrev pub Fails : {Y : Type 0} → InventoryStop → Reading Y → Type 0
Fails stops.Memory read = Unit {0}
Fails (stops.Because r) read = read ≡ Err (remark_view r)

-- what a function returned, seen by view, is what reading gives, unless memory ran out
abbrev pub Gives : {X Y : Type 0} → (X → Y) → Result X InventoryStop → Reading Y → Type 0
Gives view (Ok x) read = read ≡ Ok (view x)
Gives view (Err e) read = Fails e read

-- the text of a value, if it is one
abbrev pub text_in : Value → List Text
text_in v = cons_option (as_str (view v)) []

-- the texts among values
abbrev pub texts_among : List Value → List Text
texts_among vs = flat_map text_in vs

abbrev pub listing_view : Listing → Text × List Text
listing_view e = (string_bytes e.key, texts_among e.values.items)

abbrev pub block_view : List Listing → Block
block_view = map listing_view

abbrev pub fixity_view : Option (BTreeMap (String Global) Value) → Members
fixity_view None = no_members
fixity_view (Some m) = members_view m.entries

-- what is at the key of an algorithm
abbrev pub value_for : Algorithm → Members → Option Data
value_for a ms = get_member (algorithm_name a) ms

-- what is at the keys of some algorithms
abbrev pub values_for : List Algorithm → Members → List (Option Data × Algorithm)
values_for algorithms ms = map (λ a. (value_for a ms, a)) algorithms

abbrev pub supported_view : List Supported → List (Algorithm × Block)
supported_view = map (λ s. (s.algorithm, block_view s.block.items))

-- the block of one algorithm after those before it, and none if it is not of the form
abbrev pub with_block : List (Algorithm × Block) → Option Data → Algorithm → Option (List (Algorithm × Block))
with_block front None a = Some front
with_block front (Some d) a = option_map (λ b. front ++ (a, b) ∷ []) (block_of d)

-- the blocks of the algorithms after those before them, and none if one is not of the form
abbrev pub with_blocks : List (Algorithm × Block) → List (Option Data × Algorithm) → Option (List (Algorithm × Block))
with_blocks front [] = Some front
with_blocks front (e ∷ more) = option_and_then (λ blocks. with_blocks blocks more) (with_block front e.0 e.1)

abbrev pub inventory_view : MadeInventory → Inventory
inventory_view i = record {
  algorithm = i.algorithm;
  content = string_bytes i.content;
  manifest = block_view i.manifest.items;
  fixity = supported_view i.fixity.items;
  unsupported = map string_bytes i.unsupported.items;
}
