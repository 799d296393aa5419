-- What an object's root inventory is, as it is said and passed on where further inventories are
-- checked.
use Rattle.std.specs.Prelude.{List, [], Option, None, option_map, option_and_then, if◌then◌else◌, nat_le, length, string_bytes}
use Rattle.ocfl_tree.specs.{Place.{Text, Place}, StorageRoot.{StorageRoot}}
use Rattle.ocfl_report.specs.declared.further.Further.{Further}
use Rattle.ocfl_report.specs.declared.further.Further.TheVariants.{Nothing, Inventories}
use Rattle.ocfl_inventory.specs.{Note.{Note}, Table.{Table, table_of}}
use Rattle.ocfl_rules.specs.Zone.{inventory_limit}
use Rattle.ocfl_rules.specs.Inventories.{RootInventory, root_inventory_of, root_inventory, root_inventory_notes}
use Rattle.ocfl_item.specs.declared.root.RootInventory.{RootInventory as MadeRoot}

abbrev pub root_view : MadeRoot → RootInventory
root_view r = record { algorithm = r.algorithm; digest = string_bytes r.digest; head = option_map string_bytes r.head }

-- that of an object, if it is asked for
abbrev pub root_at : Further → StorageRoot → Place → Option RootInventory
root_at Nothing root o = None
root_at Inventories root o = root_inventory root o

-- that of the bytes of an inventory
abbrev pub root_by : Further → Text → Option Table → Option RootInventory
root_by Nothing bytes t = None
root_by Inventories bytes t = option_map (root_inventory_of bytes) t

abbrev pub root_in : Further → Option Text → Option RootInventory
root_in further file = option_and_then (λ bytes. if nat_le (length bytes) inventory_limit then root_by further bytes (table_of bytes) else None) file

-- the note on it
abbrev pub root_notes_if : Further → Option RootInventory → List Note
root_notes_if Nothing r = []
root_notes_if Inventories r = root_inventory_notes r
