-- What reading an inventory gives, beside the definitions.
use Rattle.std.specs.Prelude.{◌≡◌, List, [], ◌∷◌, Result, Ok, Err, Vec, map}
use Rattle.std.specs.declared.alloc.Global.{Global}
use Rattle.ocfl_report.specs.Line.{Line}
use Rattle.ocfl_inventory.specs.{Note.{Note}, Reading.{Reading, Inventory}, Notes.{inventory_notes}}
use Rattle.ocfl_inventory.specs.{Table.{Table, table_from}, Internal.Parts.{Fails}}
use Rattle.ocfl_inventory.specs.{Remark.{remark_view}, declared.remark.Remark.{Remark}}
use Rattle.ocfl_inventory.specs.declared.remark.InventoryStop.{InventoryStop}
use Rattle.ocfl_inventory.specs.declared.remark.InventoryStop.TheVariants as stops

-- the lines and the table of an inventory that does not stop, or what stops, unless memory ran out
abbrev pub IsReading : Result (Vec Remark Global × Table) InventoryStop → Reading Inventory → Type 0
IsReading (Ok r) read = (i : Inventory) × (read ≡ Ok i) × (map remark_view r.0.items ≡ inventory_notes i) × (r.1 ≡ table_from i)
IsReading (Err e) read = Fails e read

-- the line of a note about the whole object
abbrev pub note_line : Note → Line
note_line n = record { code = n.code; place = []; detail = n.detail }

-- what stopped is all that is said, and memory did not run out
abbrev pub SaysAlone : InventoryStop → List Note → Type 0
SaysAlone stops.Memory ns = ⊥
SaysAlone (stops.Because r) ns = ns ≡ remark_view r ∷ []
