-- What a reading gives where something stopped.
use Rattle.std.proofs.Common.{◌≡◌, Option, None, refl, sym, ◌∙◌, ap, map}
use Rattle.std.specs.{Prelude.{Result, Ok, Err, IfOk}, Result.{result_ok}}
use Rattle.ocfl_digest.specs.declared.algorithm.Algorithm.{Algorithm}
use Rattle.ocfl_inventory.specs.{Reading.{Reading, ◌>>=◌, Inventory}, Note.{Note}}
use Rattle.ocfl_inventory.specs.{Notes.{reading_notes}, Internal.Parts.{Fails}}
use Rattle.ocfl_inventory.specs.{Internal.ReadInventory.{SaysAlone}, Remark.{remark_view}}
use Rattle.ocfl_inventory.specs.Table.{table_from_reading}
use Rattle.ocfl_inventory.specs.declared.remark.InventoryStop.{InventoryStop}
use Rattle.ocfl_inventory.specs.declared.table.InventoryReading.{InventoryReading}
use Rattle.ocfl_inventory.specs.declared.remark.InventoryStop.TheVariants as stops

-- what stops first stops all that comes after it
pub fails_then : {A B : Type 0} (e : InventoryStop) (read : Reading A) (f : A → Reading B) → Fails e read → Fails e (read >>= f)
fails_then stops.Memory read f h = tt
fails_then (stops.Because r) read f h = ap (λ x. x >>= f) h

pub stopped_remarks : {E : Type 0} (o : Result InventoryReading E) (e : InventoryStop) (read : Reading Inventory) → IfOk o (λ r. SaysAlone e (map remark_view r.remarks.items)) → Fails e read
    → IfOk o (λ r. map remark_view r.remarks.items ≡ reading_notes read)
stopped_remarks (Ok x) stops.Memory read h f = absurd h
stopped_remarks (Ok x) (stops.Because r) read h f = h ∙ ap reading_notes (sym f)
stopped_remarks (Err x) e read h f = tt

-- what is given is what is taken of a reading that stopped, if nothing is
stopped_part : {A B E : Type 0} (given : InventoryReading → Option B) (taken : Reading A → Option B) (o : Result InventoryReading E) (e : InventoryStop) (read : Reading A)
    → ((n : Note) → taken (Err n) ≡ None) → IfOk o (λ r. SaysAlone e (map remark_view r.remarks.items)) → IfOk o (λ r. given r ≡ None) → Fails e read
    → IfOk o (λ r. given r ≡ taken read)
stopped_part given taken (Ok x) stops.Memory read none h k f = absurd h
stopped_part given taken (Ok x) (stops.Because r) read none h k f = k ∙ sym (none (remark_view r)) ∙ ap taken (sym f)
stopped_part given taken (Err x) e read none h k f = tt

pub stopped_table : {E : Type 0} (o : Result InventoryReading E) (e : InventoryStop) (read : Reading Inventory)
    → IfOk o (λ r. SaysAlone e (map remark_view r.remarks.items)) → IfOk o (λ r. r.table ≡ None) → Fails e read
    → IfOk o (λ r. r.table ≡ table_from_reading read)
stopped_table o e read = stopped_part (λ r. r.table) table_from_reading o e read (λ n. refl)

pub stopped_algorithm : {E : Type 0} (o : Result InventoryReading E) (e : InventoryStop) (read : Reading Algorithm)
    → IfOk o (λ r. SaysAlone e (map remark_view r.remarks.items)) → IfOk o (λ r. r.algorithm ≡ None) → Fails e read
    → IfOk o (λ r. r.algorithm ≡ result_ok read)
stopped_algorithm o e read = stopped_part (λ r. r.algorithm) result_ok o e read (λ n. refl)
