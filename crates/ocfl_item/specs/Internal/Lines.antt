-- The lines of one place, as they are gathered.
use Rattle.std.specs.Prelude.{List, Bool, false, Option, Some, None, map, codes, ◌≡◌, ◌≢◌, [], ◌++◌}
use Rattle.std.specs.Ordering.{is_eq}
use Rattle.ocfl_tree.specs.StorageRoot.{StorageRoot}
use Rattle.ocfl_report.specs.declared.further.Further.{Further}
use Rattle.ocfl_inventory.specs.{Note.{note, Note}, Remark.{remark_view}, Table.{Named}}
use Rattle.ocfl_digest.specs.Algorithm.{algorithm_name}
use Rattle.ocfl_item.specs.declared.lines.PlaceLines.{PlaceLines}
use Rattle.ocfl_rules.specs.Inventories.{notes, is_hashed}
use Rattle.ocfl_rules.specs.Lines.{block_cmp, block_code}

-- these are the lines
abbrev pub HasLines : PlaceLines → List Note → Type 0
HasLines l ns = map remark_view l.remarks.items ≡ ns

-- after the old lines come these, of the same place
abbrev pub Adds : PlaceLines → PlaceLines → List Note → Type 0
Adds old new ns = (new.place ≡ old.place) × (map remark_view new.remarks.items ≡ map remark_view old.remarks.items ++ ns)

-- the lines of a place at which no file is hashed
pub record IsUnhashed (further : Further) (root : StorageRoot) (l : PlaceLines) : Type 0 where
  pub some : notes further root None l.place ≢ []
  pub unhashed : is_hashed further root l.place ≡ false
  pub lines : HasLines l (notes further root None l.place)

-- the line for one block and algorithm whose file is missing
abbrev pub missing_note : Named → Note
missing_note n = note (block_code n) (algorithm_name n.algorithm ++ codes " missing")

abbrev pub is_same_block : Named → Named → Bool
is_same_block a b = is_eq (block_cmp a b)

-- whether the one before is of the same block and algorithm
abbrev pub is_repeated : Option Named → Named → Bool
is_repeated None n = false
is_repeated (Some before) n = is_same_block before n
