-- What is known of an item before its file is read.
use Rattle.std.specs.Prelude.{◌≡◌, ◌≢◌, ℕ, List, [], ◌∷◌, ◌++◌, true, false, Some, None, map, string_bytes}
use Rattle.ocfl_tree.specs.{Place.{Text, Place}, StorageRoot.{StorageRoot, file, at}}
use Rattle.ocfl_report.specs.declared.code.Code.TheVariants.{S08}
use Rattle.ocfl_report.specs.declared.further.Further.{Further}
use Rattle.ocfl_inventory.specs.{Note.{Note, plain}, Remark.{remark_view}}
use Rattle.ocfl_item.specs.declared.expected.Expected.{Expected as MadeExpected}
use Rattle.ocfl_item.specs.declared.pending.Pending.{Pending}
use Rattle.ocfl_rules.specs.Inventories.{Expected, unexpected_notes, notes, is_hashed}
use Rattle.ocfl_rules.specs.Lines.{or_bytes}

abbrev pub expected_view : MadeExpected → Expected
expected_view e = record { code = e.code; algorithm = e.algorithm; digest = string_bytes e.digest }

-- a file with these lines, whatever its bytes are, and a line for each of these digests that is not
-- its own; if it cannot be read on, these lines and one that says so
pub record IsJudgedBy (further : Further) (root : StorageRoot) (p : Place) (ns : List Note) (es : List Expected) : Type 0 where
  pub bytes : Text
  pub is_file : at root p ≡ Some (file bytes)
  pub whole : notes further root None p ≡ or_bytes bytes (ns ++ unexpected_notes bytes es)
  pub part : (given : ℕ) → notes further root (Some given) p ≡ ns ++ plain S08 ∷ []

-- this is an item: its lines are known, but for those that depend on what its file holds
pub record IsPending (further : Further) (root : StorageRoot) (p : Pending) : Type 0 where
  pub some : notes further root None p.place ≢ []
  pub hashed : p.hashed ≡ is_hashed further root p.place
  pub lines : p.hashed ≡ false → map remark_view p.remarks.items ≡ notes further root None p.place
  pub judged : p.hashed ≡ true → IsJudgedBy further root p.place (map remark_view p.remarks.items) (map expected_view p.expected.items)
