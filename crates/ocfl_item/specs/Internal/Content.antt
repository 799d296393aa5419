-- Content places, what is seen there, and the line for that.
use Rattle.std.specs.Prelude.{ℕ, List, Option, Some, None, option_map, Bool, false, not, ◌≡◌, [], ◌∷◌}
use Rattle.ocfl_tree.specs.{Place.{Place}, StorageRoot.{StorageRoot, file, dir, other}}
use Rattle.ocfl_inventory.specs.{Note.{plain, Note}, Table.{Table, Named}}
use Rattle.ocfl_report.specs.declared.code.Code.TheVariants.{E024, S05, E023, S04}
use Rattle.ocfl_rules.specs.Zone.{Zone, skipped, hierarchy, inside, zone, seen, table_at}
use Rattle.ocfl_rules.specs.Lines.{listed_dir_notes, is_empty}
use Rattle.ocfl_item.specs.declared.sight.Sight.{Sight}
use Rattle.ocfl_item.specs.declared.sight.Sight.TheVariants as sight

abbrev pub content_in : StorageRoot → Zone → Option (Table × Place)
content_in root skipped = None
content_in root hierarchy = None
content_in root (inside o []) = None
content_in root (inside o (v ∷ [])) = None
content_in root (inside o (v ∷ n ∷ [])) = None
content_in root (inside o (v ∷ c ∷ n ∷ q)) = option_map (λ t. (t, v ∷ c ∷ n ∷ q)) (table_at root o)

-- the table of the object that a place of at least three names more is in, and the place as a
-- path of it
abbrev pub content_at : StorageRoot → Place → Option (Table × Place)
content_at root p = content_in root (zone root p)

abbrev pub IsSight : StorageRoot → Place → Sight → Type 0
IsSight root p sight.Nothing = seen root p ≡ None
IsSight root p sight.File = (bytes : List ℕ) × (seen root p ≡ Some (file bytes))
IsSight root p sight.Dir = (seen root p ≡ Some dir) × (listed_dir_notes root p (plain E024 ∷ []) ≡ [])
IsSight root p sight.EmptyDir = (seen root p ≡ Some dir) × (listed_dir_notes root p (plain E024 ∷ []) ≡ plain E024 ∷ [])
IsSight root p sight.DeepDir = (seen root p ≡ Some dir) × (listed_dir_notes root p (plain E024 ∷ []) ≡ plain S05 ∷ [])
IsSight root p sight.Other = seen root p ≡ Some other

-- the line for what is seen if no file is hashed: a file is one that nothing names
abbrev pub sight_notes : Sight → List Note
sight_notes sight.Nothing = []
sight_notes sight.File = plain E023 ∷ []
sight_notes sight.Dir = []
sight_notes sight.EmptyDir = plain E024 ∷ []
sight_notes sight.DeepDir = plain S05 ∷ []
sight_notes sight.Other = plain S04 ∷ []

-- whether a file is seen that some digest is named for
abbrev pub is_read : Sight → List Named → Bool
is_read sight.Nothing ns = false
is_read sight.File ns = not (is_empty ns)
is_read sight.Dir ns = false
is_read sight.EmptyDir ns = false
is_read sight.DeepDir ns = false
is_read sight.Other ns = false
