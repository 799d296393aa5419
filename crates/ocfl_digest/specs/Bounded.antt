-- What reading a file within a limit does to a store that tells its tree, and what it answers.
use Rattle.std.specs.Prelude.{◌≡◌, ℕ, ◌+◌, ◌<◌, ◌≤◌, ◌⊎◌, min, max, false, true, List, [], ◌∷◌, length, Some, None, ⊤}
use Rattle.ocfl_tree.specs.{Place.{Text, Place}, StorageRoot.{StorageRoot, file_at}}
use Rattle.ocfl_tree.specs.{Store.{Store, Did}, Calls.{opening, failures_of}}
use Rattle.ocfl_tree.specs.{declared.store.Opening.{Opening}, declared.store.Trouble.{Trouble}}
use Rattle.ocfl_tree.specs.declared.store.Trouble.TheVariants.{Device, Absent, Memory}
use Rattle.ocfl_digest.specs.declared.bounded.Bounded.{Bounded}
use Rattle.ocfl_digest.specs.declared.bounded.Bounded.TheVariants.{Whole, Over}

-- as many bytes are read at once
abbrev pub small_block : ℕ
small_block = 4096

-- what is given whole has at most limit bytes
abbrev pub IsWithin : ℕ → Bounded → Type 0
IsWithin limit (Whole v) = length v.items ≤ limit
IsWithin limit Over = ⊤

-- all bytes of a file that has at most limit of them, and else that it has more
abbrev pub IsBoundedTo : ℕ → Text → Bounded → Type 0
IsBoundedTo limit bytes (Whole v) = (v.items ≡ bytes) × (length bytes ≤ limit)
IsBoundedTo limit bytes Over = limit < length bytes

-- the file at p was read within the limit, by one opening
pub record ReadsBounded (root : StorageRoot) (s t : Store) (p : Place) (limit : ℕ) (b : Bounded) : Type 0 where
  pub bytes : Text
  pub is_file : file_at root p ≡ Some bytes
  pub is_bounded : IsBoundedTo limit bytes b
  pub did : Did s t (opening p (min (length bytes) (limit + 1)) false ∷ []) [] 0
  pub closed : t.rest ≡ None
  pub largest : t.largest ≡ max s.largest (min small_block (limit + 1))

-- the openings of a reading that stops
abbrev pub IsStopTrail : Place → ℕ → Trouble → List Opening → Type 0
IsStopTrail p limit Device os = (given : ℕ) × (given ≤ limit) × (os ≡ opening p given true ∷ [])
IsStopTrail p limit Absent os = os ≡ []
IsStopTrail p limit Memory os = (os ≡ []) ⊎ ((given : ℕ) × (given ≤ limit) × (os ≡ opening p given false ∷ []))

-- reading the file at p stopped
pub record StopsReading (root : StorageRoot) (s t : Store) (p : Place) (limit : ℕ) (trouble : Trouble) : Type 0 where
  pub openings : List Opening
  pub opened : IsStopTrail p limit trouble openings
  pub did : Did s t openings [] (failures_of trouble)
  pub absent : trouble ≡ Absent → file_at root p ≡ None
  pub closed : t.rest ≡ None
  pub largest : t.largest ≤ max s.largest small_block
