-- What hashing a file does to a store that tells its tree, and what it answers.
use Rattle.std.specs.Prelude.{◌≡◌, ℕ, ◌^◌, ◌≤◌, max, false, true, List, [], ◌∷◌, length, Some, None}
use Rattle.ocfl_tree.specs.{Place.{Text, Place}, StorageRoot.{StorageRoot, file_at}}
use Rattle.ocfl_tree.specs.{Store.{Store, Did}, Calls.{opening}, declared.store.Opening.{Opening}}
use Rattle.ocfl_digest.specs.{Digests.{AreDigests}, declared.digests.Digests.{Digests}}
use Rattle.ocfl_digest.specs.declared.stop.Cause.{Cause}
use Rattle.ocfl_digest.specs.declared.stop.Cause.TheVariants.{Device, Absent, Memory, TooLong}
use Rattle.ocfl_digest.specs.declared.wanted.Wanted.{Wanted}

-- the file at p has these digests and n bytes, and was given by one opening
pub record HashesFile (root : StorageRoot) (s t : Store) (p : Place) (w : Wanted) (d : Digests) (n : ℕ) : Type 0 where
  pub bytes : Text
  pub is_file : file_at root p ≡ Some bytes
  pub digests : AreDigests w bytes d
  pub length_is : n ≡ length bytes
  pub did : Did s t (opening p n false ∷ []) [] 0
  pub closed : t.rest ≡ None
  pub largest : t.largest ≡ max s.largest 65536

-- the openings of a call that stops after n bytes
abbrev pub stop_trail : Place → ℕ → Cause → List Opening
stop_trail p n Device = opening p n true ∷ []
stop_trail p n Absent = []
stop_trail p n Memory = []
stop_trail p n TooLong = opening p n false ∷ []

-- by how much it raises the count of failures
abbrev pub stop_failures : Cause → ℕ
stop_failures Device = 1
stop_failures Absent = 0
stop_failures Memory = 0
stop_failures TooLong = 0

-- what a stop after n bytes says of the tree
abbrev pub StopFits : StorageRoot → Place → ℕ → Cause → Type 0
StopFits root p n Device = (bytes : Text) → file_at root p ≡ Some bytes → n ≤ length bytes
StopFits root p n Absent = (file_at root p ≡ None) × (n ≡ 0)
StopFits root p n Memory = n ≡ 0
StopFits root p n TooLong = (bytes : Text) × (file_at root p ≡ Some bytes) × (2 ^ 62 ≤ length bytes) × (n ≡ 2 ^ 62)

-- hashing the file at p stopped after n bytes
pub record StopsHashing (root : StorageRoot) (s t : Store) (p : Place) (n : ℕ) (cause : Cause) : Type 0 where
  pub fits : StopFits root p n cause
  pub did : Did s t (stop_trail p n cause) [] (stop_failures cause)
  pub closed : t.rest ≡ None
  pub largest : t.largest ≤ max s.largest 65536
