-- A piece of the open file: read once, and fed to each wanted hasher.
use Rattle.std.specs.Prelude.{◌≡◌, ℕ, ◌++◌, length, Bool, IsTrue}
use Rattle.ocfl_tree.specs.{Place.{Text}, Store.{Store}, Calls.{Reads}}
use Rattle.ocfl_digest.specs.{Internal.Hashers.{AreFed}, declared.hashers.Hashers.{Hashers}}
use Rattle.ocfl_digest.specs.declared.wanted.Wanted.{Wanted}

-- one read with this room gave count bytes, and the hashers took just these
pub record FeedsPiece (told : Bool) (s t : Store) (h k : Hashers) (room count : ℕ) : Type 0 where
  pub bytes : Text
  pub length_is : length bytes ≡ count
  pub fed : (w : Wanted) (before : Text) → AreFed w before h → AreFed w (before ++ bytes) k
  pub reads : IsTrue told → Reads s t bytes room
