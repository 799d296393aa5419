-- What tells one storage root from another: its declarations (OCFL 1.1, 4.2 Root Conformance
-- Declaration), and the names in its top folder.
use Rattle.std.specs.Prelude.{◌≡◌, ◌≤◌, ◌^◌, ℕ, true, false, List, [], ◌∷◌, ◌++◌, length, map, filter, flat_map, codes, Option, Some, None}
use Rattle.std.specs.Option.{option_map}
use Rattle.sha2.specs.Sha256.{sha256}
use Rattle.hex.specs.Hex.{encode_lower}
use Rattle.ocfl_tree.specs.{Place.{Text, Place}, Ascending.{IsAmong}, StorageRoot.{StorageRoot, file_at}}
use Rattle.ocfl_tree.specs.{Listing.{entries_in}, Store.{Store, Did}, Calls.{opening}}
use Rattle.ocfl_tree.specs.{declared.store.Entry.{Entry}, declared.store.Opening.{Opening}}
use Rattle.ocfl_inventory.specs.Entries.{is_counted}
use Rattle.ocfl_inventory.specs.declared.declaration.Level.TheVariants.{Root}
use Rattle.ocfl_identity.specs.declared.identity.Identity.{Identity}

abbrev pub names_of : List Entry → List Text
names_of es = map (λ e. e.name) es

-- the names of the files that declare a storage root
abbrev pub declarations_among : List Entry → List Text
declarations_among es = names_of (filter (is_counted Root) es)

-- names, each followed by a zero, which no name has
abbrev pub ended_names : List Text → Text
ended_names names = flat_map (λ n. n ++ 0 ∷ []) names

-- a line as `sha256sum` prints it: the digits of the digest, two spaces, the name
abbrev pub sum_line : Text → Text → Text
sum_line digits name = digits ++ codes "  " ++ name ++ 10 ∷ []

-- the SHA-256 of a file, in hexadecimal digits (FIPS 180-4, 6.2)
abbrev pub digits_of : Option Text → Option Text
digits_of file = option_map (λ bytes. encode_lower (sha256 bytes)) file

abbrev pub before_lines : Option Text → Option Text → Option Text
before_lines None lines = None
before_lines (Some line) lines = option_map (λ rest. line ++ rest) lines

-- the lines of the files with these names in the top folder, if there is one for each name
abbrev pub sum_lines : StorageRoot → List Text → Option Text
sum_lines root [] = Some []
sum_lines root (n ∷ names) = before_lines (option_map (λ digits. sum_line digits n) (digits_of (file_at root (n ∷ [])))) (sum_lines root names)

-- their SHA-256
abbrev pub declared_by : StorageRoot → List Text → Option Text
declared_by root names = option_map sha256 (sum_lines root names)

-- the identity of a storage root
pub record IsIdentityOf (root : StorageRoot) (id : Identity) : Type 0 where
  pub declarations : id.declarations.items ≡ declarations_among (entries_in root [])
  pub declared : declared_by root id.declarations.items ≡ Some id.declared
  pub count : id.count ≡ length (entries_in root [])
  pub names : id.names ≡ sha256 (ended_names (names_of (entries_in root [])))

-- ---- what is asked of a store

abbrev pub opened_then : Text → Option Text → List Opening → List Opening
opened_then n None more = []
opened_then n (Some bytes) more = opening (n ∷ []) (length bytes) false ∷ more

-- the openings of the files with these names in the top folder, each read to its end, up to the
-- first that is not there
abbrev pub openings_of : StorageRoot → List Text → List Opening
openings_of root [] = []
openings_of root (n ∷ names) = opened_then n (file_at root (n ∷ [])) (openings_of root names)

-- Of these openings the first were made, maybe none or all, and these directories were listed.
-- Nothing failed.
pub record OpensFirst (s t : Store) (openings : List Opening) (listed : List Place) : Type 0 where
  pub made : List Opening
  pub rest : List Opening
  pub are : made ++ rest ≡ openings
  pub did : Did s t made listed 0

-- each of these openings is of a file with one of these names in the top folder
abbrev pub AreNamed : List Text → List Opening → Type 0
AreNamed names openings = (o : Opening) → IsAmong openings o → (n : Text) × (IsAmong names n × (o.place ≡ n ∷ []))

-- A place could not be read, if these directories are listed, and of files only those with these names
-- in the top folder are opened: the device failed in the listing of the top folder, or in the opening
-- of a file, which was the last call; or the file has 2^62 bytes or more.
pub data IsUnread (root : StorageRoot) (s t : Store) (names : List Text) (listed : List Place) (p : Place) : Type 0 where
  in_listing : p ≡ [] → listed ≡ p ∷ [] → Did s t [] listed 1 → IsUnread root s t names listed p
  in_opening : (before : List Opening) (given : ℕ) → AreNamed names (before ++ opening p given true ∷ []) → Did s t (before ++ opening p given true ∷ []) listed 1 → IsUnread root s t names listed p
  too_long : (bytes : Text) → file_at root p ≡ Some bytes → 2 ^ 62 ≤ length bytes → IsUnread root s t names listed p
