-- What is seen in a folder of all parts in memory, by the paths that files have.
use Rattle.std.specs.Prelude.{ℕ, ◌++◌, ◌==◌, List, [], ◌∷◌, Bool, true, false, codes, if◌then◌else◌, is_some, option_map, string_bytes, Option, Some, None}
use Rattle.std.specs.{List.{find, list_any}, Str.{bytes_eq}}
use Rattle.ocfl_tree.specs.Place.{Text}
use Rattle.ocfl_kept.specs.FilePaths.{list_path, packed_path, part_path, report_path}
use Rattle.ocfl_part_folders.specs.Folder.{PartsFolder}
use Rattle.ocfl_mem_disk.specs.declared.mem_file.MemFile.{MemFile}

-- ---- the paths of joined reports

-- what is behind this front of a text, if the text has it
abbrev pub behind_front : Text → Text → Option Text
behind_front [] text = Some text
behind_front (a ∷ front) [] = None
behind_front (a ∷ front) (b ∷ text) = if b == a then behind_front front text else None

-- the digits of the number of its cycle, and whether it is whole
pub record JoinedName : Type 0 where
  pub digits : Text
  pub whole : Bool

abbrev pub is_dot : ℕ → Bool
is_dot b = b == 46

abbrev pub without_dot : Text → Bool → Option JoinedName
without_dot digits whole = if list_any is_dot digits then None else Some (record { digits = digits; whole = whole })

abbrev pub name_by : Option Text → Option Text → Option JoinedName
name_by (Some digits) other = without_dot digits true
name_by None (Some digits) = without_dot digits false
name_by None None = None

abbrev pub name_in : Option Text → Option JoinedName
name_in None = None
name_in (Some name) = name_by (behind_front (codes "/reports/cycle-") name) (behind_front (codes "/reports/incomplete-") name)

-- the joined report that has the path, or would have it, if one can
abbrev pub joined_name : Text → Text → Option JoinedName
joined_name folder path = name_in (behind_front folder path)

-- ---- the other files

abbrev pub is_at : Text → MemFile → Bool
is_at path file = bytes_eq (string_bytes file.path) path

-- the bytes of the first file with the path
abbrev pub bytes_at : List MemFile → Text → Option Text
bytes_at files path = option_map (λ f. f.bytes.items) (find (is_at path) files)

abbrev pub has_file : List MemFile → Text → Bool
has_file files path = is_some (bytes_at files path)

-- A folder of a part counts as a file. No checkpoint is kept of what was closed.
abbrev pub folder_of : Text → List MemFile → List ℕ → Text → PartsFolder
folder_of path files opened noted = record {
  path = path;
  is_there = λ part. has_file files (part_path path part);
  stored = λ part. bytes_at files (part_path path part ++ codes "/checkpoint");
  closed = λ cycle part whole. bytes_at files (report_path (part_path path part) cycle whole);
  kept = λ _ _. None;
  has_said = λ cycle part. has_file files (list_path (part_path path part) cycle);
  packed = λ cycle whole. has_file files (packed_path path cycle whole);
  opened = opened;
  noted = noted;
}
