-- What is in a state folder on a disk: which file has which name, and the bytes of each file.
use Rattle.std.specs.Prelude.{◌≢◌, ℕ, Bool, List, [], ◌∷◌, ◌++◌, Option, Some, None, ⊤}
use Rattle.std.specs.Option.{option_map}
use Rattle.ocfl_state.specs.Content.{Bytes, Closed, Content}
use Rattle.ocfl_disk.specs.declared.state_file.StateFile.{StateFile}
use Rattle.ocfl_disk.specs.declared.state_file.StateFile.TheVariants.{Checkpoint, NewCheckpoint, Report}

-- the file that has the name of a closed report
pub record ClosedName : Type 0 where
  pub cycle : ℕ
  pub whole : Bool
  pub file : ℕ

-- Which file has which name: each file has a number. The names of other files are left out.
pub record Names : Type 0 where
  pub checkpoint : Option ℕ
  -- the next checkpoint while it is written
  pub beside : Option ℕ
  pub report : Option ℕ
  -- oldest first
  pub closed : List ClosedName

pub record Stored : Type 0 where
  pub names : Names
  -- the bytes of the file with this number
  pub bytes : ℕ → Bytes

abbrev pub report_of : (ℕ → Bytes) → Option ℕ → Bytes
report_of bytes None = []
report_of bytes (Some file) = bytes file

abbrev pub closed_of : (ℕ → Bytes) → List ClosedName → List Closed
closed_of bytes [] = []
closed_of bytes (name ∷ names) = (record { cycle = name.cycle; whole = name.whole; report = bytes name.file }) ∷ closed_of bytes names

-- what a state folder holds that is stored so
abbrev pub content_of : Stored → Content
content_of s = record {
  checkpoint = option_map s.bytes s.names.checkpoint;
  report = report_of s.bytes s.names.report;
  closed = closed_of s.bytes s.names.closed;
}

-- the file with a name
abbrev pub named : StateFile → Names → Option ℕ
named Checkpoint names = names.checkpoint
named NewCheckpoint names = names.beside
named Report names = names.report
named _ names = None

-- a file is given a name
abbrev pub with_named : StateFile → ℕ → Names → Names
with_named NewCheckpoint file names = record names { beside = Some file }
with_named Report file names = record names { report = Some file }
with_named _ file names = names

-- none of these closed reports is that file
abbrev pub IsNoClosed : ℕ → List ClosedName → Type 0
IsNoClosed file [] = ⊤
IsNoClosed file (name ∷ names) = (name.file ≢ file) × IsNoClosed file names

-- a file is neither the checkpoint nor a closed report
pub record IsApart (file : ℕ) (names : Names) : Type 0 where
  pub checkpoint : names.checkpoint ≢ Some file
  pub closed : IsNoClosed file names.closed

-- a file has none of the names
pub record IsNameless (file : ℕ) (names : Names) : Type 0 where
  pub apart : IsApart file names
  pub beside : names.beside ≢ Some file
  pub report : names.report ≢ Some file

-- no checkpoint is being written
abbrev pub without_beside : Stored → Stored
without_beside s = record s { names = record s.names { beside = None } }

-- what is written beside is the checkpoint
abbrev pub put_over : Stored → Stored
put_over s = record s { names = record s.names { checkpoint = s.names.beside; beside = None } }

abbrev pub closed_names : ℕ → Bool → Option ℕ → List ClosedName → List ClosedName
closed_names cycle whole None closed = closed
closed_names cycle whole (Some file) closed = closed ++ (record { cycle = cycle; whole = whole; file = file }) ∷ []

-- the report is the closed one of that cycle
abbrev pub close_over : ℕ → Bool → Stored → Stored
close_over cycle whole s = record s {
  names = record s.names {
    report = None;
    closed = closed_names cycle whole s.names.report s.names.closed;
  };
}
