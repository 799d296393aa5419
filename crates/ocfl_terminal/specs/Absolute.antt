-- The paths of a command line, made absolute.
use Rattle.std.specs.Prelude.{◌≡◌, ◌⊎◌, ◌-◌, ◌==◌, ◌||◌, ◌++◌, ◌∷◌, Bool, true, false, if◌then◌else◌, length, slice_index, option_map, string_bytes, IsTrue, ⊤}
use Rattle.ocfl_tree.specs.Place.{Text}
use Rattle.ocfl_deed.specs.declared.deed.Deed.{Deed}
use Rattle.ocfl_deed.specs.declared.deed.Deed.TheVariants as deed
use Rattle.ocfl_arguments.specs.declared.{night.NightAsked.{NightAsked}, task.Task.{Task}, task.Chosen.{Chosen}, task.Asked.{Asked}}
use Rattle.ocfl_arguments.specs.declared.task.Chosen.TheVariants as chosen
use Rattle.ocfl_arguments.specs.declared.task.Split.TheVariants as split
use Rattle.ocfl_arguments.specs.declared.task.Asked.TheVariants as asked
use Rattle.ocfl_terminal.specs.Paths.{IsAsReports}

-- leads from `/` on
abbrev pub is_absolute : Text → Bool
is_absolute path = slice_index path 0 == 47

-- a path in a folder
abbrev pub in_folder : Text → Text → Text
in_folder here path = if slice_index here (length here - 1) == 47 then here ++ path else here ++ 47 ∷ path

-- a path that is absolute stays, and so does an empty one, which leads nowhere
abbrev pub absolute_in : Text → Text → Text
absolute_in here path = if length path == 0 || is_absolute path then path else in_folder here path

-- a part's file of separators is in the folder; a branch's path is one in the storage root
abbrev pub IsChosenAbsolute : Text → Chosen → Chosen → Type 0
IsChosenAbsolute here (chosen.Part parts number) (chosen.Part new count) = (string_bytes new ≡ absolute_in here (string_bytes parts)) × (count ≡ number)
IsChosenAbsolute here (chosen.Branch path) (chosen.Branch new) = IsAsReports (string_bytes path) (string_bytes new)
IsChosenAbsolute here chosen.All chosen.All = ⊤
IsChosenAbsolute here old new = ⊥

-- the path that is checked is one in the storage root
abbrev pub IsDeedAsReports : Deed → Deed → Type 0
IsDeedAsReports (deed.Check further path) (deed.Check same new) = (same ≡ further) × IsAsReports (string_bytes path) (string_bytes new)
IsDeedAsReports (deed.Check further path) new = ⊥
IsDeedAsReports old new = new ≡ old

pub record IsTaskAbsolute (here : Text) (old new : Task) : Type 0 where
  pub deed : IsDeedAsReports old.deed new.deed
  pub chosen : IsChosenAbsolute here old.chosen new.chosen
  pub root : option_map string_bytes new.root ≡ option_map (λ p. absolute_in here (string_bytes p)) old.root
  pub file : option_map string_bytes new.file ≡ option_map (λ p. absolute_in here (string_bytes p)) old.file
  pub quiet : new.quiet ≡ old.quiet

-- showing a file reads no storage root
abbrev pub is_show : Deed → Bool
is_show deed.Show = true
is_show _ = false

pub record IsNightAbsolute (here : Text) (old new : NightAsked) : Type 0 where
  pub state : string_bytes new.state ≡ absolute_in here (string_bytes old.state)
  pub root : string_bytes new.root ≡ absolute_in here (string_bytes old.root)
  pub chosen : IsChosenAbsolute here old.chosen new.chosen
  pub further : new.further ≡ old.further
  pub known : option_map string_bytes new.known ≡ option_map (λ p. absolute_in here (string_bytes p)) old.known
  pub expected : option_map string_bytes new.expected ≡ option_map (λ p. absolute_in here (string_bytes p)) old.expected
  pub bounds : new.bounds ≡ old.bounds
  pub create : new.create ≡ old.create
  pub force_root : new.force_root ≡ old.force_root
  pub stop_at_faults : new.stop_at_faults ≡ old.stop_at_faults

-- what is asked for, with absolute paths if a storage root is read for it
abbrev pub IsAskedAbsolute : Text → Asked → Asked → Type 0
IsAskedAbsolute here (asked.Task old) (asked.Task new) = (IsTrue (is_show old.deed) × (new ≡ old)) ⊎ ((is_show old.deed ≡ false) × IsTaskAbsolute here old new)
IsAskedAbsolute here (asked.Night old) (asked.Night new) = IsNightAbsolute here old new
IsAskedAbsolute here (asked.Split (split.Listing count root)) (asked.Split (split.Listing most new)) = (string_bytes new ≡ absolute_in here (string_bytes root)) × (most ≡ count)
IsAskedAbsolute here (asked.Task old) new = ⊥
IsAskedAbsolute here (asked.Night old) new = ⊥
IsAskedAbsolute here (asked.Split (split.Listing count root)) new = ⊥
IsAskedAbsolute here old new = new ≡ old
