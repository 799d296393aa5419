-- How the files of a closed cycle are called.
use Rattle.std.specs.Prelude.{◌≡◌, [], Option, Some, None, string_bytes}
use Rattle.ocfl_tree.specs.Place.{Text}
use Rattle.ocfl_accounts.specs.{Cycle.{Cycle}, declared.pair.Pair.{Pair}}
use Rattle.ocfl_closed.specs.declared.account.Paths.{Paths}
use Rattle.ocfl_kept.specs.FilePaths.{list_path, report_path}

-- that of the report of a cycle
abbrev pub path_of : Text → Cycle → Text
path_of state c = report_path state c.cycle c.whole

-- of the report before, and empty without one
abbrev pub earlier_path : Text → Option Cycle → Text
earlier_path state None = []
earlier_path state (Some before) = path_of state before

pub record ArePaths (state : Text) (pair : Pair) (paths : Paths) : Type 0 where
  pub report : string_bytes paths.report ≡ path_of state pair.closed
  pub earlier : string_bytes paths.earlier ≡ earlier_path state pair.before
  pub list : string_bytes paths.list ≡ list_path state pair.closed.cycle
