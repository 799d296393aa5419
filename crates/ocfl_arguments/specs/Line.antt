-- The command line, as `clap` is to read it.
use Rattle.std.specs.Prelude.{ℕ, List, [], ◌∷◌, Some, true, false, codes, ◌≡◌}
use Rattle.clap.specs.Words.{App, Rule, Text, app_of, new_app, new_rule, rule_of, with_subcommand}
use Rattle.clap.specs.{Simple.{on_top}, declared.builder.action.ArgAction.TheVariants.{SetTrue}}
use Rattle.clap.specs.{declared.builder.arg.Arg.{Arg}, declared.builder.command.Command.{Command}}
use Rattle.clap.specs.declared.builder.command.Command.TheViews.{out-Command}
use Rattle.clap.specs.declared.builder.value_parser.ValueParser.TheVariants as vp

abbrev pub most_runs : ℕ
most_runs = 100000

-- one more than the separators that their text may have
abbrev pub most_parts : ℕ
most_parts = 100001

abbrev pub most_split : ℕ
most_split = 100000

abbrev pub most_hours : ℕ
most_hours = 24

abbrev pub most_days : ℕ
most_days = 3650

-- ---- the arguments

-- an argument that has a value and must be given
abbrev pub needed_rule : Text → Rule
needed_rule id = record (new_rule id) { value_names = 1; required = true }

abbrev pub root_rule : Rule
root_rule = needed_rule (codes "root")

abbrev pub path_rule : Rule
path_rule = needed_rule (codes "path")

abbrev pub file_rule : Rule
file_rule = needed_rule (codes "file")

abbrev pub cursor_rule : Rule
cursor_rule = record file_rule { long = Some (codes "cursor") }

-- a text, which `IsSizeText` reads
abbrev pub budget_rule : Rule
budget_rule = record (needed_rule (codes "budget")) { long = Some (codes "budget") }

-- a text too, by default the most files that there may be
abbrev pub files_rule : Rule
files_rule = record (new_rule (codes "files")) {
  long = Some (codes "files");
  value_names = 1;
  defaults = codes "4611686018427387904" ∷ [];
}

abbrev pub runs_rule : Rule
runs_rule = record (needed_rule (codes "runs")) {
  long = Some (codes "runs");
  parser = Some (vp.Unsigned 1 most_runs);
}

-- a flag, which has the name of what it says
abbrev pub flag_rule : Text → Rule
flag_rule id = record (new_rule id) { long = Some id; action = Some SetTrue }

-- an argument that has a value and may be left out
abbrev pub optional_rule : Text → Rule
optional_rule id = record (new_rule id) { value_names = 1 }

-- such an option, which has the name of what it gives
abbrev pub named_rule : Text → Rule
named_rule id = record (optional_rule id) { long = Some id }

-- one that must be given
abbrev pub wanted_rule : Text → Rule
wanted_rule id = record (needed_rule id) { long = Some id }

-- which of the parts; `IsChosen` says what it goes with
abbrev pub part_rule : Rule
part_rule = record (named_rule (codes "part")) { parser = Some (vp.Unsigned 1 most_parts) }

-- how many parts; `IsSplit` says what it goes with
abbrev pub count_rule : Rule
count_rule = record (optional_rule (codes "count")) {
  long = Some (codes "parts");
  parser = Some (vp.Unsigned 1 most_split);
}

-- for how many hours; `IsUntil` says what it goes with
abbrev pub hours_rule : Rule
hours_rule = record (named_rule (codes "hours")) { parser = Some (vp.Unsigned 1 most_hours) }

-- any number of 64 bits
abbrev pub end_rule : Rule
end_rule = record (named_rule (codes "end")) { parser = Some (vp.Unsigned 0 18446744073709551615) }

-- after how many days; `HasBounds` says what it is for
abbrev pub every_rule : Rule
every_rule = record (named_rule (codes "every")) { parser = Some (vp.Unsigned 1 most_days) }

-- the argument is one that `clap` reads by this rule, for its own subcommand alone
abbrev pub IsArg : Rule → Arg → Type 0
IsArg r a = (rule_of a ≡ r) × (a.global ≡ false)

-- ---- the subcommands

-- the subcommand of this name, whose arguments have these rules
abbrev pub app_with : Text → List Rule → App
app_with name rules = on_top (λ s. record s { rules = rules }) (new_app name)

abbrev pub audit_app : App
audit_app = app_with (codes "audit") (named_rule (codes "under") ∷ named_rule (codes "parts") ∷ part_rule
    ∷ flag_rule (codes "inventories") ∷ flag_rule (codes "quiet") ∷ root_rule ∷ [])

abbrev pub run_app : App
run_app = app_with (codes "run") (cursor_rule ∷ budget_rule ∷ files_rule ∷ named_rule (codes "parts") ∷ part_rule
    ∷ flag_rule (codes "inventories") ∷ flag_rule (codes "quiet") ∷ root_rule ∷ [])

abbrev pub cycle_app : App
cycle_app = app_with (codes "cycle") (budget_rule ∷ files_rule ∷ runs_rule ∷ flag_rule (codes "inventories")
    ∷ flag_rule (codes "quiet") ∷ root_rule ∷ [])

abbrev pub night_app : App
night_app = app_with (codes "night") (wanted_rule (codes "state") ∷ named_rule (codes "budget")
    ∷ named_rule (codes "files") ∷ named_rule (codes "slice") ∷ hours_rule ∷ named_rule (codes "until") ∷ end_rule
    ∷ every_rule ∷ named_rule (codes "parts") ∷ part_rule ∷ flag_rule (codes "inventories")
    ∷ named_rule (codes "known") ∷ named_rule (codes "expected") ∷ flag_rule (codes "create") ∷ flag_rule (codes "force-root")
    ∷ flag_rule (codes "stop-at-faults") ∷ root_rule ∷ [])

abbrev pub check_app : App
check_app = app_with (codes "check") (flag_rule (codes "inventories") ∷ root_rule ∷ path_rule ∷ [])

abbrev pub show_app : App
show_app = app_with (codes "show") (file_rule ∷ [])

abbrev pub split_app : App
split_app = app_with (codes "split") (count_rule ∷ named_rule (codes "budget") ∷ named_rule (codes "report")
    ∷ flag_rule (codes "inventories") ∷ optional_rule (codes "root") ∷ [])

abbrev pub join_app : App
join_app = app_with (codes "join") (wanted_rule (codes "parts") ∷ wanted_rule (codes "state") ∷ [])

abbrev pub codes_app : App
codes_app = app_with (codes "codes") (flag_rule (codes "json") ∷ [])

-- ---- the program

-- the program before its subcommands: it has a version, and one subcommand is required
abbrev pub bare_app : App
bare_app = on_top (λ s. record s { has_version = true; subcommand_required = true }) (new_app (codes "ocfl-scrub"))

abbrev pub line_app : App
line_app = with_subcommand (with_subcommand (with_subcommand (with_subcommand (with_subcommand (with_subcommand (with_subcommand
    (with_subcommand (with_subcommand bare_app audit_app.top) run_app.top) cycle_app.top) night_app.top)
    check_app.top) split_app.top) join_app.top) show_app.top) codes_app.top

-- the command is the one that `clap` reads as this
abbrev pub IsCommand : App → Command → Type 0
IsCommand a c = (app_of c ≡ a) × ((out-Command c).has_globals ≡ false)
