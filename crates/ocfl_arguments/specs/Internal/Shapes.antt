-- How `clap` takes the arguments and the subcommands, from what the program says of each.
use Rattle.std.specs.Prelude.{List, [], ◌∷◌, Some, map, option_map}
use Rattle.clap.specs.Words.{App, Rule, Text, new_rule, with_subcommand}
use Rattle.clap.specs.declared.builder.action.ArgAction.TheVariants.{SetTrue}
use Rattle.clap.specs.declared.builder.value_parser.ValueParser.{ValueParser}
use Rattle.clap.specs.declared.builder.value_parser.ValueParser.TheVariants as vp
use Rattle.ocfl_arguments.specs.Line.{app_with, most_days, most_hours, most_parts, most_split}
use Rattle.ocfl_arguments.specs.{declared.command.Range.{Range}, declared.command.Taken.{Taken}}
use Rattle.ocfl_arguments.specs.declared.command.Range.TheVariants.{Part, Count, Hours, Days, Any}
use Rattle.ocfl_arguments.specs.declared.command.Taken.TheVariants.{Nothing, Words, WordsOr, Number}
use Rattle.ocfl_arguments.specs.{declared.command.Argument.{Argument}, declared.command.Subcommand.{Subcommand}}

-- what reads the numbers of a range
abbrev pub range_parser : Range → ValueParser
range_parser Part = vp.Unsigned 1 most_parts
range_parser Count = vp.Unsigned 1 most_split
range_parser Hours = vp.Unsigned 1 most_hours
range_parser Days = vp.Unsigned 1 most_days
range_parser Any = vp.Unsigned 0 18446744073709551615

-- a rule, with that of its value
abbrev pub value_rule : Taken → Rule → Rule
value_rule Nothing r = record r { action = Some SetTrue }
value_rule (Words name) r = record r { value_names = 1 }
value_rule (WordsOr name text) r = record r { value_names = 1; defaults = text.now ∷ [] }
value_rule (Number name range) r = record r { value_names = 1; parser = Some (range_parser range) }

-- the rule of an argument
abbrev pub rule_for : Argument → Rule
rule_for a = value_rule a.4 (record (new_rule a.0.now) { long = option_map (λ name. name.now) a.2; required = a.3 })

-- a subcommand by itself
abbrev pub app_for : Subcommand → App
app_for s = app_with s.name.now (map rule_for s.arguments.now)

-- a program with these subcommands too
abbrev pub with_subcommands : App → List Subcommand → App
with_subcommands app [] = app
with_subcommands app (s ∷ more) = with_subcommands (with_subcommand app (app_for s).top) more
