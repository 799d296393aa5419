use Rattle.std.proofs.Common.{map, take}
use Rattle.ocfl_arguments.specs.{Line.{IsCommand, app_with}, Internal.Shapes.{rule_for}}
use Rattle.ocfl_arguments.proofs.command.build_subcommand.Given as goal

abbrev pub invariant-loop-argument : goal.invariant-loop-argument
invariant-loop-argument l = IsCommand (app_with l.subcommand.name.now (map rule_for (take l.argument-index l.arguments))) l.command
