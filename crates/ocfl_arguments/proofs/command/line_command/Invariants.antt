use Rattle.ocfl_arguments.proofs.Commands.{IsBuiltUpTo}
use Rattle.ocfl_arguments.proofs.command.line_command.Given as goal

abbrev pub invariant-loop-subcommand : goal.invariant-loop-subcommand
invariant-loop-subcommand l = IsBuiltUpTo l.subcommands l.subcommand-index l.command
