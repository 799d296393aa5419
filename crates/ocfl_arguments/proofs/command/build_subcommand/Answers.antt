use Rattle.std.proofs.Common.{rules}
use Rattle.ocfl_arguments.proofs.Commands.{given}
use Rattle.ocfl_arguments.proofs.command.build_subcommand.Goals as goal

pub loop-argument-preserved : goal.loop-argument-preserved
loop-argument-preserved c =
    given c.args.subcommand.name.now c.args.subcommand.arguments.now c.loop-argument.argument-index _ c.arg_of.result c.loop-argument.command
    c.in_ok-command.command (search rules) c.loop-argument.invariant c.arg_of.ensures c.in_ok-command.ensures
