use Rattle.std.proofs.Common.{◌∙◌, ap, rules}
use Rattle.clap.specs.Words.{App}
use Rattle.ocfl_arguments.specs.Internal.Shapes.{with_subcommands}
use Rattle.ocfl_arguments.proofs.Commands.{added}
use Rattle.ocfl_arguments.proofs.command.line_command.Goals as goal

pub loop-subcommand-init : goal.loop-subcommand-init
loop-subcommand-init c = (
  ap (λ (app : App). with_subcommands app c.all_subcommands-subcommands.result.now) c.bare_command-command.ensures.0 ∙ c.all_subcommands-subcommands.ensures,
  c.bare_command-command.ensures.1,
)

pub loop-subcommand-preserved : goal.loop-subcommand-preserved
loop-subcommand-preserved c =
    added _ c.loop-subcommand.subcommand-index _ c.loop-subcommand.command c.in_ok-build_subcommand.field-0
    c.in_ok-command.command (search rules) c.loop-subcommand.invariant c.in_ok-build_subcommand.ensures c.in_ok-command.ensures
