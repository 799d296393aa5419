-- Commands that are built step by step.
use Rattle.std.proofs.Common.{◌≡◌, ◌∙◌, ap, ap₂, sym, Bool, false, ℕ, ◌+◌, ◌<◌, List, length, map, take, drop, get_or}
use Rattle.std.proofs.lemmas.List.{at_drop_more, map_more}
use Rattle.std.specs.Prelude.{◌||◌}
use Rattle.clap.specs.Words.{App, AddsArg, AddsSubcommand, Text, app_of, with_rule, with_subcommand}
use Rattle.clap.specs.{declared.builder.arg.Arg.{Arg}, declared.builder.command.Command.{Command}}
use Rattle.clap.specs.declared.builder.command.Command.TheViews.{out-Command}
use Rattle.ocfl_arguments.specs.Line.{IsArg, IsCommand, app_with, line_app}
use Rattle.ocfl_arguments.specs.Internal.Shapes.{app_for, rule_for, with_subcommands}
use Rattle.ocfl_arguments.specs.{declared.command.Argument.{Argument}, declared.command.Subcommand.{Subcommand}}

-- with the subcommands from the i-th one on it is the whole program
abbrev pub IsBuiltUpTo : List Subcommand → ℕ → Command → Type 0
IsBuiltUpTo rows i c = (with_subcommands (app_of c) (drop i rows) ≡ line_app) × ((out-Command c).has_globals ≡ false)

-- one more subcommand
pub added : (rows : List Subcommand) (i : ℕ) (d : Subcommand) (old sub new : Command) → i < length rows → IsBuiltUpTo rows i old
    → IsCommand (app_for (get_or rows i d)) sub → AddsSubcommand old sub new → IsBuiltUpTo rows (i + 1) new
added rows i d old sub new within above below adds = (
  ap (λ (a : App). with_subcommands a (drop (i + 1) rows)) (adds.shape below.1 ∙ ap (λ (a : App). with_subcommand (app_of old) a.top) below.0)
      ∙ sym (at_drop_more (with_subcommands (app_of old)) rows i d within) ∙ above.0,
  adds.globals ∙ ap₂ (λ (x y : Bool). x || y) above.1 below.1,
)

-- a subcommand has the first of its arguments, and so with the next one
pub given : (name : Text) (xs : List Argument) (i : ℕ) (d : Argument) (a : Arg) (old new : Command) → i < length xs
    → IsCommand (app_with name (map rule_for (take i xs))) old → IsArg (rule_for (get_or xs i d)) a → AddsArg old a new
    → IsCommand (app_with name (map rule_for (take (i + 1) xs))) new
given name xs i d a old new below above is adds = (
  adds.shape is.1 ∙ ap₂ with_rule above.0 is.0 ∙ ap (app_with name) (sym (map_more rule_for xs i d below)),
  adds.globals ∙ ap₂ (λ (b c : Bool). b || c) above.1 is.1,
)
