use Rattle.std.proofs.Common.{ap, subst, sym, rules}
use Rattle.std.specs.Prelude.{Option, Some, None, option_map}
use Rattle.clap.specs.Words.{Rule, Text, new_rule}
use Rattle.ocfl_arguments.specs.{Line.{IsArg}, Internal.Shapes.{value_rule}}
use Rattle.ocfl_arguments.proofs.command.arg_of.Goals as goal

pub returns-in-Some : goal.returns-in-Some
returns-in-Some c =
    let a = c.args.argument in
    let rule : Option Text → Rule = λ name. record (new_rule a.0.now) { long = name; required = a.3 } in
    let is : IsArg (rule (Some c.in-Some.name.now)) c.long.result = search rules in
    subst (λ name. IsArg (value_rule a.4 (rule name)) c.with_value.result) (sym (ap (option_map (λ s. s.now)) c.in-Some.is)) (c.with_value.ensures _ is)

pub returns-in-None : goal.returns-in-None
returns-in-None c =
    let a = c.args.argument in
    let rule : Option Text → Rule = λ name. record (new_rule a.0.now) { long = name; required = a.3 } in
    let is : IsArg (rule None) c.required-arg.result = search rules in
    subst (λ name. IsArg (value_rule a.4 (rule name)) c.with_value-in-None.result) (sym (ap (option_map (λ s. s.now)) c.in-None.is)) (c.with_value-in-None.ensures _ is)
