-- Worked cases: numbers with a plus sign, and what no command line and no argument is.
use Rattle.std.specs.Fmt.{digits}
use Rattle.std.proofs.Common.{◌≡◌, ◌<◌, ◌^◌, List, codes, refl, sym, ◌∙◌, arith, true, true≢false}
use Rattle.std.proofs.lemmas.Fmt.{decimal_is_IsNumeral}
use Rattle.clap.specs.Words.{App, Rule, Text}
use Rattle.clap.specs.{declared.builder.arg.Arg.{Arg}, declared.builder.command.Command.{Command}}
use Rattle.clap.specs.declared.builder.command.Command.TheViews.{out-Command}
use Rattle.ocfl_arguments.specs.{Asks.{IsNumberText}, Line.{IsArg, IsCommand}, Stop.{StopsRightly}}
use Rattle.ocfl_arguments.specs.declared.stop.CommandStop.TheVariants.{Memory}

number_with_a_plus : IsNumberText 5 (codes "+5")
unfolding digits
number_with_a_plus = let small : 5 < 2 ^ 64 = omega arith in ((decimal_is_IsNumeral 5 small).0, refl)

no_argument_is_global : (r : Rule) (a : Arg) → a.global ≡ true → IsArg r a → ⊥
no_argument_is_global r a e h = true≢false (sym e ∙ h.1)

no_command_has_global_arguments : (a : App) (c : Command) → (out-Command c).has_globals ≡ true → IsCommand a c → ⊥
no_command_has_global_arguments a c e h = true≢false (sym e ∙ h.1)

memory_may_be_refused : (words : List Text) → StopsRightly words Memory
memory_may_be_refused words = tt
