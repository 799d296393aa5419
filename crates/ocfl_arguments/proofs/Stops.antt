-- What `clap` answers for the command of the line.
use Rattle.std.proofs.Common.{◌≡◌, ◌∙◌, List, [], true, refl, sym, ap, subst, inl, inr}
use Rattle.clap.specs.Words.{App, HasKind, HasMatchesOf, IsAmong, Text, fault_of, is_simple, is_simple_and_free, kind_of, subcommand_of, subcommand_rows_of}
use Rattle.clap.specs.declared.error.Error.{Error}
use Rattle.clap.specs.declared.parser.matches.ArgMatches.{ArgMatches}
use Rattle.ocfl_arguments.specs.{Line.{line_app}, Stop.{IsStopOf, StopsRightly}}
use Rattle.ocfl_arguments.specs.declared.stop.CommandStop.{CommandStop}
use Rattle.ocfl_arguments.specs.declared.stop.CommandStop.TheVariants.{Usage, Memory}

line_is_simple : is_simple line_app ≡ true
line_is_simple = refl

line_is_free : is_simple_and_free line_app ≡ true
line_is_free = refl

-- words without a fault at a command that is the line's have none at the line
pub no_fault : (a : App) (words : List Text) → a ≡ line_app → (is_simple_and_free a ≡ true → fault_of a words ≡ []) → fault_of line_app words ≡ []
no_fault a words e h = subst (λ x. fault_of x words ≡ []) e (h (ap is_simple_and_free e ∙ line_is_free))

-- and an error has a kind of the line's faults
pub has_fault : (a : App) (words : List Text) (e : Error) → a ≡ line_app → (is_simple_and_free a ≡ true → HasKind (fault_of a words) e) → HasKind (fault_of line_app words) e
has_fault a words e is h = subst (λ x. HasKind (fault_of x words) e) is (h (ap is_simple_and_free is ∙ line_is_free))

-- the subcommand that is met is the line's
pub subcommand_is : (a : App) (words : List Text) (m : ArgMatches) → a ≡ line_app → HasMatchesOf a words m → subcommand_rows_of m ≡ subcommand_of line_app words
subcommand_is a words m e h = (h (ap is_simple e ∙ line_is_simple)).1 ∙ ap (λ x. subcommand_of x words) e

-- an error of `clap` stops rightly
pub stops_rightly : (words : List Text) (e : Error) (stop : CommandStop) → IsStopOf e stop → HasKind (fault_of line_app words) e → StopsRightly words stop
stops_rightly words e Memory is h = tt
stops_rightly words e (Usage f) is (inl memory) = absurd (is.1 memory)
stops_rightly words e (Usage f) is (inr kind) = inl (subst (λ x. IsAmong (kind_of x) (fault_of line_app words)) (sym is.0) kind)
