use Rattle.std.proofs.{Common.{◌≡◌, ◌≢◌, ◌++◌, List, ℕ, Bor}, lemmas.Slice.Eq.{strip_prefix_is}}
use Rattle.std.proofs.lemmas.Bool.Decides.{Decides-eqb}
use Rattle.ocfl_cursor.proofs.Options.{IfSome-from_cases, none_from_cases}
use Rattle.ocfl_cursor.proofs.pieces.after_prefix.Goals as goal

pub returns-clause-found : goal.returns-clause-found
returns-clause-found c =
    let text = c.args.text.now in
    let prefix = c.args.prefix.now in
    IfSome-from_cases {X = Bor (List ℕ)} c.strip_prefix.result ((rest : List ℕ) → text ≢ prefix ++ rest) (λ rest. text ≡ prefix ++ rest.now)
    (strip_prefix_is Decides-eqb text prefix c.strip_prefix.result c.strip_prefix.ensures.cases)

pub returns-clause-missing : goal.returns-clause-missing
returns-clause-missing c =
    let text = c.args.text.now in
    let prefix = c.args.prefix.now in
    none_from_cases {X = Bor (List ℕ)} c.strip_prefix.result ((rest : List ℕ) → text ≢ prefix ++ rest) (λ rest. text ≡ prefix ++ rest.now)
    (strip_prefix_is Decides-eqb text prefix c.strip_prefix.result c.strip_prefix.ensures.cases)
