use Rattle.std.proofs.Common.{◌≡◌, ◌≢◌, [], ◌∷◌, ◌++◌, List, ℕ, Bor}
use Rattle.std.proofs.{lemmas.Slice.Eq.{strip_suffix_is}, lemmas.Bool.Decides.{Decides-eqb}}
use Rattle.ocfl_cursor.proofs.Options.{IfSome-from_cases, none_from_cases}
use Rattle.ocfl_cursor.proofs.pieces.before_line_feed.Goals as goal

pub returns-clause-found : goal.returns-clause-found
returns-clause-found c =
    let text = c.args.text.now in
    IfSome-from_cases {X = Bor (List ℕ)} c.strip_suffix.result ((line : List ℕ) → text ≢ line ++ 10 ∷ []) (λ line. text ≡ line.now ++ 10 ∷ [])
    (strip_suffix_is Decides-eqb text (10 ∷ []) c.strip_suffix.result c.strip_suffix.ensures.cases)

pub returns-clause-missing : goal.returns-clause-missing
returns-clause-missing c =
    let text = c.args.text.now in
    none_from_cases {X = Bor (List ℕ)} c.strip_suffix.result ((line : List ℕ) → text ≢ line ++ 10 ∷ []) (λ line. text ≡ line.now ++ 10 ∷ [])
    (strip_suffix_is Decides-eqb text (10 ∷ []) c.strip_suffix.result c.strip_suffix.ensures.cases)
