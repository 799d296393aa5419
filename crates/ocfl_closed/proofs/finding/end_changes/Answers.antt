use Rattle.std.proofs.Common.{subst, ◌∙◌, ap}
use Rattle.ocfl_words.specs.Counted.{joined}
use Rattle.ocfl_closed.specs.{Back.{AreBack}, Files.{kept_of}, Words.{HasText, IsAccount, beside_of, runs_by, runs_in}}
use Rattle.ocfl_closed.proofs.finding.end_changes.Goals as goal

pub returns-in-Ok-clause-text : goal.returns-in-Ok-clause-text
returns-in-Ok-clause-text g c = λ told v w x n since noting whole news.
    let pair = c.args.pair.now in
    let changes = c.in_ok-account.ensures.changes v w x since noting whole in
    let runs = (c.in_ok-account.ensures.made told).runs ∙ ap (λ f. runs_by (f.checkpoint pair.closed.cycle)) (c.end_list.ensures.calm told).files in
    subst (λ m. HasText (beside_of c.args.with.now m c.in_ok-account.account.back.items) pair (joined (joined v w) x) n c.in-Ok.text.items) runs
    (c.in-Ok.ensures (joined (joined v w) x) n changes (c.in_ok-account.ensures.gone _ changes) (c.in_ok-account.ensures.found n news) c.in_ok-account.ensures.why)

pub returns-in-Ok-clause-account : goal.returns-in-Ok-clause-account
returns-in-Ok-clause-account g c = λ told v w x n since noting whole news.
    let pair = c.args.pair.now in
    let a = c.in_ok-account.account in
    let all = joined (joined v w) x in
    let changes = c.in_ok-account.ensures.changes v w x since noting whole in
    subst (λ f. IsAccount (beside_of c.args.with.now (runs_in f pair) a.back.items) f pair all n a) (c.end_list.ensures.calm told).files (record {
      changes = changes;
      gone = c.in_ok-account.ensures.gone all changes;
      findings = c.in_ok-account.ensures.found n news;
      made = c.in_ok-account.ensures.made told;
      why = c.in_ok-account.ensures.why;
    })

pub returns-in-Ok-clause-back : goal.returns-in-Ok-clause-back
returns-in-Ok-clause-back g c = λ told.
    subst (λ f. AreBack (kept_of f) c.args.pair.now c.in_ok-account.account.back.items) (c.end_list.ensures.calm told).files (c.in_ok-account.ensures.back told)
