use Rattle.std.proofs.Common.{subst, arith}
use Rattle.ocfl_tree.specs.Place.{Text}
use Rattle.ocfl_terms.specs.Output.{HasCommitted}
use Rattle.ocfl_night.proofs.Heard.{committed_grows, grows_on, has_committed, unsaid_as}
use Rattle.ocfl_night.proofs.saying.say_rest.Goals as goal

pub returns-in_err-commit-clause-grew : goal.returns-in_err-commit-clause-grew
returns-in_err-commit-clause-grew g c = grows_on _ _ _ c.say_between.ensures.grew (committed_grows _ _ c.commit.ensures.given c.commit.ensures.grew c.in_err-commit.ensures.failed.later)

pub returns-clause-grew : goal.returns-clause-grew
returns-clause-grew g c = grows_on _ _ _ c.say_between.ensures.grew (committed_grows _ _ c.commit.ensures.given c.commit.ensures.grew (omega (arith, c.in_ok-commit.ensures.failed)))

pub returns-clause-said : goal.returns-clause-said
returns-clause-said g c = λ told.
    subst (λ (l : Text). HasCommitted l (g.O.Output.said c.args.out.now) (g.O.Output.said c.commit.new.self))
    (unsaid_as c.args.checkpoint.now (g.S.StateFolder.seen c.args.folder.now) c.said_of.result c.bytes_of.result c.said_of.ensures c.bytes_of.ensures)
    (has_committed _ (g.O.Output.said c.args.out.now) (g.O.Output.said c.say_between.new.out) (g.O.Output.said c.commit.new.self) (c.in_ok-say_between.ensures.said told) c.commit.ensures.given c.in_ok-commit.ensures.all)
