use Rattle.std.proofs.{Common.{subst, sym, ◌∙◌, ◌++◌}, lemmas.Result.{IfOk-weaker}}
use Rattle.ocfl_closed.specs.{Back.{AreBackOf}, Files.{Files, kept_of}}
use Rattle.ocfl_closed.proofs.{Backing.{back_since, cause_later, no_items, none_back}, Lost.{AreFirst}, Passing.{still_then}}
use Rattle.ocfl_closed.proofs.back.find_since.Goals as goal

pub returns-then-is_empty-clause-back : goal.returns-then-is_empty-clause-back
returns-then-is_empty-clause-back g c = λ told.
    let f = (g.D.ClosedDisk.state c.args.disk.now).files in
    let gone = c.in_ok-gone.gone in
    none_back (kept_of f) c.args.now.now c.args.before.now gone.items (subst (λ n. AreFirst f.lists n gone.items) c.cycle.ensures (c.in_ok-gone.ensures.lost told))
    (no_items _ gone.items gone.ok.0 (sym c.is_empty.ensures ∙ c.if-is_empty.true))

pub returns-clause-back : goal.returns-clause-back
returns-clause-back g c = λ told.
    let f = (g.D.ClosedDisk.state c.args.disk.now).files in
    let gone = c.in_ok-gone.gone in
    let now = c.args.now.now in
    let before = c.args.before.now in
    IfOk-weaker c.find_between.result _ _
    (λ back are. back_since (kept_of f) now before gone.items back.items (subst (λ n. AreFirst f.lists n gone.items) c.cycle.ensures (c.in_ok-gone.ensures.lost told))
    (subst (λ (e : Files). AreBackOf (now.left ++ before.left) gone.items ((kept_of e).reports before.cycle) ((kept_of e).reports now.cycle) back.items) (c.gone_before.ensures.still told).calm.files are))
    (c.find_between.ensures.back told)

pub returns-clause-still : goal.returns-clause-still
returns-clause-still g c = λ told.
    let D = g.D.ClosedDisk in
    still_then (D.state c.args.disk.now) (D.state c.gone_before.new.disk) (D.state c.find_between.new.disk) (c.gone_before.ensures.still told) (c.find_between.ensures.still told)

pub returns-clause-cause : goal.returns-clause-cause
returns-clause-cause g c = λ told.
    let D = g.D.ClosedDisk in
    cause_later c.find_between.result (D.faults c.args.disk.now) (D.faults c.gone_before.new.disk) (D.faults c.find_between.new.disk) (c.in_ok-gone.ensures.cause told) (c.find_between.ensures.cause told)
