use Rattle.std.proofs.Common.{inr, refl, ◌∙◌}
use Rattle.std.specs.Option.{option_map}
use Rattle.ocfl_join_disk.proofs.Joined.{are_durable, in_err, in_ok, is_named, may_named, named_then, on_ok}
use Rattle.ocfl_join_disk.proofs.Beside.{others_calm, others_named}
use Rattle.ocfl_join_disk.proofs.Putting.{calm_puts, named_puts, named_puts_then, none_put, two_calm}
use Rattle.ocfl_join_disk.proofs.making.MakingReports.name_made.Goals as goal

pub returns-in_err-rename-clause-may : goal.returns-in_err-rename-clause-may
returns-in_err-rename-clause-may g c = λ told. in_err c.from_residual-in_err-rename.result _
    (may_named g.D.JoinDisk.number _ _ _ _ _ _ _ _ _ c.sync_made.ensures.cycle (c.sync_made.ensures.calm told) (c.has_joined.ensures.calm told) (c.in_ok-sync_made.ensures.there told) refl (c.in_err-rename.ensures.closes told))

pub returns-clause-put : goal.returns-clause-put
returns-clause-put g c = λ told. in_ok c.sync_names.result _
    (named_then _ _ (g.D.JoinDisk.state c.args.self.now.parts.disk).seen (option_map g.D.JoinDisk.number c.args.self.now.made) _ _ (is_named g.D.JoinDisk.number _ _ _ _ _ _ _ _ c.sync_made.ensures.cycle (c.sync_made.ensures.calm told) (c.has_joined.ensures.calm told) (c.in_ok-sync_made.ensures.there told) (c.in_ok-rename.ensures.closes told)) (c.sync_names.ensures.calm told))

pub returns-clause-may : goal.returns-clause-may
returns-clause-may g c = λ told. in_err c.sync_names.result _
    (inr (named_then _ _ (g.D.JoinDisk.state c.args.self.now.parts.disk).seen (option_map g.D.JoinDisk.number c.args.self.now.made) _ _ (is_named g.D.JoinDisk.number _ _ _ _ _ _ _ _ c.sync_made.ensures.cycle (c.sync_made.ensures.calm told) (c.has_joined.ensures.calm told) (c.in_ok-sync_made.ensures.there told) (c.in_ok-rename.ensures.closes told)) (c.sync_names.ensures.calm told), refl))

pub returns-clause-durable : goal.returns-clause-durable
returns-clause-durable g c = λ told. on_ok c.sync_names.result _ _
    (λ names. are_durable _ _ (g.met.D.JoinDisk.is_disk told c.sync_names.new.self.disk) names) (c.sync_names.ensures.names told)

pub returns-in_err-rename-clause-crash : goal.returns-in_err-rename-clause-crash
returns-in_err-rename-clause-crash g c = λ told.
    named_puts g.D.JoinDisk.number _ _ _ _ _ _ _ _ c.sync_made.ensures.cycle (c.sync_made.ensures.calm told) (c.has_joined.ensures.calm told) (c.in_ok-sync_made.ensures.there told)
    (g.met.D.JoinDisk.is_disk told c.has_joined.new.self) (c.in_ok-sync_made.ensures.synced told) (c.in_err-rename.ensures.closes told)

pub returns-clause-crash : goal.returns-clause-crash
returns-clause-crash g c = λ told.
    named_puts_then _ _ _ _ _
    (named_puts g.D.JoinDisk.number _ _ _ _ _ _ _ _ c.sync_made.ensures.cycle (c.sync_made.ensures.calm told) (c.has_joined.ensures.calm told) (c.in_ok-sync_made.ensures.there told)
    (g.met.D.JoinDisk.is_disk told c.has_joined.new.self) (c.in_ok-sync_made.ensures.synced told) (inr (c.in_ok-rename.ensures.closes told))) (c.sync_names.ensures.calm told)

pub returns-in_err-sync_made-clause-crash : goal.returns-in_err-sync_made-clause-crash
returns-in_err-sync_made-clause-crash g c = λ told. none_put _ _ _ _ (calm_puts _ _ _ (c.sync_made.ensures.calm told))

pub returns-in_err-has_joined-clause-crash : goal.returns-in_err-has_joined-clause-crash
returns-in_err-has_joined-clause-crash g c = λ told. none_put _ _ _ _ (two_calm _ _ _ _ (calm_puts _ _ _ (c.sync_made.ensures.calm told)) (calm_puts _ _ _ (c.has_joined.ensures.calm told)))

pub returns-then-branch-clause-crash : goal.returns-then-branch-clause-crash
returns-then-branch-clause-crash g c = λ told. none_put _ _ _ _ (two_calm _ _ _ _ (calm_puts _ _ _ (c.sync_made.ensures.calm told)) (calm_puts _ _ _ (c.has_joined.ensures.calm told)))

pub returns-in_err-rename-clause-others : goal.returns-in_err-rename-clause-others
returns-in_err-rename-clause-others g c = λ told.
    others_named _ _ _ _ _ _ _ c.sync_made.ensures.cycle (c.sync_made.ensures.calm told) (c.has_joined.ensures.calm told) (c.in_err-rename.ensures.closes told)

pub returns-clause-others : goal.returns-clause-others
returns-clause-others g c = λ told.
    others_calm _ _ _ (c.sync_names.ensures.calm told)
    ∙ others_named _ _ _ _ _ _ _ c.sync_made.ensures.cycle (c.sync_made.ensures.calm told) (c.has_joined.ensures.calm told) (inr (c.in_ok-rename.ensures.closes told))

pub returns-in_err-sync_made-clause-others : goal.returns-in_err-sync_made-clause-others
returns-in_err-sync_made-clause-others g c = λ told. others_calm _ _ _ (c.sync_made.ensures.calm told)

pub returns-in_err-has_joined-clause-others : goal.returns-in_err-has_joined-clause-others
returns-in_err-has_joined-clause-others g c = λ told. others_calm _ _ _ (c.has_joined.ensures.calm told) ∙ others_calm _ _ _ (c.sync_made.ensures.calm told)

pub returns-then-branch-clause-others : goal.returns-then-branch-clause-others
returns-then-branch-clause-others g c = λ told. others_calm _ _ _ (c.has_joined.ensures.calm told) ∙ others_calm _ _ _ (c.sync_made.ensures.calm told)
