use Rattle.std.proofs.Common.{◌∙◌}
use Rattle.ocfl_joining.proofs.{Copies.{changed_more, copied_if_none}, Passing.{two_same}, Stays.{reports_on}}
use Rattle.ocfl_joining.proofs.joining.copy_all.Goals as goal

pub loop-index-preserved : goal.loop-index-preserved
loop-index-preserved g c =
    let seen = g.R.PartReports.seen in
    let first = seen c.args.reports.now in
    let before = seen c.loop-index.reports in
    let after = seen c.copy_part.new.reports in
    let h = c.loop-index.invariant in
    record {
      copied = λ t. copied_if_none c.args.separators.now c.loop-index.index first before after c.in-Ok.right c.loop-index.changed.items c.add_unless.new.changed.items (h.reports t) c.in_ok-add_unless-in-Ok.ensures
          (h.copied t) (c.in-Ok.ensures.right t) (c.in-Ok.ensures.copied t);
      changed = λ t. changed_more c.args.separators.now c.loop-index.index first before after c.in-Ok.right c.loop-index.changed.items c.add_unless.new.changed.items (h.reports t) c.in_ok-add_unless-in-Ok.ensures
          (c.in-Ok.ensures.right t) (c.in-Ok.ensures.changed t) (h.changed t);
      unput = λ t. c.copy_part.ensures.unput t ∙ h.unput t;
      reports = λ t. reports_on _ _ _ (h.reports t) (c.copy_part.ensures.reports t);
      crash = λ t. two_same g.R.PartReports.may_leave g.R.PartReports.moment g.R.PartReports.left_since c.args.reports.now c.loop-index.reports c.copy_part.new.reports (h.crash t) (c.copy_part.ensures.crash t);
    }
