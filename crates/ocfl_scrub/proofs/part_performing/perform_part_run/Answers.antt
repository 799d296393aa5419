use Rattle.std.proofs.Common.{inl, inr}
use Rattle.ocfl_cursor.specs.Part.{part_text}
use Rattle.ocfl_scrub.specs.{Performing.{bytes_of}, Running.{limits_of}}
use Rattle.ocfl_scrub.specs.Scoping.{BeginsPartWith}
use Rattle.ocfl_scrub.proofs.PerformLaws.{Made, begins_part_with, handed_back, made_by, run_answers, run_performed_with, worn_silent}
use Rattle.ocfl_scrub.proofs.part_performing.perform_part_run.Goals.{Joined-part-2}
use Rattle.ocfl_scrub.proofs.part_performing.perform_part_run.Given as given
use Rattle.ocfl_scrub.proofs.part_performing.perform_part_run.Goals as goal

made : (g : given.Over) (c : Joined-part-2 g)
    → Made (BeginsPartWith c.args.further c.args.ends.now (bytes_of g.R.Read.remaining c.args.reader)) (part_text c.args.ends.now) (limits_of c.args.limits) c.in-Ok-of_audit.cursor c.run_part-end.result c.conclude_run.result
made g c =
    let e = c.conclude_run.ensures in
    made_by c.run_part-end.ensures.any_store (begins_part_with _ _ _ _ _ c.in-Ok.ensures.cursor c.in-Ok-of_audit.ensures.same) c.encode_part-text.ensures.keeps e.worn.1 e.worn_ends (λ went. e.note went (part_text c.args.ends.now) c.encode_part-text.ensures.text)

pub returns-clause-handed_back : goal.returns-clause-handed_back
returns-clause-handed_back g c = handed_back (made g c)

pub returns-clause-told : goal.returns-clause-told
returns-clause-told g c told root over short =
    let r = c.run_part-end.ensures in
    run_performed_with (made g c) c.args.further root _ _ _ _ _ _ (made g c).begins.0 c.in-Ok-part_between.ensures (λ worn. inr (inr (inl worn))) (worn_silent r.any_store g.T.Tree.state)
    (r.told told root over short) (r.unfailing told root over short)

pub returns-clause-any_store : goal.returns-clause-any_store
returns-clause-any_store g c =
    let said = c.conclude_run.ensures in
    run_answers c.run_part-end.ensures.any_store c.args.further _ c.conclude_run.result said.status said.said said.worn.0 said.kept said.lines said.uncut
