use Rattle.std.proofs.Common.{inr, refl}
use Rattle.ocfl_rules.specs.Parts.{whole}
use Rattle.ocfl_cursor.specs.Cursor.{cursor_text}
use Rattle.ocfl_scrub.specs.{Performing.{BeginsWith, bytes_of}, Running.{limits_of}}
use Rattle.ocfl_scrub.proofs.PerformLaws.{Made, begins_with, handed_back, made_by, run_answers, run_performed_with, worn_silent}
use Rattle.ocfl_scrub.proofs.performing.perform_run.Given as given
use Rattle.ocfl_scrub.proofs.performing.perform_run.Goals as goal

made : (g : given.Over) (c : goal.After-conclude_run g)
    → Made (BeginsWith c.args.further (bytes_of g.R.Read.remaining c.args.reader)) cursor_text (limits_of c.args.limits) c.in-Ok-of_audit.cursor c.run-end.result c.conclude_run.result
made g c =
    let e = c.conclude_run.ensures in
    made_by c.run-end.ensures.any_store (begins_with _ _ _ _ c.in-Ok.ensures.cursor c.in-Ok-of_audit.ensures.same) c.encode-text.ensures.keeps e.worn.1 e.worn_ends (λ went. e.note went cursor_text c.encode-text.ensures.text)

pub returns-clause-handed_back : goal.returns-clause-handed_back
returns-clause-handed_back g c = handed_back (made g c)

pub returns-clause-told : goal.returns-clause-told
returns-clause-told g c told root over short =
    let r = c.run-end.ensures in
    run_performed_with (made g c) c.args.further root _ _ _ _ whole whole (made g c).begins.0 refl (λ worn. inr (inr worn)) (worn_silent r.any_store g.T.Tree.state)
    (r.told told root over short) (r.unfailing told root over short)

pub returns-clause-any_store : goal.returns-clause-any_store
returns-clause-any_store g c =
    let said = c.conclude_run.ensures in
    run_answers c.run-end.ensures.any_store c.args.further _ c.conclude_run.result said.status said.said said.worn.0 said.kept said.lines said.uncut
