use Rattle.std.proofs.Common.{rules}
use Rattle.ocfl_scrub.proofs.PerformLaws.{audit_performed, path_refused, performs_as}
use Rattle.ocfl_scrub.proofs.performing.perform.Goals as goal

pub returns-in-Audit-clause-told : goal.returns-in-Audit-clause-told
returns-in-Audit-clause-told g c told root over short =
    let e = c.audited.ensures in
    let said = c.without_cursor.ensures in
    performs_as root _ _ _ _ _ _ _ _ _ _ c.in-Audit.is (audit_performed _ _ _ _ _ said.status said.note (e.told told root over short) (e.unfailing told root over short))

pub returns-in-Check-clause-any_store : goal.returns-in-Check-clause-any_store
returns-in-Check-clause-any_store g c =
    let e = c.checked.ensures in
    let said = c.without_cursor-in-Check.ensures in
    record {
      status = search rules;
      silent = search rules;
      show_calls = search rules;
      show_ends = search rules;
      unshown = search rules;
      kept = search rules;
      without_file = search rules;
      bad_path = path_refused _ _ _ _ _ _ _ _ c.in-Check.is c.as_str.ensures.value said.status said.note (λ none. (e.bad none).0) e.only_bad;
      bad_path_silent = search rules;
      lines = search rules;
    }
