use Rattle.std.proofs.Common.{refl}
use Rattle.ocfl_scrub.specs.Scoping.{part_of_scope}
use Rattle.ocfl_scrub.proofs.ScopeLaws.{audited_in, part_audited, unmade_in}
use Rattle.ocfl_scrub.proofs.part_performing.audited_in.Goals as goal

pub returns-in_default-clause-told : goal.returns-in_default-clause-told
returns-in_default-clause-told g c told root over short = unmade_in c.args.scope.now c.in_default.ensures.whole (record { status_is = refl; says = refl; uncalled = refl; unwritten = refl })

pub returns-clause-any_store : goal.returns-clause-any_store
returns-clause-any_store g c =
    let ran = c.audit_part.ensures.any_store in
    let said = c.describe_audit_in.ensures in
    let found = c.audit_part.result.found in
    record {
      status_is = said.status;
      lines = λ n. let ended = said.nothing n in (found, (ended.1, ran.lines (λ e. cc)));
      uncut = λ n. (found, ran.lines (said.uncut n));
    }

pub returns-clause-told : goal.returns-clause-told
returns-clause-told g c told root over short =
    let e = c.audit_part.ensures in
    let said = c.describe_audit_in.ensures in
    let scope = c.args.scope.now in
    audited_in scope (part_audited c.args.further root _ _ _ _ _ c.audit_part.result _ _ (e.told told root over short) (e.unfailing told root over short) said.nothing (part_of_scope scope) c.in-Ok.ensures.part said.note)
