use Rattle.std.proofs.Common.{◌∙◌, ◌++◌, ap, length, sym}
use Rattle.ocfl_state.specs.Content.{Content, with_report}
use Rattle.ocfl_state.specs.declared.checkpoint_parts.ReportMark.{ReportMark}
use Rattle.ocfl_state.proofs.Marks.{appended, appended_then, resumed_on, in_range, not_both, fails_for}
use Rattle.ocfl_state.proofs.extending.append_marked.Goals as goal

pub returns-in_err-append-clause-crash : goal.returns-in_err-append-clause-crash
returns-in_err-append-clause-crash g c = λ told.
    let seen = g.S.StateFolder.seen in
    appended c.args.bytes.now (seen c.args.folder.now) (seen c.resume_digests.new.folder) (c.resume_digests.ensures.crash told) (c.resume_digests.ensures.seen told)
    (c.append.ensures.crash told)

pub returns-in_err-length-clause-crash : goal.returns-in_err-length-clause-crash
returns-in_err-length-clause-crash g c = λ told.
    let seen = g.S.StateFolder.seen in
    appended_then c.args.bytes.now (seen c.args.folder.now) (seen c.resume_digests.new.folder) (c.resume_digests.ensures.crash told) (c.resume_digests.ensures.seen told)
    (c.append.ensures.crash told) (c.length.ensures.crash told)

pub returns-then-not-is_as_long-clause-crash : goal.returns-then-not-is_as_long-clause-crash
returns-then-not-is_as_long-clause-crash g c = λ told.
    let seen = g.S.StateFolder.seen in
    appended_then c.args.bytes.now (seen c.args.folder.now) (seen c.resume_digests.new.folder) (c.resume_digests.ensures.crash told) (c.resume_digests.ensures.seen told)
    (c.append.ensures.crash told) (c.length.ensures.crash told)

pub returns-clause-marked : goal.returns-clause-marked
returns-clause-marked g c = λ told same.
    let S = g.S.StateFolder in
    let bytes = c.args.bytes.now in
    let old = S.seen c.args.folder.now in
    let carried = resumed_on c.args.mark.now old.report c.in_ok-digests.field-0 c.in-Some.digests same c.in-Some.is (c.in_ok-digests.ensures.carried told) in
    let grown = c.in_ok-append.ensures.appended told ∙ ap (λ (s : Content). with_report (s.report ++ bytes) s) (c.resume_digests.ensures.seen told) in
    let short = in_range (S.seen c.append.new.self) old bytes c.in_ok-length.field-0 grown (c.in_ok-length.ensures.value told) c.is_as_long.ensures.range in
    c.summary-next.ensures (old.report ++ bytes) (c.push.ensures old.report carried short)

pub returns-clause-crash : goal.returns-clause-crash
returns-clause-crash g c = λ told.
    let seen = g.S.StateFolder.seen in
    appended_then c.args.bytes.now (seen c.args.folder.now) (seen c.resume_digests.new.folder) (c.resume_digests.ensures.crash told) (c.resume_digests.ensures.seen told)
    (c.append.ensures.crash told) (c.length.ensures.crash told)

pub returns-then-not-is_as_long-clause-cause : goal.returns-then-not-is_as_long-clause-cause
returns-then-not-is_as_long-clause-cause g c = λ told.
    let S = g.S.StateFolder in
    let bytes = c.args.bytes.now in
    let old = S.seen c.args.folder.now in
    let grown = c.in_ok-append.ensures.appended told ∙ ap (λ (s : Content). with_report (s.report ++ bytes) s) (c.resume_digests.ensures.seen told) in
    let short = in_range (S.seen c.append.new.self) old bytes c.in_ok-length.field-0 grown (c.in_ok-length.ensures.value told) c.is_as_long.ensures.range in
    fails_for _ _ _ _ (c.resume_digests.ensures.cause told).later (c.append.ensures.cause told).later (c.length.ensures.cause told).later (λ same.
    let carried = resumed_on c.args.mark.now old.report c.in_ok-digests.field-0 c.in-Some.digests same c.in-Some.is (c.in_ok-digests.ensures.carried told) in
    let next = c.summary-next.ensures (old.report ++ bytes) (c.push.ensures old.report carried short) in
    let long = c.in_ok-length.ensures.value told ∙ ap (λ (s : Content). length s.report) grown ∙ sym (ap (λ (m : ReportMark). m.bytes) next) in
    not_both c.is_as_long.result (c.is_as_long.ensures.value.1 long) c.if-not-is_as_long.true)
