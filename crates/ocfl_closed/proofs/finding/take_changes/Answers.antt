use Rattle.std.proofs.{Common.{sym, ◌∙◌}, lemmas.Bool.{false≢true}, lemmas.Result.{IfOk-weaker, on_ok_weaker}}
use Rattle.ocfl_closed.specs.{Files.{kept_of}, Internal.{AllTaken, Stands.{stand_of}}, Words.{AreOf, AreParts}}
use Rattle.ocfl_closed.proofs.Findings.{none_of_lost, taken_of_kept}
use Rattle.ocfl_closed.proofs.finding.take_changes.Goals as goal

pub returns-then-is_lost-clause-taken : goal.returns-then-is_lost-clause-taken
returns-then-is_lost-clause-taken g c = λ told.
    none_of_lost (kept_of (g.D.ClosedDisk.state c.args.disk.now).files) c.args.pair.now _ (sym c.is_lost.ensures ∙ c.if-is_lost.true) c.requires.since c.requires.found c.requires.whole c.requires.again c.requires.noting

pub returns-then-is_lost-clause-unchanged : goal.returns-then-is_lost-clause-unchanged
returns-then-is_lost-clause-unchanged g c = λ told kept. absurd (false≢true (sym kept ∙ sym c.is_lost.ensures ∙ c.if-is_lost.true))

pub returns-clause-unchanged : goal.returns-clause-unchanged
returns-clause-unchanged g c = λ told. on_ok_weaker c.take_all.result (λ h. λ kept. h) (c.take_all.ensures.unchanged told)

pub returns-clause-taken : goal.returns-clause-taken
returns-clause-taken g c = λ told.
    let D = g.D.ClosedDisk in
    let contents = g.D.List.Write.contents in
    let k = kept_of (D.state c.args.disk.now).files in
    let pair = c.args.pair.now in
    let known = c.args.taking.words.noting.known.now in
    let old = stand_of (contents c.args.taking.list.out) c.args.taking.words c.args.taking.is_grave in
    IfOk-weaker c.take_all.result (λ after. AllTaken (AreOf known k pair) old (stand_of (contents after.list.out) after.words after.is_grave))
    (λ after. AllTaken (AreParts known k pair) old (stand_of (contents after.list.out) after.words after.is_grave))
    (λ after taken. taken_of_kept known k pair old _ (sym c.is_lost.ensures ∙ c.if-is_lost.false) taken) (c.take_all.ensures.taken told)
