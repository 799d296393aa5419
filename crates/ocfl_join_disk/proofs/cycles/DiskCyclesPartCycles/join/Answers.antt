use Rattle.std.proofs.Common.{◌∙◌, sym, refl, Some}
use Rattle.ocfl_join_disk.proofs.Endings.{beside_seen, comes_seen, heard_seen, may_seen, said_seen, silent_seen, why_seen}
use Rattle.ocfl_join_disk.proofs.cycles.DiskCyclesPartCycles.join.Goals as goal

pub returns-clause-comes : goal.returns-clause-comes
returns-clause-comes g c = λ told.
    comes_seen g.D.JoinDisk.parts g.D.JoinDisk.state c.args.self.now.separators.now c.args.self.now.facts.now c.args.cycle c.args.made c.args.names c.in-Some.disk c.join_one-ended.result.disk
    (g.S.Say.said c.args.self.now.out) (g.S.Say.said c.join_one-ended.new.out) c.join_one-ended.result.whole
    (c.join_one-ended.ensures.ended told) c.args.self.now.disk (Some c.join_one-ended.result.disk) (sym c.take.ensures.value ∙ c.in-Some.is) refl
    c.args.self.now.separators.now c.args.self.now.facts.now refl refl

pub returns-clause-said : goal.returns-clause-said
returns-clause-said g c = λ told.
    said_seen g.D.JoinDisk.parts g.D.JoinDisk.state c.args.self.now.separators.now c.args.self.now.facts.now c.args.cycle c.args.made c.args.names c.in-Some.disk c.join_one-ended.result.disk
    (g.S.Say.said c.args.self.now.out) (g.S.Say.said c.join_one-ended.new.out) c.join_one-ended.result.whole
    (c.join_one-ended.ensures.ended told) c.args.self.now.disk (Some c.join_one-ended.result.disk) (sym c.take.ensures.value ∙ c.in-Some.is) refl
    c.args.self.now.separators.now c.args.self.now.facts.now refl refl

pub returns-clause-heard : goal.returns-clause-heard
returns-clause-heard g c = λ told.
    heard_seen g.D.JoinDisk.parts g.D.JoinDisk.state c.args.self.now.separators.now c.args.self.now.facts.now c.args.cycle c.args.made c.args.names c.in-Some.disk c.join_one-ended.result.disk
    (g.S.Say.said c.args.self.now.out) (g.S.Say.said c.join_one-ended.new.out) c.join_one-ended.result.whole
    (c.join_one-ended.ensures.ended told) c.args.self.now.disk (Some c.join_one-ended.result.disk) (sym c.take.ensures.value ∙ c.in-Some.is) refl
    c.args.self.now.separators.now c.args.self.now.facts.now refl refl

pub returns-clause-may : goal.returns-clause-may
returns-clause-may g c = λ told.
    may_seen g.D.JoinDisk.parts g.D.JoinDisk.state c.args.self.now.separators.now c.args.self.now.facts.now c.args.cycle c.args.made c.args.names c.in-Some.disk c.join_one-ended.result.disk
    (g.S.Say.said c.args.self.now.out) (g.S.Say.said c.join_one-ended.new.out) c.join_one-ended.result.whole
    (c.join_one-ended.ensures.ended told) c.args.self.now.disk (Some c.join_one-ended.result.disk) (sym c.take.ensures.value ∙ c.in-Some.is) refl
    c.args.self.now.separators.now c.args.self.now.facts.now refl refl

pub returns-clause-why : goal.returns-clause-why
returns-clause-why g c = λ told.
    why_seen g.D.JoinDisk.parts g.D.JoinDisk.state c.args.self.now.separators.now c.args.self.now.facts.now c.args.cycle c.args.made c.args.names c.in-Some.disk c.join_one-ended.result.disk
    (g.S.Say.said c.args.self.now.out) (g.S.Say.said c.join_one-ended.new.out) c.join_one-ended.result.whole
    (c.join_one-ended.ensures.ended told) c.args.self.now.disk (Some c.join_one-ended.result.disk) (sym c.take.ensures.value ∙ c.in-Some.is) refl
    c.args.self.now.separators.now c.args.self.now.facts.now refl refl

pub returns-clause-silent : goal.returns-clause-silent
returns-clause-silent g c = λ told.
    silent_seen g.D.JoinDisk.parts g.D.JoinDisk.state c.args.self.now.separators.now c.args.self.now.facts.now c.args.cycle c.args.made c.args.names c.in-Some.disk c.join_one-ended.result.disk
    (g.S.Say.said c.args.self.now.out) (g.S.Say.said c.join_one-ended.new.out) c.join_one-ended.result.whole
    (c.join_one-ended.ensures.ended told) c.args.self.now.disk (Some c.join_one-ended.result.disk) (sym c.take.ensures.value ∙ c.in-Some.is) refl
    c.args.self.now.separators.now c.args.self.now.facts.now refl refl

pub returns-clause-beside : goal.returns-clause-beside
returns-clause-beside g c = λ told.
    beside_seen g.D.JoinDisk.parts g.D.JoinDisk.state c.args.self.now.separators.now c.args.self.now.facts.now c.args.cycle c.args.made c.args.names c.in-Some.disk c.join_one-ended.result.disk
    (g.S.Say.said c.args.self.now.out) (g.S.Say.said c.join_one-ended.new.out) c.join_one-ended.result.whole
    (c.join_one-ended.ensures.ended told) c.args.self.now.disk (Some c.join_one-ended.result.disk) (sym c.take.ensures.value ∙ c.in-Some.is) refl
    c.args.self.now.separators.now c.args.self.now.facts.now refl refl
