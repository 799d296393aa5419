use Rattle.std.proofs.Common.{subst, sym, ◌∙◌}
use Rattle.ocfl_words.specs.Counted.{AreCounted}
use Rattle.ocfl_closed.specs.{Back.{AreBack}, Files.{kept_of}, Words.{IsMade}}
use Rattle.ocfl_closed.proofs.accounting.account_of.Goals as goal

pub returns-clause-changes : goal.returns-clause-changes
returns-clause-changes g c = λ v w x since noting whole.
    c.in-Ok-join_parts.ensures.changes v w x since (subst (λ k. AreCounted k w) (sym c.in_ok-last.ensures.changes) noting) whole

pub returns-clause-back : goal.returns-clause-back
returns-clause-back g c = λ told.
    let same = (c.find_paths.ensures.still told).calm.files ∙ (c.read_kept.ensures.still told).calm.files in
    subst (λ f. AreBack (kept_of f) c.args.pair.now c.in_ok-back.back.items) same (c.in_ok-back.ensures.back told)

pub returns-clause-made : goal.returns-clause-made
returns-clause-made g c = λ told.
    subst (λ n. IsMade c.by.result ((g.D.ClosedDisk.state c.args.disk.now).files.checkpoint n)) c.cycle.ensures (subst (IsMade c.by.result) (c.in_ok-kept.ensures.value told) c.by.ensures)
