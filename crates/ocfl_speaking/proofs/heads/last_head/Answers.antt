use Rattle.std.proofs.{Common.{◌==◌, ap, refl, subst, sym, ◌∙◌}, lemmas.Result.{IfOk-weaker}}
use Rattle.std.specs.List.{after_first}
use Rattle.ocfl_messages.specs.Found.{IsHeadIn}
use Rattle.ocfl_speaking.specs.Heads.{lines_from}
use Rattle.ocfl_speaking.proofs.Cuts.{behind_feed, behind_none, none_in}
use Rattle.ocfl_speaking.proofs.heads.last_head.Goals as goal

pub returns-in-Some : goal.returns-in-Some
returns-in-Some c =
    let is = ap (λ b. lines_from b c.args.bytes.now) c.if-is_start.false ∙ ap (after_first (λ b. b == 10)) c.in-Some.ensures.found
    ∙ behind_feed c.in-Some.field-0-0.now c.in-Some.lines.now c.in-Some.ensures.first in
    IfOk-weaker c.within-in-Some.result _ _ (λ heads h. subst (IsHeadIn heads) (sym is) h) c.within-in-Some.ensures.ok

pub returns-in-None : goal.returns-in-None
returns-in-None c =
    let is = ap (λ b. lines_from b c.args.bytes.now) c.if-is_start.false ∙ behind_none c.args.bytes.now (c.in-None.ensures.missing refl) in
    subst (IsHeadIn c.new.result) (sym is) (none_in c.new.result c.new.ensures)
