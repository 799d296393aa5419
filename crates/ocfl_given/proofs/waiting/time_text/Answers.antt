use Rattle.std.proofs.Common.{inl}
use Rattle.std.proofs.lemmas.Result.{IfOk-weaker}
use Rattle.ocfl_given.proofs.waiting.time_text.Goals as goal

pub returns-in-Some : goal.returns-in-Some
returns-in-Some c = IfOk-weaker c.format.result _ _ (λ text is. inl (record { time = c.in-Some.time; is = c.in-Some.ensures.some; text_is = is })) c.format.ensures.ok
