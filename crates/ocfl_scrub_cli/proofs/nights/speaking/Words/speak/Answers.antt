use Rattle.std.proofs.lemmas.Result.{IfOk-weaker}
use Rattle.ocfl_scrub_cli.proofs.nights.speaking.Words.speak.Goals as goal

pub returns-clause-spoken : goal.returns-clause-spoken
returns-clause-spoken c = IfOk-weaker c.message.result _ _ (λ text said g h. (c.get-now.result, c.take_reasons-reasons.result, c.as_str.result, said g h)) c.message.ensures.said

pub returns-clause-message : goal.returns-clause-message
returns-clause-message c = IfOk-weaker c.message.result _ _ (λ text said. (c.message.new.self, λ g h. (c.get-now.result, c.take_reasons-reasons.result, c.as_str.result, said g h))) c.message.ensures.said
