use Rattle.std.proofs.lemmas.Result.{MatchResult-weaker}
use Rattle.ocfl_messages.proofs.Lists.{entries_read, stop_read}
use Rattle.ocfl_messages.proofs.list.read_known.Goals as goal

pub returns-in-Ok-clause-known : goal.returns-in-Ok-clause-known
returns-in-Ok-clause-known g c =
    MatchResult-weaker c.read_text.result c.read_text.ensures.known
    (λ k h. entries_read (g.R.Read.remaining c.args.reader.now) c.in-Ok.bytes.items _ c.in-Ok.ensures.bytes h) (λ _ h. h)

pub returns-in-Ok-clause-refused : goal.returns-in-Ok-clause-refused
returns-in-Ok-clause-refused g c =
    MatchResult-weaker c.read_text.result c.read_text.ensures.refused (λ _ h. h)
    (λ stop h. stop_read (g.R.Read.remaining c.args.reader.now) c.in-Ok.bytes.items stop c.in-Ok.ensures.bytes h)
