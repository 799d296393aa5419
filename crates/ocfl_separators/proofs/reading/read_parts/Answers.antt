use Rattle.std.proofs.{Common.{subst}, lemmas.Result.{MatchResult-weaker}}
use Rattle.ocfl_separators.specs.{Parts.{IsPartsText}, Stop.{StopsRightly}}
use Rattle.ocfl_separators.proofs.Limited.{parts_read, stop_read}
use Rattle.ocfl_separators.proofs.reading.read_parts.Goals as goal

pub returns-in-Ok-clause-separators : goal.returns-in-Ok-clause-separators
returns-in-Ok-clause-separators g c =
    MatchResult-weaker c.read_text.result c.read_text.ensures.separators
    (λ ps h. parts_read (g.R.Read.remaining c.args.reader.now) c.in-Ok.bytes.items ps c.in-Ok.ensures.bytes (subst (λ t. IsPartsText t ps) c.deref.ensures.value h)) (λ _ h. h)

pub returns-in-Ok-clause-refused : goal.returns-in-Ok-clause-refused
returns-in-Ok-clause-refused g c =
    MatchResult-weaker c.read_text.result c.read_text.ensures.refused (λ _ h. h)
    (λ stop h. stop_read (g.R.Read.remaining c.args.reader.now) c.in-Ok.bytes.items stop c.in-Ok.ensures.bytes (subst (λ t. StopsRightly t stop) c.deref.ensures.value h))
