use Rattle.std.proofs.Common.{subst}
use Rattle.ocfl_cursor.specs.{Refusal.{IsTextOf, RefusedRightly}, Stop.{StopsRightly}}
use Rattle.ocfl_cursor.proofs.Limited.{IsTextOf-read, StopsRightly-read, unread_told}
use Rattle.ocfl_cursor.proofs.reading.read_cursor.Goals as goal

pub returns-in-Err-clause-refused : goal.returns-in-Err-clause-refused
returns-in-Err-clause-refused g c =
    unread_told StopsRightly (λ b. tt) (λ b. tt) (g.R.Read.remaining c.args.reader.now) c.in-Err.why c.cursor_stop.result c.cursor_stop.ensures

pub returns-in-Ok-decode-clause-cursor : goal.returns-in-Ok-decode-clause-cursor
returns-in-Ok-decode-clause-cursor g c =
    IsTextOf-read (g.R.Read.remaining c.args.reader.now) c.in-Ok.bytes.items c.in-Ok-decode.cursor c.in-Ok.ensures.bytes
    (subst (λ t. IsTextOf t c.in-Ok-decode.cursor) c.deref.ensures.value c.in-Ok-decode.ensures.cursor)

pub returns-clause-refused : goal.returns-clause-refused
returns-clause-refused g c =
    StopsRightly-read (g.R.Read.remaining c.args.reader.now) c.in-Ok.bytes.items c.in-Err-decode.refused c.in-Ok.ensures.bytes
    (subst (λ t. RefusedRightly t c.in-Err-decode.refused) c.deref.ensures.value c.in-Err-decode.ensures.refused)
