use Rattle.std.proofs.Common.{◌≤◌, ◌<◌, length, arith, subst}
use Rattle.ocfl_cursor.specs.{Part.{IsPartText}, PartRefusal.{PartRefusedRightly}}
use Rattle.ocfl_cursor.specs.Stop.{max_part_text}
use Rattle.ocfl_cursor.proofs.PartLimited.{part_text_read, part_stops_read, part_stops_too_many}
use Rattle.ocfl_cursor.proofs.part_reading.read_part_cursor.Goals as goal

pub returns-then-len-gt-MAX_PART_TEXT-clause-refused : goal.returns-then-len-gt-MAX_PART_TEXT-clause-refused
returns-then-len-gt-MAX_PART_TEXT-clause-refused g c =
    let many : max_part_text < length c.in-Ok.bytes.items = omega arith in
    part_stops_too_many (g.R.Read.remaining c.args.reader.now) c.in-Ok.bytes.items c.args.ends.now c.in-Ok.ensures.bytes many

pub returns-in-Ok-decode_part-clause-cursor : goal.returns-in-Ok-decode_part-clause-cursor
returns-in-Ok-decode_part-clause-cursor g c =
    let few : length c.in-Ok.bytes.items ≤ max_part_text = omega arith in
    part_text_read (g.R.Read.remaining c.args.reader.now) c.in-Ok.bytes.items c.args.ends.now c.in-Ok-decode_part.cursor c.in-Ok.ensures.bytes few
    (subst (λ t. IsPartText c.args.ends.now t c.in-Ok-decode_part.cursor) c.deref.ensures.value c.in-Ok-decode_part.ensures.cursor)

pub returns-clause-refused : goal.returns-clause-refused
returns-clause-refused g c =
    let few : length c.in-Ok.bytes.items ≤ max_part_text = omega arith in
    part_stops_read (g.R.Read.remaining c.args.reader.now) c.in-Ok.bytes.items c.args.ends.now c.in-Err-decode_part.refused c.in-Ok.ensures.bytes few
    (subst (λ t. PartRefusedRightly c.args.ends.now t c.in-Err-decode_part.refused) c.deref.ensures.value c.in-Err-decode_part.ensures.refused)
