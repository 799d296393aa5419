use Rattle.std.proofs.Common.{◌≤◌, ◌<◌, length, arith, subst}
use Rattle.std.proofs.lemmas.Result.{MatchResult-weaker, IfOk-weaker}
use Rattle.ocfl_cursor.specs.{Shown.{AreShown, UnshownRightly}, Stop.{max_part_text}}
use Rattle.ocfl_cursor.specs.declared.showing.ShowStop.TheVariants.{Whole}
use Rattle.ocfl_cursor.proofs.{Limited.{unread_told}, PartLimited.{shown_read, unshown_read, unshown_too_many}}
use Rattle.ocfl_cursor.proofs.showing.read_shown.Goals as goal

pub returns-in-Err-clause-refused : goal.returns-in-Err-clause-refused
returns-in-Err-clause-refused g c =
    unread_told (λ b stop. UnshownRightly b (Whole stop)) (λ b. tt) (λ b. tt) (g.R.Read.remaining c.args.reader.now) c.in-Err.why c.cursor_stop.result c.cursor_stop.ensures

pub returns-then-len-gt-MAX_PART_TEXT-clause-refused : goal.returns-then-len-gt-MAX_PART_TEXT-clause-refused
returns-then-len-gt-MAX_PART_TEXT-clause-refused g c =
    let many : max_part_text < length c.in-Ok.bytes.items = omega arith in
    unshown_too_many (g.R.Read.remaining c.args.reader.now) c.in-Ok.bytes.items c.in-Ok.ensures.bytes many

pub returns-clause-lines : goal.returns-clause-lines
returns-clause-lines g c =
    let few : length c.in-Ok.bytes.items ≤ max_part_text = omega arith in
    IfOk-weaker c.shown_lines.result _ _
    (λ lines h. shown_read (g.R.Read.remaining c.args.reader.now) c.in-Ok.bytes.items lines.items c.in-Ok.ensures.bytes few
    (subst (λ t. AreShown t lines.items) c.deref.ensures.value h)) c.shown_lines.ensures.lines

pub returns-clause-refused : goal.returns-clause-refused
returns-clause-refused g c =
    let few : length c.in-Ok.bytes.items ≤ max_part_text = omega arith in
    MatchResult-weaker c.shown_lines.result c.shown_lines.ensures.refused (λ _ h. h)
    (λ why h. unshown_read (g.R.Read.remaining c.args.reader.now) c.in-Ok.bytes.items why c.in-Ok.ensures.bytes few (subst (λ t. UnshownRightly t why) c.deref.ensures.value h))
