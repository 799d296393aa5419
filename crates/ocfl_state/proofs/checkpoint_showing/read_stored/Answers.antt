use Rattle.std.proofs.Common.{◌≤◌, ◌<◌, length, arith, subst}
use Rattle.std.proofs.lemmas.Result.{MatchResult-weaker, IfOk-weaker}
use Rattle.ocfl_cursor.proofs.PartLimited.{of_all, of_more}
use Rattle.ocfl_state.specs.CheckpointShown.{AreShown, HiddenRightly, max_shown}
use Rattle.ocfl_state.specs.declared.checkpoint_showing.NotShown.TheVariants.{Long}
use Rattle.ocfl_state.proofs.CheckpointShowing.{always}
use Rattle.ocfl_state.proofs.checkpoint_showing.read_stored.Goals as goal

pub returns-in-Err-Failed-clause-refused : goal.returns-in-Err-Failed-clause-refused
returns-in-Err-Failed-clause-refused g c = always (g.R.Read.remaining c.args.reader.now)

pub returns-in-Err-Memory-clause-refused : goal.returns-in-Err-Memory-clause-refused
returns-in-Err-Memory-clause-refused g c = always (g.R.Read.remaining c.args.reader.now)

pub returns-then-len-gt-MAX_SHOWN-clause-refused : goal.returns-then-len-gt-MAX_SHOWN-clause-refused
returns-then-len-gt-MAX_SHOWN-clause-refused g c =
    let many : max_shown < length c.in-Ok.bytes.items = omega arith in
    of_more (λ all. HiddenRightly all Long) (g.R.Read.remaining c.args.reader.now) c.in-Ok.bytes.items c.in-Ok.ensures.bytes many (λ all more. more)

pub returns-clause-lines : goal.returns-clause-lines
returns-clause-lines g c =
    let few : length c.in-Ok.bytes.items ≤ max_shown = omega arith in
    IfOk-weaker c.show_stored.result _ _
    (λ lines h. of_all (λ all. AreShown all lines.items) (g.R.Read.remaining c.args.reader.now) c.in-Ok.bytes.items c.in-Ok.ensures.bytes few
    (subst (λ t. AreShown t lines.items) c.deref.ensures.value h)) c.show_stored.ensures.lines

pub returns-clause-refused : goal.returns-clause-refused
returns-clause-refused g c =
    let few : length c.in-Ok.bytes.items ≤ max_shown = omega arith in
    MatchResult-weaker c.show_stored.result c.show_stored.ensures.refused (λ _ h. h)
    (λ why h. of_all (λ all. HiddenRightly all why) (g.R.Read.remaining c.args.reader.now) c.in-Ok.bytes.items c.in-Ok.ensures.bytes few
    (subst (λ t. HiddenRightly t why) c.deref.ensures.value h))
