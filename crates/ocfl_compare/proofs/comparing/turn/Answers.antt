use Rattle.std.proofs.Common.{◌∙◌, ap}
use Rattle.std.specs.Prelude.{◌&&◌, ◌||◌, not, flat_map}
use Rattle.ocfl_compare.specs.Internal.Turns.{shut_after}
use Rattle.ocfl_compare.proofs.SoFar.{place_more}
use Rattle.ocfl_compare.proofs.comparing.turn.Goals as goal

pub returns-clause-ok : goal.returns-clause-ok
returns-clause-ok g c = λ b n start h.
    let was = c.in-Ok.ensures.taken b (flat_map (λ x. x.before) h.groups) h.before.reading in
    let is = c.in-Ok-take_place.ensures.taken n (flat_map (λ x. x.now) h.groups) h.now.reading in
    let both = g.met.T.TakeChange.joined c.take_place.new.taker c.take_place-2.new.taker c.say.new.taker _ _ is.3 (c.in_ok-say.ensures.ok was.0 is.0 was.1 is.1) in
    let said = g.met.T.TakeChange.joined c.args.taker.now c.take_place.new.taker c.say.new.taker _ _ was.3 both in
    let shut_is = c.is_shut.ensures ∙ (λ i. is.1.stopped i || (was.1.object i && not (is.1.object i))) in
    place_more g.T.TakeChange.takes g.met.T.TakeChange.joined c.args.asked c.args.left.now c.args.place.now b (g.R.Read.remaining c.args.before.now) (g.R.Read.remaining c.take_place.new.report) n
    (g.S.Read.remaining c.args.now.now) (g.S.Read.remaining c.take_place-2.new.report) start c.args.taker.now c.say.new.taker _ _ _ _ _ _ _ _ c.args.both.shut c.requires.next h was.0 is.0
    c.is_led_from.result c.is_leading.result c.in-Ok-shut_by.shut was.2 is.2 c.in-Ok.ensures.below c.in-Ok-take_place.ensures.below c.is_led_from.ensures c.is_leading.ensures
    (c.in-Ok-shut_by.ensures ∙ ap (shut_after c.args.both.shut c.args.place.now) shut_is) said
