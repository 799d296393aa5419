use Rattle.std.proofs.{Common.{◌≡◌, ◌+◌, ◌-◌, ◌∙◌, subst, take, drop, arith}, KnownBytes.{Appends-trans}}
use Rattle.std.specs.{Prelude.{IsTrue}, Io.KnownBytes.{Appends}}
use Rattle.std.proofs.lemmas.Result.{err_from_is_err_and}
use Rattle.ocfl_state.specs.Content.{Content}
use Rattle.ocfl_night.specs.Stopping.{ForSay}
use Rattle.ocfl_night.proofs.{Heard.{grows_on}, Moments.{same_first}, Pieces.{piece_on}}
use Rattle.ocfl_night.proofs.Reasons.{say_reason, stops_at}
use Rattle.ocfl_night.proofs.saying.say_between.Goals as goal

pub returns-in_err-at-clause-grew : goal.returns-in_err-at-clause-grew
returns-in_err-at-clause-grew g c = grows_on _ _ _ c.loop-at.invariant.grew c.say_piece.ensures.grew

pub loop-at-preserved : goal.loop-at-preserved
loop-at-preserved g c =
    let s0 = g.O.Output.said c.args.out.now in
    let s1 = g.O.Output.said c.loop-at.out in
    let s2 = g.O.Output.said c.say_piece.new.out in
    let inv = c.loop-at.invariant in
    let some = c.in_ok-at.ensures.some in
    let count = c.in_ok-at.field-0 in
    let at = c.loop-at.at in
    record {
      from = omega (arith, inv.from);
      up_to = omega (arith, some.1, c.loop-at-test.true);
      said = λ told. subst (Appends s0.given s2.given) (piece_on (g.S.StateFolder.seen c.args.folder.now).report c.args.start at count inv.from) (Appends-trans s0.given s1.given s2.given _ _ (inv.said told) (subst (λ (x : Content). Appends s1.given s2.given (take count (drop at x.report))) (inv.seen told) (c.in_ok-at.ensures.said told)));
      later = λ told. let a = inv.later told in let b = c.in_ok-at.ensures.stop told in omega arith;
      grew = grows_on s0 s1 s2 inv.grew c.say_piece.ensures.grew;
      seen = λ told. c.say_piece.ensures.seen told ∙ inv.seen told;
      crash = λ told. same_first (λ d c same. same) (inv.crash told) (c.say_piece.ensures.crash told);
    }

pub returns-in_err-at-clause-stop : goal.returns-in_err-at-clause-stop
returns-in_err-at-clause-stop g c =
    let p = err_from_is_err_and c.from_residual.result c.from_residual.ensures.1 in
    let inv = c.loop-at.invariant in
    let why = c.in_err-at.field-0.0 in
    let seen = g.S.StateFolder.seen c.args.folder.now in
    let said0 = g.O.Output.said c.args.out.now in
    let said2 = g.O.Output.said c.say_piece.new.out in
    let at_end : c.loop-at.at + (c.args.end - c.loop-at.at) ≡ c.args.end = omega (arith, inv.up_to) in
    stops_at (IsTrue g.S.StateFolder.told) (ForSay seen c.args.end said0 said2) _ _ c.from_residual.result why (cc (p.1, p.2))
    (say_reason (IsTrue g.S.StateFolder.told) seen (g.S.StateFolder.seen c.loop-at.folder) said0 (g.O.Output.said c.loop-at.out) said2 c.args.end (c.loop-at.at + (c.args.end - c.loop-at.at)) _ (g.S.StateFolder.faults c.loop-at.folder) _ why inv.seen at_end inv.grew.failures inv.later c.in_err-at.ensures.stop)
