use Rattle.std.proofs.Common.{refl, sym, subst, ◌+◌, ◌<◌, ◌^◌, ◌∙◌, length, length-append, ap}
use Rattle.ocfl_joining.proofs.copying.copy_text.Goals as goal

pub returns-clause-copied : goal.returns-clause-copied
returns-clause-copied c = record {
  place = c.in_ok-place.place;
  fit = c.in_ok-place.ensures.fit;
  last = refl;
  count = c.in-Some.ensures.1;
  digests = λ report h e. c.push.ensures report h (subst (λ n. n < 2 ^ 64) (ap (λ n. n + length c.args.text.now) e ∙ sym (length-append report c.args.text.now)) c.in-Some.ensures.0);
}
