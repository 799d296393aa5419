use Rattle.std.proofs.Common.{◌≡◌, ◌∙◌, subst, append_assoc, arith, string_bytes}
use Rattle.std.proofs.lemmas.Result.{IfOk-weaker}
use Rattle.ocfl_given.specs.Waiting.{IsTimeText, next_after}
use Rattle.ocfl_given.proofs.waiting.wait_text.Goals as goal

pub returns : goal.returns
returns c =
    let next : c.saturating_add-next.result ≡ next_after c.args.wait = omega arith in
    IfOk-weaker c.format.result _ _ (λ text is. record {
      next = string_bytes c.in_ok-next.next;
      next_is = subst (λ n. IsTimeText n (string_bytes c.in_ok-next.next)) next c.in_ok-next.ensures;
      ended = string_bytes c.in_ok-ended.ended;
      ended_is = c.in_ok-ended.ensures;
      text_is = is ∙ simp append_assoc;
    }) c.format.ensures.ok
