use Rattle.std.proofs.Common.{[], ◌∷◌, ◌++◌, append_assoc, refl, sym, subst}
use Rattle.std.proofs.{lemmas.List.{append-nil}, lemmas.Result.{err_from_is_err_and}}
use Rattle.ocfl_messages.specs.Found.{HasBadLine, IsAfter}
use Rattle.ocfl_messages.proofs.Pieces.{bad_joined, cut_on, rest_joined, rest_kept}
use Rattle.ocfl_messages.proofs.found.Found.take.Goals as goal

pub loop-part-init : goal.loop-part-init
loop-part-init c = record { done = []; cut = refl; after = λ head b h. subst (IsAfter c.args.known.now head c.args.self) (sym (append-nil b)) h }

pub returns-in_err-take_end-clause-bad : goal.returns-in_err-take_end-clause-bad
returns-in_err-take_end-clause-bad c = λ e head b h.
    let inv = c.loop-part.invariant in
    let passed = err_from_is_err_and c.from_residual.result c.from_residual.ensures.1 in
    subst HasBadLine (bad_joined b inv.done c.in-Some.part.now c.in-Some.after.now c.args.bytes.now c.loop-part.left.now inv.cut c.in-Some.ensures.found)
    (c.in_err-take_end.ensures.bad (cc (passed.1, passed.2, e)) head (b ++ inv.done) c.in-Some.after.now (inv.after head b h))

pub loop-part-preserved : goal.loop-part-preserved
loop-part-preserved c =
    let inv = c.loop-part.invariant in
    record {
      done = inv.done ++ (c.in-Some.part.now ++ 10 ∷ []);
      cut = cut_on inv.done c.in-Some.part.now c.in-Some.after.now c.args.bytes.now c.loop-part.left.now inv.cut c.in-Some.ensures.found;
      after = λ head b h. subst (IsAfter c.args.known.now head c.take_end.new.self) (append_assoc b inv.done (c.in-Some.part.now ++ 10 ∷ []))
          (c.in_ok-take_end.ensures.ok head (b ++ inv.done) (inv.after head b h));
    }

pub returns-clause-ok : goal.returns-clause-ok
returns-clause-ok c = λ head b h.
    let inv = c.loop-part.invariant in
    subst (IsAfter c.args.known.now head _) (rest_joined b inv.done c.args.bytes.now c.loop-part.left.now inv.cut)
    (rest_kept c.args.known.now head c.loop-part.found _ (b ++ inv.done) c.loop-part.left.now (inv.after head b h) (c.in_default.ensures.missing refl)
    c.in_ok-extend_from_slice.ensures.items refl)
