use Rattle.std.proofs.Common.{[], ◌∷◌, ◌++◌, append_assoc, ap, refl, sym, subst, ◌∙◌}
use Rattle.std.proofs.lemmas.List.{append-nil}
use Rattle.ocfl_tree.specs.Place.{Text}
use Rattle.ocfl_speaking.specs.Sifting.{IsSifted, given_on}
use Rattle.ocfl_speaking.specs.declared.sifting.Sifting.{Sifting}
use Rattle.ocfl_speaking.proofs.Steps.{bytes_are, cut_on, rest_kept}
use Rattle.ocfl_speaking.proofs.sifting.Sifting.take.Goals as goal

pub loop-part-init : goal.loop-part-init
loop-part-init c = record { done = []; cut = refl; after = λ g h. subst (λ (b : Text). IsSifted c.args.known.now c.args.self.now (bytes_are g b)) (sym (append-nil g.bytes)) h }

pub loop-part-preserved : goal.loop-part-preserved
loop-part-preserved c =
    let inv = c.loop-part.invariant in
    record {
      done = inv.done ++ (c.in-Some.part.now ++ 10 ∷ []);
      cut = cut_on inv.done c.in-Some.part.now c.in-Some.after.now c.args.bytes.now c.loop-part.left.now inv.cut c.in-Some.ensures.found;
      after = λ g h. subst (λ (b : Text). IsSifted c.args.known.now c.end_line.new.self (bytes_are g b)) (append_assoc g.bytes inv.done (c.in-Some.part.now ++ 10 ∷ []))
          (c.in_ok-end_line.ensures (given_on g inv.done) (inv.after g h));
    }

pub returns : goal.returns
returns c = λ g h.
    let inv = c.loop-part.invariant in
    let old = c.loop-part.self in
    let new : Sifting = record { found = old.found; rest = c.extend_from_slice.new.self; within = old.within; right = old.right; broken = old.broken } in
    subst (λ (b : Text). IsSifted c.args.known.now new (bytes_are g b)) (append_assoc g.bytes inv.done c.loop-part.left.now ∙ ap (λ b. g.bytes ++ b) (sym inv.cut))
    (rest_kept c.args.known.now old new (given_on g inv.done) c.loop-part.left.now (inv.after g h) (c.in_default.ensures.missing refl) c.in_ok-extend_from_slice.ensures.items refl refl refl refl)
