use Rattle.std.proofs.Common.{◌∷◌, ◌++◌, [], ap, refl, ◌∙◌}
use Rattle.ocfl_speaking.specs.declared.sifting.Sifting.{Sifting}
use Rattle.ocfl_speaking.proofs.Steps.{line_ended}
use Rattle.ocfl_speaking.proofs.sifting.Sifting.end_line.Goals as goal

pub returns : goal.returns
returns c = λ g h.
    let old = c.args.self.now in
    let cut : Sifting = record { found = old.found; rest = c.replace-text.new.dest; within = old.within; right = old.right; broken = old.broken } in
    line_ended c.args.known.now old cut c.take_line.new.self _ g c.args.part.now _ h c.requires
    (c.deref.ensures.value ∙ c.in_ok-put_end.ensures ∙ ap (λ r. (r.items ++ c.args.part.now) ++ 10 ∷ []) c.replace-text.ensures.value)
    (ap (λ r. r.items) c.replace-text.ensures.after ∙ c.new.ensures.items) refl refl refl refl c.in_ok-take_line.ensures.taken c.in_ok-take_line.ensures.rest c.clear.ensures.items refl refl refl refl
