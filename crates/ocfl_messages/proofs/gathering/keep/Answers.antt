use Rattle.std.proofs.{Common.{◌≡◌, ◌++◌, ◌∷◌, [], ap, subst}, lemmas.Result.{on_ok_weaker}}
use Rattle.std.specs.Prelude.{None}
use Rattle.ocfl_report.specs.Line.{line_of}
use Rattle.ocfl_codes.specs.Weight.{weight_of}
use Rattle.ocfl_messages.specs.{Finding.{found_in}, Gravest.{IsOf}}
use Rattle.ocfl_messages.proofs.Heaps.{none_more}
use Rattle.ocfl_messages.proofs.gathering.keep.Goals as goal

pub returns-in-None : goal.returns-in-None
returns-in-None c = λ fs h.
    let e : weight_of c.args.line.code ≡ None = cc in
    none_more c.args.found.now fs (found_in c.args.heads.now.last (line_of c.args.line)) e h

pub returns-in_ok-place-in-Some : goal.returns-in_ok-place-in-Some
returns-in_ok-place-in-Some c = on_ok_weaker c.add.result (λ adds fs h. subst (IsOf c.add.new.self) (ap (λ f. fs ++ f ∷ []) c.in_ok-place-in-Some.ensures) (adds fs h)) c.add.ensures.ok
