use Rattle.std.proofs.Common.{◌++◌, ap, map, subst, ◌∙◌}
use Rattle.ocfl_messages.specs.{Finding.{filled, found_in}, Gathering.{said}, Gravest.{IsOf}}
use Rattle.ocfl_messages.proofs.Gathered.{all_filled}
use Rattle.ocfl_messages.proofs.gathering.Gathering.fill.Goals as goal

pub returns-clause-found : goal.returns-clause-found
returns-clause-found c = λ says fs s h.
    let files = c.files-files.ensures says fs s h in
    let G = map (found_in s.head) s.lines in
    let all = all_filled says c.files-files.result fs G (h.are_counted c.files-files.result) ∙ ap (λ d. said says (fs ++ map (filled d) G)) files in
    subst (IsOf c.fill.new.self) all (c.fill.ensures (said says (fs ++ G)) h.found)
