use Rattle.std.proofs.Common.{◌≤◌, ◌<◌, ◌∙◌, length, map, arith}
use Rattle.std.proofs.lemmas.{List.{length-map}, Result.{on_ok_weaker}}
use Rattle.ocfl_report.specs.Line.{line_of}
use Rattle.ocfl_words.specs.Counted.{most_shown}
use Rattle.ocfl_words.proofs.Shown.{shown_full, shown_more}
use Rattle.ocfl_words.proofs.repaired.put_shown.Goals as goal

pub returns-then-len-ge-SHOWN : goal.returns-then-len-ge-SHOWN
returns-then-len-ge-SHOWN c = λ ls h.
    let shown = map line_of c.args.shown.now.items in
    let full : most_shown ≤ length shown = omega (arith, length-map c.args.shown.now.items line_of) in
    shown_full shown ls (line_of c.args.line.now) full h

pub returns : goal.returns
returns c =
    let shown = map line_of c.args.shown.now.items in
    let few : length shown < most_shown = omega (arith, length-map c.args.shown.now.items line_of) in
    on_ok_weaker c.insert.result (λ is. λ ls h. is ∙ shown_more shown ls (line_of c.args.line.now) few h) c.insert.ensures
