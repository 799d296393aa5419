use Rattle.std.proofs.Common.{[], ◌++◌, ◌∙◌, ap, map, sym, take}
use Rattle.std.proofs.lemmas.Result.{on_ok_weaker}
use Rattle.std.specs.{Prelude.{if◌then◌else◌}, Option.{option_map, option_to_list}}
use Rattle.ocfl_report.specs.Line.{line_of}
use Rattle.ocfl_words.specs.{Counted.{most_shown}, Shown.{in_order}}
use Rattle.ocfl_words.proofs.Shown.{shown_as_is}
use Rattle.ocfl_words.proofs.repaired.keep_repaired.Goals as goal

pub returns-then-is_repaired : goal.returns-then-is_repaired
returns-then-is_repaired c =
    let line = option_to_list (option_map (λ l. line_of l.now) c.args.line) in
    on_ok_weaker c.put_line.result
    (λ put. λ ls h. put ls h ∙ ap (λ b. in_order (take most_shown (ls ++ (if b then line else [])))) (sym c.if-is_repaired.true)) c.put_line.ensures

pub returns : goal.returns
returns c = λ ls h.
    let line = option_to_list (option_map (λ l. line_of l.now) c.args.line) in
    shown_as_is (map line_of c.args.shown.now.items) ls h
    ∙ ap (λ b. in_order (take most_shown (ls ++ (if b then line else [])))) (sym c.if-is_repaired.false)
