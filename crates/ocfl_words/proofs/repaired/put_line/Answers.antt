use Rattle.std.proofs.Common.{◌≡◌, ◌++◌, map, subst, sym, take}
use Rattle.std.specs.Option.{option_map, option_to_list}
use Rattle.ocfl_report.specs.Line.{line_of}
use Rattle.ocfl_words.specs.{Counted.{most_shown}, Shown.{in_order}}
use Rattle.ocfl_words.proofs.Shown.{shown_as_is}
use Rattle.ocfl_words.proofs.repaired.put_line.Goals as goal

pub returns-in-None : goal.returns-in-None
returns-in-None c = λ ls h.
    let shown = map line_of c.args.shown.now.items in
    subst (λ o. shown ≡ in_order (take most_shown (ls ++ option_to_list (option_map (λ l. line_of l.now) o)))) (sym c.in-None.is) (shown_as_is shown ls h)
