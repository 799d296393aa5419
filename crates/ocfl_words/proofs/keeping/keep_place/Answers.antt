use Rattle.std.proofs.{Common.{rules, ◌∙◌, ap, map}, lemmas.Fn.{filter_same}}
use Rattle.ocfl_tree.specs.Place.{place_eq}
use Rattle.ocfl_report.specs.{Line.{Line, line_of}, declared.line.Line.{Line as MadeLine}}
use Rattle.ocfl_words.proofs.KeptLines.{filter_mapped}
use Rattle.ocfl_words.proofs.keeping.keep_place.Goals as goal

pub returns : goal.returns
returns c =
    let test = λ (l : MadeLine). place_eq c.args.place.now l.place in
    ap (map line_of) (filter_same _ test _ (λ x b f' k. search rules) _ _ c.retain.ensures.filtered)
    ∙ filter_mapped line_of (λ (l : Line). place_eq c.args.place.now l.place) c.args.lines.now.items
