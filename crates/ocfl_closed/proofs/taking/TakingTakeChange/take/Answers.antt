use Rattle.std.proofs.Common.{◌∙◌, ap, map}
use Rattle.ocfl_report.specs.Line.{line_of}
use Rattle.std.specs.Prelude.{◌||◌}
use Rattle.ocfl_compare.specs.Changes.{change_at}
use Rattle.ocfl_words.specs.{Counted.{is_news}, Kept.{kept_by}, Noted.{line_in, noted}}
use Rattle.ocfl_closed.specs.Internal.Takes.{took_one}
use Rattle.ocfl_closed.proofs.taking.TakingTakeChange.take.Goals as goal

pub returns : goal.returns
returns g c =
    let old = c.args.self.now in
    let at = change_at c.args.place.now c.args.change in
    let kept = kept_by old.words.noting in
    let line = line_in kept.before kept.now at in
    took_one _ _ at c.take-2.ensures.kept c.in_ok-take.ensures c.in_ok-is_known.ensures.counted c.in_ok-is_known.ensures.lines
    (c.either-self.ensures ∙ ap (λ x. old.is_grave || x) (c.is_news.ensures c.args.place.now line ∙ ap (λ is. is_news (noted at line is)) c.in_ok-is_known.ensures.value))
    c.take-2.ensures.known (ap (map line_of) c.take-2.ensures.said) c.take-2.ensures.since c.take-2.ensures.whole
