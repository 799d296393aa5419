use Rattle.std.proofs.Common.{◌++◌, List, Option, subst}
use Rattle.std.specs.Option.{option_to_list}
use Rattle.ocfl_tree.specs.Place.{Text}
use Rattle.ocfl_report.specs.Line.{Line}
use Rattle.ocfl_messages.specs.Tally.{IsTally}
use Rattle.ocfl_part_folders.specs.Counting.{CountsAs}
use Rattle.ocfl_part_folders.proofs.Counted.{read_all, read_more, read_none}
use Rattle.ocfl_part_folders.proofs.counting.counts_of.Goals as goal

pub loop-init : goal.loop-init
loop-init g c = read_none _ _ c.new-tally.ensures

pub loop-preserved : goal.loop-preserved
loop-preserved g c =
    let Adds : Text → Type 0 = λ t. (line : Option Line) × (CountsAs t line × ((ls : List Line) → IsTally c.loop.tally ls → IsTally c.count_text.new.tally (ls ++ option_to_list line))) in
    read_more (g.B.Read.remaining c.args.report.now) (g.B.Read.remaining c.loop.report) (g.B.Read.remaining c.next_line.new.report) c.loop.tally c.count_text.new.tally c.next_line.new.text.items
    c.loop.invariant c.in_ok-more.ensures.rest c.in_ok-more.ensures.line (c.in_ok-more.ensures.more c.if-more.true) (subst Adds c.as_slice.ensures.value c.in_ok-count_text.ensures)

pub returns-else-more : goal.returns-else-more
returns-else-more g c =
    read_all (g.B.Read.remaining c.args.report.now) (g.B.Read.remaining c.loop.report) c.loop.tally c.counts.result c.loop.invariant (c.in_ok-more.ensures.end c.if-more.false) c.counts.ensures.right c.counts.ensures.files c.counts.ensures.objects c.counts.ensures.bytes
