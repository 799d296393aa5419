use Rattle.std.proofs.Common.{◌∙◌, sym}
use Rattle.ocfl_compare.proofs.Lists.{bad_path, root_only}
use Rattle.ocfl_compare.proofs.listing.take_path.Goals as goal

pub returns-then-depth-eq0-clause-bad : goal.returns-then-depth-eq0-clause-bad
returns-then-depth-eq0-clause-bad c =
    bad_path c.args.line.now c.trim-path.result.now c.args.number c.trim-path.ensures (c.is_path.ensures.yes c.if-not-is_path.false)
    (root_only c.trim-path.result.now c.in-Ok.place c.in-Ok.ensures.names (sym c.depth.ensures ∙ c.if-depth-eq0.true) c.in-Ok.ensures.ok)
