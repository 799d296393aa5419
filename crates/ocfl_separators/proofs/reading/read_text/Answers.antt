use Rattle.std.proofs.Common.{◌≤◌, length, arith}
use Rattle.ocfl_separators.specs.Parts.{max_bytes}
use Rattle.ocfl_separators.proofs.Limited.{parts_of_lines, stops_of_lines}
use Rattle.ocfl_separators.proofs.reading.read_text.Goals as goal

pub returns-clause-separators : goal.returns-clause-separators
returns-clause-separators c =
    let short : length c.args.bytes.now ≤ max_bytes = omega arith in
    parts_of_lines c.args.bytes.now c.read_lines.result short c.read_lines.ensures.text c.read_lines.ensures.rule c.read_lines.ensures.few

pub returns-clause-refused : goal.returns-clause-refused
returns-clause-refused c =
    let short : length c.args.bytes.now ≤ max_bytes = omega arith in
    stops_of_lines c.args.bytes.now c.read_lines.result short c.read_lines.ensures.refused
