use Rattle.ocfl_words.proofs.KeptLines.{found_at}
use Rattle.ocfl_words.proofs.keeping.find_at.Goals as goal

pub returns : goal.returns
returns c = found_at (λ l. l.now) c.args.place.now c.args.code c.args.lines.now c.find_line.result c.find_line.ensures
