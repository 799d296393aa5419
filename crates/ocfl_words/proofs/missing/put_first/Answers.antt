use Rattle.std.proofs.Common.{◌≤◌, length, arith}
use Rattle.ocfl_words.specs.Counted.{gone_at, most_shown}
use Rattle.ocfl_words.proofs.Firsts.{first_full}
use Rattle.ocfl_words.proofs.missing.put_first.Goals as goal

pub returns-then-len-ge-SHOWN : goal.returns-then-len-ge-SHOWN
returns-then-len-ge-SHOWN c = λ gs h.
    let full : most_shown ≤ length c.args.first.now.items = omega arith in
    first_full most_shown c.args.first.now.items gs (gone_at c.args.place.now c.args.kind) full h
