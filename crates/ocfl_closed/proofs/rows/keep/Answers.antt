use Rattle.std.proofs.Common.{arith}
use Rattle.ocfl_closed.specs.Back.{most_objects}
use Rattle.ocfl_closed.proofs.Lost.{kept_full, kept_more}
use Rattle.ocfl_closed.proofs.rows.keep.Goals as goal

pub returns-in_ok-push : goal.returns-in_ok-push
returns-in_ok-push c = λ all e. kept_more most_objects c.args.places.now.items c.push.new.self.items all c.args.place (let lt = c.if-len-lt-MOST.true in let is = c.len.ensures in let ok = c.args.places.now.ok.0 in omega (arith, lt, is, ok)) c.in_ok-push.ensures.items e

pub returns-else-len-lt-MOST : goal.returns-else-len-lt-MOST
returns-else-len-lt-MOST c = λ all e. kept_full most_objects c.args.places.now.items all c.args.place (let le = c.if-len-lt-MOST.false in let is = c.len.ensures in let ok = c.args.places.now.ok.0 in omega (arith, le, is, ok)) e
