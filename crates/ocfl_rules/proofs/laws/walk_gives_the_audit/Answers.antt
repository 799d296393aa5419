use Rattle.ocfl_rules.proofs.{WayLaws.{is_closed}, WalkLaws.{walk_is, walk_after_is, entered_is}}
use Rattle.ocfl_rules.proofs.BoundLaws.{item_short}
use Rattle.std.proofs.Common.{◌<◌, length, arith}
use Rattle.ocfl_rules.proofs.laws.walk_gives_the_audit.Goals as goal

pub returns : goal.returns
returns c = record {
  whole = λ further root unread k deep. walk_is further root (is_closed root) unread k (λ p some. let m : length p < 256 = item_short further root (is_closed root) _ p some in omega (arith, m, deep));
  resumed = λ further root unread k q deep. walk_after_is further root (is_closed root) unread k q (λ p some. let m : length p < 256 = item_short further root (is_closed root) _ p some in omega (arith, m, deep));
  short = λ further root u p. item_short further root (is_closed root) u p;
  stacked = λ further root unread q. entered_is further root (is_closed root) unread q;
}
