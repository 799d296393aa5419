use Rattle.std.proofs.Common.{◌≡◌, map, take}
use Rattle.ocfl_messages.specs.{Finding.{finding_of}, Grouped.{led_by}}
use Rattle.ocfl_messages.proofs.grouped.led.Given as goal

abbrev pub invariant-loop-finding : goal.invariant-loop-finding
invariant-loop-finding l = map finding_of l.led.items ≡ led_by (map finding_of l.leads) (map finding_of (take l.finding-index l.all))
