use Rattle.std.proofs.Common.{sym}
use Rattle.ocfl_night.proofs.Branches.{last_of}
use Rattle.ocfl_night.proofs.leaving.last_name.Goals as goal

pub returns-in-Some : goal.returns-in-Some
returns-in-Some c = sym (last_of c.args.place.now _ c.in-Some.name.now c.in-Some.ensures.0)
