-- Why the reading of a file stops.
use Rattle.ocfl_tree.specs.declared.store.Trouble.{Trouble}
use Rattle.ocfl_tree.specs.declared.store.Trouble.TheVariants as trouble
use Rattle.ocfl_digest.specs.declared.stop.Cause.{Cause}
use Rattle.ocfl_digest.specs.declared.stop.Cause.TheVariants.{Device, Absent, Memory}

abbrev pub cause_of : Trouble → Cause
cause_of trouble.Device = Device
cause_of trouble.Absent = Absent
cause_of trouble.Memory = Memory
