-- The status with which a command ends that has no scope.
use Rattle.std.specs.Prelude.{ℕ}
use Rattle.ocfl_separators.specs.declared.reading.PartsStop.TheVariants as parts
use Rattle.ocfl_scope.specs.declared.stop.ScopeStop.{ScopeStop}
use Rattle.ocfl_scope.specs.declared.stop.ScopeStop.TheVariants as stop

-- 2 if what was given is wrong, 3 if it could not be read
abbrev pub stop_status : ScopeStop → ℕ
stop_status stop.BadPath = 2
stop_status stop.NoSuchPart = 2
stop_status (stop.Parts (parts.Line n)) = 2
stop_status (stop.Parts parts.Long) = 2
stop_status (stop.Parts parts.Read) = 3
stop_status (stop.Parts parts.Memory) = 3
stop_status stop.Memory = 3
