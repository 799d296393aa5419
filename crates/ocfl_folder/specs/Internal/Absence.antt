-- When what is asked for is not there.
use Rattle.std.specs.Prelude.{◌≡◌}
use Rattle.ocfl_folder.specs.declared.fault.TryFault.{TryFault}
use Rattle.ocfl_folder.specs.declared.fault.TryFault.TheVariants.{Interrupted, Failed}
use Rattle.ocfl_tree.specs.declared.store.Trouble.TheVariants.{Absent}

abbrev pub IsAbsent : TryFault → Type 0
IsAbsent Interrupted = ⊥
IsAbsent (Failed failure) = failure.trouble ≡ Absent
